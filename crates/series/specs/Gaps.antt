-- Request #108: "the largest size of difference per channel, subtracted in f32 (a not-a-number counts as infinity; no pairs gives 0)".
use Rattle.std.specs.Prelude.{ℕ, zero, suc, ◌+◌, ◌*◌, ◌<◌, ◌≡◌, false, cond, List, [], ◌∷◌, map, T, length, get_or, Float}
use Rattle.std.specs.Float.{nan, inf, fin, binary32}
use Rattle.std.specs.Float.Ieee.{sub, lt, le, of_bits}
use Rattle.series.specs.Pairs.{Pair}

-- +0
abbrev pub zero32 : Float
zero32 = of_bits binary32 0

-- a number without its sign; "a not-a-number counts as infinity"
unfoldable pub absolute : Float → Float
absolute nan = inf false
absolute (inf s) = inf false
absolute (fin s m e) = fin false m e

-- the "size of difference, subtracted in f32" of two cells
unfoldable pub difference_size : Float → Float → Float
difference_size x y = absolute (sub binary32 x y)

-- the larger of two sizes
unfoldable pub larger : Float → Float → Float
larger g s = cond (lt g s) s g

-- the largest of sizes, of which g is the largest before them
abbrev pub largest_from : Float → List Float → Float
largest_from g [] = g
largest_from g (s ∷ l) = largest_from (larger g s) l

-- "no pairs gives 0"
unfoldable pub largest : List Float → Float
largest l = largest_from zero32 l

-- the cell of channel c in reading i: the cells stand reading by reading, d to a reading
abbrev pub cell : ℕ → List Float → ℕ → ℕ → Float
cell d cells i c = get_or cells (i * d + c) nan

-- the sizes of the pairs' differences in channel c
unfoldable pub difference_sizes : ℕ → List Float → List Float → List Pair → ℕ → List Float
difference_sizes d l r ps c = map (λ (p : Pair). difference_size (cell d l p.left c) (cell d r p.right c)) ps

-- what f gives for the channels 0 to d - 1
abbrev pub per_channel : ℕ → (ℕ → Float) → List Float
per_channel zero f = []
per_channel (suc d) f = f 0 ∷ per_channel d (λ c. f (suc c))

-- "the largest size of difference per channel"
unfoldable pub gaps : ℕ → List Float → List Float → List Pair → List Float
gaps d l r ps = per_channel d (λ c. largest (difference_sizes d l r ps c))

-- ---- what the largest is, however it is found

-- one of the sizes, or 0 where there is none
pub data Reached (l : List Float) (g : Float) : Type 0 where
  none_to_reach : length l ≡ 0 → g ≡ zero32 → Reached l g
  reached_at : (k : ℕ) → k < length l → get_or l k nan ≡ g → Reached l g

-- and no size is above it
pub record Largest (l : List Float) (g : Float) : Type 0 where
  pub none_above : (k : ℕ) → k < length l → T (le (get_or l k nan) g)
  pub reached : Reached l g
