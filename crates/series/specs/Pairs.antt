-- Request #108: two lists of readings by their times. Which readings are paired, as it is computed.
use Rattle.std.specs.Prelude.{ℕ, suc, ◌+◌, ◌-◌, Bool, cond, List, [], ◌∷◌, map, ltb, leb}

-- "the pairs as positions from 0"
pub record Pair : Type 0 where
  pub left : ℕ
  pub right : ℕ

abbrev pub pair : ℕ → ℕ → Pair
pair i j = record { left = i; right = j }

-- how far two times are apart, as whole numbers: one of the two differences is 0
abbrev pub apart : ℕ → ℕ → ℕ
apart x y = (x - y) + (y - x)

-- "the heads' times differ by at most the tolerance"
unfoldable pub near : ℕ → ℕ → ℕ → Bool
near w x y = leb (apart x y) w

pub data PairStep : Type 0 where
  both skip_left skip_right : PairStep

-- "if the heads' times differ by at most the tolerance they are paired, otherwise the earlier is skipped"
unfoldable pub pair_step : ℕ → ℕ → ℕ → PairStep
pair_step w x y = cond (near w x y) both (cond (ltb x y) skip_left skip_right)

-- "From both fronts": x and y are the times at the fronts, i and j their positions
abbrev pub pairs_from : ℕ → ℕ → ℕ → List ℕ → List ℕ → List Pair
pairs_from w i j [] b = []
pairs_from w i j (x ∷ a) [] = []
pairs_from w i j (x ∷ a) (y ∷ b) =
    elim (pair_step w x y) [
      | both ↦ pair i j ∷ pairs_from w (suc i) (suc j) a b
      | skip_left ↦ pairs_from w (suc i) j a (y ∷ b)
      | skip_right ↦ pairs_from w i (suc j) (x ∷ a) b
    ]

-- the pairs of two lists of times, w being the tolerance
unfoldable pub pairs : ℕ → List ℕ → List ℕ → List Pair
pairs w a b = pairs_from w 0 0 a b

abbrev pub lefts : List Pair → List ℕ
lefts ps = map (λ (p : Pair). p.left) ps

abbrev pub rights : List Pair → List ℕ
rights ps = map (λ (p : Pair). p.right) ps
