-- Request #108: what an answer that no row refuses tells. The theorem on `align_of` says that it does.
use Rattle.std.specs.Prelude.{ℕ, ◌<◌, ◌≡◌, List, [], ◌∷◌, length, get_or, take}
use Rattle.std.specs.Float.{nan}
use Rattle.series.specs.Pairs.{Pair, pair}
use Rattle.series.specs.Pairing.{BestPairing}
use Rattle.series.specs.Gaps.{difference_sizes, Largest}
use Rattle.series.specs.Alignment.{Readings, AlignOutcome}

abbrev pub zipped : List ℕ → List ℕ → List Pair
zipped [] b = []
zipped (x ∷ a) [] = []
zipped (x ∷ a) (y ∷ b) = pair x y ∷ zipped a b

-- the pairs as the outputs hold them: as many as the number says, from the fronts of both
unfoldable pub pairs_told : AlignOutcome → List Pair
pairs_told a = zipped (take a.number a.outs.lefts) (take a.number a.outs.rights)

-- the pairs told are as many as the number says, an order-keeping pairing that no other beats, and each size is the largest of its channel over them
pub record Comparison (d : ℕ) (l r : Readings) (w : ℕ) (a : AlignOutcome) : Type 0 where
  pub number_told : length (pairs_told a) ≡ a.number
  pub best_told : BestPairing w l.times r.times (pairs_told a)
  pub largest_told : (c : ℕ) → c < d → Largest (difference_sizes d l.cells r.cells (pairs_told a) c) (get_or a.outs.gaps c nan)
