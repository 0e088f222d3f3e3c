-- The walk over two lists of times, pair by pair: for private contracts alone.
use Rattle.std.specs.Prelude.{ℕ, suc, ◌≡◌, ◌≤◌, ◌<◌, List, ◌∷◌, length, drop}
use Rattle.series.specs.Pairs.{Pair, pair, pairs_from}

-- the pairs of what is behind the fronts i and j
unfoldable pub rest : ℕ → List ℕ → List ℕ → ℕ → ℕ → List Pair
rest w l r i j = pairs_from w i j (drop i l) (drop j r)

-- the first of them is of the readings a and b
pub record NextPair (w : ℕ) (l r : List ℕ) (i j a b : ℕ) : Type 0 where
  pub left_on : i ≤ a
  pub right_on : j ≤ b
  pub in_left : a < length l
  pub in_right : b < length r
  pub first : rest w l r i j ≡ pair a b ∷ rest w l r (suc a) (suc b)
