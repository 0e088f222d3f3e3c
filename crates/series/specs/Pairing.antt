-- Request #108, readings 51 to 53: what an order-keeping pairing is, whoever made it, and a best one. Definitions only.
use Rattle.std.specs.Prelude.{ℕ, ◌≤◌, ◌<◌, List, length, get_or}
use Rattle.series.specs.Pairs.{Pair, pair, apart}

-- the pair at place k
abbrev pub at : List Pair → ℕ → Pair
at ps k = get_or ps k (pair 0 0)

-- "within the tolerance": the pair names a reading of each list, and their times differ by at most w
pub record Within (w : ℕ) (l r : List ℕ) (p : Pair) : Type 0 where
  pub in_left : p.left < length l
  pub in_right : p.right < length r
  pub close : apart (get_or l p.left 0) (get_or r p.right 0) ≤ w

-- "order-keeping pairing within the tolerance, each reading used at most once": the positions rise strictly in both lists
pub record Pairing (w : ℕ) (l r : List ℕ) (ps : List Pair) : Type 0 where
  pub within : (k : ℕ) → k < length ps → Within w l r (at ps k)
  pub rises_left : (k m : ℕ) → k < m → m < length ps → (at ps k).left < (at ps m).left
  pub rises_right : (k m : ℕ) → k < m → m < length ps → (at ps k).right < (at ps m).right

-- "Every other order-keeping pairing within the tolerance … has at most as many pairs", and the pairs given are such a pairing
pub record BestPairing (w : ℕ) (l r : List ℕ) (ps : List Pair) : Type 0 where
  pub pairing : Pairing w l r ps
  pub most : (qs : List Pair) → Pairing w l r qs → length qs ≤ length ps
