-- A turn of the pairing, by its three cases. All later laws go through these.
use Prim.Native.Nat.{ℕ, suc, ◌+◌, ◌≤◌, ◌<◌}
use mathlib.Core.Path.{◌≡◌, refl}
use mathlib.Core.Bool.{Bool, true, false}
use mathlib.Core.List.{List, ◌∷◌}
use native.Mathlib.Omega.{arith}
use lib.Dec.{leb, ltb}
use borrow.Author.Tests.{leb-true, leb-false, ltb-true, ltb-false}
use Rattle.series.specs.Pairs.{Pair, pair, apart, near, PairStep, both, skip_left, skip_right, pair_step, pairs_from}

-- what each turn says of the two times
abbrev pub Told : PairStep → ℕ → ℕ → ℕ → Type 0
Told both w x y = apart x y ≤ w
Told skip_left w x y = x + w < y
Told skip_right w x y = y + w < x

pub told : (w x y : ℕ) → Told (pair_step w x y) w x y
unfolding near pair_step
told w x y = go (leb (apart x y) w) (ltb x y) refl refl
  where
    go : (n l : Bool) → leb (apart x y) w ≡ n → ltb x y ≡ l → Told (pair_step w x y) w x y
    go true l e f = rw e (leb-true (apart x y) w e)
    go false true e f = rw (e, f) (omega (arith, leb-false (apart x y) w e, ltb-true x y f))
    go false false e f = rw (e, f) (omega (arith, leb-false (apart x y) w e, ltb-false x y f))

-- What holds of the pairs after each of the three turns holds of the pairs.
module _ (w i j x : ℕ) (a : List ℕ) (y : ℕ) (b : List ℕ) (P : List Pair → Type 0) where
  pub by_turn : (apart x y ≤ w → P (pair i j ∷ pairs_from w (suc i) (suc j) a b)) → (x + w < y → P (pairs_from w (suc i) j a (y ∷ b)))
      → (y + w < x → P (pairs_from w i (suc j) (x ∷ a) b)) → P (pairs_from w i j (x ∷ a) (y ∷ b))
  by_turn m l r = go (pair_step w x y) refl (told w x y)
    where
      go : (t : PairStep) → pair_step w x y ≡ t → Told (pair_step w x y) w x y → P (pairs_from w i j (x ∷ a) (y ∷ b))
      go both e h = rw (e, pairs_from) (m (rw e at h))
      go skip_left e h = rw (e, pairs_from) (l (rw e at h))
      go skip_right e h = rw (e, pairs_from) (r (rw e at h))
