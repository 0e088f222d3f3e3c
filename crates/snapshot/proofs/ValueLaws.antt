-- What the tests of a list say of it.
use Prim.Native.Nat.{ℕ, zero, suc, ◌+◌, ◌≤◌, ◌<◌}
use mathlib.Core.Path.{◌≡◌, refl, ap}
use mathlib.Core.Bool.{Bool, true, false, ◌&&◌}
use mathlib.Core.List.{List, [], ◌∷◌}
use native.Mathlib.Omega.{arith}
use native.Mathlib.Numerals.{add-one}
use lib.ListN.{length, get_or}
use lib.Dec.{eqb, leb}
use lib.Pointwise.{pointwise}
use borrow.Author.Tests.{le-leb, lt-leb}
use Rattle.std.specs.Prelude.{Some, MatchBool}
use Rattle.std.specs.Ordering.{is_some_and, is_le, nat_cmp}
use Rattle.std.specs.List.{IsAllAdjacentAnswer}
use Rattle.std.specs.List.Sorted.{IsNonDecreasing}
use Rattle.std.proofs.lemmas.List.Sorted.{non_decreasing_from_is_sorted}
use Rattle.snapshot.specs.Read.{climbs, same}

-- none falls in a list that is in order
climbs_all : (p : ℕ) (l : List ℕ) → ((k : ℕ) → suc k < length l → get_or l k 0 ≤ get_or l (suc k) 0) → (0 < length l → p ≤ get_or l 0 0) → climbs p l ≡ true
climbs_all p [] f h = refl
climbs_all p (x ∷ l) f h = rw (le-leb p x (h (omega arith))) (climbs_all x l (λ k m. f (suc k) (omega arith)) (λ m. f 0 (omega arith)))

and_false : (b : Bool) → (b && false) ≡ false
and_false true = refl
and_false false = refl

-- one that falls is told
climbs_not : (p : ℕ) (l : List ℕ) (k : ℕ) → suc k < length l → get_or l (suc k) 0 < get_or l k 0 → climbs p l ≡ false
climbs_not p [] k h f = absurd (omega arith)
climbs_not p (x ∷ []) k h f = absurd (omega arith)
climbs_not p (x ∷ (y ∷ l)) zero h f = rw (lt-leb x y f) (and_false (leb p x))
climbs_not p (x ∷ (y ∷ l)) (suc k) h f = rw (climbs_not x (y ∷ l) k (omega arith) f) (and_false (leb p x))

-- `is_sorted`
pub climbs_sorted : (l : List ℕ) (r : Bool) → IsAllAdjacentAnswer (λ x y b. is_some_and is_le (Some (nat_cmp x y)) ≡ b) l r → climbs 0 l ≡ r
climbs_sorted l r a = go r (non_decreasing_from_is_sorted l r a)
  where
    go : (r : Bool) → MatchBool r (IsNonDecreasing l) ((k : ℕ) × (k + 1 < length l) × ((d : ℕ) → get_or l (k + 1) d < get_or l k d)) → climbs 0 l ≡ r
    go true m = climbs_all 0 l (λ k h. m k (suc k) 0 (omega arith) h) (λ h. omega arith)
    go false m = climbs_not 0 l m.0 (simp add-one at m.1) (simp add-one at (m.2 0))

-- `==` of two lists
pub same_is : (a b : List ℕ) → pointwise eqb a b ≡ same a b
same_is [] [] = refl
same_is [] (y ∷ b) = refl
same_is (x ∷ a) [] = refl
same_is (x ∷ a) (y ∷ b) = ap (λ (t : Bool). eqb x y && t) (same_is a b)
