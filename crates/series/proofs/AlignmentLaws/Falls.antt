-- Times none falling, as the loop tests them and as the theorem needs them.
use Prim.Native.Nat.{ℕ, zero, suc, ◌+◌, ◌≤◌, ◌<◌}
use mathlib.Core.Path.{◌≡◌, refl}
use mathlib.Core.Bool.{Bool, true, false, not, ◌||◌}
use mathlib.Core.List.{List, [], ◌∷◌}
use native.Mathlib.Omega.{arith}
use lib.Dec.{ltb}
use lib.ListN.{length, get_or}
use native.Mathlib.Numerals.{add-one}
use borrow.Author.Tests.{ltb-false, lt-ltb, le-ltb}
use Rattle.std.specs.Prelude.{Some, MatchBool}
use Rattle.std.specs.Ordering.{is_some_and, is_le, nat_cmp}
use Rattle.std.specs.List.{IsAllAdjacentAnswer}
use Rattle.std.specs.List.Sorted.{IsNonDecreasing}
use Rattle.std.proofs.lemmas.List.Sorted.{non_decreasing_from_is_sorted}
use Rattle.series.specs.Alignment.{falls_after}

-- each time is at most those after it
abbrev pub AllFrom : ℕ → List ℕ → Type 0
AllFrom t [] = Unit {0}
AllFrom t (x ∷ xs) = (t ≤ x) × AllFrom t xs

abbrev pub NonFalling : List ℕ → Type 0
NonFalling [] = Unit {0}
NonFalling (x ∷ xs) = AllFrom x xs × NonFalling xs

-- ---- the test of two neighbours at a time

or_true : (p : Bool) → (p || true) ≡ true
or_true true = refl
or_true false = refl

never : (t : ℕ) (l : List ℕ) → ((k : ℕ) → suc k < length l → get_or l k 0 ≤ get_or l (suc k) 0) → (0 < length l → t ≤ get_or l 0 0) → falls_after t l ≡ false
never t [] f h = refl
never t (x ∷ l) f h =
    let z : 0 < suc (length l) = omega arith in
    rw (le-ltb x t (h z)) (never x l (λ k m. f (suc k) (omega arith)) (λ m. f 0 (omega arith)))

once : (t : ℕ) (l : List ℕ) (k : ℕ) → suc k < length l → get_or l (suc k) 0 < get_or l k 0 → falls_after t l ≡ true
once t [] k h f = absurd (omega arith)
once t (x ∷ []) k h f = absurd (omega arith)
once t (x ∷ (y ∷ l)) zero h f = rw (lt-ltb y x f) (or_true (ltb x t))
once t (x ∷ (y ∷ l)) (suc k) h f = rw (once x (y ∷ l) k (omega arith) f) (or_true (ltb x t))

-- none falls exactly where the list is sorted
pub falls_of_sorted : (l : List ℕ) (r : Bool) → IsAllAdjacentAnswer (λ x y b. is_some_and is_le (Some (nat_cmp x y)) ≡ b) l r → falls_after 0 l ≡ not r
falls_of_sorted l r a = go r (non_decreasing_from_is_sorted l r a)
  where
    go : (r : Bool) → MatchBool r (IsNonDecreasing l) ((k : ℕ) × (k + 1 < length l) × ((d : ℕ) → get_or l (k + 1) d < get_or l k d)) → falls_after 0 l ≡ not r
    go true m = never 0 l (λ k h. m k (suc k) 0 (omega arith) h) (λ h. omega arith)
    go false m = once 0 l m.0 (simp add-one at m.1) (simp add-one at (m.2 0))

-- neither of two tests holds
pub neither : (p q : Bool) → (p || q) ≡ false → (p ≡ false) × (q ≡ false)
neither true q e = ((cc), (cc))
neither false q e = (refl, e)

lower : (s t : ℕ) (l : List ℕ) → s ≤ t → AllFrom t l → AllFrom s l
lower s t [] h f = tt
lower s t (x ∷ l) h f = (omega (arith, f.0), lower s t l h f.1)

pub steady : (t : ℕ) (l : List ℕ) → falls_after t l ≡ false → AllFrom t l × NonFalling l
steady t [] e = (tt, tt)
steady t (x ∷ l) e =
    let n = neither (ltb x t) (falls_after x l) e in
    let h : t ≤ x = ltb-false x t n.0 in
    let f = steady x l n.1 in
    ((h, lower t x l h f.0), f)
