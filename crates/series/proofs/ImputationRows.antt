-- What is tested of each mark and cell, and how a call answers. Assumes nothing.
use Prim.Native.Nat.{ℕ, zero, suc, ◌%◌, ◌≤◌, ◌<◌}
use mathlib.Core.Bool.{Bool, true, false, not, ◌&&◌, ◌||◌}
use mathlib.Core.List.{List, [], ◌∷◌}
use mathlib.Core.Path.{◌≡◌, refl, sym, ap}
use native.Mathlib.Omega.{arith}
use native.Mathlib.Nat.{div-add-mod'}
use borrow.Author.Tests.{eqb-true, not-false}
use lib.Dec.{ltb, eqb}
use lib.ListN.{length}
use lib.Ieee.{Float, nan, inf, fin}
use Rattle.std.specs.Prelude.{MatchBool}
use Rattle.std.specs.Float.{float_is_finite}
use Rattle.std.specs.List.{AllWithin, HoldsAt, zip}
use Rattle.series.specs.Imputation.{is_present, known_marks, is_finite, finite_present, all_finite, cells_misshapen, imputation, impute_answer}
use Rattle.series.specs.Steps.ImputationSteps.{CellsShaped}

-- ---- what is tested of each element of a list

module _ {A : Type 0} (p : A → Bool) where
  abbrev every : List A → Bool
  every [] = true
  every (x ∷ xs) = p x && every xs

  and_false : (b : Bool) → (b && false) ≡ false
  and_false true = refl
  and_false false = refl

  passed : (l : List A) → AllWithin (λ y. p y ≡ true) l 0 (length l) → every l ≡ true
  passed [] h = refl
  passed (x ∷ l) h = rw (h 0 x (omega arith) (omega arith)) (passed l (λ k d a b. h (suc k) d (omega arith) (omega arith)))

  failed : (l : List A) (k : ℕ) → k < length l → HoldsAt (λ y. p y ≡ false) l k → every l ≡ false
  failed [] k h f = absurd (omega arith)
  failed (x ∷ l) zero h f = rw (f x)
  failed (x ∷ l) (suc k) h f = rw (failed l k (omega arith) f) (and_false (p x))

  -- what `all` answers of a list
  pub every_is : (l : List A) (r : Bool) → MatchBool r (AllWithin (λ y. p y ≡ true) l 0 (length l)) ((k : ℕ) × (k < length l) × HoldsAt (λ y. p y ≡ false) l k) → r ≡ every l
  every_is l true h = sym (passed l h)
  every_is l false h = sym (failed l h.0 h.1 h.2)

pub finite_is : (x : Float) → float_is_finite x ≡ is_finite x
unfolding float_is_finite
finite_is nan = refl
finite_is (inf s) = refl
finite_is (fin s m e) = refl

pub every_finite : (x : List Float) → every float_is_finite x ≡ all_finite x
unfolding all_finite
every_finite [] = refl
every_finite (x ∷ l) = rw (finite_is x, every_finite l)

pub every_mark : (m : List ℕ) → every (λ n. ltb n 2) m ≡ known_marks m
unfolding known_marks
every_mark [] = refl
every_mark (n ∷ m) = ap (λ (b : Bool). ltb n 2 && b) (every_mark m)

abbrev pub fits_mark : Float × ℕ → Bool
fits_mark p = not (is_present p.1) || is_finite p.0

pub every_present : (x : List Float) (m : List ℕ) → every fits_mark (zip x m) ≡ finite_present x m
unfolding finite_present
every_present [] m = refl
every_present (x ∷ l) [] = refl
every_present (x ∷ l) (n ∷ m) = ap (λ (b : Bool). (not (is_present n) || is_finite x) && b) (every_present l m)

-- ---- the shape

either_not : (a b : Bool) → a || b ≡ false → (a ≡ false) × (b ≡ false)
either_not true b e = absurd (let z : ◌≡◌ {A = ℕ} 0 1 = cc in omega arith)
either_not false b e = (refl, e)

pub shaped : (d cells marks fixed : ℕ) → 0 < d → d ≤ 16 → cells_misshapen d cells marks fixed ≡ false → CellsShaped d cells marks fixed
unfolding cells_misshapen
shaped d cells marks fixed some narrow e =
    let h = either_not (not (eqb (cells % d) 0)) (not (eqb marks cells) || not (eqb fixed d)) e in
    let k = either_not (not (eqb marks cells)) (not (eqb fixed d)) h.1 in
    let z : cells % d ≡ 0 = eqb-true (cells % d) 0 (not-false (eqb (cells % d) 0) h.0) in
    record {
      some = some;
      narrow = narrow;
      whole = omega (arith, div-add-mod' cells d);
      marked = eqb-true marks cells (not-false (eqb marks cells) k.0);
      fixes = eqb-true fixed d (not-false (eqb fixed d) k.1);
    }

-- ---- how a call answers: by the number of its refusal, 0 for none

pub refused : (row n : ℕ) (old new : List Float) → row ≡ n → (row ≡ 0 → ⊥) → imputation row old ≡ impute_answer n old new
refused row zero old new e taken = absurd (taken e)
refused row (suc n) old new e taken = ap (λ (k : ℕ). imputation k old) e

pub done : (n : ℕ) (old new left : List Float) → 0 ≡ n → left ≡ new → imputation 0 left ≡ impute_answer n old new
done zero old new left e h = ap (imputation 0) h
done (suc n) old new left e h = absurd (omega arith)
