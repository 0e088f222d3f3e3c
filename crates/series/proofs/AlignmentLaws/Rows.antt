-- The rows of `align`, asked in two steps, and the answer by them.
use Prim.Native.Nat.{ℕ, zero, suc, ◌*◌}
use mathlib.Core.Path.{◌≡◌, refl, sym, ap, ◌∙◌}
use mathlib.Core.Bool.{Bool, true, false, ◌||◌}
use mathlib.Core.List.{List, [], ◌∷◌}
use native.Mathlib.Omega.{arith}
use borrow.Author.Tests.{eqb-true, not-false}
use lib.Dec.{eqb, ltb}
use lib.ListN.{length}
use lib.Ieee.{Float}
use Rattle.refusal.specs.Refusal.{first_of}
use Rattle.refusal.specs.Lent.{over}
use Rattle.series.specs.Pairs.{pairs, lefts, rights}
use Rattle.series.specs.Gaps.{gaps}
use Rattle.series.specs.Alignment.{channel_limit, Readings, Outputs, outputs, AlignOutcome, align_outcome, readings_misshapen, unusable, align_row, align_facts, refused_or, outputs_written, align_of}
use Rattle.series.specs.Steps.AlignmentRows.{readings_row, room_row}

pub shaped : (d cells n : ℕ) → readings_misshapen d cells n ≡ false → cells ≡ n * d
unfolding readings_misshapen
shaped d cells n e = eqb-true cells (n * d) (not-false (eqb cells (n * d)) e)

-- ---- five rows are four, and then one

abbrev four : Bool → Bool → Bool → Bool → ℕ
four p q r s = first_of ((p, 2) ∷ (q, 4) ∷ (r, 10) ∷ (s, 24) ∷ [])

abbrev five : Bool → Bool → Bool → Bool → Bool → ℕ
five p q r s t = first_of ((p, 2) ∷ (q, 4) ∷ (r, 10) ∷ (s, 24) ∷ (t, 20) ∷ [])

then_one : (p q r s t : Bool) → four p q r s ≡ 0 → five p q r s t ≡ first_of ((t, 20) ∷ [])
then_one true q r s t e = absurd (omega arith)
then_one false true r s t e = absurd (omega arith)
then_one false false true s t e = absurd (omega arith)
then_one false false false true t e = absurd (omega arith)
then_one false false false false t e = refl

of_four : (p q r s t : Bool) → (four p q r s ≡ 0 → ⊥) → five p q r s t ≡ four p q r s
of_four true q r s t h = refl
of_four false true r s t h = refl
of_four false false true s t h = refl
of_four false false false true t h = refl
of_four false false false false t h = absurd (h refl)

module _ (d : ℕ) (l r : Readings) (n : ℕ) (o : Outputs) where
  abbrev first_step : ℕ
  first_step = readings_row d (length l.cells) l.times (length r.cells) r.times

  abbrev second_step : ℕ
  second_step = room_row d n (length o.lefts) (length o.rights) (length o.gaps)

  row_of_readings : (first_step ≡ 0 → ⊥) → align_row (align_facts d l r n o) ≡ first_step
  unfolding align_row readings_row
  row_of_readings h =
      of_four (eqb d 0) (ltb channel_limit d) (readings_misshapen d (length l.cells) (length l.times) || readings_misshapen d (length r.cells) (length r.times))
      (unusable l.times || unusable r.times) (ltb (length o.lefts) n || (ltb (length o.rights) n || ltb (length o.gaps) d)) h

  row_of_room : first_step ≡ 0 → align_row (align_facts d l r n o) ≡ second_step
  unfolding align_row readings_row room_row
  row_of_room e =
      then_one (eqb d 0) (ltb channel_limit d) (readings_misshapen d (length l.cells) (length l.times) || readings_misshapen d (length r.cells) (length r.times))
      (unusable l.times || unusable r.times) (ltb (length o.lefts) n || (ltb (length o.rights) n || ltb (length o.gaps) d)) e

-- ---- the answer

refused : (row k : ℕ) (o : Outputs) (a : AlignOutcome) → row ≡ k → (row ≡ 0 → ⊥) → align_outcome row 0 o ≡ refused_or k o a
refused row zero o a e h = absurd (h e)
refused row (suc k) o a e h = ap (λ (n : ℕ). align_outcome n 0 o) e

done : (k : ℕ) (o : Outputs) (a b : AlignOutcome) → k ≡ 0 → a ≡ b → a ≡ refused_or k o b
done zero o a b e h = h
done (suc k) o a b e h = absurd (omega arith)

module _ (d : ℕ) (l r : Readings) (w : ℕ) (o : Outputs) where
  abbrev count : ℕ
  count = length (pairs w l.times r.times)

  pub refused_by_readings : (row : ℕ) → row ≡ readings_row d (length l.cells) l.times (length r.cells) r.times → (row ≡ 0 → ⊥)
      → align_outcome row 0 o ≡ align_of d l r w o
  unfolding align_of
  refused_by_readings row e h =
      refused row (align_row (align_facts d l r count o)) o (align_outcome 0 count (outputs_written d l r (pairs w l.times r.times) o))
      (e ∙ sym (row_of_readings d l r count o (λ z. h (e ∙ z)))) h

  pub refused_by_room : (room : ℕ) → 0 ≡ readings_row d (length l.cells) l.times (length r.cells) r.times
      → room ≡ room_row d count (length o.lefts) (length o.rights) (length o.gaps) → (room ≡ 0 → ⊥)
      → align_outcome room 0 o ≡ align_of d l r w o
  unfolding align_of
  refused_by_room room e f h =
      refused room (align_row (align_facts d l r count o)) o (align_outcome 0 count (outputs_written d l r (pairs w l.times r.times) o))
      (f ∙ sym (row_of_room d l r count o (sym e))) h

  pub taken : (n : ℕ) (lo ro : List ℕ) (go : List Float)
      → 0 ≡ readings_row d (length l.cells) l.times (length r.cells) r.times
      → 0 ≡ room_row d count (length o.lefts) (length o.rights) (length o.gaps)
      → n ≡ count
      → lo ≡ over o.lefts (lefts (pairs w l.times r.times))
      → ro ≡ over o.rights (rights (pairs w l.times r.times))
      → go ≡ over o.gaps (gaps d l.cells r.cells (pairs w l.times r.times))
      → align_outcome 0 n (outputs lo ro go) ≡ align_of d l r w o
  unfolding align_of outputs_written
  taken n lo ro go e f c p q g =
      done (align_row (align_facts d l r count o)) o (align_outcome 0 n (outputs lo ro go)) (align_outcome 0 count (outputs_written d l r (pairs w l.times r.times) o))
      (row_of_room d l r count o (sym e) ∙ sym f)
      (λ j. align_outcome 0 (c j) (outputs (p j) (q j) (g j)))
