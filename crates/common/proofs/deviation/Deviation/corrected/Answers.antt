-- `common::deviation::Deviation::corrected` meets its contract: past row 26 the sum and the squares are whole numbers that `moved` may move, and the squares of the readings are exact.
-- Assumes nothing.
use Rattle.std.specs.Prelude.{Result, Ok, Err, IsErrAnd}
use Rattle.std.proofs.Common.{◌≡◌, ◌*◌, ◌≤◌, true, T, ◌+ℤ◌, ◌-ℤ◌, ◌*ℤ◌, sym, ap, ◌∙◌, subst, arith, lit≤, ltb-false}
use lib.Ieee.{Float, binary64, mul}
use Rattle.common.specs.declared.deviation.Deviation.{Deviation}
use Rattle.refusal.specs.declared.Refusal.{Refusal}
use Rattle.refusal.specs.Refusal.{first_of, number_of, numbered}
use Rattle.refusal.proofs.RefusalLaws.{refused_is, handed_on_numbered}
use Rattle.common.specs.Deviation.{statistic}
use Rattle.common.specs.WholeScores.{whole_float}
use Rattle.common.specs.Corrected.{reading_limit, length_limit, whole_within, integer_of, correction_rows, corrected_statistic, corrected_of}
use Rattle.common.specs.Steps.Whole.{Summand}
use Rattle.common.proofs.WholeValues.{whole_is, whole_wider, integer_small, own_within, own_integer, square_signed}
use Rattle.common.proofs.WholeLists.{square_small}
use Rattle.common.proofs.CorrectedRows.{Accepted, accepted, rows_passed}
use Rattle.common.proofs.deviation.Deviation.corrected.Goals as goal

-- ---- a refusal

refused : (s : Deviation) (wrong right w r : Float) (e : Refusal) (q : Result Deviation Refusal) → w ≡ wrong → r ≡ right
    → number_of e ≡ first_of (correction_rows s w r) → IsErrAnd q (λ (d : Refusal). d ≡ e) → numbered q ≡ corrected_of s wrong right
unfolding corrected_of
refused s wrong right w r e q k l row handed =
    let n : number_of e ≡ first_of (correction_rows s wrong right) = row ∙ λ j. first_of (correction_rows s (k j) (l j)) in
    handed_on_numbered e q handed ∙ ap Err n ∙ sym (refused_is e _ _ _ n)

pub returns-in_err-check_correction : goal.returns-in_err-check_correction
returns-in_err-check_correction c =
    refused _ _ _ _ _ _ _ c.to_f64-w.ensures c.to_f64-r.ensures c.in_err-check_correction.ensures c.from_residual.ensures.1

-- ---- past row 26

-- a reading's square is a summand, and the square of the whole number
square_summand : (x : Float) → whole_within reading_limit x ≡ true → Summand (mul binary64 x x)
square_summand x h =
    let t : T (whole_within reading_limit x) = subst T (sym h) tt in
    let z = integer_of x in
    let Z = square_small z (integer_small reading_limit x t) in
    subst (λ (y : Float). Summand y) (sym (square_signed binary64 x (whole_is reading_limit x t))) (own_within binary64 4503599627370496 (z *ℤ z) (omega arith) (omega arith))

square_integer : (x : Float) → whole_within reading_limit x ≡ true → integer_of (mul binary64 x x) ≡ integer_of x *ℤ integer_of x
square_integer x h =
    let t : T (whole_within reading_limit x) = subst T (sym h) tt in
    let z = integer_of x in
    let Z = square_small z (integer_small reading_limit x t) in
    ap integer_of (square_signed binary64 x (whole_is reading_limit x t)) ∙ own_integer binary64 (z *ℤ z) (omega arith)

summands_squares : (s : Deviation) (w r : Float) → Accepted s w r → Summand s.sum_squared × Summand (mul binary64 r r) × Summand (mul binary64 w w)
summands_squares s w r a =
    let N : s.count ≤ length_limit = ltb-false length_limit s.count a.few in
    (whole_wider (4294967296 * s.count) 4503599627370496 s.sum_squared (subst T (sym a.squares_whole) tt) (omega arith), square_summand r a.right_whole, square_summand w a.wrong_whole)

summands_sum : (s : Deviation) (w r : Float) → Accepted s w r → Summand s.sum × Summand r × Summand w
summands_sum s w r a =
    let N : s.count ≤ length_limit = ltb-false length_limit s.count a.few in
    let reading : (x : Float) → whole_within reading_limit x ≡ true → Summand x = λ x h. whole_wider reading_limit 4503599627370496 x (subst T (sym h) tt) (lit≤ tt) in
    (whole_wider (65536 * s.count) 4503599627370496 s.sum (subst T (sym a.sum_whole) tt) (omega arith), reading r a.right_whole, reading w a.wrong_whole)

pub moved-requires : goal.moved-requires
moved-requires c = summands_squares _ _ _ (rows_passed _ _ _ (sym c.in_ok-check_correction.ensures))

pub moved-requires-2 : goal.moved-requires-2
moved-requires-2 c = summands_sum _ _ _ (rows_passed _ _ _ (sym c.in_ok-check_correction.ensures))

done : (s : Deviation) (wrong right w r : Float) (q a : Float) → w ≡ wrong → r ≡ right → Accepted s w r
    → q ≡ whole_float (integer_of s.sum_squared +ℤ (integer_of (mul binary64 r r) -ℤ integer_of (mul binary64 w w)))
    → a ≡ whole_float (integer_of s.sum +ℤ (integer_of r -ℤ integer_of w))
    → Ok (statistic s.discount s.weight a q s.count) ≡ corrected_of s wrong right
unfolding corrected_statistic
done s wrong right w r q a p p' h Q A =
    let r² = square_integer r h.right_whole in
    let w² = square_integer w h.wrong_whole in
    let squares : q ≡ whole_float (integer_of s.sum_squared +ℤ (integer_of r *ℤ integer_of r -ℤ integer_of w *ℤ integer_of w)) =
    Q ∙ λ i. whole_float (integer_of s.sum_squared +ℤ (r² i -ℤ w² i)) in
    (λ i. Ok (statistic s.discount s.weight (A i) (squares i) s.count)) ∙ sym (accepted s w r h) ∙ λ i. corrected_of s (p i) (p' i)

pub returns : goal.returns
returns c =
    done _ _ _ _ _ _ _ c.to_f64-w.ensures c.to_f64-r.ensures (rows_passed _ _ _ (sym c.in_ok-check_correction.ensures)) c.moved.ensures c.moved-2.ensures
