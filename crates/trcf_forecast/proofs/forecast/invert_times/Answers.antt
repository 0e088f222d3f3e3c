-- The times written, then cascaded. Assumes nothing.
use Rattle.trcf.proofs.LengthLaws.{dimension_known, opened, time_fits_lem}
use native.Mathlib.Omega.{arith}
use native.Mathlib.Nat.{mul-le-mul}
use mathlib.Core.Path.{◌≡◌, refl, sym, ap, ◌∙◌}
use Prim.Native.Nat.{ℕ, ◌≤◌}
use mathlib.Core.Bool.{false}
use mathlib.Core.List.{List, [], ◌∷◌}
use lib.Ieee.{Float, binary64}
use borrow.Author.Tests.{eq-eqb}
use lib.ListN.{length}
use Rattle.ranges.specs.RangeVector.{Ranges, RangeOutcome, held, operations_of, range_outcome, range_cascaded_add, range_cascaded_add_by, unequal, unblocked}
use Rattle.ranges.proofs.RangeSteps.{all_three, same_since}
use Rattle.std.specs.Prelude.{Result, Ok, Err, IsOk}
use Rattle.refusal.specs.declared.Refusal.{Refusal}
use Rattle.refusal.specs.Refusal.{row_of}
use Rattle.trcf.proofs.NumberLaws.{number_zero}
use Rattle.trcf.specs.View.{settings_of}
use Rattle.trcf.proofs.ExtrapolationLaws.{dimension_augmented, one_whole, times_done}
use borrow.Author.Rules.{rules}
use Rattle.trcf_forecast.proofs.forecast.invert_times.Goals as goal

-- what the code says of every width, at the format
at_format : (base : List Float) (row : ℕ) (x w : Ranges) → range_outcome row x ≡ range_cascaded_add_by (operations_of binary64) base w
    → range_outcome row x ≡ range_cascaded_add binary64 base w
unfolding range_cascaded_add
at_format base row x w e = e

-- the cascade is not refused
taken : (base : List Float) (row : ℕ) (x w : Ranges) → length w.upper ≡ length w.values → length w.lower ≡ length w.values → unblocked (length base) (length w.values) ≡ false
    → range_outcome row x ≡ range_cascaded_add_by (operations_of binary64) base w → row ≡ 0
unfolding unequal
taken base row x w u l b e = ap (λ (o : RangeOutcome). o.row) (rw (eq-eqb _ _ (sym u), eq-eqb _ _ (sym l), b) at e)

ok_of : {A : Type 0} (r : Result A Refusal) → row_of r ≡ 0 → IsOk r
ok_of (Ok a) z = refl
ok_of (Err e) z = absurd (number_zero e z)

pub overflow_mul-m : goal.overflow_mul-m
overflow_mul-m c =
    let p : c.args.head.transformer.input_length ≤ 16 = c.requires.bounded.d_few in
    let q : c.args.head.shingle_size ≤ 64 = c.requires.bounded.k_few in
    omega (arith, mul-le-mul p q)

pub write_times-requires : goal.write_times-requires
write_times-requires c =
    let A = c.args in
    let P = c.requires in
    let e = (dimension_known c.get_dimension-a.ensures (search rules)).0 in
    let f = dimension_augmented (settings_of A.head) P.forest_mode_value in
    record { m_lt_a = omega (arith, e, f, P.bounded.k_pos); upper_out_len = P.upper_out_len; a_in_bounds = (rw e P.head_in_bounds_2.0, rw e P.head_in_bounds_2.1, rw e P.head_in_bounds_2.2) }

pub unwrap-requires : goal.unwrap-requires
unwrap-requires c =
    let P = c.requires in
    let W = c.write_times in
    let v = W.ensures.loans.values_length in
    ok_of c.cascaded_add.result
    (taken (c.u64_to_f64.result ∷ []) _ (held c.cascaded_add.new.self) (held W.new.out) (W.ensures.loans.upper_length ∙ P.upper_out_len.0 ∙ sym v)
    (W.ensures.loans.lower_length ∙ P.upper_out_len.1 ∙ sym v)
    (ap (unblocked 1) v ∙ one_whole _ P.nonzero) c.cascaded_add.ensures.after)

pub returns : goal.returns
returns c =
    let at-get-dimension = c.get_dimension-a in
    let at-is-gap = c.is_gap in
    let at-time-factor = c.time_factor in
    let at-timescale-of = c.timescale_of in
    let at-timedrift-of = c.timedrift_of in
    let at-u64-to-f64 = c.u64_to_f64 in
    let A = c.args in
    let P = c.requires in
    let W = c.write_times in
    let n = length A.values_out.now in
    let L = same_since W.ensures.loans c.cascaded_add.ensures.loans in
    all_three (c.values_out-1.given.1.1 (sym L.values)) (c.upper_out-1.given.1.1 (sym L.upper)) (c.lower_out-1.given.1.1 (sym L.lower))
    ∙ times_done (settings_of A.head) A.s.now (held A.range.now)
    (held W.new.out) _ at-is-gap.result at-time-factor.result
    at-timescale-of.result at-timedrift-of.result at-u64-to-f64.result A.last at-get-dimension.result _ n _ at-is-gap.ensures at-time-factor.ensures
    ((opened _ at-timescale-of.ensures (time_fits_lem P.bounded P.head_in_bounds))) ((opened _ at-timedrift-of.ensures (time_fits_lem P.bounded P.head_in_bounds)))
    (dimension_known at-get-dimension.ensures (search rules)).0 at-u64-to-f64.ensures W.ensures.after P.nonzero W.ensures.loans.values_length
    (W.ensures.loans.upper_length ∙ P.upper_out_len.0) (W.ensures.loans.lower_length ∙ P.upper_out_len.1)
    (at_format _ _ _ _ c.cascaded_add.ensures.after)
