-- `numeric::root::scale` meets its contract: `scaled_low` and `scaled_mid`. Assumes nothing.
use Rattle.std.proofs.Common.{◌%◌, ◌^◌, ◌≤◌, T, sym, subst, arith}
use lib.Count.{count_leading_zeros}
use lib.Ieee.{binary64, fits, to_bits}
use Rattle.numeric.proofs.Roots.{positive_real, no_sign, digits_pos, leading_in, scaled_low, scaled_mid}
use Rattle.numeric.proofs.root.scale.Goals as goal
use Rattle.numeric.proofs.root.scale.Goals.{Start, Then-field-eq0}

-- what owning an f64 tells
held : (c : Start) → T (fits binary64 c.args.x)
held c = subst T (sym c.well_formed.0.1) tt

inside : (c : Then-field-eq0) → (11 ≤ count_leading_zeros 64 (to_bits binary64 c.args.x % 2 ^ 52)) × (count_leading_zeros 64 (to_bits binary64 c.args.x % 2 ^ 52) ≤ 63)
inside c = let x = c.args.x in leading_in (to_bits binary64 x % 2 ^ 52) (digits_pos x (subst T (sym c.well_formed.0.1) tt) c.requires c.if-field-eq0.true) (omega arith)

pub float_to_bits-b : goal.float_to_bits-b
float_to_bits-b c = positive_real c.args.x c.requires

pub overflow_cast-z : goal.overflow_cast-z
overflow_cast-z c = let h = inside (goal.at.overflow_cast-z c).Then-field-eq0 in omega arith

pub overflow_sub-result : goal.overflow_sub-result
overflow_sub-result c = (inside (goal.at.overflow_sub-result c).Then-field-eq0).0

pub overflow_shl-result : goal.overflow_shl-result
overflow_shl-result c = let h = inside (goal.at.overflow_shl-result c).Then-field-eq0 in omega arith

pub overflow_sub-result-then-field-eq0 : goal.overflow_sub-result-then-field-eq0
overflow_sub-result-then-field-eq0 c = (inside (goal.at.overflow_sub-result-then-field-eq0 c).Then-field-eq0).1

pub overflow_add-result-2 : goal.overflow_add-result-2
overflow_add-result-2 c = let h = no_sign c.args.x (held (goal.at.overflow_add-result-2 c).Start) c.requires in omega arith

pub invariant_of-result : goal.invariant_of-result
invariant_of-result c =
    let i = scaled_low c.args.x (held (goal.at.invariant_of-result c).Start) c.requires c.if-field-eq0.true in
    record { low = i.low; high = i.high; room = i.room }

pub invariant_of-result-2 : goal.invariant_of-result-2
invariant_of-result-2 c =
    let i = scaled_mid c.args.x (held (goal.at.invariant_of-result-2 c).Start) c.requires c.if-field-eq0.false in
    record { low = i.low; high = i.high; room = i.room }

pub returns-then-field-eq0 : goal.returns-then-field-eq0
returns-then-field-eq0 c = scaled_low c.args.x (held (goal.at.returns-then-field-eq0 c).Start) c.requires c.if-field-eq0.true

pub returns : goal.returns
returns c = scaled_mid c.args.x (held (goal.at.returns c).Start) c.requires c.if-field-eq0.false
