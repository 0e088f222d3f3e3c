-- `numeric::conversion::to_f32` meets its contract: the assembled pattern is that of the nearest f32 (`narrow_pattern`). Assumes nothing.
use Rattle.std.proofs.Common.{◌∙◌, ◌+◌, ◌*◌, ◌/◌, ◌^◌, ◌<◌, T, sym, ap, subst, arith}
use lib.Ieee.{binary32, binary64, fits, of_bits, to_bits}
use lib.Ieee.Bits.{to_bits-lt}
use Rattle.numeric.proofs.BitLaws.{the_nan}
use Rattle.numeric.specs.Narrow.{narrowed}
use Rattle.numeric.proofs.Pack.{Pattern}
use Rattle.numeric.proofs.Fields.{narrow_pattern, no_nan_size}
use Rattle.numeric.proofs.conversion.to_f32.Goals as goal
use Rattle.numeric.proofs.conversion.to_f32.Goals.{After-narrow_size-low, Start}

-- what owning an f64 tells
held : (c : Start) → T (fits binary64 c.args.x)
held c = subst T (sym c.well_formed.0.1) tt

pattern : (c : After-narrow_size-low) → Pattern binary32 (narrowed c.args.x) (to_bits binary64 c.args.x / 2 ^ 63 * 2 ^ 31 + c.narrow_size-low.result)
pattern c =
    narrow_pattern c.args.x c.narrow_size-low.result (subst T (sym c.well_formed.0.1) tt) (rw (sym c.is_nan.ensures.value ∙ c.if-is_nan.false) tt) c.narrow_size-low.ensures

pub returns-then-is_nan : goal.returns-then-is_nan
unfolding of_bits narrowed
returns-then-is_nan c = sym (ap narrowed (the_nan c.args.x (sym c.is_nan.ensures.value ∙ c.if-is_nan.true)))

pub float_to_bits-b : goal.float_to_bits-b
float_to_bits-b c = rw (sym c.is_nan.ensures.value ∙ c.if-is_nan.false) tt

pub narrow_size-low-requires : goal.narrow_size-low-requires
narrow_size-low-requires c =
    let x = c.args.x in
    record {
      y_bound = omega arith;
      y_value = no_nan_size x (held (goal.at.narrow_size-low-requires c).Start) (rw (sym c.is_nan.ensures.value ∙ c.if-is_nan.false) tt);
    }

pub overflow_mul-result : goal.overflow_mul-result
overflow_mul-result c = let h : to_bits binary64 c.args.x < 2 ^ 64 = to_bits-lt binary64 c.args.x (held (goal.at.overflow_mul-result c).Start) in omega arith

pub overflow_add-result : goal.overflow_add-result
overflow_add-result c = let h = (pattern (goal.at.overflow_add-result c).After-narrow_size-low).below in omega arith

pub overflow_cast-result : goal.overflow_cast-result
overflow_cast-result c = let h = (pattern (goal.at.overflow_cast-result c).After-narrow_size-low).below in omega arith

pub float_from_bits-result : goal.float_from_bits-result
float_from_bits-result c = (pattern (goal.at.float_from_bits-result c).After-narrow_size-low).real

pub returns : goal.returns
returns c = (pattern (goal.at.returns c).After-narrow_size-low).reads
