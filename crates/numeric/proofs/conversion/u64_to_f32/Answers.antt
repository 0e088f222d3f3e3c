-- `numeric::conversion::u64_to_f32` meets its contract: `made` of `Whole.antt` at binary32. Assumes nothing.
use Rattle.std.proofs.Common.{◌+◌, ◌-◌, ◌*◌, pos, arith}
use lib.Count.{count_leading_zeros, leading_le}
use lib.Ieee.{binary32, of_int, round, of_bits}
use Rattle.numeric.proofs.Whole.{above, zeros_lt, made}
use Rattle.numeric.proofs.Pack.{Pattern}
use Rattle.numeric.proofs.conversion.u64_to_f32.Goals as goal
use Rattle.numeric.proofs.conversion.u64_to_f32.Goals.{After-nearest}

pattern : (c : After-nearest) → Pattern binary32 (of_int binary32 (pos c.args.n)) ((189 - count_leading_zeros 64 c.args.n) * 0x80_0000 + c.nearest.result)
pattern c =
    let a = c in
    made c.args.n (above c.args.n c.if-n-eq0.false) c.ranges.n.fits binary32 c.nearest.result c.nearest.ensures

pub returns-then-n-eq0 : goal.returns-then-n-eq0
unfolding of_bits of_int round
returns-then-n-eq0 c = rw c.if-n-eq0.true

pub overflow_cast-z : goal.overflow_cast-z
overflow_cast-z c = let h = leading_le 64 c.args.n in omega arith

pub overflow_sub-result : goal.overflow_sub-result
overflow_sub-result c = let h = leading_le 64 c.args.n in omega arith

pub overflow_shl-n : goal.overflow_shl-n
overflow_shl-n c = zeros_lt c.args.n (above c.args.n c.if-n-eq0.false) c.ranges.n.fits

pub overflow_add-result : goal.overflow_add-result
overflow_add-result c = let h = (pattern (goal.at.overflow_add-result c).After-nearest).below in omega arith

pub overflow_cast-result : goal.overflow_cast-result
overflow_cast-result c = let h = (pattern (goal.at.overflow_cast-result c).After-nearest).below in omega arith

pub float_from_bits-result : goal.float_from_bits-result
float_from_bits-result c = (pattern (goal.at.float_from_bits-result c).After-nearest).real

pub returns : goal.returns
returns c = (pattern (goal.at.returns c).After-nearest).reads
