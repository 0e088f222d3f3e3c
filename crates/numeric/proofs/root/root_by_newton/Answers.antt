-- `numeric::root::root_by_newton` promises nothing; it goes through: the patterns are no NaN's. Assumes nothing.
use Rattle.std.proofs.Common.{◌-◌, ◌/◌, arith}
use Rattle.numeric.proofs.Roots.{low_pattern}
use Rattle.numeric.proofs.root.root_by_newton.Goals as goal

pub float_from_bits-x : goal.float_from_bits-x
float_from_bits-x c = low_pattern c.args.b (omega arith)

pub float_from_bits-y : goal.float_from_bits-y
float_from_bits-y c = low_pattern (0x5fe6_eb50_c7b5_37a9 - c.args.b / 2) (omega arith)
