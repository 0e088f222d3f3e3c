-- `numeric::root::assembled` meets its contract: `rooted_pattern` at the rounded digits that it is handed. Assumes nothing.
use Rattle.std.proofs.Common.{◌+◌, ◌*◌, ◌/◌, ◌^◌, arith}
use lib.Ieee.{binary64}
use Rattle.numeric.specs.Root.{rooted}
use Rattle.numeric.proofs.Pack.{Pattern}
use Rattle.numeric.proofs.Roots.{rooted_pattern}
use Rattle.numeric.proofs.root.assembled.Goals as goal
use Rattle.numeric.proofs.root.assembled.Goals.{Start}

pattern : (c : Start) → Pattern binary64 (rooted (c.args.s.m * 2 ^ (c.args.s.e + 1022))) ((c.args.s.e / 2 + 485) * 2 ^ 52 + c.args.low)
pattern c = let s = c.args.s in rooted_pattern s.m s.e s.low s.high s.room c.args.low c.requires

pub overflow_add-result-2 : goal.overflow_add-result-2
overflow_add-result-2 c = let h = (pattern (goal.at.overflow_add-result-2 c).Start).below in omega arith

pub float_from_bits-result : goal.float_from_bits-result
float_from_bits-result c = (pattern (goal.at.float_from_bits-result c).Start).real

pub returns : goal.returns
returns c = (pattern (goal.at.returns c).Start).reads
