-- `numeric::root::lowered` meets its contract: the number falls until its square is not above n. Assumes nothing.
use Rattle.std.proofs.Common.{◌<◌, le_of_lt, mul-le-mul, arith}
use Rattle.numeric.proofs.Squares.{square_back}
use Rattle.numeric.proofs.root.lowered.Goals as goal

pub loop-r-init : goal.loop-r-init
loop-r-init c = c.requires

pub overflow_mul-r : goal.overflow_mul-r
overflow_mul-r c = let l = le_of_lt c.loop-r.invariant in let h = mul-le-mul l l in omega arith

pub overflow_sub-r : goal.overflow_sub-r
overflow_sub-r c = square_back 0 c.loop-r.r (omega arith)

pub loop-r-smaller : goal.loop-r-smaller
loop-r-smaller c = let h : 0 < c.loop-r.r = square_back 0 c.loop-r.r (omega arith) in omega arith

pub loop-r-preserved : goal.loop-r-preserved
loop-r-preserved c = omega arith

pub returns : goal.returns
returns c = c.loop-r-test.false
