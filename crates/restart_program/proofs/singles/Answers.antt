-- `restart_program::singles` meets its contract: every element that is read has the property. Assumes nothing.
use native.Mathlib.Omega.{arith}
use lib.Dec.{T}
use lib.Ieee.{nan, binary32, fits}
use Rattle.restart_program.proofs.Handed.{all_next, all_taken}
use Rattle.restart_program.proofs.singles.Goals as goal

pub loop-x-preserved : goal.loop-x-preserved
loop-x-preserved c = all_next (λ x. T (fits binary32 x)) c.args.v.now c.loop-x.x-index nan (omega arith) c.loop-x.invariant c.single.ensures

pub returns : goal.returns
returns c = all_taken (λ x. T (fits binary32 x)) c.args.v.now c.loop-x.x-index (omega arith) c.loop-x.invariant
