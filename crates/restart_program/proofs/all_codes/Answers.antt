-- `restart_program::all_codes` meets its contract: every element that is read has the property. Assumes nothing.
use native.Mathlib.Omega.{arith}
use Prim.Native.Nat.{◌≤◌}
use Rattle.trcf.specs.Settings.{code_max}
use Rattle.restart_program.proofs.Handed.{all_next, all_taken}
use Rattle.restart_program.proofs.all_codes.Goals as goal

pub loop-c-preserved : goal.loop-c-preserved
loop-c-preserved c = all_next (λ x. x ≤ code_max) c.args.v.now c.loop-c.c-index 0 (omega arith) c.loop-c.invariant c.code.ensures

pub returns : goal.returns
returns c = all_taken (λ x. x ≤ code_max) c.args.v.now c.loop-c.c-index (omega arith) c.loop-c.invariant
