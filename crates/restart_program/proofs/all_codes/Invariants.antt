-- What holds in the loops of `restart_program::all_codes`.
use Prim.Native.Nat.{◌≤◌}
use Rattle.trcf.specs.Settings.{code_max}
use lib.ListN.{take}
use Rattle.trcf.specs.Fit.{All}
use Rattle.restart_program.proofs.all_codes.Given as goal

abbrev pub invariant-loop-c : goal.invariant-loop-c
invariant-loop-c l = All (λ x. x ≤ code_max) (take l.c-index l.v)
