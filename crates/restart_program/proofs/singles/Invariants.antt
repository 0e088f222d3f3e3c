-- What holds in the loops of `restart_program::singles`.
use lib.Dec.{T}
use lib.Ieee.{binary32, fits}
use lib.ListN.{take}
use Rattle.trcf.specs.Fit.{All}
use Rattle.restart_program.proofs.singles.Given as goal

abbrev pub invariant-loop-x : goal.invariant-loop-x
invariant-loop-x l = All (λ x. T (fits binary32 x)) (take l.x-index l.v)
