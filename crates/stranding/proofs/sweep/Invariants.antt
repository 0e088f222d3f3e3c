-- What holds in the loops of `stranding::sweep`.
use Rattle.stranding.proofs.Rows.{Half}
use Rattle.stranding.proofs.sweep.Given as goal

abbrev pub invariant-loop-j : goal.invariant-loop-j
invariant-loop-j l = Half l.start l.j l.initial.table l.table
