-- What holds in the loop of `snapshot_save::write::tabs`.
use Rattle.snapshot.proofs.WriteLaws.{Left}
use Rattle.snapshot.specs.Steps.Write.{tabbed}
use lib.ListN.{drop}
use mathlib.Core.List.{map}
use Rattle.snapshot_save.proofs.write.tabs.Given as goal

abbrev pub invariant-loop-x : goal.invariant-loop-x
invariant-loop-x g l = Left l.at (tabbed (map g.T.Cell.text l.v)) l.initial.out l.p (tabbed (map g.T.Cell.text (drop l.x-index l.v))) l.out
