-- `settling::run::is_ready` meets its contract. Assumes nothing.
use mathlib.Core.Path.{◌∙◌}
use Rattle.settling.proofs.StepLaws.{ready_below}
use Rattle.settling.proofs.run.is_ready.Goals as goal

pub returns : goal.returns
returns c = c.unwrap_or.ensures ∙ ready_below c.every_right.result c.every_right.ensures c.args.head c.is_ready.result c.is_ready.ensures
