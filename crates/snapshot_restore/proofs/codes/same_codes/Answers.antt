-- Lists are the same where `==` says so.
use mathlib.Core.Path.{◌∙◌}
use Rattle.snapshot.proofs.ValueLaws.{same_is}
use Rattle.snapshot_restore.proofs.codes.same_codes.Goals as goal

pub returns : goal.returns
returns c = c.eq.ensures ∙ same_is c.args.a.now c.args.b.now
