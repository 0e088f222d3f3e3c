-- `snapshot::values::none_falls` meets its contract. Assumes nothing.
use mathlib.Core.Path.{sym}
use Rattle.snapshot.proofs.ValueLaws.{climbs_sorted}
use Rattle.snapshot.proofs.values.none_falls.Goals as goal

pub returns : goal.returns
returns c = sym (climbs_sorted c.args.times.now c.is_sorted.result c.is_sorted.ensures.cases)
