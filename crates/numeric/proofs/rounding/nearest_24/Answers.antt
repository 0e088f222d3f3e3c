-- `numeric::rounding::nearest_24` meets its contract: `closest_carried`. Assumes nothing.
use Rattle.std.proofs.Common.{sym}
use Rattle.numeric.proofs.Near.{closest_carried}
use Rattle.numeric.proofs.rounding.nearest_24.Goals as goal

pub returns : goal.returns
returns c = sym (closest_carried c.args.m)
