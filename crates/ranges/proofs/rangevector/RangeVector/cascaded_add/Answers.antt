-- `rangevector::RangeVector::cascaded_add` meets its contract. Refused by row 16, or the whole cascade. Assumes nothing.
use mathlib.Core.Path.{refl}
use Rattle.ranges.specs.RangeVector.{unequal}
use Rattle.ranges.proofs.RangeSteps.{refused_by, done}
use Rattle.ranges.proofs.rangevector.RangeVector.cascaded_add.Goals as goal

pub returns-in_err-check_blocks-clause-after : goal.returns-in_err-check_blocks-clause-after
unfolding unequal
returns-in_err-check_blocks-clause-after g c = refused_by _ _ _ _ _ c.from_residual.ensures.1 c.in_err-check_blocks.ensures.value

pub returns-clause-after : goal.returns-clause-after
unfolding unequal
returns-clause-after g c = done _ _ _ _ _ c.in_ok-check_blocks.ensures.value refl c.cascade.ensures.after
