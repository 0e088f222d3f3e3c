-- `rangevector::RangeVector::scale` meets its contract. Refused by the row of the index, or scaled there. Assumes nothing.
use mathlib.Core.Path.{refl}
use Rattle.ranges.specs.RangeVector.{past_any}
use Rattle.ranges.proofs.RangeSteps.{refused_by, done}
use Rattle.ranges.proofs.rangevector.RangeVector.scale.Goals as goal

pub returns-in_err-check_index-clause-after : goal.returns-in_err-check_index-clause-after
unfolding past_any
returns-in_err-check_index-clause-after g c = refused_by _ _ _ _ _ c.from_residual.ensures.1 c.in_err-check_index.ensures.value

pub returns-clause-after : goal.returns-clause-after
unfolding past_any
returns-clause-after g c = done _ _ _ _ _ c.in_ok-check_index.ensures.value refl (rw (c.put.ensures.after, c.scale-r.ensures, c.at.ensures))
