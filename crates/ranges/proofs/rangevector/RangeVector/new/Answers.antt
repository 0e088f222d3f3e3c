-- `rangevector::RangeVector::new` meets its contract. Refused by its row, or written to the front of each list. Assumes nothing.
use mathlib.Core.Path.{refl}
use Rattle.ranges.specs.RangeVector.{shorter}
use Rattle.ranges.proofs.RangeSteps.{refused_by, done, all_three}
use Rattle.ranges.proofs.rangevector.RangeVector.new.Goals as goal

pub returns-in_err-check_room-clause-after : goal.returns-in_err-check_room-clause-after
unfolding shorter
returns-in_err-check_room-clause-after g c = refused_by _ _ _ _ _ c.from_residual.ensures.1 c.in_err-check_room.ensures.value

pub returns-clause-after : goal.returns-clause-after
unfolding shorter
returns-clause-after g c =
    done _ _ _ _ _ c.in_ok-check_room.ensures.value refl (all_three c.zero_front.ensures c.zero_front-2.ensures c.zero_front-3.ensures)
