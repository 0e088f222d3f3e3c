-- `common::deviation::Deviation::new` meets its contract: row 6 is asked by `outside_unit`. Assumes nothing.
use Rattle.common.specs.Deviation.{deviation_new}
use Rattle.common.proofs.deviation.Deviation.new.Goals as goal

pub returns-then-outside_unit : goal.returns-then-outside_unit
unfolding deviation_new
returns-then-outside_unit c = rw (← c.outside_unit.ensures, c.if-outside_unit.true)

pub returns : goal.returns
unfolding deviation_new
returns c = rw (← c.outside_unit.ensures, c.if-outside_unit.false) cc
