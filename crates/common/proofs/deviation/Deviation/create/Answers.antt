-- `common::deviation::Deviation::create` meets its contract: row 6 is asked by `outside_unit`, and row 18 after it. Assumes nothing.
use Rattle.std.proofs.Common.{◌<◌, ◌≤◌, arith, le-ltb, lt-ltb}
use Rattle.common.specs.Deviation.{count_limit, deviation_create}
use Rattle.common.proofs.deviation.Deviation.create.Goals as goal

pub returns-then-outside_unit : goal.returns-then-outside_unit
unfolding deviation_create
returns-then-outside_unit c = rw (← c.outside_unit.ensures, c.if-outside_unit.true)

pub returns-then-count-gt-COUNT_LIMIT : goal.returns-then-count-gt-COUNT_LIMIT
unfolding deviation_create
returns-then-count-gt-COUNT_LIMIT c =
    let h : count_limit < c.args.count = omega arith in
    rw (← c.outside_unit.ensures, c.if-outside_unit.false, lt-ltb _ _ h)

pub returns : goal.returns
unfolding deviation_create
returns c =
    let h : c.args.count ≤ count_limit = omega arith in
    rw (← c.outside_unit.ensures, c.if-outside_unit.false, le-ltb _ _ h)
