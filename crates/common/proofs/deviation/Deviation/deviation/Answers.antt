-- `common::deviation::Deviation::deviation` meets its contract: each return is the case that its tests pick, and the root is what `numeric::sqrt` promises. Assumes nothing.
use Rattle.common.specs.Deviation.{root_above, deviation_of}
use Rattle.common.proofs.deviation.Deviation.deviation.Goals as goal

pub returns-then-is_empty : goal.returns-then-is_empty
unfolding deviation_of
returns-then-is_empty c = rw (← c.is_empty.ensures, c.if-is_empty.true)

pub returns-then-answer : goal.returns-then-answer
unfolding deviation_of root_above
returns-then-answer c = rw (← c.is_empty.ensures, c.if-is_empty.false, c.if-answer.true, c.sqrt.ensures.root_value)

pub returns-else-answer : goal.returns-else-answer
unfolding deviation_of root_above
returns-else-answer c = rw (← c.is_empty.ensures, c.if-is_empty.false, c.if-answer.false)
