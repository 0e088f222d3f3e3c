-- `trcf::passes::radicand` meets its contract: each return is the case that its tests pick. Assumes nothing.
use Rattle.trcf.specs.Steps.Passes.{radicand_of}
use Rattle.trcf.proofs.passes.radicand.Goals as goal

pub returns-then-is_empty : goal.returns-then-is_empty
unfolding radicand_of
returns-then-is_empty c = rw (← c.is_empty.ensures, c.if-is_empty.true)

pub returns-then-v : goal.returns-then-v
unfolding radicand_of
returns-then-v c = rw (← c.is_empty.ensures, c.if-is_empty.false, c.if-v.true)

pub returns-else-v : goal.returns-else-v
unfolding radicand_of
returns-else-v c = rw (← c.is_empty.ensures, c.if-is_empty.false, c.if-v.false)
