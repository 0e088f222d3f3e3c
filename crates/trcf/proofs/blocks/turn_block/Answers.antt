-- `trcf::blocks::turn_block` meets its contract: by the method's kind. Assumes nothing.
use Prim.Native.Nat.{◌*◌}
use mathlib.Core.Path.{sym, ◌∙◌}
use Rattle.ranges.specs.RangeVector.{held}
use Rattle.trcf.proofs.BlockLaws.{none_block, none_carried, other_block}
use Rattle.trcf.proofs.blocks.turn_block.Goals as goal

pub returns-then-is_none-clause-lower_after : goal.returns-then-is_none-clause-lower_after
returns-then-is_none-clause-lower_after c =
    let A = c.args in
    none_block A.m A.i (A.i * A.d) A.d A.channels.now.factors A.channels.now.scales A.channels.now.drifts A.bases.now (held A.range.now) _
    (sym c.is_none.ensures ∙ c.if-is_none.true) c.drift_block.ensures

pub returns-then-is_none-clause-carried : goal.returns-then-is_none-clause-carried
returns-then-is_none-clause-carried c =
    let A = c.args in
    none_carried A.m (A.i * A.d) A.d _ A.bases.now (sym c.is_none.ensures ∙ c.if-is_none.true)

pub returns-else-is_none-clause-lower_after : goal.returns-else-is_none-clause-lower_after
returns-else-is_none-clause-lower_after c =
    let A = c.args in
    other_block A.m A.i (A.i * A.d) A.d A.channels.now.factors A.channels.now.scales A.channels.now.drifts A.bases.now (held A.range.now) _
    (sym c.is_none.ensures ∙ c.if-is_none.false) c.invert_block.ensures.lower_after
