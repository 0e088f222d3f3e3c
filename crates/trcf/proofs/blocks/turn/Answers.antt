-- `trcf::blocks::turn` meets its contract: its steps are the definition's. Assumes nothing.
use Rattle.ranges.specs.RangeVector.{shifted, scaled, settled}
use Rattle.trcf.proofs.BlockLaws.{turn_steps}
use Rattle.trcf.proofs.blocks.turn.Goals as goal

pub returns : goal.returns
unfolding shifted scaled settled
returns c =
    let A = c.args in
    turn_steps A.normalizes A.moves A.factor A.scale A.drift A.base A.r _ _ _ _ _ _
    c.scale-a.ensures c.scale.ensures
    c.chosen_range-e.ensures c.shift-c.ensures c.shift.ensures c.chosen_range.ensures
