-- `common::deviation::Deviation::update` meets its contract: it is the update by the factor of the next one. Assumes nothing.
use Rattle.common.proofs.DeviationLaws.{update_by_next}
use Rattle.common.proofs.deviation.Deviation.update.Goals as goal

pub next_factor-requires : goal.next_factor-requires
next_factor-requires c = tt

pub update_by-requires : goal.update_by-requires
update_by-requires c = tt

pub returns : goal.returns
returns c = let a = c.args in rw (← update_by_next a.self a.score, ← c.next_factor.ensures) c.update_by.ensures
