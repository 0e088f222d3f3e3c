-- `common::deviation::Deviation::is_empty` meets its contract: its test is the definition's. Assumes nothing.
use Rattle.std.proofs.Common.{refl}
use Rattle.common.specs.Deviation.{is_empty}
use Rattle.common.proofs.deviation.Deviation.is_empty.Goals as goal

pub returns : goal.returns
unfolding is_empty
returns c = refl
