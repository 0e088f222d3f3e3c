-- `trcf::types::is_none` meets its contract: what it answers is what the definition says, kind by kind. Assumes nothing.
use Rattle.trcf.proofs.types.is_none.Goals as goal

pub returns-in-NONE : goal.returns-in-NONE
returns-in-NONE c = rw c.in-NONE.is

pub returns-in-WEIGHTED : goal.returns-in-WEIGHTED
returns-in-WEIGHTED c = rw c.in-WEIGHTED.is

pub returns-in-DIFFERENCE : goal.returns-in-DIFFERENCE
returns-in-DIFFERENCE c = rw c.in-DIFFERENCE.is

pub returns-in-SUBTRACT_MA : goal.returns-in-SUBTRACT_MA
returns-in-SUBTRACT_MA c = rw c.in-SUBTRACT_MA.is

pub returns-in-NORMALIZE : goal.returns-in-NORMALIZE
returns-in-NORMALIZE c = rw c.in-NORMALIZE.is

pub returns-in-NORMALIZE_DIFFERENCE : goal.returns-in-NORMALIZE_DIFFERENCE
returns-in-NORMALIZE_DIFFERENCE c = rw c.in-NORMALIZE_DIFFERENCE.is
