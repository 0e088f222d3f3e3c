-- `trcf::types::is_augmented` meets its contract: what it answers is what the definition says, kind by kind. Assumes nothing.
use Rattle.trcf.proofs.types.is_augmented.Goals as goal

pub returns-in-STANDARD : goal.returns-in-STANDARD
returns-in-STANDARD c = rw c.in-STANDARD.is

pub returns-in-TIME_AUGMENTED : goal.returns-in-TIME_AUGMENTED
returns-in-TIME_AUGMENTED c = rw c.in-TIME_AUGMENTED.is

pub returns-in-STREAMING_IMPUTE : goal.returns-in-STREAMING_IMPUTE
returns-in-STREAMING_IMPUTE c = rw c.in-STREAMING_IMPUTE.is

pub returns-in-GAP_AUGMENTED : goal.returns-in-GAP_AUGMENTED
returns-in-GAP_AUGMENTED c = rw c.in-GAP_AUGMENTED.is
