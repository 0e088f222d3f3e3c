-- `capi::head::write_counts` meets its contract: four words. Assumes nothing.
use mathlib.Core.Path.{refl}
use Rattle.capi.specs.Head.{counts_over}
use Rattle.capi.proofs.head.write_counts.Goals as goal

pub returns : goal.returns
unfolding counts_over
returns c = refl
