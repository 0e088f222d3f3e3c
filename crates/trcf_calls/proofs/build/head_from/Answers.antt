-- `trcf_calls::build::head_from` meets its contract: by its callees' promises. Assumes nothing.
use borrow.Author.Rules.{rules}
use Rattle.trcf.proofs.LengthLaws.{roomy}
use Rattle.trcf_calls.proofs.build.head_from.Goals as goal

pub returns : goal.returns
returns c = rw (roomy _ c.padded.ensures (search rules), roomy _ c.padded-2.ensures (search rules))
