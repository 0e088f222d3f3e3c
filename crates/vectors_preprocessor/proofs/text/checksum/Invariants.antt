-- What holds in the loop of `vectors_preprocessor::text::checksum`: both sums are remainders.
use Rattle.std.proofs.Common.{◌<◌}
use Rattle.vectors_preprocessor.proofs.text.checksum.Given as goal

abbrev pub invariant-loop-byte : goal.invariant-loop-byte
invariant-loop-byte l = (l.a < 65521) × (l.b < 65521)
