-- The digits of its bits.
use native.Mathlib.Omega.{arith}
use mathlib.Core.Path.{ap}
use lib.Ieee.{binary32}
use Rattle.snapshot.specs.Text.{hex, float}
use Rattle.snapshot.proofs.WriteLaws.{wrote_is, float_length}
use Rattle.snapshot_save.proofs.write.F32Cell.write.Goals as goal

pub write_hex-requires : goal.write_hex-requires
write_hex-requires c = omega (arith, float_length binary32 c.args.self)

pub returns : goal.returns
unfolding float
returns c = wrote_is (ap (hex 8) c.single_bits.ensures) c.write_hex.ensures
