-- `snapshot_save::line::tab_optional` meets its contract. Assumes nothing.
use lib.Ieee.{binary32}
use native.Mathlib.Omega.{arith}
use Rattle.snapshot.proofs.WriteLaws.{wrote_then, float_length}
use Rattle.snapshot_save.proofs.line.tab_optional.Goals as goal

pub tab-requires : goal.tab-requires
tab-requires c = omega (arith, float_length binary32 c.in-Some.x)

pub returns-in_default : goal.returns-in_default
returns-in_default c = rw c.in_default.is (wrote_then c.write_byte-p.ensures c.write_byte.ensures)
