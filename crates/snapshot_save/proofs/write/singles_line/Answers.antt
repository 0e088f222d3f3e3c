-- `snapshot_save::write::singles_line` meets its contract. Assumes nothing.
use mathlib.Core.Path.{ap}
use lib.ListN.{length}
use native.Mathlib.Omega.{arith}
use Rattle.snapshot.proofs.LineBytes.{singles_bytes}
use Rattle.snapshot.proofs.WriteLaws.{wrote_is}
use Rattle.snapshot_save.proofs.write.singles_line.Goals as goal

pub list_line-requires : goal.list_line-requires
list_line-requires c = let a = c.args in omega (arith, ap length (singles_bytes a.name a.v.now))

pub returns : goal.returns
returns c = let a = c.args in wrote_is (singles_bytes a.name a.v.now) c.list_line.ensures
