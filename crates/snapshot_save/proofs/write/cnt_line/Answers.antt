-- `snapshot_save::write::cnt_line` meets its contract. Assumes nothing.
use mathlib.Core.Path.{ap}
use lib.ListN.{length}
use native.Mathlib.Omega.{arith}
use Rattle.snapshot.proofs.LineBytes.{cnt_bytes}
use Rattle.snapshot.proofs.WriteLaws.{wrote_is}
use Rattle.snapshot_save.proofs.write.cnt_line.Goals as goal

pub list_line-requires : goal.list_line-requires
list_line-requires c = let a = c.args in omega (arith, ap length (cnt_bytes a.seen a.internal a.count))

pub returns : goal.returns
returns c = let a = c.args in wrote_is (cnt_bytes a.seen a.internal a.count) c.list_line.ensures
