-- `snapshot_save::write::dev_line` meets its contract. Assumes nothing.
use mathlib.Core.Path.{ap}
use lib.ListN.{length}
use native.Mathlib.Omega.{arith}
use Rattle.snapshot.proofs.LineBytes.{dev_bytes, dev_size}
use Rattle.snapshot.proofs.WriteLaws.{wrote_is}
use Rattle.snapshot_save.proofs.write.dev_line.Goals as goal

pub list_line-requires : goal.list_line-requires
list_line-requires c =
    let a = c.args in
    omega (arith, ap length (dev_bytes a.weight a.sum a.squares), dev_size a.weight a.sum a.squares)

pub returns : goal.returns
returns c = let a = c.args in wrote_is (dev_bytes a.weight a.sum a.squares) c.list_line.ensures
