-- `snapshot_save::write::write_name` meets its contract. Assumes nothing.
use native.Mathlib.Omega.{arith}
use lib.ListN.{length}
use mathlib.Core.Path.{◌≡◌}
use Rattle.snapshot.proofs.WriteLaws.{wrote_then, wrote_is, three_of}
use Rattle.snapshot_save.proofs.write.write_name.Goals as goal

pub returns : goal.returns
returns c =
    let h : length c.args.name ≡ 3 = omega arith in
    wrote_is (three_of c.args.name h) (wrote_then c.write_byte-p.ensures (wrote_then c.write_byte-q.ensures c.write_byte.ensures))
