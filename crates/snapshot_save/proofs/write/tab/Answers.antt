-- `snapshot_save::write::tab` meets its contract. Assumes nothing.
use Rattle.snapshot.proofs.WriteLaws.{wrote_then}
use Rattle.snapshot_save.proofs.write.tab.Goals as goal

pub returns : goal.returns
returns g c = wrote_then c.write_byte-p.ensures c.write.ensures
