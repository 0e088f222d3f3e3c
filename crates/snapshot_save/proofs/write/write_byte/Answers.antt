-- `snapshot_save::write::write_byte` meets its contract. Assumes nothing.
use Rattle.snapshot.proofs.WriteLaws.{wrote_one}
use Rattle.snapshot_save.proofs.write.write_byte.Goals as goal

pub returns : goal.returns
returns c = wrote_one c.args.at c.args.b c.args.out.now
