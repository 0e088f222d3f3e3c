-- `snapshot_save::write::buf_line` meets its contract. Assumes nothing.
use Rattle.snapshot.proofs.LineBytes.{buf_bytes, buf_size}
use Rattle.snapshot.proofs.WriteLaws.{wrote_then, wrote_is, floats_length}
use native.Mathlib.Omega.{arith}
use Rattle.snapshot_save.proofs.write.buf_line.Goals as goal

pub write_name-p-requires : goal.write_name-p-requires
write_name-p-requires c = let a = c.args in omega (arith, buf_size a.time a.v.now, floats_length a.v.now)

pub tab-q-requires : goal.tab-q-requires
tab-q-requires c = let a = c.args in omega (arith, buf_size a.time a.v.now, floats_length a.v.now)

pub tabs-s-requires : goal.tabs-s-requires
tabs-s-requires c = let a = c.args in omega (arith, buf_size a.time a.v.now, floats_length a.v.now)

pub write_byte-requires : goal.write_byte-requires
write_byte-requires c = let a = c.args in omega (arith, buf_size a.time a.v.now, floats_length a.v.now)

pub returns : goal.returns
returns c = let a = c.args in wrote_is (buf_bytes a.time a.v.now) (wrote_then c.write_name-p.ensures (wrote_then c.tab-q.ensures (wrote_then c.tabs-s.ensures c.write_byte.ensures)))
