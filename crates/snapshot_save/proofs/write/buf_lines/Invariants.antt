-- What holds in the loops of `snapshot_save::write::buf_lines`.
use Rattle.snapshot.proofs.WriteLaws.{Left}
use Rattle.snapshot.specs.Text.{bytes_of, buf_lines}
use lib.ListN.{length, drop}
use Prim.Native.Nat.{◌+◌, ◌*◌, ◌≤◌}
use Rattle.snapshot_save.proofs.write.buf_lines.Given as goal

abbrev pub invariant-loop-time : goal.invariant-loop-time
invariant-loop-time l = (l.k + length (drop l.time-index l.times) * l.d ≤ length l.v) × Left l.at (bytes_of (buf_lines l.d l.v l.times)) l.initial.out l.p (bytes_of
    (buf_lines l.d (drop l.k l.v) (drop l.time-index l.times))) l.out
