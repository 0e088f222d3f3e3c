-- `snapshot_save::line::singles_line` meets its contract. Assumes nothing.
use mathlib.Core.List.{[], ◌∷◌}
use lib.ListN.{length}
use native.Mathlib.Omega.{arith}
use Rattle.snapshot.specs.Text.{singles}
use Rattle.snapshot.specs.Read.{bytes_of_line}
use Rattle.snapshot.proofs.LineBytes.{singles_bytes}
use Rattle.snapshot.proofs.WriteLaws.{wrote_then, wrote_is, floats_length}
use Rattle.snapshot.proofs.PairLines.{pair_size, few_fields, enough_fields, line_written, line_left}
use Rattle.snapshot_save.proofs.line.singles_line.Goals as goal
use Rattle.snapshot_save.proofs.line.singles_line.Goals.{then-n-lt3-via-then-n-lt3, then-n-lt3-via-else-n-lt3+then-n-v}

pub returns-then-n-lt3 : goal.returns-then-n-lt3
returns-then-n-lt3 c =
    let a = c.args in
    line_left (bytes_of_line (singles (a.a ∷ a.b ∷ []) a.v.now)) a.out.now
    (elim c.then-n-lt3.branch [
      | then-n-lt3-via-then-n-lt3 w ↦ omega (arith, pair_size a.a a.b a.v.now, w.if-n-lt3.true)
      | then-n-lt3-via-else-n-lt3+then-n-v w ↦
          omega (arith, pair_size a.a a.b a.v.now, few_fields (length a.out.now) (length a.v.now) w.if-n-lt3.false w.if-n-v.true)
    ])

pub tabs-r-requires : goal.tabs-r-requires
tabs-r-requires c =
    let a = c.args in
    omega (
      arith,
      floats_length a.v.now,
      enough_fields (length a.out.now) (length a.v.now) c.if-n-lt3.false c.if-n-v.false,
      c.write_byte-q.ensures.place,
      c.write_byte-q.ensures.kept,
      c.write_byte-p.ensures.place,
      c.write_byte-p.ensures.kept,
    )

pub write_byte-e-requires : goal.write_byte-e-requires
write_byte-e-requires c =
    let a = c.args in
    omega (
      arith,
      floats_length a.v.now,
      enough_fields (length a.out.now) (length a.v.now) c.if-n-lt3.false c.if-n-v.false,
      c.tabs-r.ensures.place,
      c.tabs-r.ensures.kept,
      c.write_byte-q.ensures.place,
      c.write_byte-q.ensures.kept,
      c.write_byte-p.ensures.place,
      c.write_byte-p.ensures.kept,
    )

pub returns : goal.returns
returns c =
    let a = c.args in
    line_written (bytes_of_line (singles (a.a ∷ a.b ∷ []) a.v.now)) a.out.now _ _
    (omega (arith, pair_size a.a a.b a.v.now, enough_fields (length a.out.now) (length a.v.now) c.if-n-lt3.false c.if-n-v.false))
    (wrote_is (singles_bytes (a.a ∷ a.b ∷ []) a.v.now) (wrote_then c.write_byte-p.ensures (wrote_then c.write_byte-q.ensures (wrote_then c.tabs-r.ensures c.write_byte-e.ensures))))
