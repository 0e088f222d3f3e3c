-- `snapshot_save::line::whole_line` meets its contract. Assumes nothing.
use mathlib.Core.List.{[], ◌∷◌}
use native.Mathlib.Omega.{arith}
use Rattle.snapshot.specs.Text.{whole, named}
use Rattle.snapshot.specs.Read.{bytes_of_line}
use Rattle.snapshot.proofs.WriteLaws.{wrote_then}
use Rattle.snapshot.proofs.PairLines.{number_size, line_written, line_left}
use Rattle.snapshot_save.proofs.line.whole_line.Goals as goal

pub returns-then-out-l : goal.returns-then-out-l
returns-then-out-l c =
    let a = c.args in
    line_left (bytes_of_line (named (a.a ∷ a.b ∷ []) (whole a.n ∷ []))) a.out.now
    (omega (arith, number_size a.a a.b a.n, c.whole_length-l.ensures.value, c.if-out-l.true))

pub returns : goal.returns
returns c =
    let a = c.args in
    line_written (bytes_of_line (named (a.a ∷ a.b ∷ []) (whole a.n ∷ []))) a.out.now _ _
    (omega (arith, number_size a.a a.b a.n, c.whole_length-l.ensures.value, c.if-out-l.false))
    (wrote_then c.write_byte-p.ensures (wrote_then c.write_byte-q.ensures (wrote_then c.tab-r.ensures c.write_byte-e.ensures)))
