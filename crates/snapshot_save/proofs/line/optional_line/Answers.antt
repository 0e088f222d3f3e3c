-- `snapshot_save::line::optional_line` meets its contract. Assumes nothing.
use Rattle.std.specs.Prelude.{is_some, unwrap_or}
use Rattle.std.specs.Float.{nan}
use Prim.Native.Nat.{◌≤◌}
use native.Mathlib.Omega.{arith}
use Rattle.trcf.specs.Settings.{whole_max}
use Rattle.snapshot.specs.Read.{bytes_of_line}
use Rattle.snapshot.proofs.WriteLaws.{wrote_then, whole_short}
use Rattle.snapshot_save.specs.Line.{optional_line}
use Rattle.snapshot_save.proofs.OptionalLaws.{optional_short, optional_size, within_short, within_written}
use Rattle.snapshot_save.proofs.line.optional_line.Goals as goal

pub returns-then-out-lt32 : goal.returns-then-out-lt32
returns-then-out-lt32 c =
    let a = c.args in
    within_short 32 (bytes_of_line (optional_line a.a a.n (is_some a.x) (unwrap_or a.x nan))) a.out.now (omega (arith, c.if-out-lt32.true))

pub tab-q-requires : goal.tab-q-requires
tab-q-requires c =
    let n = c.args.n in
    let h : n ≤ whole_max = omega arith in
    omega (arith, whole_short n h, c.write_byte-p.ensures.place, c.write_byte-p.ensures.kept, c.if-out-lt32.false)

pub tab_optional-r-requires : goal.tab_optional-r-requires
tab_optional-r-requires c =
    let c8 = c in
    let n = c.args.n in
    let h : n ≤ whole_max = omega arith in
    omega (arith, whole_short n h, c.tab-q.ensures.place, c.tab-q.ensures.kept, c.write_byte-p.ensures.place, c.write_byte-p.ensures.kept, c.if-out-lt32.false)

pub write_byte-e-requires : goal.write_byte-e-requires
write_byte-e-requires c =
    let c8 = c in
    let a = c.args in
    let h : a.n ≤ whole_max = omega arith in
    omega (
      arith,
      whole_short a.n h,
      optional_short (is_some a.x) (unwrap_or a.x nan),
      c.tab_optional-r.ensures.place,
      c.tab_optional-r.ensures.kept,
      c.tab-q.ensures.place,
      c.tab-q.ensures.kept,
      c.write_byte-p.ensures.place,
      c.write_byte-p.ensures.kept,
      c.if-out-lt32.false,
    )

pub returns : goal.returns
returns c =
    let c8 = c in
    let c16 = c in
    let a = c.args in
    let h : a.n ≤ whole_max = omega arith in
    within_written 32 (bytes_of_line (optional_line a.a a.n (is_some a.x) (unwrap_or a.x nan))) a.out.now _ _ (omega (arith, c.if-out-lt32.false))
    (optional_size a.a a.n (is_some a.x) (unwrap_or a.x nan) h)
    (wrote_then c.write_byte-p.ensures (wrote_then c.tab-q.ensures (wrote_then c.tab_optional-r.ensures c.write_byte-e.ensures)))
