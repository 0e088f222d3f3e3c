-- `snapshot_save::write::dev_lines` meets its contract. Assumes nothing.
use Rattle.snapshot.proofs.LineBytes.{devs_step, devs_end, dev_size}
use Rattle.snapshot.proofs.WriteLaws.{left_all, left_step, left_done}
use Rattle.snapshot.specs.Read.{bytes_of_line}
use Rattle.snapshot.specs.Text.{Line, bytes_of, dev_line, dev_lines}
use lib.Ieee.{nan}
use lib.ListN.{length, drop, get_or, length-append, length-drop}
use mathlib.Core.List.{List}
use mathlib.Core.Path.{◌≡◌, ap}
use native.Mathlib.Omega.{arith}
use Prim.Native.Nat.{◌+◌, ◌*◌, ◌<◌}
use Rattle.snapshot_save.proofs.write.dev_lines.Goals as goal

pub loop-i-init : goal.loop-i-init
loop-i-init c = left_all

pub dev_line-p-requires : goal.dev_line-p-requires
dev_line-p-requires c =
    let L = c.loop-i in
    let v = c.args.v.now in
    let k = L.i * 3 in
    let h : k + 2 < length v = omega arith in
    let d = dev_line (get_or v k nan) (get_or v (k + 1) nan) (get_or v (k + 2) nan) in
    omega (
      arith,
      ap (λ (l : List Line). length (bytes_of l)) (devs_step v k h),
      length-append (bytes_of_line d) (bytes_of (dev_lines (drop (k + 3) v))),
      dev_size
          (get_or v k nan) (get_or v (k + 1) nan) (get_or v (k + 2) nan),
    )

pub loop-i-preserved : goal.loop-i-preserved
loop-i-preserved c =
    let L = c.loop-i in
    let v = c.args.v.now in
    let k = L.i * 3 in
    let h : k + 2 < length v = omega arith in
    let e : (L.i + 1) * 3 ≡ k + 3 = omega arith in
    rw e (left_step (bytes_of_line (dev_line (get_or v k nan) (get_or v (k + 1) nan) (get_or v (k + 2) nan))) (bytes_of (dev_lines (drop (k + 3) v))) L.invariant
    (ap bytes_of (devs_step v k h)) c.dev_line-p.ensures)

pub returns : goal.returns
returns c =
    let L = c.loop-i in
    let v = c.args.v.now in
    left_done L.invariant (ap bytes_of (devs_end (drop (L.i * 3) v) (simp length-drop (omega arith))))
