-- `snapshot_save::write::buf_lines` meets its contract. Assumes nothing.
use Rattle.snapshot.proofs.LineBytes.{bufs_step, next_room}
use Rattle.snapshot.proofs.WriteLaws.{left_all, left_step, left_done}
use Rattle.snapshot.specs.Read.{bytes_of_line}
use Rattle.snapshot.specs.Text.{Line, bytes_of, buf_line, buf_lines}
use lib.ListN.{length, drop, get_or, length-append, drop_of_length-le, take}
use mathlib.Core.List.{List}
use mathlib.Core.Path.{◌≡◌, ap}
use native.Mathlib.Omega.{arith}
use Prim.Native.Nat.{ℕ, ◌+◌, ◌-◌, ◌<◌}
use Rattle.snapshot_save.proofs.write.buf_lines.Goals as goal

pub loop-time-init : goal.loop-time-init
loop-time-init c = (omega arith, left_all)

pub overflow_add-k : goal.overflow_add-k
overflow_add-k c =
    let L = c.loop-time in
    let a = c.args in
    let h : L.time-index < length a.times.now = c.loop-time-test.true in
    omega (arith, next_room a.d L.k L.time-index (length a.v.now) a.times.now h L.invariant.0)

pub slice_bounds-buf_line-end : goal.slice_bounds-buf_line-end
slice_bounds-buf_line-end c =
    let L = c.loop-time in
    let a = c.args in
    let h : L.time-index < length a.times.now = c.loop-time-test.true in
    omega (arith, next_room a.d L.k L.time-index (length a.v.now) a.times.now h L.invariant.0)

pub buf_line-p-requires : goal.buf_line-p-requires
buf_line-p-requires c =
    let L = c.loop-time in
    let a = c.args in
    let h : L.time-index < length a.times.now = c.loop-time-test.true in
    let x = buf_line (get_or a.times.now L.time-index 0) (take a.d (drop L.k a.v.now)) in
    let y = buf_lines a.d (drop (L.k + a.d) a.v.now) (drop (L.time-index + 1) a.times.now) in
    let e : L.k + a.d - L.k ≡ a.d = omega arith in
    rw e (omega (arith, ap (λ (l : List Line). length (bytes_of l)) (bufs_step a.d L.k L.time-index a.v.now a.times.now h), length-append (bytes_of_line x) (bytes_of y)))

pub overflow_add-k-in-loop-time : goal.overflow_add-k-in-loop-time
overflow_add-k-in-loop-time c =
    let L = c.loop-time in
    let a = c.args in
    let h : L.time-index < length a.times.now = c.loop-time-test.true in
    omega (arith, next_room a.d L.k L.time-index (length a.v.now) a.times.now h L.invariant.0)

pub loop-time-preserved : goal.loop-time-preserved
loop-time-preserved c =
    let L = c.loop-time in
    let a = c.args in
    let h : L.time-index < length a.times.now = c.loop-time-test.true in
    let e : L.k + a.d - L.k ≡ a.d = omega arith in (
      next_room a.d L.k L.time-index (length a.v.now) a.times.now h L.invariant.0,
      left_step (bytes_of_line (buf_line (get_or a.times.now L.time-index 0) (take (L.k + a.d - L.k) (drop L.k a.v.now))))
          (bytes_of (buf_lines a.d (drop (L.k + a.d) a.v.now) (drop (L.time-index + 1) a.times.now))) L.invariant.1
          (rw e (ap bytes_of (bufs_step a.d L.k L.time-index a.v.now a.times.now h))) c.buf_line-p.ensures,
    )

pub returns : goal.returns
returns c =
    let L = c.loop-time in
    let a = c.args in
    left_done L.invariant.1 (ap (λ (l : List ℕ). bytes_of (buf_lines a.d (drop L.k a.v.now) l)) (drop_of_length-le a.times.now c.loop-time-test.false))
