-- Before the turn at i the first i blocks are copied. Assumes nothing.
use Rattle.trcf.proofs.LengthLaws.{roomy}
use native.Mathlib.Omega.{arith}
use mathlib.Core.Path.{◌≡◌, refl, ap, ◌∙◌}
use Prim.Native.Nat.{◌+◌, ◌-◌, ◌*◌}
use lib.ListN.{length, take, drop, length-take, length-drop}
use Rattle.trcf.proofs.ExtrapolationLaws.{turn_within, fronts_none, fronts_more, fronts_all}
use Rattle.trcf_forecast.proofs.forecast.copy_fronts.Goals as goal

pub loop-i-init : goal.loop-i-init
loop-i-init c =
    let A = c.args in
    (fronts_none A.a A.m A.src.now A.dst.now, refl)

pub overflow_mul-from : goal.overflow_mul-from
overflow_mul-from c =
    let A = c.args in
    let L = c.loop-i in
    let P = c.requires in
    let w = turn_within L.i A.h A.a (length A.src.now) (omega arith) P.0 in
    let v = turn_within L.i A.h A.m (length A.dst.now) (omega arith) (omega (arith, P.2)) in
    omega (arith, P.1, c.well_formed)

pub overflow_add-to : goal.overflow_add-to
overflow_add-to c =
    let A = c.args in
    let L = c.loop-i in
    let P = c.requires in
    let w = turn_within L.i A.h A.a (length A.src.now) (omega arith) P.0 in
    let v = turn_within L.i A.h A.m (length A.dst.now) (omega arith) (omega (arith, P.2)) in
    omega (arith, P.1, c.well_formed)

pub overflow_mul-at : goal.overflow_mul-at
overflow_mul-at c =
    let A = c.args in
    let L = c.loop-i in
    let P = c.requires in
    let w = turn_within L.i A.h A.a (length A.src.now) (omega arith) P.0 in
    let v = turn_within L.i A.h A.m (length A.dst.now) (omega arith) (omega (arith, P.2)) in
    omega (arith, P.1, c.well_formed)

pub offset_bounds-src-from : goal.offset_bounds-src-from
offset_bounds-src-from c =
    let A = c.args in
    let L = c.loop-i in
    let P = c.requires in
    let w = turn_within L.i A.h A.a (length A.src.now) (omega arith) P.0 in
    let v = turn_within L.i A.h A.m (length A.dst.now) (omega arith) (omega (arith, P.2)) in
    omega (arith, P.1, c.well_formed)

pub slice_bounds-copy_in-count : goal.slice_bounds-copy_in-count
slice_bounds-copy_in-count c =
    let A = c.args in
    let L = c.loop-i in
    let P = c.requires in
    let w = turn_within L.i A.h A.a (length A.src.now) (omega arith) P.0 in
    let v = turn_within L.i A.h A.m (length A.dst.now) (omega arith) (omega (arith, P.2)) in
    omega (arith, P.1, c.well_formed)

pub slice_bounds-copy_in-start : goal.slice_bounds-copy_in-start
slice_bounds-copy_in-start c =
    let A = c.args in
    let L = c.loop-i in
    let P = c.requires in
    let w = turn_within L.i A.h A.a (length A.src.now) (omega arith) P.0 in
    let v = turn_within L.i A.h A.m (length A.dst.now) (omega arith) (omega (arith, P.2)) in
    omega (arith, P.1, c.well_formed)

pub slice_bounds-copy_in-end : goal.slice_bounds-copy_in-end
slice_bounds-copy_in-end c =
    let A = c.args in
    let L = c.loop-i in
    let P = c.requires in
    let w = turn_within L.i A.h A.a (length A.src.now) (omega arith) P.0 in
    let v = turn_within L.i A.h A.m (length A.dst.now) (omega arith) (omega (arith, P.2)) in
    omega (arith, P.1, c.well_formed)

pub loop-i-preserved : goal.loop-i-preserved
loop-i-preserved c =
    let A = c.args in
    let L = c.loop-i in
    let P = c.requires in
    let w = turn_within L.i A.h A.a (length A.src.now) (omega arith) P.0 in
    let e : L.i * A.a + A.m - L.i * A.a ≡ A.m = omega arith in (
      (roomy _ c.copy_in.ensures
          (let A = c.args in let L = c.loop-i in let P = c.requires in let w = turn_within L.i A.h A.a
          (length A.src.now) (omega arith) P.0 in let v = turn_within L.i A.h A.m (length A.dst.now)
          (omega arith) (omega (arith, P.2)) in simp (length-take, length-drop) (omega (arith, P.1, L.invariant.1))))
          ∙ fronts_more A.a A.m L.i A.h A.src.now A.dst.now L.dst _ (omega (arith, P.1)) P.1 (omega arith) P.2 L.invariant.0
          (ap (λ k. take k (drop (L.i * A.a) A.src.now)) e),
      omega arith,
    )

pub returns : goal.returns
returns c =
    let A = c.args in
    let L = c.loop-i in
    let e : L.i ≡ A.h = omega arith in
    fronts_all A.a A.m L.i A.h A.src.now A.dst.now L.dst e c.requires.2 L.invariant.0
