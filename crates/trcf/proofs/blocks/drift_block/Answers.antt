-- `trcf::blocks::drift_block` meets its contract: each turn shifts one place. Assumes nothing.
use lib.Ieee.{Float, nan, binary32, mul}
use Rattle.ranges.specs.RangeVector.{range_at, put_at, shifted}
use Rattle.trcf.proofs.BlockLaws.{places_more}
use Prim.Native.Nat.{◌+◌, ◌*◌}
use mathlib.Core.Path.{◌≡◌, refl, ap, ◌∙◌}
use native.Mathlib.Omega.{arith}
use lib.ListN.{get_or}
use Rattle.ranges.specs.RangeVector.{ranges}
use Rattle.trcf.specs.Steps.Blocks.{places_by, drift_place}
use Rattle.trcf.proofs.blocks.drift_block.Goals as goal

pub loop-j-init : goal.loop-j-init
unfolding places_by
loop-j-init c = refl

pub loop-j-preserved : goal.loop-j-preserved
unfolding put_at range_at shifted
loop-j-preserved c =
    let c8 = c in
    let A = c.args in
    let L = c.loop-j in
    let w = ranges L.values L.upper L.lower in
    let at = A.i * A.d + L.j in
    let B = c.block_number-b.ensures in
    places_more (drift_place A.i A.drifts.now) (A.i * A.d) L.j (ranges A.values.now A.upper.now A.lower.now) w _ L.invariant
    (c.shift-q.ensures ∙ ap (λ (y : Float). shifted binary32 (range_at w at) (mul binary32 y (get_or A.drifts.now L.j nan))) B)

pub returns : goal.returns
returns c =
    let A = c.args in
    let L = c.loop-j in
    let e : L.j ≡ A.d = omega arith in
    rw e at L.invariant
