-- `trcf::blocks::invert_block` meets its contract: each turn works on one place and one base. Assumes nothing.
use lib.Ieee.{nan, binary32, mul}
use Rattle.ranges.specs.RangeVector.{range_at, put_at}
use Rattle.trcf.specs.Steps.Blocks.{turn_by}
use Rattle.trcf.proofs.BlockLaws.{places_more, carried_more}
use Prim.Native.Nat.{◌+◌, ◌*◌}
use mathlib.Core.Path.{◌≡◌, refl, sym, ◌∙◌}
use native.Mathlib.Omega.{arith}
use lib.ListN.{get_or, length-set}
use Rattle.ranges.specs.RangeVector.{ranges}
use Rattle.trcf.specs.Steps.Blocks.{places_by, turn_place}
use Rattle.trcf.proofs.blocks.invert_block.Goals as goal

pub loop-j-init : goal.loop-j-init
unfolding places_by
loop-j-init c = (refl, record { done = λ k l. absurd (omega arith); rest = λ k l. refl }, c.requires.d_bound.2)

pub loop-j-preserved : goal.loop-j-preserved
unfolding put_at range_at
loop-j-preserved c =
    let c8 = c in
    let A = c.args in
    let L = c.loop-j in
    let w = ranges L.values L.upper L.lower in
    let at = A.i * A.d + L.j in
    let B = c.block_number-b.ensures in
    let R = L.invariant.1.rest L.j (omega arith) in (
      places_more (turn_place _ _ A.i A.channels.now.factors A.channels.now.scales A.channels.now.drifts A.bases.now) (A.i * A.d) L.j
          (ranges A.values.now A.upper.now A.lower.now) w _ L.invariant.0
          (c.turn-q.ensures ∙ (λ k. turn_by c.is_normalizing-normalizes.result c.is_moving-moves.result (get_or A.channels.now.factors L.j nan) (get_or A.channels.now.scales L.j nan)
          (mul binary32 (B k) (get_or A.channels.now.drifts L.j nan)) (R k) (range_at w at))),
      carried_more _ (A.i * A.d) L.j L.values A.bases.now L.bases _ _ (omega arith)
          (omega arith) c.chosen.ensures L.invariant.1,
      simp length-set L.invariant.2,
    )

pub returns : goal.returns
returns c =
    let A = c.args in
    let L = c.loop-j in
    let e : L.j ≡ A.d = omega arith in
    rw (
      ← c.is_normalizing-normalizes.ensures,
      ← c.is_moving-moves.ensures,
      ← c.is_differencing-carries.ensures,
    ) (record { lower_after = rw e at L.invariant.0; carried = record { long = L.invariant.2 ∙ sym c.requires.d_bound.2; each = λ k l. L.invariant.1.done k (omega arith) } })
