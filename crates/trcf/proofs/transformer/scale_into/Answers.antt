-- `trcf::transformer::scale_into` meets its contract: the invariant is that the answer's first i numbers stand over the output. Assumes nothing.
use Rattle.trcf.specs.Types.{normalizes}
use Rattle.trcf.specs.Transformer.{scales, weight_at, normalized_scale}
use mathlib.Core.Bool.{cond}
use lib.Ieee.{binary32, mul}
use lib.ListN.{length}
use Prim.Native.Nat.{◌<◌}
use native.Mathlib.Omega.{arith}
use native.Mathlib.Numerals.{add-one}
use mathlib.Core.Path.{◌≡◌}
use Rattle.trcf.proofs.LentLaws.{over_none, over_more}
use Rattle.trcf.specs.TransformerCalls.{transformer_view}
use Rattle.trcf.proofs.transformer.scale_into.Goals as goal

pub loop-i-init : goal.loop-i-init
loop-i-init c = over_none _

pub loop-i-preserved : goal.loop-i-preserved
loop-i-preserved c =
    let L = c.loop-i in
    let a = c.args in
    let h : L.i < length a.output.now = omega arith in
    rw (add-one, L.invariant, c.scale_at.ensures) (over_more a.output.now
    (λ k. cond (normalizes a.t.transform_method) (mul binary32 (weight_at (transformer_view a.t a.s.now) k) (normalized_scale (transformer_view a.t a.s.now) k))
    (weight_at (transformer_view a.t a.s.now) k)) L.i h)

pub returns : goal.returns
unfolding scales
returns c = let L = c.loop-i in
    let e : L.i ≡ c.args.t.input_length = omega arith in
    rw e at L.invariant
