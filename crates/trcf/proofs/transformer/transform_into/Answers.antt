-- `trcf::transformer::transform_into` meets its contract: the invariant is that the answer's first i numbers stand over the output. Assumes nothing.
use lib.Ieee.{nan}
use lib.ListN.{length, get_or}
use Prim.Native.Nat.{◌<◌}
use native.Mathlib.Omega.{arith}
use native.Mathlib.Numerals.{add-one}
use mathlib.Core.Path.{◌≡◌}
use Rattle.trcf.proofs.LentLaws.{over_none, over_more}
use Rattle.trcf.specs.TransformerCalls.{transformer_view}
use Rattle.trcf.specs.Transformer.{transform_by, transformed}
use Rattle.trcf.proofs.transformer.transform_into.Goals as goal

pub loop-i-init : goal.loop-i-init
loop-i-init c = over_none _

pub loop-i-preserved : goal.loop-i-preserved
loop-i-preserved c =
    let b = c in
    let p = c in
    let L = c.loop-i in
    let a = c.args in
    let h : L.i < length a.output.now = omega (arith, c.requires.sound) in
    let at = over_more a.output.now (λ k. transform_by a.t.transform_method (transformer_view a.t a.s.now) k (get_or a.input.now k nan) (get_or a.previous.now k nan)) L.i h in
    rw (add-one, L.invariant, c.transform_at.ensures) at

pub returns : goal.returns
unfolding transformed
returns c = let L = c.loop-i in
    let e : L.i ≡ c.args.t.input_length = omega arith in
    rw e at L.invariant
