-- `trcf::transformer::invert_fitting` meets its contract: the invariant is that the answer's first i numbers stand over the output. Assumes nothing.
use lib.Ieee.{Float}
use Rattle.trcf.proofs.TransformerLaws.{weight_at_view}
use Rattle.trcf.specs.Transformer.{inverted, invert_by, unweighted, weight_at}
use lib.Ieee.{nan}
use lib.ListN.{length, get_or}
use Prim.Native.Nat.{◌<◌}
use native.Mathlib.Omega.{arith}
use native.Mathlib.Numerals.{add-one}
use mathlib.Core.Path.{◌≡◌, sym, ap, ◌∙◌}
use Rattle.trcf.proofs.LentLaws.{over_none, over_more}
use Rattle.trcf.specs.TransformerCalls.{transformer_view}
use Rattle.trcf.proofs.transformer.invert_fitting.Goals as goal

pub loop-i-init : goal.loop-i-init
loop-i-init c = over_none _

pub loop-i-preserved : goal.loop-i-preserved
loop-i-preserved c =
    let c8 = c in
    let L = c.loop-i in
    let a = c.args in
    let h : L.i < length a.output.now = omega arith in
    let x = c.unweigh-x.ensures ∙ ap (λ (w : Float). unweighted w (get_or a.input.now L.i nan))
    (sym (weight_at_view a.t a.s.now L.i (omega arith))) in
    let e = c.invert_at.ensures ∙ ap (λ (y : Float). invert_by a.t.transform_method (transformer_view a.t a.s.now) L.i y (get_or a.previous.now L.i nan)) x in
    rw (add-one, L.invariant, e) (over_more a.output.now
    (λ k. invert_by a.t.transform_method (transformer_view a.t a.s.now) k (unweighted (weight_at (transformer_view a.t a.s.now) k) (get_or a.input.now k nan))
    (get_or a.previous.now k nan)) L.i h)

pub returns : goal.returns
unfolding inverted
returns c = let L = c.loop-i in
    let e : L.i ≡ c.args.t.input_length = omega arith in
    rw e at L.invariant
