-- `trcf::transformer::channels_into` meets its contract: each turn writes one channel of each list. Assumes nothing.
use mathlib.Core.Bool.{Bool, cond}
use lib.Ieee.{nan}
use Rattle.trcf.specs.Types.{differences}
use Rattle.trcf.specs.Transformer.{reciprocal, weight_at, normalized_scale, basic_drift, basic_shift}
use Rattle.trcf.proofs.TransformerLaws.{weight_at_view}
use Rattle.trcf.proofs.BlockLaws.{held_none, held_more}
use Prim.Native.Nat.{◌<◌}
use mathlib.Core.Path.{◌≡◌, sym, ap, ◌∙◌}
use native.Mathlib.Omega.{arith}
use lib.ListN.{get_or, length-set}
use Rattle.trcf.specs.TransformerCalls.{transformer_view}
use Rattle.trcf.proofs.transformer.channels_into.Goals as goal

pub loop-j-init : goal.loop-j-init
loop-j-init c =
    let P = c.requires.factors_len in
    (held_none _ _ _ _ _ _ P.3, P.0, P.1, P.2)

pub loop-j-preserved : goal.loop-j-preserved
unfolding normalized_scale basic_drift basic_shift
loop-j-preserved c =
    let c6 = c in
    let A = c.args in
    let L = c.loop-j in
    let T = transformer_view A.t A.s.now in
    let H = L.invariant.0 in
    let low : L.j < A.t.input_length = omega arith in (
      record {
        long = simp length-set H.long;
        factor = held_more (λ k. reciprocal (weight_at T k)) L.channels.factors L.j _ (omega arith)
            (c.reciprocal_of.ensures ∙ ap reciprocal (sym (weight_at_view A.t A.s.now L.j low))) H.factor;
        scale = held_more (normalized_scale T) L.channels.scales L.j _ (omega arith)
            c.normalized_scale.ensures H.scale;
        drift = held_more (basic_drift T) L.channels.drifts L.j _ (omega arith) c.narrow_mean_at.ensures H.drift;
        base = held_more (λ k. cond (differences A.t.transform_method) (get_or A.previous.now k nan) (basic_shift T k)) L.bases L.j _ (omega (arith, H.long))
            (c.base_at.ensures ∙ ap (λ (x : Bool). cond x (get_or A.previous.now L.j nan) (basic_shift T L.j)) c.is_differencing-carries.ensures) H.base;
      },
      simp length-set L.invariant.1,
      simp length-set L.invariant.2,
      simp length-set L.invariant.3,
    )

pub returns : goal.returns
returns c =
    let A = c.args in
    let L = c.loop-j in
    let e : L.j ≡ A.t.input_length = omega arith in
    rw e at L.invariant.0
