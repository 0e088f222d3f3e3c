-- `trcf::transformer::forecast_fitting` meets its contract: the invariant is that of the first i blocks, for every transformer that the lists hold. Assumes nothing.
use Prim.Native.Nat.{ℕ, ◌*◌, ◌/◌}
use mathlib.Core.Path.{◌≡◌, refl, sym, ap, ◌∙◌}
use native.Mathlib.Omega.{arith}
use lib.ListN.{length}
use Rattle.ranges.specs.RangeVector.{held}
use Rattle.ranges.proofs.RangeSteps.{same_loans, same_since}
use Rattle.trcf.specs.TransformerCalls.{transformer_view}
use Rattle.trcf.proofs.BlockLaws.{turned_to, turned_none, turned_more, turned_all, block_room}
use Rattle.trcf.proofs.transformer.forecast_fitting.Goals as goal

pub nonzero_div-n : goal.nonzero_div-n
nonzero_div-n c = omega (arith, c.requires.sound.some)

pub channels_into-requires : goal.channels_into-requires
channels_into-requires c =
    let c8 = c in
    record { sound = c.requires.sound; previous_len = c.requires.previous_len; factors_len = (refl, refl, refl, refl) }

pub loop-i-init : goal.loop-i-init
loop-i-init c =
    let c8 = c in
    let A = c.args in
    let H = c.channels_into.ensures in (
      λ t em ed h. turned_none t A.previous.now (held A.range.now) _ _ _ _ (c.requires.previous_len ∙ sym ed) h,
      H.long,
      same_loans A.range.now,
    )

pub turn_block-requires : goal.turn_block-requires
turn_block-requires c =
    let c8 = c in
    let c16 = c in
    let A = c.args in
    let L = c.loop-i in
    let P = c.requires in
    let x = block_room L.i A.t.input_length (length A.range.now.values.now) (omega arith) in
    let S = L.invariant.2 in
    record {
      d_bound = (P.sound.few, omega (arith, x, S.values_length), L.invariant.1);
      upper_len = (omega (arith, P.upper_len.0, S.upper_length, S.values_length), omega (arith, P.upper_len.1, S.lower_length, S.values_length));
    }

pub loop-i-preserved : goal.loop-i-preserved
loop-i-preserved c =
    let c8 = c in
    let c16 = c in
    let c24 = c in
    let A = c.args in
    let L = c.loop-i in
    let P = c.requires in
    let B = c.turn_block in (
      λ t em ed h. turned_more t A.previous.now L.i (held A.range.now) (held L.range) _
          A.t.transform_method A.t.input_length _ _ _ _ L.bases _ em ed (omega (arith, ed, P.sound.some)) (P.previous_len ∙ sym ed) h
          (L.invariant.0 t em ed h) B.ensures.lower_after B.ensures.carried,
      B.ensures.carried.long ∙ L.invariant.1,
      same_since L.invariant.2 B.ensures.loans,
    )

pub returns-clause-after : goal.returns-clause-after
returns-clause-after c =
    let c8 = c in
    let A = c.args in
    let P = c.requires in
    let L = c.loop-i in
    let T = transformer_view A.t A.s.now in
    let v = held A.range.now in
    let e : L.i ≡ length A.range.now.values.now / A.t.input_length = omega arith in
    (L.invariant.0 T refl refl c.channels_into.ensures).places
    ∙ ap (λ (n : ℕ). turned_to T A.previous.now (n * A.t.input_length) v) e
    ∙ turned_all T A.previous.now v (record { upper = P.upper_len.0; lower = P.upper_len.1 }) P.sound.some P.previous_len P.values_value
