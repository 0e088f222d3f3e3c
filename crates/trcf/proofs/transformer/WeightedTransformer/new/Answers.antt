-- Refused by its row, or a head and cleared statistics.
use Rattle.std.proofs.Common.{List, ap, arith, ◌*◌}
use lib.Ieee.{Float}
use Rattle.common.specs.Deviation.{zero64}
use Rattle.trcf.specs.TransformerCalls.{transformer_new, transformer_head}
use Rattle.trcf.proofs.CallLaws.{made_err, made_done, cleared}
use Rattle.trcf.proofs.LengthLaws.{roomy}
use Rattle.trcf.proofs.transformer.WeightedTransformer.new.Goals as goal

pub returns-in_err-new_row : goal.returns-in_err-new_row
unfolding transformer_new
returns-in_err-new_row c = made_err _ _ _ _ _ _ c.from_residual.ensures.1 c.in_err-new_row.ensures.value

pub returns : goal.returns
unfolding transformer_new
returns c =
    let a = c.args in
    let r = c.in_ok-new_row.ensures in
    let filled = c.fill.ensures.after (λ y h. h) in
    let own = roomy _ c.padded.ensures (omega (arith, r.d_nonzero.1, r.d_nonzero.2)) in
    made_done _ _ _ _ _ _ r.value
    (ap (λ (w : List Float). transformer_head a.transform_method a.input_length a.transform_decay w 0) own)
    (cleared (15 * a.input_length) a.statistics.now _ zero64 r.d_nonzero.3 filled)
