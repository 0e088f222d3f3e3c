-- Refused by its row, or the worker's answer.
use Rattle.trcf.specs.TransformerCalls.{transformer_scale}
use Rattle.trcf.proofs.CallLaws.{written_err, written_done}
use Rattle.trcf.proofs.transformer.WeightedTransformer.scale.Goals as goal

pub returns-in_err-output_row : goal.returns-in_err-output_row
unfolding transformer_scale
returns-in_err-output_row c = written_err _ _ _ _ _ c.from_residual.ensures.1 c.in_err-output_row.ensures.value

pub returns : goal.returns
unfolding transformer_scale
returns c = written_done _ _ _ _ c.in_ok-output_row.ensures.value c.scale_into.ensures
