-- Refused by its row, or the worker's answer.
use Rattle.trcf.specs.TransformerCalls.{transformer_invert}
use Rattle.trcf.proofs.CallLaws.{written_err, written_done}
use Rattle.trcf.proofs.transformer.WeightedTransformer.invert.Goals as goal

pub returns-in_err-transform_row : goal.returns-in_err-transform_row
unfolding transformer_invert
returns-in_err-transform_row c = written_err _ _ _ _ _ c.from_residual.ensures.1 c.in_err-transform_row.ensures.value

pub returns : goal.returns
unfolding transformer_invert
returns c = written_done _ _ _ _ c.in_ok-transform_row.ensures.value c.invert_fitting.ensures
