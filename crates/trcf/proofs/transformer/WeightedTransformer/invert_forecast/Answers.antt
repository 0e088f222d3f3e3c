-- Refused by its row, or the worker's answer.
use Rattle.trcf.specs.TransformerCalls.{transformer_invert_forecast}
use Rattle.trcf.proofs.CallLaws.{ranges_err, ranges_done}
use Rattle.trcf.proofs.transformer.WeightedTransformer.invert_forecast.Goals as goal

pub returns-in_err-forecast_row-clause-after : goal.returns-in_err-forecast_row-clause-after
unfolding transformer_invert_forecast
returns-in_err-forecast_row-clause-after c = ranges_err _ _ _ _ _ c.from_residual.ensures.1 c.in_err-forecast_row.ensures.value

pub returns-clause-after : goal.returns-clause-after
unfolding transformer_invert_forecast
returns-clause-after c = ranges_done _ _ _ _ c.in_ok-forecast_row.ensures.value c.forecast_fitting.ensures.after
