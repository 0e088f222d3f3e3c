-- Refused by its row, or the channels fed in the front of the list.
use Rattle.std.proofs.Common.{refl, ◌∙◌}
use Rattle.common.proofs.DeviationLaws.{next_factor_lem}
use Rattle.trcf.specs.TransformerCalls.{transformer_update}
use Rattle.trcf.proofs.CallLaws.{made_err, made_done, updated_over}
use Rattle.trcf.proofs.transformer.WeightedTransformer.update.Goals as goal

pub returns-in_err-update_row : goal.returns-in_err-update_row
unfolding transformer_update
returns-in_err-update_row c = made_err _ _ _ _ _ _ c.from_residual.ensures.1 c.in_err-update_row.ensures.value

pub update_channels-requires-clause-f_value : goal.update_channels-requires-clause-f_value
update_channels-requires-clause-f_value c = c.next_factor-f.ensures ∙ next_factor_lem _ _ c.in_ok-update_row.ensures.d_nonzero.4

pub update_channels-requires-clause-g_value : goal.update_channels-requires-clause-g_value
update_channels-requires-clause-g_value c = c.next_factor-g.ensures ∙ next_factor_lem _ _ c.in_ok-update_row.ensures.d_nonzero.4

pub returns : goal.returns
unfolding transformer_update
returns c =
    let a = c.args in
    let r = c.in_ok-update_row.ensures in
    made_done _ _ _ _ _ _ r.value refl (updated_over a.self a.statistics.now a.input.now a.previous.now _ r.d_nonzero.5 c.update_channels.ensures)
