-- `snapshot_save::save::save` meets its contract: the head's own rows first, then its callee's promise. Assumes nothing.
use mathlib.Core.Path.{sym, ◌∙◌}
use Rattle.snapshot.proofs.SaveLaws.{saved_refused, saved_misfit, saved_held}
use Rattle.snapshot_save.proofs.save.save.Goals as goal

pub returns-in_err-head_settings_row : goal.returns-in_err-head_settings_row
returns-in_err-head_settings_row c = saved_refused _ _ _ _ _ c.from_residual.ensures.1 c.in_err-head_settings_row.ensures

pub returns-then-is_misfit : goal.returns-then-is_misfit
returns-then-is_misfit c = saved_misfit _ _ _ (sym c.in_ok-head_settings_row.ensures) (sym c.is_misfit.ensures ∙ c.if-is_misfit.true)

pub returns : goal.returns
returns c = saved_held _ _ _ (sym c.in_ok-head_settings_row.ensures) (sym c.is_misfit.ensures ∙ c.if-is_misfit.false) _ c.save_held.ensures
