-- `settling::run::pair_row` meets its contract. Assumes nothing.
use mathlib.Core.Path.{sym, ◌∙◌}
use borrow.Author.Tests.{eq-eqb, ne_eqb}
use Rattle.refusal.proofs.RefusalLaws.{handed_on}
use Rattle.trcf.proofs.NumberLaws.{number_zero}
use Rattle.trcf.proofs.OutcomeLaws.{or_else_is}
use Rattle.settling.specs.Settling.{pair_row}
use Rattle.settling.proofs.run.pair_row.Goals as goal

pub returns-in_err-settings_row : goal.returns-in_err-settings_row
unfolding pair_row
returns-in_err-settings_row c =
    let r = c.in_err-settings_row.field-0.0 in
    let e = c.in_err-settings_row.ensures.value in
    handed_on r c.from_residual.result c.from_residual.ensures.1
    ∙ e ∙ sym (or_else_is _ _ (λ z. number_zero r (e ∙ z)))

pub returns-then-builder-ne1 : goal.returns-then-builder-ne1
unfolding pair_row
returns-then-builder-ne1 c =
    sym (rw (sym c.in_ok-settings_row.ensures.value, ne_eqb c.args.builder.input_dimensions 1 c.if-builder-ne1.true))

pub returns : goal.returns
unfolding pair_row
returns c =
    sym (rw (sym c.in_ok-settings_row.ensures.value, eq-eqb c.args.builder.input_dimensions 1 c.if-builder-ne1.false))
