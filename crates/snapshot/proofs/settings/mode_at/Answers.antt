-- `snapshot::settings::mode_at` meets its contract. Assumes nothing.
use mathlib.Core.Path.{sym, ap, ◌∙◌}
use mathlib.Core.Bool.{Bool, cond}
use mathlib.Core.Option.{none, some}
use Rattle.trcf.specs.Types.{mode_of_letter}
use Rattle.snapshot.proofs.SettingsLaws.{mode_named_lem, mode_end}
use Rattle.snapshot.proofs.settings.mode_at.Goals as goal

pub mode_of_letter-mode-requires : goal.mode_of_letter-mode-requires
mode_of_letter-mode-requires c = tt

pub is_imputing-requires : goal.is_imputing-requires
is_imputing-requires c = tt

pub returns-then-not-is_imputing : goal.returns-then-not-is_imputing
returns-then-not-is_imputing c =
    let a = c.args in
    ap (λ (b : Bool). cond b none (some c.mode_of_letter-mode.result)) (sym (sym c.is_imputing.ensures ∙ c.if-not-is_imputing.true))
    ∙ mode_named_lem a.text.now a.at c.mode_of_letter-mode.result c.if-at-text.true
    (c.mode_of_letter-mode.ensures ∙ ap mode_of_letter c.from.ensures)

pub returns-else-not-is_imputing : goal.returns-else-not-is_imputing
returns-else-not-is_imputing c =
    let a = c.args in
    ap (λ (b : Bool). cond b none (some c.mode_of_letter-mode.result)) (sym (sym c.is_imputing.ensures ∙ c.if-not-is_imputing.false))
    ∙ mode_named_lem a.text.now a.at c.mode_of_letter-mode.result c.if-at-text.true
    (c.mode_of_letter-mode.ensures ∙ ap mode_of_letter c.from.ensures)

pub returns-else-at-text : goal.returns-else-at-text
returns-else-at-text c = mode_end c.args.text.now c.args.at c.if-at-text.false
