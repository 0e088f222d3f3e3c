-- `snapshot::settings::set_line` meets its contract. Assumes nothing.
use mathlib.Core.Path.{sym, ◌∙◌}
use Rattle.snapshot.proofs.SettingsLaws.{set_nameless, set_tabless, set_modeless, set_wholeless, set_methodless, set_tailless, set_unfit, set_good}
use Rattle.snapshot.proofs.settings.set_line.Goals as goal

pub returns-in_err-p : goal.returns-in_err-p
returns-in_err-p c = rw c.from_residual.ensures (set_nameless c.args.text.now c.in_err-p.ensures)

pub returns-in_err-q : goal.returns-in_err-q
returns-in_err-q c = rw c.from_residual-in_err-q.ensures (set_tabless c.args.text.now _ c.in_ok-p.ensures c.in_err-q.ensures)

pub returns-in_err-mode : goal.returns-in_err-mode
returns-in_err-mode c = rw c.from_residual-in_err-mode.ensures (set_modeless c.args.text.now _ c.in_ok-p.ensures c.in_ok-q.q c.in_ok-q.ensures c.in_err-mode.ensures)

pub returns-in_err-s : goal.returns-in_err-s
returns-in_err-s c =
    rw c.from_residual-in_err-s.ensures (set_wholeless c.args.text.now _ c.in_ok-p.ensures c.in_ok-q.q c.in_ok-q.ensures c.in_ok-mode.mode c.in_ok-mode.ensures c.in_err-s.ensures.told)

pub returns-in_err-method : goal.returns-in_err-method
returns-in_err-method c =
    rw c.from_residual-in_err-method.ensures (set_methodless c.args.text.now _ c.in_ok-p.ensures c.in_ok-q.q c.in_ok-q.ensures c.in_ok-mode.mode c.in_ok-mode.ensures
    _ _ c.in_ok-s.ensures.told c.in_err-method.ensures)

pub returns-in_err-tail : goal.returns-in_err-tail
returns-in_err-tail c =
    rw c.from_residual-in_err-tail.ensures (set_tailless c.args.text.now _ c.in_ok-p.ensures c.in_ok-q.q c.in_ok-q.ensures c.in_ok-mode.mode c.in_ok-mode.ensures
    _ _ c.in_ok-s.ensures.told c.in_ok-method.method c.in_ok-method.ensures c.in_err-tail.ensures)

pub returns-then-not-settings_fit : goal.returns-then-not-settings_fit
returns-then-not-settings_fit c =
    set_unfit c.args.text.now _ c.in_ok-p.ensures c.in_ok-q.q c.in_ok-q.ensures c.in_ok-mode.mode c.in_ok-mode.ensures _ _ c.in_ok-s.ensures.told
    c.in_ok-method.method c.in_ok-method.ensures _ _ _ c.in_ok-tail.ensures (sym c.settings_fit.ensures ∙ c.if-not-settings_fit.true)

pub returns : goal.returns
returns c =
    set_good c.args.text.now _ c.in_ok-p.ensures c.in_ok-q.q c.in_ok-q.ensures c.in_ok-mode.mode c.in_ok-mode.ensures _ _ c.in_ok-s.ensures.told
    c.in_ok-method.method c.in_ok-method.ensures _ _ _ c.in_ok-tail.ensures (sym c.settings_fit.ensures ∙ c.if-not-settings_fit.false)
