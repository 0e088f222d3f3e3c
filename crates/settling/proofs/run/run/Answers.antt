-- `settling::run::run` meets its contract. Assumes nothing.
use mathlib.Core.Path.{refl, sym, ◌∙◌}
use mathlib.Core.List.{[], ◌∷◌}
use native.Mathlib.Omega.{arith}
use borrow.Author.Tests.{not-true, not-false}
use Rattle.trcf.specs.View.{settings_from}
use Rattle.trcf.proofs.NumberLaws.{number_zero}
use Rattle.settling.specs.Steps.{signal_of}
use Rattle.settling.proofs.SignalLaws.{limited}
use Rattle.settling.proofs.StepLaws.{settled_err}
use Rattle.settling.proofs.Theorem.{run_refused, run_outside, run_done}
use Rattle.settling.proofs.run.run.Goals as goal

pub returns-in_err-pair_row : goal.returns-in_err-pair_row
returns-in_err-pair_row c =
    let a = c.args in
    let r = c.in_err-pair_row.field-0.0 in
    settled_err r c.from_residual.result c.from_residual.ensures.1
    ∙ run_refused (settings_from a.builder (a.weight ∷ []) (0 ∷ [])) (signal_of a.signal) _ c.in_err-pair_row.ensures (number_zero r)
    _ refl _ refl

pub returns-then-not-in_limits : goal.returns-then-not-in_limits
returns-then-not-in_limits c =
    let a = c.args in
    let l = c.in_limits in
    run_outside (settings_from a.builder (a.weight ∷ []) (0 ∷ [])) (signal_of a.signal) (sym c.in_ok-pair_row.ensures)
    (sym l.ensures ∙ not-true l.result (cc)) _ refl _ refl

pub readings-requires : goal.readings-requires
readings-requires c = sym c.in_limits.ensures ∙ not-false c.in_limits.result (cc)

pub returns : goal.returns
returns c =
    let a = c.args in
    let l = c.in_limits in
    let e = sym l.ensures ∙ not-false l.result (cc) in
    run_done (settings_from a.builder (a.weight ∷ []) (0 ∷ [])) (signal_of a.signal) c.build_arguments.ensures
    (sym c.in_ok-pair_row.ensures) e
    (omega (arith, (limited a.signal e).readings)) _ refl _ c.readings.ensures
