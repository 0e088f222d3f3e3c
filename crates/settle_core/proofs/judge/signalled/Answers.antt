-- `settle_core::judge::signalled` meets its contract. Assumes nothing.
use mathlib.Core.Path.{sym, ◌∙◌}
use mathlib.Core.List.{map}
use lib.ListN.{take, drop}
use Rattle.settling.specs.Steps.{signal_of}
use Rattle.settle_core.specs.Steps.{pair_settings}
use Rattle.settle_core.proofs.JudgeLaws.{ninth, no_signal_there, signal_there}
use Rattle.settle_core.proofs.judge.signalled.Goals as goal

pub returns-then-opens_at-clause-result_value : goal.returns-then-opens_at-clause-result_value
returns-then-opens_at-clause-result_value c =
    let a = c.args in
    ninth (map pair_settings (take a.n a.pairs)) (drop a.at a.text.now) (sym c.opens_at.ensures ∙ c.if-opens_at.true)

pub returns-in-Some-clause-result_value : goal.returns-in-Some-clause-result_value
returns-in-Some-clause-result_value c =
    let a = c.args in
    signal_there (map pair_settings (take a.n a.pairs)) (drop a.at a.text.now) (sym c.opens_at.ensures ∙ c.if-opens_at.false)
    (signal_of c.in-Some.signal) c.in-Some.ensures

pub returns-in-None-clause-result_value : goal.returns-in-None-clause-result_value
returns-in-None-clause-result_value c =
    let a = c.args in
    no_signal_there (map pair_settings (take a.n a.pairs)) (drop a.at a.text.now) (sym c.opens_at.ensures ∙ c.if-opens_at.false) c.in-None.ensures
