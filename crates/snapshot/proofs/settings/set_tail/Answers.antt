-- `snapshot::settings::set_tail` meets its contract. Assumes nothing.
use mathlib.Core.Path.{sym}
use mathlib.Core.Option.{none, some}
use lib.ListN.{drop}
use Rattle.snapshot.proofs.SettingsLaws.{tail_first, tail_second, tail_good}
use Rattle.snapshot.proofs.settings.set_tail.Goals as goal

pub returns-in_err-decay : goal.returns-in_err-decay
returns-in_err-decay c = rw c.from_residual.ensures (tail_first (drop c.args.at c.args.text.now) (sym c.in_err-decay.ensures))

pub returns-in_err-weight_time : goal.returns-in_err-weight_time
returns-in_err-weight_time c =
    rw c.from_residual-in_err-weight_time.ensures (tail_second (drop c.args.at c.args.text.now) _ _ (sym c.in_ok-decay.ensures) (sym c.in_err-weight_time.ensures))

pub returns-in_err-end : goal.returns-in_err-end
returns-in_err-end c =
    rw c.from_residual-in_err-end.ensures (tail_good (drop c.args.at c.args.text.now) _ _ (sym c.in_ok-decay.ensures) _ _ none (sym c.in_ok-weight_time.ensures) c.in_err-end.ensures)

pub returns : goal.returns
returns c = tail_good (drop c.args.at c.args.text.now) _ _ (sym c.in_ok-decay.ensures) _ _ (some _) (sym c.in_ok-weight_time.ensures) c.in_ok-end.ensures
