-- `snapshot::kinds::cnt_line` meets its contract. Assumes nothing.
use mathlib.Core.Path.{sym, ◌∙◌}
use lib.ListN.{drop}
use Rattle.snapshot.proofs.LineTests.{cnt_lineless, cnt_good, cnt_bad}
use Rattle.snapshot.proofs.kinds.cnt_line.Goals as goal

pub returns-in_err-end : goal.returns-in_err-end
returns-in_err-end c = rw c.from_residual.ensures (cnt_lineless c.args.method c.args.start (drop c.args.at c.args.text.now) c.in_err-end.ensures.told)

pub returns-then-not-counts_fit : goal.returns-then-not-counts_fit
returns-then-not-counts_fit c =
    cnt_bad c.args.method c.args.start (drop c.args.at c.args.text.now) _ _ c.in_ok-end.ensures.told (sym c.counts_fit.ensures ∙ c.if-not-counts_fit.true)

pub returns : goal.returns
returns c =
    cnt_good c.args.method c.args.start (drop c.args.at c.args.text.now) _ _ c.in_ok-end.ensures.told (sym c.counts_fit.ensures ∙ c.if-not-counts_fit.false)
