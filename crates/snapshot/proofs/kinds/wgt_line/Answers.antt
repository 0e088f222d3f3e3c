-- `snapshot::kinds::wgt_line` meets its contract. Assumes nothing.
use mathlib.Core.Path.{sym, ◌∙◌}
use Rattle.snapshot.specs.Steps.Judge.{wgt_by, wgt_test}
use Rattle.snapshot.proofs.LineTests.{check_yes, check_no}
use Rattle.snapshot.proofs.kinds.wgt_line.Goals as goal

pub returns-then-not-weights_fit : goal.returns-then-not-weights_fit
unfolding wgt_by
returns-then-not-weights_fit c =
    let W = c.list_line-place in
    record {
      told = check_no (wgt_test c.args.method) _ W.result c.args.text.now _ W.ensures.told (sym c.weights_fit.ensures ∙ c.if-not-weights_fit.true);
      kept = W.ensures.kept;
      left = W.ensures.left;
    }

pub returns : goal.returns
unfolding wgt_by
returns c =
    let W = c.list_line-place in
    record {
      told = check_yes (wgt_test c.args.method) _ W.result c.args.text.now _ W.ensures.told (sym c.weights_fit.ensures ∙ c.if-not-weights_fit.false);
      kept = W.ensures.kept;
      left = W.ensures.left;
    }
