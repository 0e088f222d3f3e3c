-- `snapshot::kinds::tim_line` meets its contract. Assumes nothing.
use mathlib.Core.Path.{sym, ◌∙◌}
use Rattle.snapshot.specs.Steps.Judge.{tim_by, tim_test}
use Rattle.snapshot.proofs.LineTests.{check_yes, check_no}
use Rattle.snapshot.proofs.kinds.tim_line.Goals as goal

pub returns-then-not-times_fit : goal.returns-then-not-times_fit
unfolding tim_by
returns-then-not-times_fit c =
    let W = c.list_line-place in
    record {
      told = check_no (tim_test c.args.internal) _ W.result c.args.text.now _ W.ensures.told (sym c.times_fit.ensures ∙ c.if-not-times_fit.true);
      kept = W.ensures.kept;
      left = W.ensures.left;
    }

pub returns : goal.returns
unfolding tim_by
returns c =
    let W = c.list_line-place in
    record {
      told = check_yes (tim_test c.args.internal) _ W.result c.args.text.now _ W.ensures.told (sym c.times_fit.ensures ∙ c.if-not-times_fit.false);
      kept = W.ensures.kept;
      left = W.ensures.left;
    }
