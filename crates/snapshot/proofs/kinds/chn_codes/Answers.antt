-- `snapshot::kinds::chn_codes` meets its contract. Assumes nothing.
use mathlib.Core.Path.{sym, ◌∙◌}
use Rattle.snapshot.specs.Read.{all_codes}
use Rattle.snapshot.specs.Steps.Judge.{chn_by}
use Rattle.snapshot.proofs.LineTests.{check_yes, check_no}
use Rattle.snapshot.proofs.kinds.chn_codes.Goals as goal

pub returns-then-not-codes_fit : goal.returns-then-not-codes_fit
unfolding chn_by
returns-then-not-codes_fit c =
    let W = c.list_line-place in
    record {
      told = check_no all_codes _ W.result c.args.text.now _ W.ensures.told (sym c.codes_fit.ensures ∙ c.if-not-codes_fit.true);
      kept = W.ensures.kept;
      left = W.ensures.left;
    }

pub returns : goal.returns
unfolding chn_by
returns c =
    let W = c.list_line-place in
    record {
      told = check_yes all_codes _ W.result c.args.text.now _ W.ensures.told (sym c.codes_fit.ensures ∙ c.if-not-codes_fit.false);
      kept = W.ensures.kept;
      left = W.ensures.left;
    }
