-- `capi::statistic::tell_statistic` meets its contract: by the test of the output's length. Assumes nothing.
use Rattle.capi.proofs.StatisticLaws.{statistic_short, statistic_fits}
use Rattle.capi.proofs.statistic.tell_statistic.Goals as goal

pub returns-then-output-lt3 : goal.returns-then-output-lt3
returns-then-output-lt3 c = statistic_short c.args.s c.args.output.now c.if-output-lt3.true

pub returns : goal.returns
returns c = statistic_fits c.args.s c.args.output.now c.if-output-lt3.false
