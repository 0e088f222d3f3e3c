-- Below the limit the update is not refused.
use Rattle.std.proofs.Common.{◌∙◌}
use Rattle.trcf.proofs.TransformerLaws.{taken_step}
use Rattle.trcf.proofs.statistics.step.Goals as goal

pub returns : goal.returns
returns c =
    c.unwrap_or.ensures
    ∙ taken_step c.args.t c.args.f c.args.x c.update_by.result c.requires.count_lt_count_limit c.requires.factor c.update_by.ensures
