-- The last of the part of the list that is there.
use Rattle.std.proofs.Common.{ap, ◌∙◌}
use Rattle.std.specs.Option.{unwrap_or}
use Rattle.trcf.proofs.ShingleLaws.{last_of_first}
use Rattle.trcf.proofs.shingle.last_of.Goals as goal

pub returns : goal.returns
returns c =
    c.unwrap_or.ensures
    ∙ ap (λ o. unwrap_or o 0) (c.copied.ensures ∙ c.last.ensures.value)
    ∙ last_of_first c.args.l.now c.args.n c.min.result c.min.ensures
