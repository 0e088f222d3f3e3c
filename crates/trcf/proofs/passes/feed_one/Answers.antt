-- `trcf::passes::feed_one` meets its contract: one statistic read, fed and written. Assumes nothing.
use Rattle.trcf.specs.Transformer.{statistic_at}
use Rattle.trcf.specs.Steps.Passes.{step_at}
use Rattle.trcf.proofs.passes.feed_one.Goals as goal

pub step-u-requires : goal.step-u-requires
unfolding statistic_at
step-u-requires c = let h = c.requires in
    record { count_lt_count_limit = rw c.statistic_at-t.ensures h.count_lt_count_limit; factor = rw c.statistic_at-t.ensures h.f_value }

pub returns : goal.returns
unfolding step_at
returns c =
    let t = c.statistic_at-t.ensures in
    let u = c.step-u.ensures in
    record { value = rw (u, t); s_after = rw (c.put_statistic.ensures, u, t) }
