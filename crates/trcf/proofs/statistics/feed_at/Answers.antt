-- `trcf::statistics::feed_at` meets its contract: what its parts promise, one after the other. Assumes nothing.
use Rattle.trcf.specs.Transformer.{fed_at, deviations_at, statistic_at}
use Rattle.trcf.proofs.statistics.feed_at.Goals as goal

pub feed_timestamps-u-requires : goal.feed_timestamps-u-requires
unfolding deviations_at statistic_at
feed_timestamps-u-requires c = let h = c.requires in
    rw (c.list-l.ensures, c.deviations_at-t.ensures)
    ((h.count_lt_count_limit, h.count_lt_count_limit, h.count_lt_count_limit, h.count_lt_count_limit, h.count_lt_count_limit), (h.f_value, h.f_value, h.g_value, h.g_value, h.g_value))

pub shape_of-s : goal.shape_of-s
shape_of-s c = c.put_deviations.auto.s

pub returns : goal.returns
unfolding fed_at
returns c =
    rw (
      c.put_deviations.ensures,
      c.gather-v.ensures,
      c.feed_timestamps-u.ensures,
      c.list-l.ensures,
      c.deviations_at-t.ensures,
    )
