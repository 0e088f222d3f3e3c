-- The lengths that a turn-back is handed, as the definition of its rows has them. Only private contracts and proofs cite this.
use Rattle.std.specs.Prelude.{length, Float}
use Rattle.ranges.specs.declared.rangevector.RangeVector.{RangeVector}
use Rattle.trcf.specs.Calls.{Sizes, sizes}
use Rattle.trcf_forecast.specs.declared.forecast.Lengths.{Lengths}

abbrev pub sizes_in : Lengths → Sizes
sizes_in n =
    sizes n.range.values n.range.upper n.range.lower n.range_out.values n.range_out.upper n.range_out.lower
    n.times_out.values n.times_out.upper n.times_out.lower

-- the lengths of the forecast and of the lists that are lent for its numbers and times
abbrev pub sizes_of : RangeVector Float → RangeVector Float → RangeVector Float → Sizes
sizes_of f n t =
    sizes (length f.values.now) (length f.upper.now) (length f.lower.now) (length n.values.now) (length n.upper.now) (length n.lower.now)
    (length t.values.now) (length t.upper.now) (length t.lower.now)
