-- The five time statistics as a list of records: document 01, "the five time statistics are a lent list of records updated in one pass".
use Rattle.std.specs.Prelude.{ℕ, ◌<◌, List, [], ◌∷◌, get_or, ◌≡◌, Float}
use Rattle.std.specs.Float.{nan}
use Rattle.common.specs.declared.deviation.Deviation.{Deviation}
use Rattle.common.specs.Deviation.{statistic, count_limit, factor_of}
use Rattle.trcf.specs.declared.statistics.Deviations.{Deviations}

abbrev pub listed : Deviations → List Deviation
listed t = t.value ∷ t.difference ∷ t.deviation ∷ t.difference_mean ∷ t.difference_deviation ∷ []

-- the record at a place of the list
abbrev pub record_at : List Deviation → ℕ → Deviation
record_at l n = get_or l n (statistic nan nan nan nan 0)

abbrev pub gathered : List Deviation → Deviations
gathered l =
    record {
      value = record_at l 0;
      difference = record_at l 1;
      deviation = record_at l 2;
      difference_mean = record_at l 3;
      difference_deviation = record_at l 4;
    }

-- none of the five has been fed as often as can be
abbrev pub Unspent : Deviations → Type 0
Unspent t =
    (t.value.count < count_limit) × (t.difference.count < count_limit) × (t.deviation.count < count_limit) × (t.difference_mean.count < count_limit)
    × (t.difference_deviation.count < count_limit)

-- what updates this statistic multiply by
abbrev pub IsFactor : Float → Deviation → Type 0
IsFactor f s = f ≡ factor_of s.discount s.count

-- f is the factor of the first two, and g that of the three with a tenth of the decay: all five have one count
abbrev pub Share : Float → Float → Deviations → Type 0
Share f g t = IsFactor f t.value × IsFactor f t.difference × IsFactor g t.deviation × IsFactor g t.difference_mean × IsFactor g t.difference_deviation

-- the five can be fed, by these factors
abbrev pub Feedable : Float → Float → Deviations → Type 0
Feedable f g t = Unspent t × Share f g t
