-- The steps of filling in: a gap of one channel, a reading passed, a channel. Private contracts only.
use Rattle.std.specs.Prelude.{ℕ, ◌+◌, ◌*◌, ◌/◌, ◌%◌, ◌≤◌, ◌<◌, Bool, cond, ◌&&◌, List, ◌≡◌, ltb, leb, eqb, length, get_or, Float, Option, Some, None}
use Rattle.std.specs.Float.{nan}
use Rattle.series.specs.declared.imputation.ImputationMethod.{ImputationMethod}
use Rattle.series.specs.declared.imputation.Present.{Present}
use Rattle.series.specs.declared.imputation.Channel.{Channel}
use Rattle.series.specs.declared.imputation.Gap.{Gap}
use Rattle.series.specs.Imputation.{is_present, present_at, fill_of, missing_of, imputed_at, by_place}

-- a present cell before reading i, and one at or after it
abbrev pub Under : Option Present → ℕ → Type 0
Under (Some p) i = p.reading ≤ i
Under None i = Unit {0}

abbrev pub Above : Option Present → ℕ → Type 0
Above (Some p) i = i ≤ p.reading
Above None i = Unit {0}

-- the place of a cell in its channel's reading lies in the list
pub record CellInside (ch : Channel) (readings cells : ℕ) : Type 0 where
  pub channel : ch.c < ch.d
  pub room : readings * ch.d ≤ cells

-- cells, marks and fixed values of one shape, by their numbers
pub record CellsShaped (d cells marks fixed : ℕ) : Type 0 where
  pub some : 0 < d
  pub narrow : d ≤ 16
  pub whole : cells / d * d ≡ cells
  pub marked : marks ≡ cells
  pub fixes : fixed ≡ d

-- place k belongs to channel c and to one of the readings start .. end − 1
unfoldable pub inside : ℕ → ℕ → ℕ → ℕ → ℕ → Bool
inside d c start end k = eqb (k % d) c && (leb start (k / d) && ltb (k / d) end)

-- the readings of an open gap up to `end` are filled: place k, where x stands
unfoldable pub gap_at : Channel → Gap → ℕ → Option Present → ℕ → Float → Float
gap_at ch gap end after k x =
    cond (inside ch.d ch.c gap.start end k) (fill_of ch.method gap.before after (k / ch.d) ch.fixed) x

abbrev pub gap_of : Channel → Gap → ℕ → Option Present → List Float → List Float
gap_of ch gap end after l = by_place (gap_at ch gap end after) l

abbrev pub channel : ImputationMethod → ℕ → ℕ → Float → Channel
channel m d c f = record { method = m; d = d; c = c; fixed = f }

abbrev pub gap_from : ℕ → Option Present → Gap
gap_from s b = record { start = s; before = b }

pub record Passed : Type 0 where
  pub gap : Gap
  pub cells : List Float

abbrev pub passing : Gap → List Float → Passed
passing g l = record { gap = g; cells = l }

-- reading i is passed: a present cell closes the gap before it, and the next gap opens after it
unfoldable pub passed_of : Channel → Gap → ℕ → List ℕ → List Float → Passed
passed_of ch gap i marks l =
    let here = present_at i (get_or l (i * ch.d + ch.c) nan) in
    cond (is_present (get_or marks (i * ch.d + ch.c) 0)) (passing (gap_from (i + 1) here) (gap_of ch gap i here l)) (passing gap l)

-- the channel's readings before `end` are finished: place k, where x stands
unfoldable pub done_at : Channel → List ℕ → List Float → ℕ → ℕ → Float → Float
done_at ch marks l end k x =
    cond (inside ch.d ch.c 0 end k) (cond (is_present (get_or marks k 0)) x (missing_of ch.method ch.d l marks ch.fixed ch.c (k / ch.d))) x

-- the whole channel
abbrev pub channel_of : Channel → List ℕ → List Float → List Float
channel_of ch marks l = by_place (done_at ch marks l (length l / ch.d)) l

-- the channels below c: place k, where x stands
unfoldable pub below_at : ImputationMethod → ℕ → List Float → List ℕ → List Float → ℕ → ℕ → Float → Float
below_at method d l marks fixed c k x = cond (ltb (k % d) c) (imputed_at method d l marks fixed k x) x
