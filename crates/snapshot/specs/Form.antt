-- The form of a snapshot, as far as the numbers that it holds go: document 01, 'Trace text'. A text has the form when it is a text (`TextOf`) of a w of the form.
use Rattle.std.specs.Prelude.{ℕ, ◌*◌, ◌≤◌, ◌≡◌, true, false, List, [], ◌∷◌, ◌⊎◌, length, replicate}
use Rattle.std.specs.Float.{binary32, binary64}
use Rattle.common.specs.Deviation.{count_limit}
use Rattle.trcf.specs.Types.{normalizes}
use Rattle.trcf.specs.Settings.{Valid, dimension, waiting, Fits, Whole}
use Rattle.trcf.specs.Calls.{finite, seen_limit}
use Rattle.trcf.specs.Preprocessor.{State, statistics_length}

-- "none falling", and none below p
abbrev pub Climbs : ℕ → List ℕ → Type 0
Climbs p [] = Unit {0}
Climbs p (t ∷ ts) = (p ≤ t) × Climbs t ts

pub record Form (w : State) : Type 0 where
  -- "Settings obey rows 1 to 9."
  pub valid : Valid w.settings
  -- every float is one of its width, and every whole number at most 2^64 − 1
  pub statistics_fit : Fits binary64 w.statistics
  pub input_fits : Fits binary32 w.last_shingled_input
  pub point_fits : Fits binary32 w.last_shingled_point
  pub initial_fit : Fits binary32 w.initial_values
  pub times_fit : Whole w.previous_timestamps
  pub initial_times_fit : Whole w.initial_timestamps
  -- "5d lines … then time's five; `inp` d × k f32; `pnt` `get_dimension` f32; `tim` k times"
  pub statistics_long : length w.statistics ≡ statistics_length w.settings
  pub input_long : length w.last_shingled_input ≡ w.settings.d * w.settings.k
  pub point_long : length w.last_shingled_point ≡ dimension w.settings
  pub times_long : length w.previous_timestamps ≡ w.settings.k
  -- "`cnt` values_seen, internal (each ≤ 2^63 − 1), count"; of document 02, #101: "and the `cnt` line take the wider range"
  pub seen_fits : w.values_seen ≤ seen_limit
  pub internal_fits : w.internal_timestamp ≤ seen_limit
  pub count_fits : w.count ≤ count_limit
  -- "`tim` k times, none falling"; "With internal 0 all `tim` are 0."
  pub times_climb : Climbs 0 w.previous_timestamps
  pub times_zero : w.internal_timestamp ≡ 0 → w.previous_timestamps ≡ replicate w.settings.k 0
  -- "`buf` time, d finite f32, times not falling"
  pub initial_long : length w.initial_values ≡ length w.initial_timestamps * w.settings.d
  pub initial_finite : finite w.initial_values ≡ true
  pub initial_climb : Climbs 0 w.initial_timestamps
  -- "While waiting, `buf` lines = values_seen and internal is 0"
  pub while_waiting : waiting w.settings w.values_seen ≡ true → (length w.initial_timestamps ≡ w.values_seen) × (w.internal_timestamp ≡ 0)
  -- "later none, or start lines under methods 4 and 5 (with such lines, internal is 0 if values_seen = start)"
  pub later : waiting w.settings w.values_seen ≡ false
      → (w.initial_timestamps ≡ [])
      ⊎ ((normalizes w.settings.method ≡ true) × (length w.initial_timestamps ≡ w.settings.start) × (w.values_seen ≡ w.settings.start → w.internal_timestamp ≡ 0))
