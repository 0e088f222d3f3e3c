-- `save` (document 01: put away): "the bytes are the rendered text", or a row with nothing written: what could not be taken up again is not put away.
use Rattle.std.specs.Prelude.{Result, Ok, Err, ℕ, ◌+◌, ◌*◌, Bool, cond, not, ◌&&◌, ◌||◌, List, ltb, leb, eqb, length}
use Rattle.refusal.specs.Lent.{over}
use Rattle.refusal.specs.Refusal.{number_of}
use Rattle.refusal.specs.declared.Refusal.{Refusal}
use Rattle.trcf.specs.declared.head.Preprocessor.{Preprocessor}
use Rattle.trcf.specs.Types.{augments}
use Rattle.trcf.specs.Settings.{input_limit, shingle_limit, start_bound, settings_row}
use Rattle.trcf.specs.Calls.{finite}
use Rattle.trcf.specs.Preprocessor.{State, accepted}
use Rattle.trcf.specs.View.{Lent, settings_of, view, counters_unfit}
use Rattle.snapshot.specs.Text.{render}
use Rattle.snapshot.specs.Read.{climbs, zeros}

-- a number is past document 01's limits, or a lent list is shorter than what is in use of it: d, k, the numbers of a time (0 or 1) and the initial
-- values, then the lengths of the lent lists
abbrev pub past : ℕ → ℕ → ℕ → ℕ → ℕ → ℕ → ℕ → ℕ → ℕ → ℕ → Bool
past d k wide n statistics input point times values initial =
    ltb input_limit d
    || (ltb shingle_limit k
    || (leb start_bound n
    || (ltb statistics (3 * (5 * d + 5))
    || (ltb input (d * k)
    || (ltb point ((d + wide) * k) || (ltb times k || (ltb values (n * d) || ltb initial n)))))))

unfoldable pub in_use_short : Preprocessor → Lent → Bool
in_use_short h l =
    past h.transformer.input_length h.shingle_size (cond (augments h.forest_mode) 1 0) h.initial_len
    (length l.statistics) (length l.last_shingled_input) (length l.last_shingled_point) (length l.previous_timestamps)
    (length l.initial_values) (length l.initial_timestamps)

-- the row, the length of the text, and the lent bytes afterwards
pub record SaveOutcome : Type 0 where
  pub row : ℕ
  pub length : ℕ
  pub bytes : List ℕ

abbrev pub save_outcome : ℕ → ℕ → List ℕ → SaveOutcome
save_outcome row n bytes = record { row = row; length = n; bytes = bytes }

-- as the code answers it: the length of the text, or the refusal
abbrev pub saved_told : Result ℕ Refusal → List ℕ → SaveOutcome
saved_told (Ok n) bytes = save_outcome 0 n bytes
saved_told (Err r) bytes = save_outcome (number_of r) 0 bytes

-- row 20: "lent output shorter than the answer to be written"; what lies past the text keeps its contents
unfoldable pub fitted : List ℕ → List ℕ → SaveOutcome
fitted t out = cond (ltb (length out) (length t)) (save_outcome 20 0 out) (save_outcome 0 (length t) (over out t))

-- the times and the initial values are not such as a text has: "`tim` k times, none falling"; "With internal 0 all `tim` are 0."; "`buf` time, d finite f32,
-- times not falling"
unfoldable pub unformed : State → Bool
unformed w =
    not (climbs 0 w.previous_timestamps)
    || ((eqb w.internal_timestamp 0 && not (zeros w.previous_timestamps))
    || (not (finite w.initial_values) || not (climbs 0 w.initial_timestamps)))

-- row 20 too where a lent part is shorter than what is in use of it; 19 where what it holds has not the form of a text
unfoldable pub held_save : Preprocessor → Lent → List ℕ → SaveOutcome
held_save h l out = cond (in_use_short h l) (save_outcome 20 0 out) (cond (unformed (view h l)) (save_outcome 19 0 out) (fitted (render (view h l)) out))

-- first the row of the settings, then 19 for counters that no text has
unfoldable pub save_of : Preprocessor → Lent → List ℕ → SaveOutcome
save_of h l out =
    accepted (settings_row (settings_of h)) (cond (counters_unfit h) (save_outcome 19 0 out) (held_save h l out)) (save_outcome (settings_row (settings_of h)) 0 out)
