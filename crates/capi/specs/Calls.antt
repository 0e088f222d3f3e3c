-- The calls of the library: a call on the head that lent words hold, for a role of a lent table (#105), its answers in lent numbers and lists. Refused, a call
-- leaves all of them as they were.
use Rattle.std.specs.Prelude.{ℕ, Bool, cond, not, List, [], ◌∷◌, eqb, ltb, length, Float}
use Rattle.refusal.specs.Lent.{over}
use Rattle.trcf.specs.Types.{method_number}
use Rattle.trcf.specs.Settings.{Settings, settings_row}
use Rattle.trcf.specs.Calls.{Call, Learn, Forecast, shingled_point, post_process, drain, invert_extrapolation}
use Rattle.trcf.specs.Preprocessor.{State, accepted}
use Rattle.trcf.specs.View.{Lent, settings_of, Outcome, or_else, build_of, drain_of, PointOutcome, point_after, LearnOutcome, learn_after, Written, written, write_of}
use Rattle.trcf.specs.Extrapolation.{Extrapolation, extrapolation, extrapolation_of}
use Rattle.trcf.specs.declared.head.Status.{Status}
use Rattle.snapshot.specs.Save.{save_of, SaveOutcome as Saved, save_outcome as saved}
use Rattle.access.specs.declared.rights.Right.TheVariants.{SEE, SAVE}
use Rattle.access.specs.Access.{needs, granted}
use Rattle.access.specs.Entries.{status_numbers}
use Rattle.capi.specs.Head.{mode_number, head_of, words_of, counts_over, kind_row, words_short_row, words_row}

-- the row before a call: 22 where the role may not, and then nothing of the words is looked at; else the row of the words
unfoldable pub open_row : Bool → List ℕ → ℕ
open_row allowed w = cond allowed (words_row w) 22

module _ {A : Type 0} where
  -- by that row: what the call gives on a head, and what a refusal gives
  unfoldable pub on_head : Bool → List ℕ → A → (ℕ → A) → A
  on_head allowed w a refuse = accepted (open_row allowed w) a (refuse (open_row allowed w))

-- a Bool in a number, and a number as a Bool
abbrev pub flag : Bool → ℕ
flag b = cond b 1 0

abbrev pub is_set : ℕ → Bool
is_set n = not (eqb n 0)

-- ---- `drain`, and `build`: the row, the words, and what is lent

pub record Called : Type 0 where
  pub row : ℕ
  pub words : List ℕ
  pub lent : Lent

abbrev pub called : ℕ → List ℕ → Lent → Called
called n w l = record { row = n; words = w; lent = l }

abbrev pub drain_told : List ℕ → Outcome → Called
drain_told w o = called o.row (accepted o.row (counts_over w o.head) w) o.lent

unfoldable pub drain_at : List ℕ → ℕ → List ℕ → Lent → Called
drain_at table role w l = on_head (granted table role (needs drain)) w (drain_told w (drain_of (head_of w) l)) (λ n. called n w l)

-- the whole head is written; its row 20 comes after the rows of the settings
abbrev pub build_told : List ℕ → Outcome → Called
build_told w o = called o.row (accepted o.row (over w (words_of o.head)) w) o.lent

unfoldable pub build_at : ℕ → ℕ → Settings → List ℕ → Lent → Called
build_at mode method s w l =
    let n = or_else (kind_row mode method) (or_else (settings_row s) (words_short_row w)) in
    accepted n (build_told w (build_of s l)) (called n w l)

-- ---- `shingled_point`: whether a point is given, as a number, and the output

pub record PointCalled : Type 0 where
  pub called : Called
  pub given : ℕ
  pub out : List Float

abbrev pub point_called : ℕ → List ℕ → Lent → ℕ → List Float → PointCalled
point_called n w l g out = record { called = called n w l; given = g; out = out }

abbrev pub point_told : List ℕ → ℕ → PointOutcome → PointCalled
point_told w g o =
    point_called o.row (accepted o.row (counts_over w o.head) w) o.lent (accepted o.row (flag o.given) g) o.out

unfoldable pub point_at : List ℕ → ℕ → List ℕ → Lent → List Float → ℕ → ℕ → List Float → PointCalled
point_at table role w l x t g out =
    on_head (granted table role (needs (shingled_point x t out))) w (point_told w g (point_after (head_of w) l x t out)) (λ n. point_called n w l g out)

-- ---- `post_process`: whether the deviations are written and whether there is an anomaly, its time and its likelihood

pub record AnomalyOut : Type 0 where
  pub written : ℕ
  pub has_anomaly : ℕ
  pub past_timestamp : ℕ
  pub likelihood : Float

abbrev pub anomaly_out : ℕ → ℕ → ℕ → Float → AnomalyOut
anomaly_out w b t p = record { written = w; has_anomaly = b; past_timestamp = t; likelihood = p }

pub record LearnCalled : Type 0 where
  pub called : Called
  pub anomaly : AnomalyOut
  pub deviations_out : List Float
  pub past_out : List Float
  pub expected_out : List Float

abbrev pub learn_called : ℕ → List ℕ → Lent → AnomalyOut → List Float → List Float → List Float → LearnCalled
learn_called n w l a deviations past expected =
    record { called = called n w l; anomaly = a; deviations_out = deviations; past_out = past; expected_out = expected }

abbrev pub anomaly_told : AnomalyOut → LearnOutcome → AnomalyOut
anomaly_told a o =
    anomaly_out (accepted o.row (flag o.written) a.written) (accepted o.row (flag o.has_anomaly) a.has_anomaly)
    (accepted o.row o.past_timestamp a.past_timestamp) (accepted o.row o.likelihood a.likelihood)

abbrev pub learn_told : List ℕ → AnomalyOut → LearnOutcome → LearnCalled
learn_told w a o =
    learn_called o.row (accepted o.row (counts_over w o.head) w) o.lent (anomaly_told a o) o.deviations_out o.past_out o.expected_out

unfoldable pub learn_at : List ℕ → ℕ → List ℕ → Lent → AnomalyOut → Learn → LearnCalled
learn_at table role w l a c =
    on_head (granted table role (needs (post_process c))) w (learn_told w a (learn_after (head_of w) l c)) (λ n. learn_called n w l a c.deviations_out c.past_out c.expected_out)

-- ---- calls that write lists and change no state

unfoldable pub write_at : List ℕ → ℕ → List ℕ → Lent → Call → (State → List Float) → List Float → Written
write_at table role w l c f out = on_head (granted table role (needs c)) w (write_of (head_of w) l c f out) (λ n. written n out)

unfoldable pub extrapolation_at : List ℕ → ℕ → List ℕ → List Float → List Float → List ℕ → Forecast → Extrapolation
extrapolation_at table role w st x ts c = on_head (granted table role (needs (invert_extrapolation c))) w (extrapolation_of (head_of w) st x ts c) (λ n. extrapolation n c)

-- ---- `save`: the length of the text in a lent number

abbrev pub save_told : ℕ → Saved → Saved
save_told n o = saved o.row (accepted o.row o.length n) o.bytes

unfoldable pub save_at : List ℕ → ℕ → List ℕ → Lent → ℕ → List ℕ → Saved
save_at table role w l n out = on_head (granted table role (SAVE ∷ [])) w (save_told n (save_of (head_of w) l out)) (λ r. saved r n out)

-- ---- numbers in a lent list; row 20 where it is shorter than they are many

pub record ListGot : Type 0 where
  pub row : ℕ
  pub out : List ℕ

abbrev pub list_got : ℕ → List ℕ → ListGot
list_got n out = record { row = n; out = out }

unfoldable pub list_told : List ℕ → List ℕ → ListGot
list_told v out = cond (ltb (length out) (length v)) (list_got 20 out) (list_got 0 (over out v))

-- what the getters say, in the order of status
abbrev pub numbers_told : Status → List ℕ
numbers_told a =
    a.values_seen
    ∷ a.internal_timestamp
    ∷ flag a.ready
    ∷ a.input_dimensions
    ∷ a.shingle_size
    ∷ a.dimensions
    ∷ a.start_normalization
    ∷ method_number a.transform_method
    ∷ mode_number a.forest_mode
    ∷ a.panel
    ∷ []

unfoldable pub numbers_at : List ℕ → ℕ → List ℕ → List ℕ → ListGot
numbers_at table role w out = on_head (granted table role (SEE ∷ [])) w (list_told (numbers_told (status_numbers (head_of w))) out) (λ n. list_got n out)

-- the codes of the channels
unfoldable pub codes_at : List ℕ → ℕ → List ℕ → List ℕ → ListGot
codes_at table role w out = on_head (granted table role (SEE ∷ [])) w (list_told (settings_of (head_of w)).codes out) (λ n. list_got n out)
