-- Demand 3 of the program, composed from what the contracts of its calls state by equation (trcf/src: `point_after`, `learn_after`, `drain_of`, `write_of`,
-- `extrapolation_of`, `status_after`; snapshot/src: `save_of`, `restore_of`): the return of every call, the final contents of its output, and the
-- head and the lent lists that the next call is given. proofs/Program.antt derives it from `held_demand_3`.
use Rattle.std.specs.Prelude.{ℕ, ◌≤◌, ◌≡◌, Bool, true, false, List, [], ◌∷◌, ◌++◌, map, length, Float}
use Rattle.std.proofs.Math.Option.{Option, none, some}
use Rattle.trcf.specs.Fit.{All}
use Rattle.trcf.specs.Settings.{Settings, Valid, block}
use Rattle.trcf.specs.declared.head.PreprocessorBuilder.{PreprocessorBuilder}
use Rattle.trcf.specs.Calls.{Learn, given, Call, Machine, shingled_point, post_process, drain, transform, invert_extrapolation, scale, shift, status}
use Rattle.trcf.specs.Preprocessor.{reading, transform_of, scale_of, shift_of, accepted, Answer, refused, absent, done, wrote, learnt, turned, told}
use Rattle.trcf.specs.declared.head.Anomaly.{Anomaly}
use Rattle.trcf.specs.View.{Lent, settings_from, learn_call, lent_short, Getters, getters_of, build_of, Written, StatusOutcome, PointOutcome, LearnOutcome, write_of, status_after, drain_of, point_after, learn_after}
use Rattle.trcf.specs.Extrapolation.{Extrapolation, extrapolation_of}
use Rattle.snapshot.specs.Restore as restore
use Rattle.restart.specs.History.{entries, history_text, history_answers, history_panels, history_shown}
use Rattle.restart.specs.Statement.{panel_told}
use Rattle.restart.specs.Held.{Held, held, built_on, saved_to, text_in, restored_on}

-- ---- what a caller gets: the returned numbers, and the lists lent to be written as they stand afterwards

pub data Return : Type 0 where
  point : ℕ → Bool → List Float → Return  -- row, whether a point is given, output
  learn : ℕ → Bool → Bool → ℕ → Float → List Float → List Float → List Float → Return  -- row, written, anomaly (whether, time, likelihood), outputs
  drains : ℕ → Return
  writes : Written → Return
  turns : Extrapolation → Return
  tells : StatusOutcome → Return

abbrev pub point_return : PointOutcome → Return
point_return o = point o.row o.given o.out

abbrev pub learn_return : LearnOutcome → Return
learn_return o = learn o.row o.written o.has_anomaly o.past_timestamp o.likelihood o.deviations_out o.past_out o.expected_out

-- each by the right side of its contract
abbrev pub return_of : Held → Call → Return
return_of m (shingled_point x t out) = point_return (point_after m.head m.lent x t out)
return_of m (post_process q) = learn_return (learn_after m.head m.lent q)
return_of m drain = drains (drain_of m.head m.lent).row
return_of m (transform x t out) = writes (write_of m.head m.lent (transform x t out) (transform_of (reading x t)) out)
return_of m (invert_extrapolation c) = turns (extrapolation_of m.head m.lent.statistics m.lent.last_shingled_input m.lent.previous_timestamps c)
return_of m (scale out) = writes (write_of m.head m.lent (scale out) scale_of out)
return_of m (shift out) = writes (write_of m.head m.lent (shift out) shift_of out)
return_of m (status out) = tells (status_after m.head m.lent out)

-- "Each call works on the watch as the call before left it, and nothing else writes the watch or its lent parts meanwhile.": what the next call is given.
-- Three calls hand back a head and have lists lent to be written, the others read.
abbrev pub left_by : Held → Call → Held
left_by m (shingled_point x t out) = held (point_after m.head m.lent x t out).head (point_after m.head m.lent x t out).lent
left_by m (post_process q) = held (learn_after m.head m.lent q).head (learn_after m.head m.lent q).lent
left_by m drain = held (drain_of m.head m.lent).head (drain_of m.head m.lent).lent
left_by m (transform x t out) = m
left_by m (invert_extrapolation c) = m
left_by m (scale out) = m
left_by m (shift out) = m
left_by m (status out) = m

abbrev pub left_by_all : Held → List Call → Held
left_by_all m [] = m
left_by_all m (c ∷ cs) = left_by_all (left_by m c) cs

abbrev pub returns : Held → List Call → List Return
returns m [] = []
returns m (c ∷ cs) = return_of m c ∷ returns (left_by m c) cs

-- ---- a return read as document 01's answer

abbrev pub anomaly_read : Bool → ℕ → Float → Option Anomaly
anomaly_read true t p = some (record { past_timestamp = t; likelihood = p })
anomaly_read false t p = none

abbrev pub point_given : Bool → List Float → Answer
point_given true v = wrote v
point_given false v = absent

abbrev pub answer_read : Return → Answer
answer_read (point n b out) = accepted n (point_given b out) (refused n)
answer_read (learn n w b t p deviations past expected) =
    accepted n (learnt (record { written = w; anomaly = anomaly_read b t p; deviations_out = deviations; past_out = past; expected_out = expected })) (refused n)
answer_read (drains n) = accepted n done (refused n)
answer_read (writes w) = accepted w.row (wrote w.out) (refused w.row)
answer_read (turns e) = accepted e.row (turned e.left) (refused e.row)
answer_read (tells o) = accepted o.row (told o.numbers) (refused o.row)

-- ---- the panel at each place: what status returns, asked with the output `room`; and what each getter returns, by the right side of its contract

abbrev pub returned_panels : List Float → Held → List Call → List (Option ℕ)
returned_panels room m [] = panel_told (answer_read (return_of m (status room))) ∷ []
returned_panels room m (c ∷ cs) = panel_told (answer_read (return_of m (status room))) ∷ returned_panels room (left_by m c) cs

abbrev pub shown_getters : Held → List Call → List Getters
shown_getters m [] = getters_of m.head ∷ []
shown_getters m (c ∷ cs) = getters_of m.head ∷ shown_getters (left_by m c) cs

-- ---- the statement

pub record ProgramRestart (s : Settings) (before after : List Call) (first second : Lent) (out last : List ℕ) : Type 0 where
  pub builds : (build_of s first).row ≡ 0
  pub saves : (saved_to (left_by_all (built_on s first) before) out).row ≡ 0
  pub text : text_in (left_by_all (built_on s first) before) out ≡ history_text s before
  pub restores : (restore.restore_of (text_in (left_by_all (built_on s first) before) out) s.codes second).row ≡ 0
  -- every return and every output, refusals included
  pub same_returns : returns (restored_on (text_in (left_by_all (built_on s first) before) out) s.codes second) after ≡ returns (left_by_all (built_on s first) before) after
  pub ruled_answers : map answer_read (returns (restored_on (text_in (left_by_all (built_on s first) before) out) s.codes second) after) ≡ history_answers s (entries s before) after
  pub same_text : saved_to (left_by_all (restored_on (text_in (left_by_all (built_on s first) before) out) s.codes second) after) last ≡ saved_to (left_by_all (built_on s first) (before ++ after)) last
  -- the panel is the history's number of readings fed, at every place after the restart, and at every place where nothing is put away
  pub fed_panels : (room : List Float) → block s ≤ length room
      → returned_panels room (restored_on (text_in (left_by_all (built_on s first) before) out) s.codes second) after ≡ map some (history_panels s (entries s before) after)
  pub first_panels : (room : List Float) → block s ≤ length room → returned_panels room (built_on s first) (before ++ after) ≡ map some (history_panels s [] (before ++ after))
  -- and so is what every getter answers
  pub fed_shown : shown_getters (restored_on (text_in (left_by_all (built_on s first) before) out) s.codes second) after ≡ history_shown s (entries s before) after
  pub first_shown : shown_getters (built_on s first) (before ++ after) ≡ history_shown s [] (before ++ after)

abbrev pub ProgramDemand3 : Type 0
ProgramDemand3 =
    (s : Settings) → Valid s → (before after : List Call) → All Machine before → All Machine after
    → (first second : Lent) → lent_short s first ≡ false → lent_short s second ≡ false
    → (out last : List ℕ) → length (history_text s before) ≤ length out
    → ProgramRestart s before after first second out last

-- ---- the contracts of `build` and of `post_process` speak of arguments as the program takes them; every settings and every learn is one of these

abbrev pub builder_of : Settings → PreprocessorBuilder
builder_of s =
    record {
      forest_mode = s.mode;
      transform_method = s.method;
      input_dimensions = s.d;
      shingle_size = s.k;
      start_normalization = s.start;
      stop_normalization = s.stop;
      transform_decay = s.decay;
      weight_time = s.weight_time;
    }

abbrev pub list_of : Option (List Float) → List Float
list_of none = []
list_of (some v) = v

abbrev pub learn_taken : Learn → Learn
learn_taken q =
    learn_call q.input q.timestamp (given q.rcf_point) (list_of q.rcf_point) (given q.expected_point) (list_of q.expected_point) q.grade
    q.relative_index q.deviations_out q.past_out q.expected_out

pub record Arguments : Type 0 where
  pub built : (s : Settings) → settings_from (builder_of s) s.weights s.codes ≡ s
  pub learns : (q : Learn) → learn_taken q ≡ q
