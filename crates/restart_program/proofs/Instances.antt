-- The theorems at concrete settings, lists of calls, places and lent memory: their premises can be met, and what they then say is written out.
use Prim.Native.Nat.{ℕ, zero, suc, ◌≤◌}
use mathlib.Core.Path.{◌≡◌, refl, sym, ap, ◌∙◌}
use mathlib.Core.Bool.{Bool, true, false}
use mathlib.Core.List.{List, [], ◌∷◌, ◌++◌, map}
use mathlib.Core.Option.{Option, none, some}
use native.Mathlib.Omega.{arith}
use lib.IntN.{pos}
use lib.ListN.{length, take, drop, get_or, replicate}
use lib.Ieee.{Float, nan, binary32, binary64, to_bits, of_bits, fits}
use lib.Ieee as Ieee
use Rattle.numeric.specs.Narrow as Narrow
use Rattle.numeric.specs.Root as Root
use Rattle.common.specs.Deviation as Deviation
use Rattle.refusal.specs.Lent as Over
use Rattle.ranges.specs.RangeVector as RangeVector
use Rattle.trcf.specs.Lists as Lists
use Rattle.trcf.specs.Settings as Settings
use Rattle.trcf.specs.Calls as Calls
use Rattle.trcf.specs.Transformer as Transformer
use Rattle.trcf.specs.Preprocessor as Preprocessor
use Rattle.trcf.specs.View as View
use Rattle.trcf.specs.View.{Lent, lent, lent_short, Getters}
use Rattle.trcf.specs.Fit.{All}
use Rattle.trcf.specs.Settings.{Settings, Valid, settings_row}
use Rattle.trcf.specs.Calls.{Call, Machine, shingled_point, post_process, drain, transform, shift, status}
use Rattle.trcf.specs.Preprocessor.{fresh, Answer, refused, absent, done, wrote, learnt, turned, told}
use Rattle.trcf.specs.declared.types.TransformMethod.TheVariants.{DIFFERENCE, NORMALIZE, NORMALIZE_DIFFERENCE}
use Rattle.trcf.specs.declared.types.ForestMode.TheVariants.{STANDARD, TIME_AUGMENTED, GAP_AUGMENTED}
use Rattle.snapshot.specs.Text as Text
use Rattle.snapshot.specs.Text.{render}
use Rattle.snapshot.specs.Ascii.{text}
use Rattle.snapshot.specs.Read.{taken}
use Rattle.restart.specs.History as History
use Rattle.restart.specs.History.{initial_entry, learned_entry, drained_entry, entries, history_text, history_answers, history_panels, history_shown}
use Rattle.restart.specs.Statement.{Restart, Event, call_made, restarted, calls_of, panels, panels_events, history_panels_events, Restarts}
use Rattle.restart.specs.Held.{built_on, held_run, held_answers, held_panels, held_shown, text_in, restored_on, HeldRestart}
use Rattle.restart.proofs.Restart.{demand_3}
use Rattle.restart.proofs.Held.{held_demand_3}
use Rattle.trcf.specs.Preprocessor.{Reading, reading, statistics_length}
use Rattle.restart.specs.Statistics as Statistics
use Rattle.restart.specs.Statistics.{Fed, fed_after, statistics_from}
use Rattle.restart_program.specs.Program.{returns, left_by_all, answer_read, returned_panels, shown_getters, ProgramRestart}
use Rattle.restart_program.proofs.Program.{program_demand_3}

-- to unfold this is to unfold whatever its line names
computing : Unit {0}
unfolding Ieee.add Ieee.sub Ieee.mul Ieee.div Ieee.lt Ieee.le Ieee.eq Ieee.of_int Ieee.of_bits Ieee.to_bits Ieee.size Ieee.round Ieee.fits Narrow.narrowed
    Root.root_of Root.rooted Root.halves Root.root_within Deviation.outside_unit Deviation.factor_of Deviation.step_of Deviation.is_empty Deviation.mean_of
    Deviation.root_above Deviation.deviation_of Over.over Transformer.statistic_at Transformer.put_statistic Transformer.fed Transformer.deviations_at
    Transformer.put_deviations Transformer.fed_at Transformer.channels_fed Transformer.updated Transformer.normalized_scale Transformer.basic_shift
    Transformer.basic_drift Transformer.weight_at Transformer.transformed Transformer.unweighted Transformer.inverted Transformer.scales Transformer.shifts
    Transformer.difference_deviations Settings.block Settings.dimension Settings.waiting Settings.all_one Settings.settings_row Lists.last_n Lists.shift_in
    Lists.overwrite Calls.finite Calls.due Calls.newest Calls.before_newest Calls.wrong_length Calls.outside Calls.drain_full Calls.learn_full
    Calls.waiting_short Calls.learn_short Calls.table Calls.rows Preprocessor.time_fed Preprocessor.feed Preprocessor.timescale Preprocessor.timedrift
    Preprocessor.time_element Preprocessor.transformed_after View.lent_short
computing = tt

recording : Unit {0}
unfolding computing History.seen_of History.internal_of History.buffer_of History.shingled History.inputs_of History.timestamps_of History.newest_reading
    History.count_of History.statistics_of Statistics.statistics_from History.history_state History.history_facts History.history_refusal History.complete
    History.adds History.enter History.entries History.history_text History.history_panel
recording = tt

writing : Unit {0}
unfolding recording Text.whole Text.float Text.set_line Text.singles Text.cnt_line Text.dev_line Text.tim_line Text.buf_line Text.chn_line Text.lines_by Text.body_lines Text.render
writing = tt

answering : Unit {0}
unfolding recording Preprocessor.previous Preprocessor.time_base Preprocessor.preceding Preprocessor.primed Preprocessor.drain_one Preprocessor.drain_all
    Preprocessor.drained Preprocessor.buffered Preprocessor.learned Preprocessor.learned_with Preprocessor.facts Preprocessor.deviations Preprocessor.scale_of
    Preprocessor.shift_of Preprocessor.point_of Preprocessor.block_from Preprocessor.past_values Preprocessor.expected_values Preprocessor.anomaly_of
    Preprocessor.learned_nothing Preprocessor.buffered_answer Preprocessor.learned_answer Preprocessor.learn_answer Preprocessor.status_of Preprocessor.reply
    History.history_answer
answering = tt

abbrev pub single : ℕ → Float
single n = of_bits binary32 n

abbrev pub zero32 : Float
zero32 = single 0

abbrev pub one : Float
one = single 0x3f80_0000

abbrev pub two : Float
two = single 0x4000_0000

abbrev pub four : Float
four = single 0x4080_0000

abbrev pub six : Float
six = single 0x40c0_0000

-- a learn whose outputs are too long and hold something
abbrev pub learn_at : List Float → ℕ → Option (List Float) → Call
learn_at x t y =
    post_process (record {
      input = x;
      timestamp = t;
      rcf_point = y;
      expected_point = none;
      grade = zero32;
      relative_index = pos 0;
      deviations_out = nan ∷ nan ∷ nan ∷ nan ∷ nan ∷ [];
      past_out = nan ∷ [];
      expected_out = [];
    })

-- ---- an L before F strands a W; a time that falls is refused; the last times are 2^64 − 2 and 2^64 − 1; an output is too short

abbrev pub strands : Settings
strands = record { mode = STANDARD; method = NORMALIZE; d = 1; k = 2; start = 1; stop = 9; decay = of_bits binary64 0x3fc0_0000_0000_0000; weight_time = one; weights = two ∷ []; codes = 7 ∷ [] }

pub strands_valid : Valid strands
unfolding computing
strands_valid = record {
  unrefused = refl;
  machine = record { stop_fits = omega arith; decay_fits = tt; weight_time_fits = tt; weights_fit = (tt, tt); codes_fit = (omega arith, tt) };
}

abbrev pub stranding : List Call
stranding =
    learn_at (four ∷ []) 5 none
    ∷ learn_at (six ∷ []) 3 (some (one ∷ two ∷ []))
    ∷ learn_at (six ∷ []) 18446744073709551614 (some (one ∷ two ∷ []))
    ∷ drain
    ∷ shingled_point (one ∷ []) 18446744073709551615 (nan ∷ nan ∷ nan ∷ [])
    ∷ learn_at (two ∷ []) 18446744073709551615 (some (two ∷ four ∷ []))
    ∷ status []
    ∷ []

pub stranding_machine : All Machine stranding
unfolding computing
stranding_machine = (
  ((tt, tt), (omega arith), tt),
  (
    ((tt, tt), (omega arith), (tt, (tt, tt))),
    (
      ((tt, tt), (omega arith), (tt, (tt, tt))),
      (
        tt,
        (
          tt,
          (
            ((tt, tt), (omega arith), (tt, (tt, tt))),
            (tt, tt),
          ),
        ),
      ),
    ),
  ),
)

-- what is looked at of a list of calls
pub all_take : (P : Call → Type 0) (n : ℕ) (cs : List Call) → All P cs → All P (take n cs)
all_take P zero cs h = tt
all_take P (suc n) [] h = tt
all_take P (suc n) (c ∷ cs) h = (h.0, all_take P n cs h.1)

pub all_drop : (P : Call → Type 0) (n : ℕ) (cs : List Call) → All P cs → All P (drop n cs)
all_drop P zero cs h = h
all_drop P (suc n) [] h = tt
all_drop P (suc n) (c ∷ cs) h = all_drop P n cs h.1

-- every place, "before the first call and after the last included"
stranding_at : (n : ℕ) → Restart strands (take n stranding) (drop n stranding)
stranding_at n = demand_3.once strands strands_valid (take n stranding) (drop n stranding) (all_take Machine n stranding stranding_machine)

stranding_first : Restart strands [] stranding
stranding_first = stranding_at 0

stranding_last : Restart strands stranding []
stranding_last = stranding_at 7

stranding_entries : entries strands stranding ≡ learned_entry (two ∷ []) 18446744073709551615 (two ∷ four ∷ []) ∷ learned_entry (six ∷ []) 18446744073709551614 (one ∷ two ∷ []) ∷ initial_entry
    (four ∷ []) 5 ∷ []
unfolding recording
stranding_entries = refl

abbrev pub stranded_text : List ℕ
stranded_text = text (
    "set\tS\t4\t1\t2\t1\t9\t3fc0000000000000\t3f800000" ∷
    "wgt\t40000000" ∷
    "chn\t7" ∷
    "cnt\t3\t2\t2" ∷
    "dev\t3ffaaaaaaaaaaaab\t4018000000000000\t403c000000000001" ∷
    "dev\t3ffaaaaaaaaaaaab\t0000000000000000\t4044000000000000" ∷
    "dev\t3ffaaaaaaaaaaaab\t3fff5a7cecdb684e\t400eb851eb851ebf" ∷
    "dev\t3ffaaaaaaaaaaaab\t4010000000000000\t4038000000000001" ∷
    "dev\t3ffaaaaaaaaaaaab\t4013988e1409212e\t4037ffffffffffff" ∷
    "dev\t3ffaaaaaaaaaaaab\t43faaaaaaaaaaaab\t47faaaaaaaaaaaab" ∷
    "dev\t3ffaaaaaaaaaaaab\t43e5555555555556\t47e5555555555556" ∷
    "dev\t3ffaaaaaaaaaaaab\t0000000000000000\t0000000000000000" ∷
    "dev\t3ffaaaaaaaaaaaab\t43f1111111111112\t47ea740da740da75" ∷
    "dev\t3ffaaaaaaaaaaaab\t43df5a7cecdb684a\t47ceb851eb851eb8" ∷
    "inp\t40c00000\t40000000" ∷
    "pnt\t40000000\t40800000" ∷
    "tim\t18446744073709551614\t18446744073709551615" ∷
    "buf\t5\t40800000" ∷ [])

pub stranding_text : history_text strands stranding ≡ stranded_text
unfolding writing
stranding_text = refl

-- what is put away after the last call, and what another watch puts away that took it up: these bytes
stranding_put_away : render stranding_last.second ≡ stranded_text
stranding_put_away = stranding_last.outlives.history_ends ∙ stranding_text

-- the panel, after the fourth call put away and taken up again: of three readings seen the two L's are fed, the stranded W is not
abbrev pub one_room : List Float
one_room = nan ∷ []

pub one_fits : Settings.block strands ≤ length one_room
unfolding computing
one_fits = omega arith

pub stranding_fed : history_panels strands (entries strands (take 4 stranding)) (drop 4 stranding) ≡ 1 ∷ 1 ∷ 2 ∷ 2 ∷ []
unfolding recording
stranding_fed = refl

stranding_panels : panels one_room (stranding_at 4).second (drop 4 stranding) ≡ map some (1 ∷ 1 ∷ 2 ∷ 2 ∷ [])
stranding_panels = (stranding_at 4).outlives.fed_panels one_room one_fits ∙ ap (map some) stranding_fed

pub stranding_fed_first : history_panels strands [] stranding ≡ 0 ∷ 0 ∷ 0 ∷ 1 ∷ 1 ∷ 1 ∷ 2 ∷ 2 ∷ []
unfolding recording
stranding_fed_first = refl

stranding_panels_first : panels one_room (fresh strands) stranding ≡ map some (0 ∷ 0 ∷ 0 ∷ 1 ∷ 1 ∷ 1 ∷ 2 ∷ 2 ∷ [])
stranding_panels_first = stranding_first.fed_panels one_room one_fits ∙ ap (map some) stranding_fed_first

-- ---- the same over memory that is too long and holds something else, for both watches and for the text

abbrev pub dirty : Lent
dirty = lent (replicate 31 nan) (replicate 5 six) (replicate 4 nan) (replicate 3 18446744073709551615) (replicate 2 nan) (replicate 9 77)

abbrev pub filthy : Lent
filthy = lent (replicate 90 (of_bits binary64 0xfff0_0000_0000_0000)) (replicate 2 nan) (replicate 7 nan) (replicate 8 3) (replicate 1 six) (replicate 1 5)

pub text_fits : length (history_text strands (take 4 stranding)) ≤ 1000
unfolding writing
text_fits = omega arith

stranding_held : HeldRestart strands (take 4 stranding) (drop 4 stranding) dirty filthy (replicate 1000 10) (replicate 726 255)
unfolding computing
stranding_held =
    held_demand_3 strands strands_valid (take 4 stranding) (drop 4 stranding) (all_take Machine 4 stranding stranding_machine) (all_drop Machine 4 stranding stranding_machine)
    dirty filthy refl refl (replicate 1000 10) (replicate 726 255) text_fits

abbrev put_away : List ℕ
put_away = text_in (held_run (built_on strands dirty) (take 4 stranding)) (replicate 1000 10)

-- the second watch, over the filthy memory, answers: the point, the learn, and row 20
abbrev pub point_answer : Answer
point_answer = wrote (two ∷ single 0xc0a0_0000 ∷ nan ∷ [])

abbrev pub learn_answer : Answer
learn_answer = learnt (record { written = true; anomaly = none; deviations_out = single 0x403c_1eee ∷ nan ∷ nan ∷ nan ∷ nan ∷ []; past_out = nan ∷ []; expected_out = [] })

pub ruled : history_answers strands (entries strands (take 4 stranding)) (drop 4 stranding) ≡ point_answer ∷ learn_answer ∷ refused 20 ∷ []
unfolding answering
ruled = refl

stranding_answers : held_answers (restored_on put_away (7 ∷ []) filthy) (drop 4 stranding) ≡ point_answer ∷ learn_answer ∷ refused 20 ∷ []
stranding_answers = stranding_held.ruled_answers ∙ ruled

-- its panel, as status tells it
held_panels_lem : held_panels one_room (restored_on put_away (7 ∷ []) filthy) (drop 4 stranding) ≡ map some (1 ∷ 1 ∷ 2 ∷ 2 ∷ [])
held_panels_lem = stranding_held.fed_panels one_room one_fits ∙ ap (map some) stranding_fed

held_panels_first : held_panels one_room (built_on strands dirty) stranding ≡ map some (0 ∷ 0 ∷ 0 ∷ 1 ∷ 1 ∷ 1 ∷ 2 ∷ 2 ∷ [])
held_panels_first = stranding_held.first_panels one_room one_fits ∙ ap (map some) stranding_fed_first

-- what its getters answer: readings seen, shingled, whether the shingle is full, and the panel; the rest is the settings'
abbrev tell : ℕ → ℕ → Bool → ℕ → Getters
tell seen internal full fed =
    record {
      values_seen = seen;
      internal_timestamp = internal;
      ready = full;
      input_dimensions = 1;
      shingle_size = 2;
      dimensions = 2;
      method = 4;
      mode = 83;
      start = 1;
      panel = fed;
    }

abbrev since : List Getters
since = tell 2 1 false 1 ∷ tell 2 1 false 1 ∷ tell 3 2 true 2 ∷ tell 3 2 true 2 ∷ []

abbrev throughout : List Getters
throughout = tell 0 0 false 0 ∷ tell 1 0 false 0 ∷ tell 1 0 false 0 ∷ tell 2 1 false 1 ∷ since

stranding_shown : history_shown strands (entries strands (take 4 stranding)) (drop 4 stranding) ≡ since
unfolding recording History.history_getters
stranding_shown = refl

stranding_shown_first : history_shown strands [] stranding ≡ throughout
unfolding recording History.history_getters
stranding_shown_first = refl

held_shown_lem : held_shown (restored_on put_away (7 ∷ []) filthy) (drop 4 stranding) ≡ since
held_shown_lem = stranding_held.fed_shown ∙ stranding_shown

held_shown_first : held_shown (built_on strands dirty) stranding ≡ throughout
held_shown_first = stranding_held.first_shown ∙ stranding_shown_first

-- both ends as places
pub last_fits : length (history_text strands stranding) ≤ 726
unfolding writing
last_fits = omega arith

held_last : HeldRestart strands stranding [] dirty filthy (replicate 726 255) (replicate 725 0)
unfolding computing
held_last = held_demand_3 strands strands_valid stranding [] stranding_machine tt dirty filthy refl refl (replicate 726 255) (replicate 725 0) last_fits

-- 726 bytes are enough: the text, byte for byte
held_last_text : text_in (held_run (built_on strands dirty) stranding) (replicate 726 255) ≡ stranded_text
held_last_text = held_last.text ∙ stranding_text

pub first_fits : length (history_text strands []) ≤ 1000
unfolding writing
first_fits = omega arith

held_first_lem : HeldRestart strands [] stranding dirty filthy (replicate 1000 10) (replicate 725 0)
unfolding computing
held_first_lem = held_demand_3 strands strands_valid [] stranding tt stranding_machine dirty filthy refl refl (replicate 1000 10) (replicate 725 0) first_fits

-- ---- two W's and F by a point, d 2, TIME_AUGMENTED; restarts before the first call, twice in the middle and after the last

abbrev drains : Settings
drains = record {
  mode = TIME_AUGMENTED;
  method = NORMALIZE_DIFFERENCE;
  d = 2;
  k = 1;
  start = 2;
  stop = 3;
  decay = of_bits binary64 0;
  weight_time = two;
  weights = one ∷ single
      0xbf00_0000 ∷ [];
  codes = 12 ∷ 65535 ∷ [];
}

drains_valid : Valid drains
unfolding computing
drains_valid = record {
  unrefused = refl;
  machine = record { stop_fits = omega arith; decay_fits = tt; weight_time_fits = tt; weights_fit = (tt, (tt, tt)); codes_fit = (omega arith, (omega arith, tt)) };
}

abbrev y : List Float
y = one ∷ two ∷ six ∷ []

abbrev draining : List Event
draining =
    restarted
    ∷ call_made drain
    ∷ call_made (learn_at (one ∷ two ∷ []) 0 none)
    ∷ call_made (learn_at (one ∷ nan ∷ []) 1 none)
    ∷ call_made (learn_at (four ∷ six ∷ []) 18446744073709551615 none)
    ∷ restarted
    ∷ restarted
    ∷ call_made (shingled_point (two ∷ two ∷ []) 0 (replicate 4 nan))
    ∷ call_made (learn_at (two ∷ six ∷ []) 18446744073709551615 (some y))
    ∷ call_made (learn_at (two ∷ six ∷ []) 7 (some y))
    ∷ call_made (learn_at (one ∷ six ∷ []) 18446744073709551615 (some y))
    ∷ restarted
    ∷ []

draining_machine : All Machine (calls_of draining)
unfolding computing
draining_machine = (
  tt,
  (
    ((tt, (tt, tt)), (omega arith), tt),
    (
      ((tt, (tt, tt)), (omega arith), tt),
      (
        ((tt, (tt, tt)), (omega arith), tt),
        (
          tt,
          (
            ((tt, (tt, tt)), (omega arith), (tt, (tt, (tt, tt)))),
            (
              ((tt, (tt, tt)), (omega arith), (tt, (tt, (tt, tt)))),
              (((tt, (tt, tt)), (omega arith), (tt, (tt, (tt, tt)))), tt),
            ),
          ),
        ),
      ),
    ),
  ),
)

draining_often : Restarts drains draining
draining_often = demand_3.often drains drains_valid draining draining_machine

-- the refused ones, 11 for the not-a-number and 12 for the time that falls, add nothing; the last L comes at stop
draining_entries : entries drains (calls_of draining)
    ≡ learned_entry (one ∷ six ∷ []) 18446744073709551615 y ∷ learned_entry (two ∷ six ∷ []) 18446744073709551615 y ∷ drained_entry ∷ initial_entry
    (four ∷ six ∷ []) 18446744073709551615 ∷ initial_entry (one ∷ two ∷ []) 0 ∷ []
unfolding recording
draining_entries = refl

abbrev number_of : Answer → ℕ
number_of (refused n) = n
number_of absent = 0
number_of done = 0
number_of (wrote v) = 0
number_of (learnt l) = 0
number_of (turned f) = 0
number_of (told s) = 0

draining_rows : map number_of (history_answers drains [] (calls_of draining)) ≡ 0 ∷ 0 ∷ 11 ∷ 0 ∷ 0 ∷ 0 ∷ 12 ∷ 0 ∷ []
unfolding answering
draining_rows = refl

-- the panel before and after each restart: F feeds two, one L feeds, and the L at stop does not
abbrev draining_counts : List ℕ
draining_counts = replicate 8 0 ++ (2 ∷ replicate 4 3)

draining_fed : history_panels_events drains [] draining ≡ draining_counts
unfolding recording
draining_fed = refl

three_fit : Settings.block drains ≤ length (nan ∷ nan ∷ nan ∷ [])
unfolding computing
three_fit = omega arith

draining_panels : panels_events (nan ∷ nan ∷ nan ∷ []) (taken (fresh drains)) draining ≡ map some draining_counts
draining_panels = draining_often.fed_panels (nan ∷ nan ∷ nan ∷ []) three_fit ∙ ap (map some) draining_fed

-- ---- the program, composed by its contracts, over the same memory

program_held : ProgramRestart strands (take 4 stranding) (drop 4 stranding) dirty filthy (replicate 1000 10) (replicate 726 255)
unfolding computing
program_held =
    program_demand_3 strands strands_valid (take 4 stranding) (drop 4 stranding) (all_take Machine 4 stranding stranding_machine) (all_drop Machine 4 stranding stranding_machine)
    dirty filthy refl refl (replicate 1000 10) (replicate 726 255) text_fits

program_answers : map answer_read (returns (restored_on (text_in (left_by_all (built_on strands dirty) (take 4 stranding)) (replicate 1000 10)) (7 ∷ []) filthy) (drop 4 stranding))
    ≡ point_answer ∷ learn_answer ∷ refused 20 ∷ []
program_answers = program_held.ruled_answers ∙ ruled

abbrev program_put_away : List ℕ
program_put_away = text_in (left_by_all (built_on strands dirty) (take 4 stranding)) (replicate 1000 10)

program_panels : returned_panels one_room (restored_on program_put_away (7 ∷ []) filthy) (drop 4 stranding) ≡ map some (1 ∷ 1 ∷ 2 ∷ 2 ∷ [])
program_panels = program_held.fed_panels one_room one_fits ∙ ap (map some) stranding_fed

program_panels_first : returned_panels one_room (built_on strands dirty) stranding ≡ map some (0 ∷ 0 ∷ 0 ∷ 1 ∷ 1 ∷ 1 ∷ 2 ∷ 2 ∷ [])
program_panels_first = program_held.first_panels one_room one_fits ∙ ap (map some) stranding_fed_first

program_shown : shown_getters (restored_on program_put_away (7 ∷ []) filthy) (drop 4 stranding) ≡ since
program_shown = program_held.fed_shown ∙ stranding_shown

program_shown_first : shown_getters (built_on strands dirty) stranding ≡ throughout
program_shown_first = program_held.first_shown ∙ stranding_shown_first

-- ---- a method that never waits: neither is lent memory for readings that wait

abbrev differs : Settings
differs = record { mode = STANDARD; method = DIFFERENCE; d = 1; k = 1; start = 3; stop = 9; decay = of_bits binary64 0; weight_time = one; weights = one ∷ []; codes = 7 ∷ [] }

differs_valid : Valid differs
unfolding computing
differs_valid = record {
  unrefused = refl;
  machine = record { stop_fits = omega arith; decay_fits = tt; weight_time_fits = tt; weights_fit = (tt, tt); codes_fit = (omega arith, tt) };
}

abbrev differing : List Call
differing = learn_at (four ∷ []) 5 (some (one ∷ [])) ∷ learn_at (six ∷ []) 6 (some (two ∷ [])) ∷ []

differing_machine : All Machine differing
unfolding computing
differing_machine = (((tt, tt), (omega arith), (tt, tt)), (((tt, tt), (omega arith), (tt, tt)), tt))

abbrev bare : Lent
bare = lent (replicate 30 nan) (six ∷ []) (nan ∷ []) (3 ∷ []) [] []

differing_fits : length (history_text differs (take 1 differing)) ≤ 1000
unfolding writing
differing_fits = omega arith

differing_held : ProgramRestart differs (take 1 differing) (drop 1 differing) bare bare (replicate 1000 10) (replicate 1000 255)
unfolding computing
differing_held =
    program_demand_3 differs differs_valid (take 1 differing) (drop 1 differing) (all_take Machine 1 differing differing_machine) (all_drop Machine 1 differing differing_machine)
    bare bare refl refl (replicate 1000 10) (replicate 1000 255) differing_fits

-- ---- the largest settings, d 16, k 64, start 1,999: what is put away is taken up

abbrev largest : Settings
largest =
    record {
      mode = TIME_AUGMENTED;
      method = NORMALIZE_DIFFERENCE;
      d = 16;
      k = 64;
      start = 1999;
      stop = 18446744073709551615;
      decay = of_bits binary64 0x3fef_ffff_ffff_ffff;
      weight_time = one;
      weights = replicate 16 two;
      codes = replicate 16 65535;
    }

largest_valid : Valid largest
unfolding computing
largest_valid = record {
  unrefused = refl;
  machine = record {
    stop_fits = omega arith;
    decay_fits = tt;
    weight_time_fits = tt;
    weights_fit = (tt, (tt, (tt, (tt, (tt, (tt, (tt, (tt, (tt, (tt, (tt, (tt, (tt, (tt, (tt, (tt, tt))))))))))))))));
    codes_fit = (
      omega arith,
      (
        omega arith,
        (
          omega arith,
          (
            omega arith,
            (
              omega arith,
              (omega arith, (omega arith, (omega arith, (omega arith, (omega arith, (omega arith, (omega arith, (omega arith, (omega arith, (omega arith, (omega arith, tt))))))))))),
            ),
          ),
        ),
      ),
    );
  };
}

largest_restart : Restart largest [] []
largest_restart = demand_3.once largest largest_valid [] [] tt

-- ---- gaps (request 114): put away while a reading waits, whose time the gaps after it are counted from

abbrev gapped : Settings
gapped = record { mode = GAP_AUGMENTED; method = NORMALIZE; d = 1; k = 2; start = 1; stop = 9; decay = of_bits binary64 0; weight_time = two; weights = two ∷ []; codes = 7 ∷ [] }

gapped_valid : Valid gapped
unfolding computing
gapped_valid = record {
  unrefused = refl;
  machine = record { stop_fits = omega arith; decay_fits = tt; weight_time_fits = tt; weights_fit = (tt, tt); codes_fit = (omega arith, tt) };
}

abbrev gapping : List Call
gapping =
    learn_at (four ∷ []) 100 none
    ∷ shingled_point (one ∷ []) 99 (replicate 5 nan)
    ∷ transform (one ∷ []) 130 (nan ∷ nan ∷ [])
    ∷ shingled_point (one ∷ []) 130 (replicate 4 nan)
    ∷ shift (nan ∷ nan ∷ [])
    ∷ []

gapping_machine : All Machine gapping
unfolding computing
gapping_machine = (((tt, tt), (omega arith), tt), (tt, (tt, (tt, (tt, tt)))))

-- every place
gapping_at : (n : ℕ) → Restart gapped (take n gapping) (drop n gapping)
gapping_at n = demand_3.once gapped gapped_valid (take n gapping) (drop n gapping) (all_take Machine n gapping gapping_machine)

gap_fits : length (history_text gapped (take 1 gapping)) ≤ 1000
unfolding writing
gap_fits = omega arith

program_gap : ProgramRestart gapped (take 1 gapping) (drop 1 gapping) dirty filthy (replicate 1000 10) (replicate 726 255)
unfolding computing
program_gap =
    program_demand_3 gapped gapped_valid (take 1 gapping) (drop 1 gapping) (all_take Machine 1 gapping gapping_machine) (all_drop Machine 1 gapping gapping_machine)
    dirty filthy refl refl (replicate 1000 10) (replicate 726 255) gap_fits

-- the number that an answer ends in
abbrev end_of : Answer → Float
end_of (refused n) = nan
end_of absent = nan
end_of done = nan
end_of (wrote v) = get_or v 3 (get_or v 1 nan)
end_of (learnt l) = nan
end_of (turned f) = nan
end_of (told s) = nan

-- the second watch: 28, the gap of 30 before and after the drain, and the time's shift, 100
gap_rows : map number_of (history_answers gapped (entries gapped (take 1 gapping)) (drop 1 gapping)) ≡ 28 ∷ 0 ∷ 0 ∷ 0 ∷ []
unfolding answering
gap_rows = refl

gap_ends : map end_of (history_answers gapped (entries gapped (take 1 gapping)) (drop 1 gapping)) ≡ nan ∷ single 0x4270_0000 ∷ single 0x4270_0000 ∷ single 0x42c8_0000 ∷ []
unfolding answering
gap_ends = refl

program_gap_ends : map end_of (map answer_read (returns (restored_on (text_in (left_by_all (built_on gapped dirty) (take 1 gapping)) (replicate 1000 10)) (7 ∷ []) filthy) (drop 1 gapping)))
    ≡ nan ∷ single 0x4270_0000 ∷ single 0x4270_0000 ∷ single 0x42c8_0000 ∷ []
program_gap_ends = ap (map end_of) program_gap.ruled_answers ∙ gap_ends

-- ---- the text of the other list, each statistic a fold over its own scores

draining_text : history_text drains (calls_of draining) ≡ text (
    "set\tT\t5\t2\t1\t2\t3\t0000000000000000\t40000000" ∷
    "wgt\t3f800000\tbf000000" ∷
    "chn\t12\t65535" ∷
    "cnt\t4\t4\t3" ∷
    "dev\t4008000000000000\t401c000000000000\t4035000000000000" ∷
    "dev\t4008000000000000\t402c000000000000\t4053000000000000" ∷
    "dev\t4008000000000000\t3ff0000000000000\t402a000000000000" ∷
    "dev\t4008000000000000\t4010000000000000\t4030000000000000" ∷
    "dev\t4008000000000000\t4005fa4e05cd6a6c\t400e71c71c71c71a" ∷
    "dev\t4008000000000000\t400f15beeeff7d30\t401e38e38e38e388" ∷
    "dev\t4008000000000000\t3ffd555555555555\t4002e38e38e38e39" ∷
    "dev\t4008000000000000\t400aaaaaaaaaaaaa\t40171c71c71c71c7" ∷
    "dev\t4008000000000000\t400c703d6dfa043c\t4019e38e38e38e3a" ∷
    "dev\t4008000000000000\t400f15beeeff7d33\t401e38e38e38e38e" ∷
    "dev\t4008000000000000\t4400000000000000\t4800000000000000" ∷
    "dev\t4008000000000000\t43f0000000000000\t47f0000000000000" ∷
    "dev\t4008000000000000\t43ef15beeeff7d33\t47de38e38e38e38e" ∷
    "dev\t4008000000000000\t43eaaaaaaaaaaaaa\t47d71c71c71c71c7" ∷
    "dev\t4008000000000000\t43ef15beeeff7d33\t47de38e38e38e38e" ∷
    "inp\t3f800000\t40c00000" ∷
    "pnt\t3f800000\t40000000\t40c00000" ∷
    "tim\t18446744073709551615" ∷ [])
unfolding writing
draining_text = refl

-- a `feed` that does nothing does not make the history's statistics

abbrev Feeding : Type 0
Feeding = Settings → ℕ → List Float → Reading → Reading → List Float

abbrev each_by : Feeding → Settings → ℕ → List Float → List Fed → List Float
each_by g s c st [] = st
each_by g s c st (p ∷ ps) = each_by g s (suc c) (g s c st p.before p.now) ps

abbrev once : List Fed
once = fed_after (reading (one ∷ []) 0) (reading (two ∷ []) 1) ∷ []

-- the weight of the first statistic after one score is 1
first_weight : to_bits binary64 (get_or (statistics_from strands once) 0 nan) ≡ 0x3ff0_0000_0000_0000
unfolding writing
first_weight = refl

no_weight : to_bits binary64 (of_bits binary64 0) ≡ 0
unfolding writing
no_weight = refl

idle_refused : (g : Feeding) → ((s : Settings) (c : ℕ) (st : List Float) (p r : Reading) → g s c st p r ≡ st)
    → ((s : Settings) (ps : List Fed) → each_by g s 0 (replicate (statistics_length s) (of_bits binary64 0)) ps ≡ statistics_from s ps) → ⊥
idle_refused g idle e =
    let zeros : List Float = replicate 30 (of_bits binary64 0) in
    let z : zeros ≡ statistics_from strands once = sym (idle strands 0 zeros (reading (one ∷ []) 0) (reading (two ∷ []) 1)) ∙ e strands once in
    let q : ◌≡◌ {A = ℕ} 0 0x3ff0_0000_0000_0000 = sym no_weight ∙ ap (λ (l : List Float). to_bits binary64 (get_or l 0 nan)) z ∙ first_weight in
    omega arith
