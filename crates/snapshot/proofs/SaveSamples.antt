-- Heads and memory that are put away, and such as are not, computed. Assumes nothing.
use Prim.Native.Nat.{ℕ, ◌≤◌}
use mathlib.Core.Path.{◌≡◌, refl}
use mathlib.Core.List.{List, [], ◌∷◌, map}
use native.Mathlib.Omega.{arith}
use lib.ListN.{length, replicate}
use lib.Ieee.{binary32, of_bits, of_fields, odd, fits, size, to_bits, le, lt}
use Rattle.common.specs.Deviation.{zero64, outside_unit}
use Rattle.refusal.specs.Lent.{over}
use Rattle.trcf.specs.Transformer.{zero32, one32}
use Rattle.trcf.specs.Settings.{Settings, settings_row, all_one, block, dimension, waiting}
use Rattle.trcf.specs.Calls.{finite}
use Rattle.trcf.specs.View.{Lent, lent, head_from, no_head, counting, view, counters_unfit, lent_short}
use Rattle.trcf.specs.declared.types.TransformMethod.TheVariants.{NORMALIZE}
use Rattle.trcf.specs.declared.types.ForestMode.TheVariants.{STANDARD}
use Rattle.trcf.specs.declared.head.Preprocessor.{Preprocessor}
use Rattle.snapshot.specs.Text.{render, lines_by, body_lines, set_line, singles, chn_line, cnt_line, dev_line, tim_line, buf_line, whole, float}
use Rattle.snapshot.specs.Save.{in_use_short, unformed, fitted, held_save, save_of}
use Rattle.snapshot.specs.Savable.{InMemory, TakenUp}
use Rattle.snapshot.specs.Room.{text_room}
use Rattle.snapshot.proofs.SaveForm.{savable_of, saved_form}
use Rattle.snapshot.proofs.RoundTrip.{saved_is_taken_up}
use Rattle.snapshot.proofs.TextRoom.{text_fits}

all : Unit {0}
unfolding over save_of held_save fitted unformed in_use_short settings_row counters_unfit lent_short view block dimension waiting all_one finite outside_unit
    render lines_by body_lines set_line singles chn_line cnt_line dev_line tim_line buf_line whole float to_bits of_bits of_fields odd fits size le lt
all = tt

abbrev settings : Settings
settings = record { mode = STANDARD; method = NORMALIZE; d = 1; k = 2; start = 2; stop = 9; decay = zero64; weight_time = one32; weights = one32 ∷ []; codes = 7 ∷ [] }

-- count, values_seen, internal_timestamp and initial values
abbrev head_with : ℕ → ℕ → ℕ → ℕ → Preprocessor
head_with = counting (head_from settings)

-- the times and what waits
abbrev memory : List ℕ → List ℕ → Lent
memory times waits = lent (replicate 30 zero64) (replicate 2 zero32) (replicate 2 zero32) times (replicate 2 one32) waits

abbrev none : List ℕ
none = 0 ∷ 0 ∷ []

abbrev room : List ℕ
room = replicate 900 0

abbrev row_with : Preprocessor → Lent → ℕ
row_with h l = (save_of h l room).row

-- one reading waits, and is put away
one_waits : row_with (head_with 0 1 0 1) (memory none (5 ∷ 0 ∷ [])) ≡ 0
unfolding all
one_waits = refl

-- one reading was seen and waits nowhere: "a watch that was taken up without its waiting start readings"
none_waits : row_with (head_with 0 1 0 0) (memory none (5 ∷ 0 ∷ [])) ≡ 19
unfolding all
none_waits = refl

-- an internal time while readings wait; later one of two readings left; both left where the trace has begun with them
counters : map (λ (h : Preprocessor). row_with h (memory none (5 ∷ 6 ∷ []))) (head_with 0 1 1 1 ∷ head_with 0 3 1 1 ∷ head_with 0 2 1 2 ∷ head_with 0 2 0 2 ∷ head_with 0 3 1 2 ∷ []) ≡ 19 ∷ 19 ∷
    19 ∷ 0 ∷ 0 ∷ []
unfolding all
counters = refl

-- times that fall; a time where none was counted; waiting times that fall
falling : map (λ (l : Lent). row_with (head_with 0 3 1 0) l) (memory (4 ∷ 3 ∷ []) none ∷ memory (3 ∷ 4 ∷ []) none ∷ []) ≡ 19 ∷ 0 ∷ []
unfolding all
falling = refl

early : map (λ (l : Lent). row_with (head_with 0 2 0 2) l) (memory (0 ∷ 1 ∷ []) (5 ∷ 6 ∷ []) ∷ memory none (6 ∷ 5 ∷ []) ∷ memory none (5 ∷ 5 ∷ []) ∷ []) ≡ 19 ∷ 19 ∷ 0 ∷ []
unfolding all
early = refl

-- a waiting reading that is not finite
infinite : row_with (head_with 0 1 0 1) (lent (replicate 30 zero64) (replicate 2 zero32) (replicate 2 zero32) none (of_bits binary32 0x7f80_0000 ∷ []) (5 ∷ [])) ≡ 19
unfolding all
infinite = refl

-- a head that was never built: row 2; a list too short, and no room: 20
others : row_with no_head (memory none none) ∷ row_with (head_with 0 0 0 0) (memory (0 ∷ []) none) ∷ (save_of (head_with 0 0 0 0) (memory none none) []).row ∷ [] ≡ 2 ∷ 20 ∷ 20 ∷ []
unfolding all
others = refl

-- an instance of the theorem
abbrev held : Lent
held = memory none (5 ∷ 0 ∷ [])

in_memory : InMemory (head_with 0 1 0 1) held
unfolding all
in_memory = record {
  settings = record { stop_fits = omega arith; decay_fits = tt; weight_time_fits = tt; weights_fit = (tt, tt); codes_fit = (omega arith, tt) };
  statistics = _;
  input = _;
  point
      = _;
  times = (omega arith, (omega arith, tt));
  initial = _;
  initial_times = (omega arith, (omega arith, tt));
}

pub taken_again : TakenUp (head_with 0 1 0 1) held room (memory (9 ∷ 9 ∷ []) (9 ∷ 9 ∷ [])) []
unfolding all
taken_again = saved_is_taken_up (head_with 0 1 0 1) held in_memory room one_waits (memory (9 ∷ 9 ∷ []) (9 ∷ 9 ∷ [])) refl []

-- and its text takes no more than the room that it is given by d, k and start
pub text_within_lem : length (render (view (head_with 0 1 0 1) held)) ≤ text_room 1 2 2
unfolding all
text_within_lem = text_fits (view (head_with 0 1 0 1) held) (saved_form (head_with 0 1 0 1) held in_memory (savable_of (head_with 0 1 0 1) held room one_waits))
