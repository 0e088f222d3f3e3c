-- A head that `build` could have made, with lent lists that are long enough, answers as its state does, and holds the state that the call leaves.
-- Assumes nothing.
use Prim.Native.Nat.{ℕ, zero, suc, ◌*◌}
use mathlib.Core.Path.{◌≡◌, refl, sym, ap}
use lib.ListN.{length, drop}
use lib.Seq.{take_at}
use Rattle.refusal.specs.Lent.{over}
use Rattle.trcf.specs.Settings.{dimension, block}
use Rattle.trcf.specs.Calls.{Call}
use Rattle.trcf.specs.Preprocessor.{State, refused, statistics_length, refusal, reply, answer, accepted}
use Rattle.trcf.specs.View.{Lent, settings_of, view, counted, written_over, head_row, lent_row, row_of, answer_of, or_else}
use Rattle.trcf.specs.declared.head.Preprocessor.{Preprocessor}

or_none : (r : ℕ) → or_else r 0 ≡ r
or_none zero = refl
or_none (suc r) = refl

module _ (h : Preprocessor) (l : Lent) (c : Call) (sane : head_row (settings_of h) ≡ 0) (long : lent_row h l ≡ 0) where
  pub row_is : row_of h l c ≡ refusal (view h l) c
  unfolding row_of refusal view
  row_is = rw (sane, long) (or_none _)

  pub answer_is : answer_of h l c ≡ answer (view h l) c
  unfolding answer_of answer
  answer_is = ap (λ (r : ℕ). accepted r (reply (view h l) c) (refused r)) row_is

-- a state whose lists have the lengths that its settings ask for
pub record Shaped (h : Preprocessor) (w : State) : Type 0 where
  pub settled : w.settings ≡ settings_of h
  pub statistics_length_lem : length w.statistics ≡ statistics_length (settings_of h)
  pub input_length : length w.last_shingled_input ≡ h.transformer.input_length * h.shingle_size
  pub point_length_lem : length w.last_shingled_point ≡ dimension (settings_of h)
  pub times_length : length w.previous_timestamps ≡ h.shingle_size
  pub values_length : length w.initial_values ≡ length w.initial_timestamps * h.transformer.input_length

-- what is laid back is what is seen next
pub view_laid : (h : Preprocessor) (l : Lent) (w : State) → Shaped h w → view (counted h w) (written_over w l) ≡ w
unfolding view written_over over dimension block
view_laid h l w s =
    λ j. record {
      settings = sym s.settled j;
      values_seen = w.values_seen;
      internal_timestamp = w.internal_timestamp;
      count = w.count;
      statistics = take_at w.statistics (drop (length w.statistics) l.statistics) (statistics_length (settings_of h)) s.statistics_length_lem j;
      last_shingled_input = take_at w.last_shingled_input (drop (length w.last_shingled_input) l.last_shingled_input) (h.transformer.input_length * h.shingle_size) s.input_length j;
      last_shingled_point = take_at w.last_shingled_point (drop (length w.last_shingled_point) l.last_shingled_point) (dimension (settings_of h)) s.point_length_lem j;
      previous_timestamps = take_at w.previous_timestamps (drop (length w.previous_timestamps) l.previous_timestamps) h.shingle_size s.times_length j;
      initial_values = take_at w.initial_values (drop (length w.initial_values) l.initial_values) (length w.initial_timestamps * h.transformer.input_length) s.values_length j;
      initial_timestamps = take_at w.initial_timestamps (drop (length w.initial_timestamps) l.initial_timestamps) (length w.initial_timestamps) refl j;
    }
