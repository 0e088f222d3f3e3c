-- Computed: all lists of few calls run on the history itself, and the theorem at concrete settings.
use Prim.Native.Nat.{ℕ}
use native.Mathlib.Omega.{arith}
use mathlib.Core.Path.{◌≡◌, refl}
use mathlib.Core.List.{List, [], ◌∷◌}
use lib.Ieee.{of_bits, of_fields, odd, fits, lt, le, eq, size}
use Rattle.common.specs.Deviation.{zero64, outside_unit}
use Rattle.trcf.specs.declared.types.TransformMethod.TheVariants.{NORMALIZE}
use Rattle.trcf.specs.declared.types.ForestMode.TheVariants.{STANDARD, TIME_AUGMENTED}
use Rattle.trcf.specs.Lists.{last_n}
use Rattle.trcf.specs.Transformer.{one32}
use Rattle.trcf.specs.Settings.{Settings, block, dimension, waiting as waits, all_one, settings_row, Valid}
use Rattle.trcf.specs.Calls.{drain as drainCall, finite, due, newest, before_newest as behindNewest, wrong_length, outside, drain_full, learn_full, waiting_short, learn_short, table, rows}
use Rattle.restart.specs.History.{seen_of, internal_of, buffer_of, shingled, inputs_of, timestamps_of, newest_reading, count_of, history_facts, history_refusal, complete, adds, enter, entries}
use Rattle.stranding.specs.Orders.{Kind, point_kind, learn_kind, drain_kind}
use Rattle.stranding.specs.Standing.{Standing, still_waiting, now_drained, now_stranded}
use Rattle.stranding.specs.Counts.{row_counts, counts_by, strandings_of}
use Rattle.stranding_history.specs.CallOrders.{has_learned, standing_of, zero_calls, Strandings}
use Rattle.stranding_history.proofs.Counted.{strandings_of_the_history}

-- to unfold one of these is to unfold whatever its line names
judging : Unit {0}
unfolding of_bits lt size last_n block dimension waits finite due newest behindNewest wrong_length outside drain_full learn_full waiting_short learn_short table rows
judging = tt

recording : Unit {0}
unfolding judging seen_of internal_of buffer_of shingled inputs_of timestamps_of newest_reading count_of history_facts history_refusal complete adds enter entries has_learned standing_of
recording = tt

-- d 1, k 2, and the start given
abbrev plain : ℕ → Settings
plain start =
    record {
      mode = STANDARD;
      method = NORMALIZE;
      d = 1;
      k = 2;
      start = start;
      stop = 20;
      decay = zero64;
      weight_time = one32;
      weights = one32 ∷ [];
      codes = 7 ∷ [];
    }

-- with the time, d 2
abbrev timed : ℕ → Settings
timed start =
    record {
      mode = TIME_AUGMENTED;
      method = NORMALIZE;
      d = 2;
      k = 1;
      start = start;
      stop = start;
      decay = zero64;
      weight_time = one32;
      weights = one32 ∷ one32 ∷ [];
      codes = 0 ∷ 65535 ∷ [];
    }

-- what the history's entries show after the calls of zeros
abbrev leaves : Settings → List Kind → Standing
leaves s w = standing_of (entries s (zero_calls s [] w))

-- ---- "For n 2 and s 1 they are 6, 2 and 1", on the history

nine_lists : counts_by (leaves (plain 1)) 2 ≡ row_counts 0 6 2 1
unfolding recording counts_by
nine_lists = refl

nine_lists_timed : counts_by (leaves (timed 1)) 2 ≡ row_counts 0 6 2 1
unfolding recording counts_by
nine_lists_timed = refl

twenty_seven_lists : counts_by (leaves (plain 2)) 3 ≡ row_counts 0 24 2 1
unfolding recording counts_by
twenty_seven_lists = refl

-- ---- single lists

none_yet : leaves (plain 1) (point_kind ∷ drain_kind ∷ drain_kind ∷ []) ≡ still_waiting 0
unfolding recording
none_yet = refl

by_point : leaves (plain 1) (learn_kind ∷ point_kind ∷ learn_kind ∷ []) ≡ now_drained
unfolding recording
by_point = refl

by_learn : leaves (plain 1) (learn_kind ∷ learn_kind ∷ drain_kind ∷ point_kind ∷ []) ≡ now_stranded
unfolding recording
by_learn = refl

-- "A drain met by row 15 still counts as a call": the second of two drains is met by it
second_drain : history_refusal (plain 1) (entries (plain 1) (zero_calls (plain 1) [] (learn_kind ∷ drain_kind ∷ []))) drainCall ≡ 15
unfolding recording
second_drain = refl

by_drains : leaves (plain 1) (learn_kind ∷ drain_kind ∷ drain_kind ∷ []) ≡ now_drained
unfolding recording
by_drains = refl

-- ---- the theorem at these settings

plain_valid : Valid (plain 1)
unfolding settings_row outside_unit all_one le lt eq fits of_bits of_fields odd
plain_valid = record {
  unrefused = refl;
  machine = record { stop_fits = omega arith; decay_fits = tt; weight_time_fits = tt; weights_fit = (tt, tt); codes_fit = (omega arith, tt) };
}

two_calls : Strandings (plain 1) 2
two_calls = strandings_of_the_history (plain 1) plain_valid refl (omega arith) (omega arith) 2 (omega arith) (omega arith)

-- with the arguments of zeros: what is counted on the history above is what `strandings` answers
two_calls_of_zeros : counts_by (leaves (plain 1)) 2 ≡ strandings_of 1 2
two_calls_of_zeros = two_calls.counts (zero_calls (plain 1) []) (λ w h. (two_calls.some_arguments w h).0)
