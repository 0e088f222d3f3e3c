-- Calls on what the program holds, computed: document 01's sample "Start 2, k 4, W's 4, 6, then drain: inputs 0, 4, 4, 6", and refusals of heads and lent lists.
use Prim.Native.Nat.{ℕ}
use mathlib.Core.Path.{◌≡◌, refl}
use mathlib.Core.Bool.{false}
use mathlib.Core.List.{[], ◌∷◌}
use lib.IntN.{pos}
use lib.ListN.{replicate}
use lib.Ieee.{Float, binary32, of_bits, le}
use Rattle.common.specs.Deviation.{zero64, one64, outside_unit}
use Rattle.refusal.specs.Lent.{over}
use Rattle.trcf.specs.Lists.{shift_in, overwrite, last_n}
use Rattle.trcf.specs.Transformer.{zero32, one32}
use Rattle.trcf.specs.Settings.{Settings, settings_row, all_one, block, dimension, waiting}
use Rattle.trcf.specs.Calls.{Call, post_process, drain, scale, rows, table, finite, due, drain_full, newest, wrong_length, waiting_short, learn_full, learn_short, outside}
use Rattle.trcf.specs.Preprocessor.{fresh, facts, change, buffered, drained, drain_all, drain_one, primed, previous, panel_of}
use Rattle.trcf.specs.View.{Lent, lent, view, alone, written_over, head_row, lent_short, counters_unfit, short_row, lent_row, row_of, head_after, lent_after, no_head, build_row}
use Rattle.trcf.specs.View.{build_of, drain_of, learn_call, Outcome}
use Rattle.trcf.specs.declared.types.TransformMethod.TheVariants.{NORMALIZE}
use Rattle.trcf.specs.declared.types.ForestMode.TheVariants.{STANDARD}
use Rattle.trcf.specs.declared.head.Preprocessor.{Preprocessor}

-- opens what a call computes by
all : Unit {0}
unfolding build_of build_row settings_row lent_row short_row lent_short counters_unfit written_over fresh over view head_after lent_after row_of head_row rows
    table facts finite due drain_full newest wrong_length waiting_short learn_full learn_short outside waiting block dimension all_one outside_unit change
    buffered drain_of drained drain_all drain_one primed previous shift_in overwrite last_n le of_bits
all = tt

abbrev four : Float
four = of_bits binary32 0x4080_0000

abbrev six : Float
six = of_bits binary32 0x40c0_0000

abbrev settings : Settings
settings = record { mode = STANDARD; method = NORMALIZE; d = 1; k = 4; start = 2; stop = 10; decay = zero64; weight_time = one32; weights = one32 ∷ []; codes = 0 ∷ [] }

-- each list one longer than its need
abbrev memory : Lent
memory = lent (replicate 31 one64) (replicate 5 one32) (replicate 5 one32) (replicate 5 7) (replicate 3 one32) (replicate 3 7)

first : Outcome
unfolding all
first = build_of settings memory

abbrev reading : Float → ℕ → Call
reading x t = post_process (learn_call (x ∷ []) t false [] false [] zero32 (pos 0) (one32 ∷ []) [] [])

head₁ : Preprocessor
unfolding all
head₁ = head_after first.head first.lent (reading four 1)

lent₁ : Lent
unfolding all
lent₁ = lent_after first.head first.lent (reading four 1)

head₂ : Preprocessor
unfolding all
head₂ = head_after head₁ lent₁ (reading six 2)

lent₂ : Lent
unfolding all
lent₂ = lent_after head₁ lent₁ (reading six 2)

-- the sample; what lies after the four inputs stays
example_inputs : (drain_of head₂ lent₂).lent.last_shingled_input ≡ zero32 ∷ four ∷ four ∷ six ∷ one32 ∷ []
unfolding all first head₁ lent₁ head₂ lent₂
example_inputs = refl

example_times : (drain_of head₂ lent₂).lent.previous_timestamps ≡ 0 ∷ 1 ∷ 1 ∷ 2 ∷ 7 ∷ []
unfolding all first head₁ lent₁ head₂ lent₂
example_times = refl

-- the panel: readings that wait are not on it, and a drain feeds them; `values_seen` is 2 before it and after it
example_panel : panel_of (view head₂ lent₂) ∷ panel_of (alone (drain_of head₂ lent₂).head) ∷ [] ≡ 0 ∷ 2 ∷ []
unfolding all first head₁ lent₁ head₂ lent₂
example_panel = refl

-- a second drain is refused, and so are a falling time, a head that no build made and a lent list that is too short
example_twice : row_of (drain_of head₂ lent₂).head (drain_of head₂ lent₂).lent drain ≡ 15
unfolding all first head₁ lent₁ head₂ lent₂
example_twice = refl

example_falling : row_of head₁ lent₁ (reading six 0) ≡ 12
unfolding all first head₁ lent₁
example_falling = refl

example_forged : row_of no_head memory (scale []) ≡ 2
unfolding all
example_forged = refl

example_short : row_of head₂ (lent [] lent₂.last_shingled_input lent₂.last_shingled_point lent₂.previous_timestamps lent₂.initial_values lent₂.initial_timestamps) drain ≡ 20
unfolding all first head₁ lent₁ head₂ lent₂
example_short = refl
