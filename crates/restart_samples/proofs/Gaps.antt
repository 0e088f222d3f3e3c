-- Mode G (request 114) by computation: the gap, what it is counted from, times turned back and the time's shift; and a list of calls in the mode.
use Prim.Native.Nat.{ℕ, ◌-◌}
use mathlib.Core.Path.{◌≡◌, refl}
use mathlib.Core.Bool.{true, false}
use mathlib.Core.List.{List, [], ◌∷◌, map}
use mathlib.Core.Option.{none, some}
use native.Mathlib.Omega.{arith}
use lib.ListN.{length, get_or, replicate}
use lib.Ieee.{Float, nan, inf, binary32, binary64, of_bits, div}
use Rattle.numeric.specs.Narrow.{narrowed}
use Rattle.common.specs.Deviation.{zero64}
use Rattle.ranges.specs.RangeVector.{ranges}
use Rattle.trcf.specs.Transformer.{zero32}
use Rattle.trcf.specs.Settings.{Settings}
use Rattle.trcf.specs.Calls.{Call, shingled_point, drain, transform, invert_extrapolation, shift}
use Rattle.trcf.specs.Preprocessor.{Answer, refused, absent, done, wrote, learnt, turned, told, time_element, fresh, run, answers}
use Rattle.trcf.specs.declared.types.TransformMethod.TheVariants.{NONE, NORMALIZE}
use Rattle.trcf.specs.declared.types.ForestMode.{ForestMode}
use Rattle.trcf.specs.declared.types.ForestMode.TheVariants.{TIME_AUGMENTED, GAP_AUGMENTED}
use Rattle.restart.specs.History.{history_answers}
use Rattle.restart.proofs.Step.{answers_history}
use Rattle.restart_samples.proofs.Samples.{computing, running, answering, recording, writing, one, two, four, six, thirty, sets, learn_at, room, number_of, texts, history_texts, agree}

abbrev sixty : Float
sixty = of_bits binary32 0x4270_0000

abbrev minus_two : Float
minus_two = of_bits binary32 0xc000_0000

-- ---- the element, over statistics that say a timescale of 1

abbrev element : ℕ → ℕ → Float → Float
element t base wt = time_element (sets GAP_AUGMENTED NONE 1 0 9 wt) (replicate 30 zero64) t base

-- a gap of 30: weight_time 1, 2 and −2
pub gaps_of_thirty : map (element 130 100) (one ∷ two ∷ minus_two ∷ []) ≡ thirty ∷ sixty ∷ of_bits binary32 0xc270_0000 ∷ []
unfolding computing
gaps_of_thirty = refl

-- a gap of 0 goes through the same formula: +0, −0 with a negative weight_time, and a not-a-number with an infinite one
pub gaps_of_none : map (element 130 130) (two ∷ minus_two ∷ inf false ∷ []) ≡ zero32 ∷ of_bits binary32 0x8000_0000 ∷ nan ∷ []
unfolding computing
gaps_of_none = refl

-- subtracted as whole numbers: 2^63 + 1 and 2^63 are one number as f64, and their gap is 1
pub gap_of_one : element 9223372036854775809 9223372036854775808 one ≡ one
unfolding computing
gap_of_one = refl

-- narrowed once: (2^24 + 1) × 3 is 50331651, so 50331652 as f32; a gap that is narrowed first gives 50331648
pub gap_narrowed_once : element 16777217 0 (of_bits binary32 0x4040_0000) ≡ of_bits binary32 0x4c40_0001
unfolding computing
gap_narrowed_once = refl

-- ---- a list of calls: NORMALIZE, k 2, start 2, stop 9, weight_time 2

abbrev settings : ForestMode → Settings
settings mode = sets mode NORMALIZE 2 2 9 two

abbrev y : List Float
y = one ∷ two ∷ four ∷ six ∷ []

abbrev calls : List Call
calls =
    transform (one ∷ []) 5 (room 2)
    ∷ shingled_point (one ∷ []) 99 (room 4)
    ∷ learn_at four 100 none
    ∷ transform (one ∷ []) 99 (room 2)
    ∷ transform (one ∷ []) 100 (room 2)
    ∷ transform (one ∷ []) 130 (room 2)
    ∷ shingled_point (one ∷ []) 99 (room 4)
    ∷ shingled_point (nan ∷ []) 99 (room 4)
    ∷ learn_at six 130 none
    ∷ shingled_point (one ∷ []) 129 (room 4)
    ∷ shingled_point (one ∷ []) 160 (room 4)
    ∷ transform (one ∷ []) 130 (room 2)
    ∷ transform (one ∷ []) 129 (room 1)
    ∷ shift (room 2)
    ∷ invert_extrapolation (record { forecast = ranges y y y; values_out = ranges (room 2) (room 2) (room 2); times_out = ranges (room 1) (room 1) (room 1) })
    ∷ learn_at one 160 (some y)
    ∷ shingled_point (one ∷ []) 160 (room 4)
    ∷ []

pub rows_met : map number_of (answers (fresh (settings GAP_AUGMENTED)) calls)
    ≡ 0 ∷ 0 ∷ 0 ∷ 28 ∷ 0 ∷ 0 ∷ 28 ∷ 11 ∷ 0 ∷ 28 ∷ 0 ∷ 0 ∷ 28 ∷ 0 ∷ 0 ∷ 0 ∷ 0 ∷ []
unfolding answering
rows_met = refl

-- the number that an answer ends in; of a turn-back the value of its one time
abbrev ends : Answer → Float
ends (refused n) = nan
ends absent = nan
ends done = nan
ends (wrote v) = get_or v (length v - 1) nan
ends (learnt l) = nan
ends (turned f) = get_or f.times_out.values 0 nan
ends (told s) = nan

-- once the two are drained the timescale is 8.5 and the drift 7.5
abbrev drained_gap : Float
drained_gap = narrowed (div binary64 (of_bits binary64 0x404e_0000_0000_0000) (of_bits binary64 0x4021_0000_0000_0000))

-- The first reading has gap 0. While one waits, 130 is 30 after it, and not 130 after the 0 in `tim`. After the drain 160 is 30 after the last waiting one.
-- The shift is 130 and the time turned back is 130 + 4 × (1/2) × 8.5, both without the drift.
pub times_told : map ends (answers (fresh (settings GAP_AUGMENTED)) calls)
    ≡ zero32 ∷ nan ∷ nan ∷ nan ∷ zero32 ∷ sixty ∷ nan ∷ nan ∷ nan ∷ nan ∷ drained_gap ∷ zero32 ∷ nan
    ∷ of_bits binary32 0x4302_0000 ∷ of_bits binary64 0x4062_6000_0000_0000 ∷ nan ∷ zero32 ∷ []
unfolding answering
times_told = refl

-- in T the drift is in both: 137.5 and 154.5
pub drifts_in_T : map ends (answers (run (fresh (settings TIME_AUGMENTED)) (learn_at four 100 none ∷ learn_at six 130 none ∷ drain ∷ []))
    (shift (room 2) ∷ invert_extrapolation (record { forecast = ranges y y y; values_out = ranges (room 2) (room 2) (room 2); times_out = ranges (room 1) (room 1) (room 1) }) ∷ []))
    ≡ of_bits binary32 0x4309_8000 ∷ of_bits binary64 0x4063_5000_0000_0000 ∷ []
unfolding answering
drifts_in_T = refl

-- "in F each W's newest is the W before, the first its own": gaps 0 and 30
abbrev elements_of : List Float → List Float
elements_of p = map (λ (i : ℕ). get_or p i nan) (1 ∷ 3 ∷ [])

pub drained_gaps : elements_of (run (fresh (settings GAP_AUGMENTED)) (learn_at four 100 none ∷ learn_at six 130 none ∷ drain ∷ [])).last_shingled_point ≡ zero32 ∷ drained_gap ∷ []
unfolding running
drained_gaps = refl

-- ---- the same by the history: every answer, and the text at every place

pub answers_same : answers (fresh (settings GAP_AUGMENTED)) calls ≡ history_answers (settings GAP_AUGMENTED) [] calls
answers_same = answers_history (settings GAP_AUGMENTED) (omega arith) calls

pub texts_same : agree (texts (fresh (settings GAP_AUGMENTED)) calls) (history_texts (settings GAP_AUGMENTED) [] calls) ≡ replicate 18 true
unfolding running recording writing
texts_same = refl
