-- Rows 10 to 20, and 28, of the calls by computation: each row, the values at its edge, and which of two rows comes first where both hold.
use Prim.Native.Nat.{ℕ}
use mathlib.Core.Path.{◌≡◌, refl}
use mathlib.Core.Bool.{false}
use mathlib.Core.List.{List, [], ◌∷◌, ◌++◌, map}
use mathlib.Core.Option.{Option, none, some}
use lib.IntN.{ℤ, pos, negsuc}
use lib.ListN.{replicate}
use lib.Ieee.{Float, nan, inf, binary32, of_bits, lt}
use Rattle.trcf.specs.declared.types.TransformMethod.{TransformMethod}
use Rattle.trcf.specs.declared.types.TransformMethod.TheVariants.{NONE, DIFFERENCE, NORMALIZE}
use Rattle.trcf.specs.declared.types.ForestMode.{ForestMode}
use Rattle.trcf.specs.declared.types.ForestMode.TheVariants.{STANDARD, TIME_AUGMENTED, GAP_AUGMENTED}
use Rattle.common.specs.Deviation.{zero64}
use Rattle.ranges.specs.RangeVector.{ranges, unequal, unblocked, shorter}
use Rattle.trcf.specs.Transformer.{zero32}
use Rattle.trcf.specs.Settings.{Settings, block, dimension, waiting}
use Rattle.trcf.specs.Calls.{Call, shingled_point, post_process, drain, transform, invert_extrapolation, scale, shift, status, Facts, finite, due, newest, before_newest, wrong_length, outside, drain_full, learn_full, lookahead, forecast_unfit, forecast_output_short, waiting_short, learn_short, table, rows}

-- a call, what is known when it is made, and the number of the row that refuses it (0 for none)
record Case : Type 0 where
  settings : Settings
  known : Facts
  call : Call
  row : ℕ

abbrev case : Settings → Facts → Call → ℕ → Case
case s f c n = record { settings = s; known = f; call = c; row = n }

abbrev one : Float
one = of_bits binary32 0x3f80_0000

-- k 2, start 2, stop 9
abbrev sets : ForestMode → TransformMethod → ℕ → Settings
sets mode method d =
    record { mode = mode; method = method; d = d; k = 2; start = 2; stop = 9; decay = zero64; weight_time = one; weights = replicate d one; codes = replicate d 0 }

abbrev N : Settings
N = sets STANDARD NORMALIZE 1

abbrev P : Settings
P = sets STANDARD NONE 1

abbrev D : Settings
D = sets STANDARD DIFFERENCE 2

abbrev A : Settings
A = sets TIME_AUGMENTED NONE 1

-- settings with another start
abbrev starting : ℕ → Settings
starting n =
    record { mode = STANDARD; method = NORMALIZE; d = 1; k = 2; start = n; stop = n; decay = zero64; weight_time = one; weights = one ∷ []; codes = 0 ∷ [] }

abbrev know : ℕ → ℕ → ℕ → List ℕ → List ℕ → Facts
know seen internal count tims bufs =
    record { values_seen = seen; internal_timestamp = internal; count = count; previous_timestamps = tims; initial_timestamps = bufs }

-- nothing yet; one waits; both wait, past waiting; three learnt
abbrev empty : Facts
empty = know 0 0 0 (0 ∷ 0 ∷ []) []

abbrev waits : Facts
waits = know 1 0 0 (0 ∷ 0 ∷ []) (5 ∷ [])

-- count and internal as given
abbrev ready : ℕ → ℕ → Facts
ready c i = know 2 i c (0 ∷ 0 ∷ []) (5 ∷ 7 ∷ [])

abbrev past : Facts
past = know 3 3 3 (7 ∷ 9 ∷ []) []

abbrev room : ℕ → List Float
room n = replicate n zero32

abbrev Inf : Float
Inf = inf false

abbrev point : List Float → ℕ → Call
point x n = shingled_point x 0 (room n)

points : List Case
points =
    case N past (point [] 2) 10
    ∷ case N past (point (one ∷ one ∷ []) 2) 10
    ∷ case N past (point (Inf ∷ Inf ∷ []) 2) 10  -- before 11
    ∷ case N past (point (Inf ∷ []) 2) 11
    ∷ case N past (point (nan ∷ []) 2) 11
    ∷ case N (ready 9007199254740989 0) (point (Inf ∷ []) 2) 11  -- before 18
    ∷ case N (ready 9007199254740989 0) (point (one ∷ []) 2) 18
    ∷ case N (ready 9007199254740988 0) (point (one ∷ []) 2) 0  -- count + start is the limit
    ∷ case N (ready 9007199254740987 0) (point (one ∷ []) 2) 0
    ∷ case N (ready 2147483645 0) (point (one ∷ []) 2) 0  -- past the Rust's last count
    ∷ case N (ready 0 9223372036854775806) (point (one ∷ []) 2) 18
    ∷ case N (ready 0 9223372036854775805) (point (one ∷ []) 2) 0
    ∷ case N (ready 9007199254740989 0) (point (one ∷ []) 0) 18  -- before 20
    ∷ case N past (point (one ∷ []) 1) 20
    ∷ case N past (point (one ∷ []) 2) 0
    ∷ case A past (point (one ∷ []) 3) 20
    ∷ case N waits (point (one ∷ []) 0) 0  -- while waiting it writes nothing
    ∷ []

-- a learn: input, time, y, expected point, grade, index; room of the deviations, and of past and expected values
abbrev learning : List Float → ℕ → Option (List Float) → Option (List Float) → Float → ℤ → ℕ → ℕ → ℕ → Call
learning x t y e g i a b c =
    post_process (record {
      input = x;
      timestamp = t;
      rcf_point = y;
      expected_point = e;
      grade = g;
      relative_index = i;
      deviations_out = room a;
      past_out = room b;
      expected_out = room c;
    })

-- x at time t with y, all else in order
abbrev plain : List Float → ℕ → Option (List Float) → Call
plain x t y = learning x t y none zero32 (pos 0) 1 1 1

-- an anomaly at index i
abbrev odd : ℤ → Option (List Float) → Call
odd i y = learning (one ∷ []) 9 y none one i 1 1 1

learnings : List Case
learnings =
    case N past (plain [] 9 none) 10
    ∷ case N past (plain (Inf ∷ Inf ∷ []) 9 none) 10  -- before 11
    ∷ case N past (plain (Inf ∷ []) 9 none) 11
    ∷ case N past (plain (nan ∷ []) 0 none) 11  -- before 12
    ∷ case N waits (plain (one ∷ []) 4 none) 12
    ∷ case N waits (plain (one ∷ []) 5 none) 0
    ∷ case N (ready 0 0) (plain (one ∷ []) 6 none) 12  -- internal 0: the last `buf`
    ∷ case N (ready 0 0) (plain (one ∷ []) 7 none) 0
    ∷ case N past (plain (one ∷ []) 8 none) 12
    ∷ case N past (plain (one ∷ []) 9 none) 0
    ∷ case N empty (plain (one ∷ []) 0 none) 0
    ∷ case N past (plain (one ∷ []) 8 (some [])) 12  -- before 13
    ∷ case N past (plain (one ∷ []) 9 (some [])) 13
    ∷ case N past (learning (one ∷ []) 9 none (some (room 3)) zero32 (pos 0) 1 1 1) 13
    ∷ case N waits (plain (one ∷ []) 9 (some [])) 0
    ∷ case N past (odd (pos 1) (some [])) 13  -- before 14
    ∷ case N past (odd (pos 1) (some (room 2))) 14
    ∷ case N past (odd (negsuc 1) (some (room 2))) 14
    ∷ case N past (odd (negsuc 0) (some (room 2))) 0
    ∷ case N past (odd (pos 1) none) 0
    ∷ case N waits (odd (pos 1) (some (room 2))) 0
    ∷ case N past (learning (one ∷ []) 9 (some (room 2)) none zero32 (pos 1) 1 1 1) 0
    ∷ case N past (learning (one ∷ []) 9 (some (room 2)) none nan (pos 1) 1 1 1) 0
    ∷ case N (know 3 3 9007199254740990 (7 ∷ 9 ∷ []) []) (odd (pos 1) (some (room 2))) 14  -- before 18
    ∷ case N (know 3 3 9007199254740990 (7 ∷ 9 ∷ []) []) (plain (one ∷ []) 9 (some (room 2))) 18
    ∷ case N (know 3 3 9007199254740989 (7 ∷ 9 ∷ []) []) (plain (one ∷ []) 9 (some (room 2))) 0
    ∷ case N (know 3 3 2147483646 (7 ∷ 9 ∷ []) []) (plain (one ∷ []) 9 (some (room 2))) 0  -- past the Rust's last count
    ∷ case N (know 9 3 9007199254740990 (7 ∷ 9 ∷ []) []) (plain (one ∷ []) 9 (some (room 2))) 0  -- at stop nothing is fed
    ∷ case N (know 3 3 9007199254740990 (7 ∷ 9 ∷ []) []) (plain (one ∷ []) 9 none) 0
    ∷ case N (know 9223372036854775807 3 3 (7 ∷ 9 ∷ []) []) (plain (one ∷ []) 9 (some (room 2))) 18
    ∷ case N (know 9223372036854775806 3 3 (7 ∷ 9 ∷ []) []) (plain (one ∷ []) 9 (some (room 2))) 0
    ∷ case N (know 3 9223372036854775807 3 (7 ∷ 9 ∷ []) []) (plain (one ∷ []) 9 (some (room 2))) 18
    ∷ case (starting 9223372036854775808) (know 9223372036854775807 0 0 (0 ∷ 0 ∷ []) []) (plain (one ∷ []) 9 none) 18
    ∷ case N (know 3 3 9007199254740990 (7 ∷ 9 ∷ []) []) (learning (one ∷ []) 9 (some (room 2)) none zero32 (pos 0) 0 0 0) 18  -- before 20
    ∷ case N past (learning (one ∷ []) 9 (some (room 2)) none zero32 (pos 0) 0 0 0) 20
    ∷ case A past (learning (one ∷ []) 9 (some (room 4)) none zero32 (pos 0) 1 0 0) 20
    ∷ case N past (learning (one ∷ []) 9 none none zero32 (pos 0) 0 0 0) 0
    ∷ case N past (learning (one ∷ []) 9 (some (room 2)) none one (pos 0) 1 0 0) 0  -- no expected point, no anomaly
    ∷ case N past (learning (one ∷ []) 9 (some (room 2)) (some (room 2)) one (pos 0) 1 0 1) 20
    ∷ case N past (learning (one ∷ []) 9 (some (room 2)) (some (room 2)) one (pos 0) 1 1 0) 20
    ∷ case N past (learning (one ∷ []) 9 (some (room 2)) (some (room 2)) one (pos 0) 1 1 1) 0
    ∷ case N waits (learning (one ∷ []) 9 none none zero32 (pos 0) 0 0 0) 20  -- the reading that completes start
    ∷ case N empty (learning (one ∷ []) 9 none none zero32 (pos 0) 0 0 0) 0
    ∷ case N waits (learning (one ∷ []) 4 none none zero32 (pos 0) 0 0 0) 12
    ∷ []

abbrev turning : List Float → List Float → ℕ → ℕ → Call
turning v u n t =
    invert_extrapolation (record { forecast = ranges v u u; values_out = ranges (room n) (room n) (room n); times_out = ranges (room t) (room t) (room t) })

others : List Case
others =
    case N (know 2 2 2 (7 ∷ 9 ∷ []) []) drain 15
    ∷ case P (know 2 2 2 (7 ∷ 9 ∷ []) []) drain 15
    ∷ case P (know 1 1 1 (0 ∷ 9 ∷ []) []) drain 0
    ∷ case P past drain 0
    ∷ case (starting 0) empty drain 15
    ∷ case N (ready 9007199254740989 0) drain 18
    ∷ case N (ready 9007199254740988 0) drain 0  -- count + start is the limit
    ∷ case N (ready 9007199254740987 0) drain 0
    ∷ case N (ready 2147483645 0) drain 0  -- past the Rust's last count
    ∷ case N (ready 0 9223372036854775806) drain 18
    ∷ case N past (transform [] 0 (room 0)) 10  -- before 20
    ∷ case N past (transform (one ∷ []) 0 (room 0)) 20
    ∷ case A past (transform (one ∷ []) 0 (room 1)) 20
    ∷ case N past (transform (Inf ∷ []) 0 (room 1)) 0  -- infinities go through
    ∷ case P past (turning (room 1) (room 2) 0 0) 16
    ∷ case P past (turning [] [] 0 0) 0
    ∷ case D past (turning [] [] 0 0) 16
    ∷ case D past (turning (room 3) (room 3) 0 0) 16
    ∷ case D past (turning (room 4) (room 4) 0 0) 0
    ∷ case A past (turning (room 3) (room 3) 0 0) 16  -- before 20
    ∷ case A past (turning (room 4) (room 4) 1 1) 20
    ∷ case A past (turning (room 4) (room 4) 2 0) 20
    ∷ case A past (turning (room 7) (room 7) 2 1) 0
    ∷ case A past (turning (room 8) (room 8) 2 1) 20
    ∷ case N past (scale (room 0)) 20
    ∷ case A past (scale (room 1)) 20
    ∷ case N past (scale (room 1)) 0
    ∷ case N past (shift (room 0)) 20
    ∷ case N past (shift (room 1)) 0
    ∷ case N past (status (room 0)) 20
    ∷ case N past (status (room 1)) 0
    ∷ []

-- ---- row 28 (request 114)

-- gaps: a method that waits, and one that does not
abbrev G : TransformMethod → Settings
G method = sets GAP_AUGMENTED method 1

abbrev point_at : List Float → ℕ → ℕ → Call
point_at x t n = shingled_point x t (room n)

abbrev transform_at : List Float → ℕ → ℕ → Call
transform_at x t n = transform x t (room n)

behinds : List Case
behinds =
    case (G NONE) past (point_at (one ∷ []) 8 4) 28
    ∷ case (G NONE) past (point_at (one ∷ []) 9 4) 0  -- the same time is a gap of 0
    ∷ case A past (point_at (one ∷ []) 8 4) 0  -- in G alone
    ∷ case N past (point_at (one ∷ []) 8 2) 0
    ∷ case (G NONE) past (point_at [] 8 4) 10  -- before 28
    ∷ case (G NONE) past (point_at (nan ∷ []) 8 4) 11  -- before 28
    ∷ case (G NONE) past (point_at (one ∷ []) 8 3) 28  -- before 20
    ∷ case (G NONE) past (point_at (one ∷ []) 9 3) 20
    ∷ case (G NORMALIZE) (ready 9007199254740989 0) (point_at (one ∷ []) 6 4) 28  -- before 18
    ∷ case (G NORMALIZE) (ready 9007199254740989 0) (point_at (one ∷ []) 7 4) 18
    ∷ case (G NORMALIZE) waits (point_at (one ∷ []) 4 4) 28  -- while readings wait the newest is the last of them
    ∷ case (G NORMALIZE) waits (point_at (one ∷ []) 5 4) 0
    ∷ case (G NONE) (know 0 1 0 (0 ∷ 9 ∷ []) []) (point_at (one ∷ []) 8 4) 28  -- also with nothing seen
    ∷ case (G NONE) (know 0 1 0 (0 ∷ 9 ∷ []) []) (point_at (one ∷ []) 9 4) 0
    ∷ case (G NONE) empty (point_at (one ∷ []) 0 4) 0
    ∷ case (G NONE) past (transform_at (one ∷ []) 8 2) 28
    ∷ case (G NONE) past (transform_at (one ∷ []) 9 2) 0
    ∷ case (G NONE) past (transform_at (Inf ∷ []) 8 2) 28  -- no row 11 before it
    ∷ case (G NONE) past (transform_at [] 8 2) 10  -- before 28
    ∷ case (G NONE) past (transform_at (one ∷ []) 8 1) 28  -- before 20
    ∷ case (G NONE) past (transform_at (one ∷ []) 9 1) 20
    ∷ case (G NORMALIZE) waits (transform_at (one ∷ []) 4 2) 28
    ∷ case (G NORMALIZE) waits (transform_at (one ∷ []) 5 2) 0
    ∷ case A past (transform_at (one ∷ []) 8 2) 0
    ∷ case (G NONE) past (plain (one ∷ []) 8 none) 12  -- a learn has row 12 in every mode
    ∷ case (G NONE) past (turning (room 3) (room 3) 0 0) 16  -- as in T
    ∷ case (G NONE) past (turning (room 8) (room 8) 2 1) 20
    ∷ case (G NONE) past (shift (room 1)) 20
    ∷ []

abbrev cases : List Case
cases = points ++ learnings ++ others ++ behinds

each_row : map (λ (c : Case). rows c.settings c.known c.call) cases ≡ map (λ (c : Case). c.row) cases
unfolding points learnings others behinds rows table waiting block dimension due newest before_newest wrong_length outside drain_full learn_full lookahead forecast_unfit forecast_output_short waiting_short learn_short finite unequal unblocked shorter lt of_bits
each_row = refl
