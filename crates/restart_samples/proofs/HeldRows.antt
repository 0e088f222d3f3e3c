-- Rows over what the program holds, by computation: which row shows where several lent parts are too short, which lists may be empty, and what a refused
-- status and `is_ready` tell; the order of `save`'s rows; and that a lent part that is too short, and counters that no preprocessor has, refuse every call.
use Prim.Native.Nat.{ℕ, zero, suc}
use native.Mathlib.Omega.{arith}
use mathlib.Core.Path.{◌≡◌, refl, sym, ap, ◌∙◌}
use mathlib.Core.Bool.{Bool, true, false, cond, true≢false}
use mathlib.Core.List.{List, [], ◌∷◌, map}
use mathlib.Core.Option.{Option, none, some}
use lib.IntN.{pos}
use lib.ListN.{length, replicate}
use lib.Ieee.{Float, nan, binary32, binary64, of_bits, to_bits, size, fits, le, lt}
use Rattle.common.specs.Deviation.{zero64, outside_unit}
use Rattle.refusal.specs.Lent.{over}
use Rattle.refusal.specs.Refusal.{first_of}
use Rattle.trcf.specs.Transformer.{zero32}
use Rattle.trcf.specs.Settings.{Settings, settings_row, all_one, block, dimension, waiting}
use Rattle.trcf.specs.Calls.{Call, Forecast, sizes_of, forecast_table, post_process, drain, scale, rows, table, finite, due, drain_full, newest, wrong_length, waiting_short, learn_full, learn_short, outside}
use Rattle.trcf.specs.Preprocessor.{fresh, facts, accepted}
use Rattle.trcf.specs.View.{Lent, lent, settings_of, view, written_over, counting, head_row, lent_short, counters_unfit, short_row, lent_row, or_else, outside_row, row_of, own_row, ready_of, no_status, head_from, no_head, build_row, build_of, answer_of, head_after, lent_after, status_after}
use Rattle.trcf.specs.Extrapolation.{read_short_row, row_at, extrapolation_row, extrapolation_of}
use Rattle.trcf.specs.declared.types.TransformMethod.{TransformMethod}
use Rattle.trcf.specs.declared.types.TransformMethod.TheVariants.{NONE, WEIGHTED, DIFFERENCE, SUBTRACT_MA, NORMALIZE, NORMALIZE_DIFFERENCE}
use Rattle.trcf.specs.declared.types.ForestMode.{ForestMode}
use Rattle.trcf.specs.declared.types.ForestMode.TheVariants.{STANDARD, STREAMING_IMPUTE}
use Rattle.trcf.specs.declared.head.Preprocessor.{Preprocessor}
use Rattle.snapshot.specs.Text as Text
use Rattle.snapshot.specs.Save.{in_use_short, unformed, fitted, held_save, save_of}

-- opens what a row computes by
all : Unit {0}
unfolding over build_of build_row settings_row lent_row short_row lent_short counters_unfit written_over fresh view row_of own_row ready_of head_row rows table facts finite due drain_full newest wrong_length waiting_short learn_full learn_short outside waiting block dimension all_one outside_unit answer_of status_after le lt of_bits
all = tt

abbrev one : Float
one = of_bits binary32 0x3f80_0000

-- d 1, k 2, start 2, stop 9
abbrev sets : TransformMethod → Settings
sets m = record { mode = STANDARD; method = m; d = 1; k = 2; start = 2; stop = 9; decay = zero64; weight_time = one; weights = one ∷ []; codes = 0 ∷ [] }

abbrev head : TransformMethod → ℕ → ℕ → ℕ → ℕ → Preprocessor
head m = counting (head_from (sets m))

-- as much as is needed of all but the times and the waiting times
abbrev memory : List ℕ → List Float → List ℕ → Lent
memory ts v vt = lent (replicate 30 zero64) (replicate 2 one) (replicate 2 one) ts v vt

-- a learn at time 3: y, the grade
abbrev learn : Option (List Float) → Float → Call
learn y grade =
    post_process (record {
      input = one ∷ [];
      timestamp = 3;
      rcf_point = y;
      expected_point = none;
      grade = grade;
      relative_index = pos 1;
      deviations_out = nan ∷ [];
      past_out = nan ∷ [];
      expected_out = nan ∷ [];
    })

abbrev y : Option (List Float)
y = some (one ∷ one ∷ [])

-- ---- 20 for a lent part comes last: the rows before it read of a short list what is there

-- three were learnt, the last of them at time 9
abbrev past : ℕ → Preprocessor
past count = head DIFFERENCE count 3 3 0

abbrev whole : Lent
whole = memory (8 ∷ 9 ∷ []) [] []

-- the last time lent is 2
abbrev short : Lent
short = memory (2 ∷ []) [] []

-- at time 3: with an empty y, with an index past the newest, with the count at its limit, and with nothing else wrong
abbrev learn_rows : Lent → List ℕ
learn_rows l =
    row_of (past 3) l (learn (some []) zero32)
    ∷ row_of (past 3) l (learn y one)
    ∷ row_of (past 9007199254740990) l (learn y zero32)
    ∷ row_of (past 3) l (learn y zero32)
    ∷ []

-- row 12 where the times are whole; where they are short the next row that holds: 13, 14, 18, and 20 itself
twelve : learn_rows whole ≡ 12 ∷ 12 ∷ 12 ∷ 12 ∷ []
unfolding all
twelve = refl

instead : learn_rows short ≡ 13 ∷ 14 ∷ 18 ∷ 20 ∷ []
unfolding all
instead = refl

-- a short list in which the time falls all the same
still : row_of (past 3) (memory (4 ∷ []) [] []) (learn y zero32) ≡ 12
unfolding all
still = refl

-- a drain of two that wait: with their times, with one of the two, and with none, where nothing is seen to wait
drains : row_of (head NORMALIZE 0 2 0 2) (memory (0 ∷ 0 ∷ []) (one ∷ one ∷ []) (5 ∷ 7 ∷ [])) drain
    ∷ row_of (head NORMALIZE 0 2 0 2) (memory (0 ∷ 0 ∷ []) (one ∷ one ∷ []) (5 ∷ [])) drain
    ∷ row_of (head NORMALIZE 0 2 0 2) (memory (0 ∷ 0 ∷ []) (one ∷ one ∷ []) []) drain
    ∷ [] ≡ 0 ∷ 20 ∷ 15 ∷ []
unfolding all
drains = refl

-- ---- whichever row shows, one does, and the call changes nothing

or_else_lem : (r n : ℕ) → or_else r n ≡ 0 → n ≡ 0
or_else_lem zero n e = e
or_else_lem (suc r) n e = absurd (omega arith)

never : (b : Bool) → cond b 20 (first_of ((true, 20) ∷ [])) ≡ 0 → ⊥
never true e = omega arith
never false e = omega arith

twenty : (b : Bool) (n : ℕ) → b ≡ true → cond b 20 n ≡ 0 → ⊥
twenty true n e z = omega arith
twenty false n e z = true≢false (sym e)

stays : {A : Type 0} (r : ℕ) (a b : A) → (r ≡ 0 → ⊥) → accepted r a b ≡ b
stays zero a b n = absurd (n refl)
stays (suc r) a b n = refl

module _ (h : Preprocessor) (l : Lent) (c : Call) where
  -- a row 0 of a call is a row 0 of its lent parts
  lent_fits : row_of h l c ≡ 0 → lent_row h l ≡ 0
  unfolding row_of
  lent_fits z =
      let r : ℕ = rows (settings_of h) (facts (view h l)) c in
      or_else_lem r (lent_row h l) (or_else_lem (head_row (settings_of h)) (or_else r (lent_row h l)) z)

  changes_nothing : (row_of h l c ≡ 0 → ⊥) → (head_after h l c ≡ h) × (lent_after h l c ≡ l)
  unfolding head_after lent_after
  changes_nothing n = (stays (row_of h l c) _ h n, stays (row_of h l c) _ l n)

  module _ (e : lent_short (settings_of h) l ≡ true) where
    pub short_refuses : row_of h l c ≡ 0 → ⊥
    unfolding lent_row short_row
    short_refuses z = never (counters_unfit h) (ap (λ (b : Bool). cond (counters_unfit h) 20 (first_of ((b, 20) ∷ []))) (sym e) ∙ lent_fits z)

    pub short_changes_nothing : (head_after h l c ≡ h) × (lent_after h l c ≡ l)
    short_changes_nothing = changes_nothing short_refuses

  module _ (e : counters_unfit h ≡ true) where
    pub misfit_refuses : row_of h l c ≡ 0 → ⊥
    unfolding lent_row
    misfit_refuses z = twenty (counters_unfit h) (short_row (settings_of h) l) e (lent_fits z)

    pub misfit_changes_nothing : (head_after h l c ≡ h) × (lent_after h l c ≡ l)
    misfit_changes_nothing = changes_nothing misfit_refuses

-- turn-back, which is handed three of the lists
module _ (h : Preprocessor) (st x : List Float) (ts : List ℕ) (c : Forecast) (e : counters_unfit h ≡ true) where
  misfit_row : extrapolation_row h st x ts c ≡ 0 → ⊥
  unfolding extrapolation_row row_at read_short_row
  misfit_row z =
      let r : ℕ = first_of (forecast_table (settings_of h) (sizes_of c)) in
      let n : ℕ = read_short_row h (length st) (length x) (length ts) in
      twenty (counters_unfit h) _ e (or_else_lem r n (or_else_lem (head_row (settings_of h)) (or_else r n) z))

  pub misfit_turns_nothing : ((extrapolation_of h st x ts c).row ≡ 0 → ⊥) × ((extrapolation_of h st x ts c).left ≡ c)
  unfolding extrapolation_of
  misfit_turns_nothing = (misfit_row, stays (extrapolation_row h st x ts c) _ c misfit_row)

-- ---- readings that wait need room under methods 4 and 5 alone

abbrev methods : List TransformMethod
methods = NONE ∷ WEIGHTED ∷ DIFFERENCE ∷ SUBTRACT_MA ∷ NORMALIZE ∷ NORMALIZE_DIFFERENCE ∷ []

abbrev none_wait : Lent
none_wait = memory (0 ∷ 0 ∷ []) [] []

builds : map (λ (m : TransformMethod). (build_of (sets m) none_wait).row) methods ≡ 0 ∷ 0 ∷ 0 ∷ 0 ∷ 20 ∷ 20 ∷ []
unfolding all
builds = refl

calls : map (λ (m : TransformMethod). row_of (head_from (sets m)) none_wait (scale (nan ∷ []))) methods ≡ 0 ∷ 0 ∷ 0 ∷ 0 ∷ 20 ∷ 20 ∷ []
unfolding all
calls = refl

-- just enough, and one too few of either
edges : map (λ (l : Lent). row_of (head_from (sets NORMALIZE)) l (scale (nan ∷ [])))
    (memory (0 ∷ 0 ∷ []) (one ∷ one ∷ []) (0 ∷ 0 ∷ []) ∷ memory (0 ∷ 0 ∷ []) (one ∷ []) (0 ∷ 0 ∷ []) ∷ memory (0 ∷ 0 ∷ []) (one ∷ one ∷ []) (0 ∷ []) ∷ []) ≡ 0 ∷ 20 ∷ 20 ∷ []
unfolding all
edges = refl

-- ---- a refused status tells the row alone; nothing is ready in a head that every call refuses

-- three learnt, and an output that is too short
untold_short : status_after (past 3) whole [] ≡ record { row = 20; numbers = no_status [] }
unfolding all
untold_short = refl

-- a head that no build made, whose numbers are all there
abbrev forged : Preprocessor
forged =
    counting
    (head_from
    (record { mode = STANDARD; method = DIFFERENCE; d = 1; k = 65; start = 2; stop = 9; decay = zero64; weight_time = one; weights = one ∷ []; codes = 0 ∷ [] }))
    99 99 99 0

untold_forged : status_after forged whole (nan ∷ []) ≡ record { row = 4; numbers = no_status (nan ∷ []) }
unfolding all
untold_forged = refl

-- full; one short; full, but no build made it; full, but its counters are no preprocessor's
ready : ready_of (past 3) ∷ ready_of (head DIFFERENCE 1 1 1 0) ∷ ready_of forged ∷ ready_of (head DIFFERENCE 3 3 3 1) ∷ ready_of no_head ∷ []
    ≡ true ∷ false ∷ false ∷ false ∷ false ∷ []
unfolding all
ready = refl

-- ---- `save`: the settings, the counters, a list too short, what the lists hold, the output

lines : Unit {0}
unfolding Text.whole Text.float Text.set_line Text.singles Text.cnt_line Text.dev_line Text.tim_line Text.buf_line Text.chn_line Text.lines_by Text.body_lines Text.render to_bits size fits
lines = tt

-- two wait, at times that fall, or do not; and of the times k says there is one too few, or both
abbrev falling : List ℕ → Lent
falling ts = memory ts (one ∷ one ∷ []) (7 ∷ 5 ∷ [])

abbrev waits : Preprocessor
waits = head NORMALIZE 0 2 0 2

saves : (save_of forged (falling (0 ∷ [])) []).row
    ∷ (save_of (head NORMALIZE 0 2 1 2) (falling (0 ∷ [])) []).row
    ∷ (save_of waits (falling (0 ∷ [])) []).row
    ∷ (save_of waits (falling (0 ∷ 0 ∷ [])) []).row
    ∷ (save_of waits (memory (0 ∷ 0 ∷ []) (one ∷ one ∷ []) (5 ∷ 7 ∷ [])) []).row
    ∷ [] ≡ 4 ∷ 19 ∷ 20 ∷ 19 ∷ 20 ∷ []
unfolding all lines save_of held_save fitted unformed in_use_short
saves = refl

-- ---- a head from outside, as C's border opens it: rows 1, 6, 7 and 9 of settings that `build` refuses, and counters that no text has

abbrev made : ForestMode → TransformMethod → ℕ → ℕ → Float → Preprocessor
made mode m decay start w =
    head_from (record { mode = mode; method = m; d = 1; k = 1; start = start; stop = 9; decay = of_bits binary64 decay; weight_time = one; weights = w ∷ []; codes = 0 ∷ [] })

from_outside : map outside_row
    (made STREAMING_IMPUTE NORMALIZE 0 2 one
    ∷ made STANDARD NORMALIZE 0x3ff0_0000_0000_0000 2 one
    ∷ made STANDARD NORMALIZE 0 10 one
    ∷ made STANDARD NONE 0 2 (of_bits binary32 0x4000_0000)
    ∷ made STANDARD NORMALIZE 0 2 one
    ∷ [])
    ≡ 1 ∷ 6 ∷ 7 ∷ 9 ∷ 0 ∷ []
unfolding all outside_row
from_outside = refl

-- one bit of the counters flipped, where nothing was seen: values_seen, internal, the readings that wait; a count past its limit, and the limit
flipped : map outside_row
    (counting (made STANDARD NORMALIZE 0 2 one) 0 1 0 0
    ∷ counting (made STANDARD NORMALIZE 0 2 one) 0 0 1 0
    ∷ counting (made STANDARD NORMALIZE 0 2 one) 0 0 0 1
    ∷ counting (made STANDARD NORMALIZE 0 2 one) 9007199254740991 0 0 0
    ∷ counting (made STANDARD NORMALIZE 0 2 one) 9007199254740990 0 0 0
    ∷ [])
    ≡ 20 ∷ 20 ∷ 20 ∷ 20 ∷ 0 ∷ []
unfolding all outside_row
flipped = refl
