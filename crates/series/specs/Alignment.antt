-- Request #108: "a comparison of two lists of readings of d channels with their times", the call with its rows.
use Rattle.std.specs.Prelude.{ℕ, zero, suc, ◌*◌, Bool, false, not, ◌||◌, List, [], ◌∷◌, ltb, eqb, length, Float}
use Rattle.refusal.specs.Refusal.{first_of}
use Rattle.refusal.specs.Lent.{over}
use Rattle.series.specs.Pairs.{Pair, pairs, lefts, rights}
use Rattle.series.specs.Gaps.{gaps}

-- "up to 4,096 each"
abbrev pub align_limit : ℕ
align_limit = 4096

-- document 01's largest number of channels
abbrev pub channel_limit : ℕ
channel_limit = 16

-- a list of readings: their cells, reading by reading, and their times
pub record Readings : Type 0 where
  pub cells : List Float
  pub times : List ℕ

abbrev pub readings : List Float → List ℕ → Readings
readings c t = record { cells = c; times = t }

-- the lent outputs: the pairs' positions in either list, and a size for each channel
pub record Outputs : Type 0 where
  pub lefts : List ℕ
  pub rights : List ℕ
  pub gaps : List Float

abbrev pub outputs : List ℕ → List ℕ → List Float → Outputs
outputs l r g = record { lefts = l; rights = r; gaps = g }

-- an answer: the row, 0 for none, the number of pairs, and what the outputs are left as
pub record AlignOutcome : Type 0 where
  pub row : ℕ
  pub number : ℕ
  pub outs : Outputs

abbrev pub align_outcome : ℕ → ℕ → Outputs → AlignOutcome
align_outcome r n o = record { row = r; number = n; outs = o }

-- ---- the rows

-- "a falling time": one below the time before it, which is t for the first
abbrev pub falls_after : ℕ → List ℕ → Bool
falls_after t [] = false
falls_after t (x ∷ l) = ltb x t || falls_after x l

-- "24: a falling time or a list over 4,096"; before the first time none falls, since none is below 0
unfoldable pub unusable : List ℕ → Bool
unusable l = ltb align_limit (length l) || falls_after 0 l

-- "10, which also meets a list without d cells for each time": so many cells, so many times
unfoldable pub readings_misshapen : ℕ → ℕ → ℕ → Bool
readings_misshapen d cells times = not (eqb cells (times * d))

-- what the rows ask: d, each list's number of cells and its times, the number of pairs, and the lengths of the outputs
pub record AlignFacts : Type 0 where
  pub d : ℕ
  pub left_cells : ℕ
  pub left_times : List ℕ
  pub right_cells : ℕ
  pub right_times : List ℕ
  pub number : ℕ
  pub lefts_room : ℕ
  pub rights_room : ℕ
  pub gaps_room : ℕ

-- d = 0 is 2, d above 16 is 4; then 10; "24 … after 10"; then 20: lent memory shorter than the answer
unfoldable pub align_row : AlignFacts → ℕ
align_row q =
    first_of (
    (eqb q.d 0, 2)
    ∷ (ltb channel_limit q.d, 4)
    ∷ (readings_misshapen q.d q.left_cells (length q.left_times) || readings_misshapen q.d q.right_cells (length q.right_times), 10)
    ∷ (unusable q.left_times || unusable q.right_times, 24)
    ∷ (ltb q.lefts_room q.number || (ltb q.rights_room q.number || ltb q.gaps_room q.d), 20)
    ∷ [])

-- ---- the call

-- by the first row that refuses, which leaves the outputs as they were
abbrev pub refused_or : ℕ → Outputs → AlignOutcome → AlignOutcome
refused_or zero o a = a
refused_or (suc r) o a = align_outcome (suc r) 0 o

-- "The answer is the pairs as positions from 0, their number, and the largest size of difference per channel"
unfoldable pub outputs_written : ℕ → Readings → Readings → List Pair → Outputs → Outputs
outputs_written d l r ps o =
    outputs (over o.lefts (lefts ps)) (over o.rights (rights ps)) (over o.gaps (gaps d l.cells r.cells ps))

abbrev pub align_facts : ℕ → Readings → Readings → ℕ → Outputs → AlignFacts
align_facts d l r n o =
    record {
      d = d;
      left_cells = length l.cells;
      left_times = l.times;
      right_cells = length r.cells;
      right_times = r.times;
      number = n;
      lefts_room = length o.lefts;
      rights_room = length o.rights;
      gaps_room = length o.gaps;
    }

-- d, the two lists, the tolerance, and the outputs as they are lent
unfoldable pub align_of : ℕ → Readings → Readings → ℕ → Outputs → AlignOutcome
align_of d l r w o =
    let ps = pairs w l.times r.times in
    refused_or (align_row (align_facts d l r (length ps) o)) o (align_outcome 0 (length ps) (outputs_written d l r ps o))
