-- Request #110: the three numbers over all lists of calls, and the answer with its row.
use Rattle.std.specs.Prelude.{ℕ, ◌+◌, Bool, true, false, cond, ◌||◌, List, [], ◌∷◌, ltb, Result, Ok, Err}
use Rattle.refusal.specs.declared.Refusal.{Refusal}
use Rattle.refusal.specs.Refusal.{number_of}
use Rattle.stranding.specs.declared.StrandingCounts.{StrandingCounts}
use Rattle.stranding.specs.Orders.{Kind, orders}
use Rattle.stranding.specs.Standing.{Standing, still_waiting, now_drained, now_stranded, standing_after}

-- waiting with any number of initial values, none included
abbrev pub ends_waiting : Standing → Bool
ends_waiting (still_waiting j) = true
ends_waiting now_drained = false
ends_waiting now_stranded = false

abbrev pub ends_drained : Standing → Bool
ends_drained (still_waiting j) = false
ends_drained now_drained = true
ends_drained now_stranded = false

abbrev pub ends_stranded : Standing → Bool
ends_stranded (still_waiting j) = false
ends_stranded now_drained = false
ends_stranded now_stranded = true

module _ {A : Type 0} where
  -- how many of a list pass the test
  abbrev pub count : (A → Bool) → List A → ℕ
  count f [] = 0
  count f (x ∷ xs) = cond (f x) 1 0 + count f xs

-- an answer with its row, 0 for none: the three numbers, each 0 where a row refuses
pub record RowCounts : Type 0 where
  pub row : ℕ
  pub waiting : ℕ
  pub drained : ℕ
  pub stranded : ℕ

abbrev pub row_counts : ℕ → ℕ → ℕ → ℕ → RowCounts
row_counts r w d s = record { row = r; waiting = w; drained = d; stranded = s }

-- the three numbers over all lists of n calls, where `ends` says what each leaves
unfoldable pub counts_by : (List Kind → Standing) → ℕ → RowCounts
counts_by ends n =
    row_counts 0
    (count (λ (w : List Kind). ends_waiting (ends w)) (orders n))
    (count (λ (w : List Kind). ends_drained (ends w)) (orders n))
    (count (λ (w : List Kind). ends_stranded (ends w)) (orders n))

-- "count the lists of calls … from a fresh NORMALIZE watch that end still waiting to be drained, drained, or stranded"
unfoldable pub counts : ℕ → ℕ → RowCounts
counts start n = counts_by (standing_after start (still_waiting 0)) n

-- "both 1 to 20"
unfoldable pub out_of_range : ℕ → Bool
out_of_range n = ltb n 1 || ltb 20 n

abbrev pub refused_counts : ℕ → RowCounts
refused_counts row = row_counts row 0 0 0

-- "25: s or n out of range"
unfoldable pub strandings_of : ℕ → ℕ → RowCounts
strandings_of start n = cond (out_of_range start || out_of_range n) (refused_counts 25) (counts start n)

-- what the function answers, as a row and the three numbers
abbrev pub answer_of : Result StrandingCounts Refusal → RowCounts
answer_of (Ok c) = row_counts 0 c.waiting c.drained c.stranded
answer_of (Err r) = refused_counts (number_of r)
