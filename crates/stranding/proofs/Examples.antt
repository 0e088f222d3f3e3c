-- Computed: the enumeration itself, run.
use mathlib.Core.Path.{◌≡◌, refl}
use mathlib.Core.List.{List, [], ◌∷◌}
use lib.ListN.{length}
use Prim.Native.Nat.{ℕ, ◌+◌, ◌^◌}
use Rattle.stranding.specs.Orders.{point_kind, learn_kind, drain_kind, orders, same_order}
use Rattle.stranding.specs.Standing.{still_waiting, now_drained, now_stranded, after_drain, after_learn, standing_after}
use Rattle.stranding.specs.Counts.{RowCounts, count, row_counts, refused_counts, counts_by, counts, out_of_range, strandings_of}
use Rattle.stranding.proofs.Orders.{orders_long, orders_once}
use Rattle.stranding.proofs.Recurrence.{counts_add_up}

-- "For n 2 and s 1 they are 6, 2 and 1."
two_calls : strandings_of 1 2 ≡ row_counts 0 6 2 1
unfolding strandings_of out_of_range counts counts_by after_drain after_learn
two_calls = refl

-- ---- 1 to 6 calls, for a start of 1 to 5

abbrev up_to_six : ℕ → List RowCounts
up_to_six s = strandings_of s 1 ∷ strandings_of s 2 ∷ strandings_of s 3 ∷ strandings_of s 4 ∷ strandings_of s 5 ∷ strandings_of s 6 ∷ []

start_one : up_to_six 1 ≡ row_counts 0 3 0 0 ∷ row_counts 0 6 2 1 ∷ row_counts 0 12 10 5 ∷ row_counts 0 24 38 19 ∷ row_counts 0 48 130 65 ∷ row_counts 0 96 422 211 ∷ []
unfolding strandings_of out_of_range counts counts_by after_drain after_learn
start_one = refl

start_two : up_to_six 2 ≡ row_counts 0 3 0 0 ∷ row_counts 0 9 0 0 ∷ row_counts 0 24 2 1 ∷ row_counts 0 60 14 7 ∷ row_counts 0 144 66 33 ∷ row_counts 0 336 262 131 ∷ []
unfolding strandings_of out_of_range counts counts_by after_drain after_learn
start_two = refl

start_three : up_to_six 3 ≡ row_counts 0 3 0 0 ∷ row_counts 0 9 0 0 ∷ row_counts 0 27 0 0 ∷ row_counts 0 78 2 1 ∷ row_counts 0 216 18 9 ∷ row_counts 0 576 102 51 ∷ []
unfolding strandings_of out_of_range counts counts_by after_drain after_learn
start_three = refl

start_four : up_to_six 4 ≡ row_counts 0 3 0 0 ∷ row_counts 0 9 0 0 ∷ row_counts 0 27 0 0 ∷ row_counts 0 81 0 0 ∷ row_counts 0 240 2 1 ∷ row_counts 0 696 22 11 ∷ []
unfolding strandings_of out_of_range counts counts_by after_drain after_learn
start_four = refl

start_five : up_to_six 5 ≡ row_counts 0 3 0 0 ∷ row_counts 0 9 0 0 ∷ row_counts 0 27 0 0 ∷ row_counts 0 81 0 0 ∷ row_counts 0 243 0 0 ∷ row_counts 0 726 2 1 ∷ []
unfolding strandings_of out_of_range counts counts_by after_drain after_learn
start_five = refl

-- ---- "25: s or n out of range": a number is judged as it comes

out_of_range_lem : (strandings_of 0 2 ≡ refused_counts 25) × (strandings_of 1 0 ≡ refused_counts 25) × (strandings_of 21 1 ≡ refused_counts 25) × (strandings_of 1 21 ≡ refused_counts 25)
unfolding strandings_of out_of_range
out_of_range_lem = (refl, refl, refl, refl)

-- 2^32 + 1 and 2^64 - 1 are no 1 and no -1
wide : (strandings_of 4294967297 1 ≡ refused_counts 25) × (strandings_of 1 4294967297 ≡ refused_counts 25) × (strandings_of 18446744073709551615 1 ≡ refused_counts 25)
unfolding strandings_of out_of_range
wide = (refl, refl, refl)

-- ---- single lists of calls, with a start of 1

-- no initial value yet is waiting too, after whatever points and drains
none_yet : standing_after 1 (still_waiting 0) (point_kind ∷ drain_kind ∷ drain_kind ∷ []) ≡ still_waiting 0
unfolding after_drain after_learn
none_yet = refl

-- a drain or a point drains the full start, and a drain after it (row 15) is a call like any other
by_drain : standing_after 1 (still_waiting 0) (learn_kind ∷ drain_kind ∷ drain_kind ∷ learn_kind ∷ []) ≡ now_drained
unfolding after_drain after_learn
by_drain = refl

by_point : standing_after 1 (still_waiting 0) (learn_kind ∷ point_kind ∷ learn_kind ∷ []) ≡ now_drained
unfolding after_drain after_learn
by_point = refl

-- one learn past the start strands it, and nothing drains it any more
by_learn : standing_after 1 (still_waiting 0) (learn_kind ∷ learn_kind ∷ drain_kind ∷ point_kind ∷ []) ≡ now_stranded
unfolding after_drain after_learn
by_learn = refl

-- ---- the theorems at concrete arguments

nine : length (orders 2) ≡ 9
nine = orders_long 2

once : count (same_order (learn_kind ∷ drain_kind ∷ [])) (orders 2) ≡ 1
once = orders_once (learn_kind ∷ drain_kind ∷ []) 2

not_there : count (same_order (learn_kind ∷ [])) (orders 2) ≡ 0
not_there = orders_once (learn_kind ∷ []) 2

sum : 6 + (2 + 1) ≡ 3 ^ 2
unfolding counts counts_by after_drain after_learn
sum = counts_add_up (standing_after 1 (still_waiting 0)) 2

-- 20 calls, too many to be enumerated: the sum all the same
sum_of_20 : (counts 20 20).waiting + ((counts 20 20).drained + (counts 20 20).stranded) ≡ 3486784401
unfolding counts
sum_of_20 = counts_add_up (standing_after 20 (still_waiting 0)) 20
