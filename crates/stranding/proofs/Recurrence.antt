-- The numbers by a recurrence over the initial values that wait, and their sum.
use Prim.Native.Nat.{ℕ, zero, suc, ◌+◌, ◌-◌, ◌*◌, ◌^◌, ◌≤◌, ◌<◌}
use mathlib.Core.Path.{◌≡◌, refl, ◌∙◌}
use mathlib.Core.Bool.{Bool, cond}
use mathlib.Core.List.{List, [], ◌∷◌}
use mathlib.Core.Logic.{⊎_elim}
use native.Mathlib.Nat.{eq-or-lt_of_le}
use native.Mathlib.Omega.{arith}
use lib.ListN.{length}
use borrow.Author.Tests.{eq-eqb, ne_eqb, lt-ltb, le-ltb}
use Rattle.stranding.specs.Orders.{Kind, point_kind, learn_kind, drain_kind, orders}
use Rattle.stranding.specs.Standing.{Standing, still_waiting, now_drained, now_stranded, after_drain, after_learn, step, standing_after}
use Rattle.stranding.specs.Counts.{ends_waiting, ends_drained, ends_stranded, count, row_counts, counts_by, counts}
use Rattle.stranding.proofs.Orders.{count_append, count_map, orders_long}

-- of the orders of n calls from the standing q, those that end in the class f
unfoldable pub ending : ℕ → Standing → (Standing → Bool) → ℕ → ℕ
ending s q f n = count (λ (w : List Kind). f (standing_after s q w)) (orders n)

-- by the first call
pub ending_suc : (s : ℕ) (q : Standing) (f : Standing → Bool) (n : ℕ)
    → ending s q f (suc n) ≡ ending s (step s q point_kind) f n + (ending s (step s q learn_kind) f n + ending s (step s q drain_kind) f n)
unfolding ending
ending_suc s q f n = simp (count_append, count_map)

-- ---- every list ends in one class: the counts add up

one_class : (q : Standing) → cond (ends_waiting q) 1 0 + (cond (ends_drained q) 1 0 + cond (ends_stranded q) 1 0) ≡ 1
one_class (still_waiting j) = refl
one_class now_drained = refl
one_class now_stranded = refl

module _ (ends : List Kind → Standing) where
  add_up : (ws : List (List Kind))
      → count (λ (w : List Kind). ends_waiting (ends w)) ws + (count (λ (w : List Kind). ends_drained (ends w)) ws + count (λ (w : List Kind). ends_stranded (ends w)) ws)
      ≡ length ws
  add_up [] = refl
  add_up (w ∷ ws) = omega (arith, one_class (ends w), add_up ws)

  -- THEOREM: "and so add up to 3^n", whatever each list leaves
  pub counts_add_up : (n : ℕ) → (counts_by ends n).waiting + ((counts_by ends n).drained + (counts_by ends n).stranded) ≡ 3 ^ n
  unfolding counts_by
  counts_add_up n = add_up (orders n) ∙ orders_long n

ending_adds_up : (s : ℕ) (q : Standing) (n : ℕ) → ending s q ends_waiting n + (ending s q ends_drained n + ending s q ends_stranded n) ≡ 3 ^ n
unfolding ending
ending_adds_up s q n = add_up (standing_after s q) (orders n) ∙ orders_long n

-- ---- the recurrence over the initial values that wait

-- drained and stranded are for good
for_good : (s : ℕ) (q : Standing) (f : Standing → Bool) → ((c : Kind) → step s q c ≡ q) → (n : ℕ) → ending s q f n ≡ ending s q f 0 * 3 ^ n
for_good s q f h zero = omega arith
for_good s q f h (suc n) =
    let e : 3 ^ suc n ≡ 3 * 3 ^ n = omega arith in
    ending_suc s q f n ∙ rw (h point_kind, h learn_kind, h drain_kind, e) (omega (arith, for_good s q f h n))

module _ (s : ℕ) (f : Standing → Bool) (n : ℕ) where
  -- with fewer than start initial values a point and a drain change nothing, and a learn adds one
  pub early : (j : ℕ) → j < s → ending s (still_waiting j) f (suc n) ≡ 2 * ending s (still_waiting j) f n + ending s (still_waiting (suc j)) f n
  unfolding after_drain after_learn
  early j h = ending_suc s (still_waiting j) f n ∙ rw (ne_eqb j s (omega arith), lt-ltb j s h) (omega arith)

  -- with start initial values a point and a drain drain them, and a learn strands them
  pub full : ending s (still_waiting s) f (suc n) ≡ 2 * ending s now_drained f n + ending s now_stranded f n
  unfolding after_drain after_learn
  full = ending_suc s (still_waiting s) f n ∙ rw (eq-eqb s s refl, le-ltb s s (omega arith)) (omega arith)

module _ (s : ℕ) where
  drained_all : (n : ℕ) → ending s now_drained ends_drained n ≡ 3 ^ n
  unfolding ending
  drained_all n = omega (arith, for_good s now_drained ends_drained (λ c. refl) n)

  drained_none : (n : ℕ) → ending s now_drained ends_stranded n ≡ 0
  unfolding ending
  drained_none n = omega (arith, for_good s now_drained ends_stranded (λ c. refl) n)

  stranded_all : (n : ℕ) → ending s now_stranded ends_stranded n ≡ 3 ^ n
  unfolding ending
  stranded_all n = omega (arith, for_good s now_stranded ends_stranded (λ c. refl) n)

  stranded_none : (n : ℕ) → ending s now_stranded ends_drained n ≡ 0
  unfolding ending
  stranded_none n = omega (arith, for_good s now_stranded ends_drained (λ c. refl) n)

  -- the table: the lists of n calls that strand j initial values
  unfoldable pub table : ℕ → ℕ → ℕ
  table n j = ending s (still_waiting j) ends_stranded n

  pub table_none : (j : ℕ) → table 0 j ≡ 0
  unfolding table ending
  table_none j = refl

  pub table_early : (n j : ℕ) → j < s → table (suc n) j ≡ 2 * table n j + table n (suc j)
  unfolding table
  table_early n j h = early s ends_stranded n j h

  pub table_full : (n : ℕ) → table (suc n) s ≡ 3 ^ n
  unfolding table
  table_full n = omega (arith, full s ends_stranded n, drained_none n, stranded_all n)

  drained_first : (j : ℕ) → ending s (still_waiting j) ends_drained 0 ≡ 0
  unfolding ending
  drained_first j = refl

  -- of the lists that end the waiting, twice as many drain as strand
  pub twice : (n j : ℕ) → j ≤ s → ending s (still_waiting j) ends_drained n ≡ 2 * table n j
  unfolding table
  twice zero j h = omega (arith, drained_first j, table_none j)
  twice (suc n) j h = ⊎_elim
      (λ e. rw e (omega (arith, full s ends_drained n, full s ends_stranded n, drained_all n, drained_none n, stranded_all n, stranded_none n)))
      (λ l. omega (arith, early s ends_drained n j l, early s ends_stranded n j l, twice n j h, twice n (suc j) l))
      (eq-or-lt_of_le h)

  -- so three times the table is at most all lists
  pub table_few : (n j : ℕ) → j ≤ s → 3 * table n j ≤ 3 ^ n
  unfolding table
  table_few n j h = omega (arith, twice n j h, ending_adds_up s (still_waiting j) n)

  -- THEOREM: the three counts from the table's first cell
  pub counts_from_table : (n : ℕ) → counts s n ≡ row_counts 0 (3 ^ n - 3 * table n 0) (2 * table n 0) (table n 0)
  unfolding counts counts_by table ending
  counts_from_table n =
      let d : ending s (still_waiting 0) ends_drained n ≡ 2 * ending s (still_waiting 0) ends_stranded n = twice n 0 (omega arith) in
      let w : ending s (still_waiting 0) ends_waiting n ≡ 3 ^ n - 3 * ending s (still_waiting 0) ends_stranded n = omega (arith, ending_adds_up s (still_waiting 0) n) in
      rw (w, d)
