-- The loops' table: after n calls, and in the middle of a sweep.
use Prim.Native.Nat.{ℕ, suc, ◌+◌, ◌*◌, ◌^◌, ◌≤◌, ◌<◌}
use mathlib.Core.Path.{◌≡◌, refl, sym, ◌∙◌}
use mathlib.Core.Bool.{Bool, true, false, ◌||◌}
use mathlib.Core.List.{List}
use mathlib.Core.Logic.{⊎_elim}
use native.Mathlib.Nat.{eq-or-lt_of_le, pow-le-pow_right}
use native.Mathlib.Numerals.{add-one}
use native.Mathlib.Omega.{arith}
use lib.Dec.{ltb}
use lib.ListN.{length, get_or, set, replicate, length-set, get_or-replicate}
use lib.Seq.{get_or-set_same, get_or-set_other}
use borrow.Author.Tests.{ltb-false}
use Rattle.stranding.specs.Counts.{out_of_range}
use Rattle.stranding.specs.Steps.Table.{Small, Swept}
use Rattle.stranding.proofs.Recurrence.{table, table_none, table_early, table_full, table_few}

pub in_range : (n : ℕ) → out_of_range n ≡ false → n ≤ 20
unfolding out_of_range
in_range n e = go (ltb n 1) (ltb 20 n) refl e
  where
    go : (p q : Bool) → ltb 20 n ≡ q → (p || q) ≡ false → n ≤ 20
    go true q f e = let z : ◌≡◌ {A = ℕ} 0 1 = cc in absurd (omega arith)
    go false q f e = ltb-false 20 n (f ∙ e)

-- 3^20 fits u64, with room
pub few_orders : (n : ℕ) → n ≤ 20 → 3 ^ n ≤ 3486784401
few_orders n h = pow-le-pow_right (omega arith) h

-- ---- within a sweep

-- the cells before j are swept, the others as they were
pub record Half (s j : ℕ) (t u : List ℕ) : Type 0 where
  pub long : length u ≡ length t
  pub up_to : j ≤ s
  pub early : (k : ℕ) → k < j → get_or u k 0 ≡ 2 * get_or t k 0 + get_or t (k + 1) 0
  pub late : (k : ℕ) → j ≤ k → get_or u k 0 ≡ get_or t k 0

module _ (s : ℕ) (t : List ℕ) where
  pub begin : Half s 0 t t
  begin = record { long = refl; up_to = omega arith; early = λ k h. absurd (omega arith); late = λ k h. refl }

  -- a cell that is still to be read is small
  pub cell_small : (j : ℕ) (u : List ℕ) → ((k : ℕ) → k ≤ s → 3 * get_or t k 0 ≤ 3486784401) → Half s j t u → (k : ℕ) → j ≤ k → k ≤ s → 3 * get_or u k 0 ≤ 3486784401
  cell_small j u m q k l h = omega (arith, q.late k l, m k h)

  pub on : (j : ℕ) (u : List ℕ) → s < length t → Half s j t u → j < s → Half s (j + 1) t (set u j (2 * get_or u j 0 + get_or u (j + 1) 0))
  on j u room q h =
      let v = 2 * get_or u j 0 + get_or u (j + 1) 0 in
      record {
        long = simp length-set q.long;
        up_to = omega arith;
        early = λ k l. ⊎_elim
            (λ i. rw i (get_or-set_same u j v 0 (omega (arith, q.long)) ∙ rw (q.late j (omega arith), q.late (j + 1) (omega arith))))
            (λ i. get_or-set_other u j k v 0 (omega arith) ∙ q.early k i)
            (eq-or-lt_of_le (below k l));
        late = λ k l. get_or-set_other u j k v 0 (omega arith) ∙ q.late k (omega arith);
      }
    where
      below : (k : ℕ) → k < j + 1 → k ≤ j
      below k l = omega arith

  pub ends : (j : ℕ) (u : List ℕ) → Half s j t u → s ≤ j → Swept s t u
  ends j u q h = record { long = q.long; early = λ k l. q.early k (omega arith); late = λ k l. q.late k (omega (arith, q.up_to)) }

-- ---- after n calls

-- every cell up to start holds the table's number, and `orders` is that of all lists
pub record Rows (s n : ℕ) (t : List ℕ) (orders : ℕ) : Type 0 where
  pub long : length t ≡ 21
  pub cell : (j : ℕ) → j ≤ s → get_or t j 0 ≡ table s n j
  pub all : orders ≡ 3 ^ n

module _ (s : ℕ) (s≤ : s ≤ 20) where
  pub fresh : Rows s 0 (replicate 21 0) 1
  fresh = record { long = refl; cell = λ j h. get_or-replicate 21 j 0 0 (omega arith) ∙ sym (table_none s j); all = refl }

  module _ (n orders : ℕ) (t : List ℕ) (q : Rows s n t orders) where
    -- a cell is at most a third of all lists
    pub third : (k : ℕ) → k ≤ s → 3 * get_or t k 0 ≤ 3 ^ n
    third k h = omega (arith, q.cell k h, table_few s n k h)

    pub small : n ≤ 20 → Small s t
    small h = record { long = q.long; cells = λ k l. omega (arith, third k l, few_orders n h) }

    pub finish : (u : List ℕ) → Swept s t u → Rows s (n + 1) (set u s orders) (3 * orders)
    finish u w = rw add-one record {
      long = simp length-set (w.long ∙ q.long);
      cell = λ k l. ⊎_elim
          (λ i. rw i (get_or-set_same u s orders 0 (omega (arith, w.long, q.long)) ∙ q.all ∙ sym (table_full s n)))
          (λ i. get_or-set_other u s k orders 0 (omega arith) ∙ swept k i)
          (eq-or-lt_of_le l);
      all = omega (arith, q.all);
    }
      where
        swept : (k : ℕ) → k < s → get_or u k 0 ≡ table s (suc n) k
        swept k i =
            w.early k i
            ∙ rw add-one (omega (arith, q.cell k (omega arith), q.cell (suc k) i, table_early s n k i))
