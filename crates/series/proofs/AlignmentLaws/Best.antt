-- Every order-keeping pairing within the tolerance has at most as many pairs.
use Prim.Native.Nat.{ℕ, zero, suc, ◌+◌, ◌-◌, ◌≤◌, ◌<◌}
use mathlib.Core.Path.{◌≡◌, ap}
use mathlib.Core.Bool.{false}
use mathlib.Core.List.{List, [], ◌∷◌}
use native.Mathlib.Nat.{le_refl}
use native.Mathlib.Omega.{arith}
use lib.ListN.{length, get_or, drop}
use lib.Seq.{drop-cons, drop-drop}
use Rattle.series.specs.Pairs.{Pair, apart, pairs_from, pairs}
use Rattle.series.specs.Pairing.{Pairing}
use Rattle.series.specs.Alignment.{falls_after}
use Rattle.series.proofs.AlignmentLaws.Turns.{by_turn}
use Rattle.series.proofs.AlignmentLaws.Chain.{Chain, chain_of}
use Rattle.series.proofs.AlignmentLaws.Falls.{AllFrom, NonFalling, steady}

-- n pairs can be made of the two lists, front by front: a head is left out, or the two heads are a pair
data Matching (w : ℕ) : List ℕ → List ℕ → ℕ → Type 0 where
  none : {a b : List ℕ} → Matching w a b zero
  past_left : {x n : ℕ} {a b : List ℕ} → Matching w a b n → Matching w (x ∷ a) b n
  past_right : {y n : ℕ} {a b : List ℕ} → Matching w a b n → Matching w a (y ∷ b) n
  paired : {x y n : ℕ} {a b : List ℕ} → apart x y ≤ w → Matching w a b n → Matching w (x ∷ a) (y ∷ b) (suc n)

module _ {w : ℕ} where
  fewer : {a b : List ℕ} {n : ℕ} → Matching w a b (suc n) → Matching w a b n
  fewer (past_left m) = past_left (fewer m)
  fewer (past_right m) = past_right (fewer m)
  fewer (paired h m) = past_left (past_right m)

  -- a head less costs at most one pair
  less_left : {x n : ℕ} {a b : List ℕ} → Matching w (x ∷ a) b (suc n) → Matching w a b n
  less_left (past_left m) = fewer m
  less_left (past_right m) = past_right (less_left m)
  less_left (paired h m) = past_right m

  less_right : {y n : ℕ} {a b : List ℕ} → Matching w a (y ∷ b) (suc n) → Matching w a b n
  less_right (past_left m) = past_left (less_right m)
  less_right (past_right m) = fewer m
  less_right (paired h m) = past_left m

  -- both heads less cost at most one: were both in pairs, the pairs would cross
  less_both : {x y n : ℕ} {a b : List ℕ} → Matching w (x ∷ a) (y ∷ b) (suc n) → Matching w a b n
  less_both (past_left m) = less_right m
  less_both (past_right m) = less_left m
  less_both (paired h m) = m

  -- a head that is too far from everything in the other list is in no pair
  lone_left : {x t n : ℕ} {a b : List ℕ} → x + w < t → AllFrom t b → Matching w (x ∷ a) b n → Matching w a b n
  lone_left h f none = none
  lone_left h f (past_left m) = m
  lone_left h f (past_right m) = past_right (lone_left h f.1 m)
  lone_left h f (paired c m) = absurd (omega (arith, f.0))

  lone_right : {y t n : ℕ} {a b : List ℕ} → y + w < t → AllFrom t a → Matching w a (y ∷ b) n → Matching w a b n
  lone_right h f none = none
  lone_right h f (past_left m) = past_left (lone_right h f.1 m)
  lone_right h f (past_right m) = m
  lone_right h f (paired c m) = absurd (omega (arith, f.0))

  -- ---- no matching has more pairs

  empty_left : {n : ℕ} {b : List ℕ} → Matching w [] b n → n ≤ 0
  empty_left none = omega arith
  empty_left (past_right m) = empty_left m

  empty_right : {n : ℕ} {a : List ℕ} → Matching w a [] n → n ≤ 0
  empty_right none = omega arith
  empty_right (past_left m) = empty_right m

  -- one more than what is left, where at most one pair was lost
  one_more : {x y k : ℕ} {a b : List ℕ} (n : ℕ) → ((m : ℕ) → Matching w a b m → m ≤ k) → Matching w (x ∷ a) (y ∷ b) n → n ≤ suc k
  one_more zero best m = omega arith
  one_more (suc n) best m = omega (arith, best n (less_both m))

  at_most : (a b : List ℕ) (i j : ℕ) → NonFalling a → NonFalling b → (n : ℕ) → Matching w a b n → n ≤ length (pairs_from w i j a b)
  at_most [] b i j p q n m = empty_left m
  at_most (x ∷ a) [] i j p q n m = empty_right m
  at_most (x ∷ a) (y ∷ b) i j p q n m =
      by_turn w i j x a y b (λ (ps : List Pair). n ≤ length ps)
      (λ h. one_more n (at_most a b (suc i) (suc j) p.1 q.1) m)
      (λ h. at_most a (y ∷ b) (suc i) j p.1 q n (lone_left h (le_refl y, q.0) m))
      (λ h. at_most (x ∷ a) b i (suc j) p q.1 n (lone_right h (le_refl x, p.0) m))

  -- ---- a pairing is a matching

  drop_left : {n : ℕ} {b : List ℕ} (k : ℕ) (a : List ℕ) → Matching w (drop k a) b n → Matching w a b n
  drop_left zero a m = m
  drop_left (suc k) [] m = m
  drop_left (suc k) (x ∷ a) m = past_left (drop_left k a m)

  drop_right : {n : ℕ} {a : List ℕ} (k : ℕ) (b : List ℕ) → Matching w a (drop k b) n → Matching w a b n
  drop_right zero b m = m
  drop_right (suc k) [] m = m
  drop_right (suc k) (y ∷ b) m = past_right (drop_right k b m)

-- what is behind p is behind i, where i is before p
shorter : (l : List ℕ) (i p : ℕ) → i ≤ p → drop p l ≡ drop (p - i) (drop i l)
shorter l i p h = let e : p ≡ i + (p - i) = omega arith in simp drop-drop (ap (λ (k : ℕ). drop k l) e)

module _ (w : ℕ) (l r : List ℕ) where
  matching : (i j : ℕ) (ps : List Pair) → Chain w l r i j ps → Matching w (drop i l) (drop j r) (length ps)
  matching i j [] q = none
  matching i j (p ∷ ps) q =
      let m : Matching w (get_or l p.left 0 ∷ drop (suc p.left) l) (get_or r p.right 0 ∷ drop (suc p.right) r) (suc (length ps)) =
      paired q.2.close (matching (suc p.left) (suc p.right) ps q.3) in
      let n : Matching w (drop p.left l) (drop p.right r) (suc (length ps)) =
      rw (drop-cons l p.left 0 q.2.in_left, drop-cons r p.right 0 q.2.in_right) m in
      drop_left (p.left - i) (drop i l) (drop_right (p.right - j) (drop j r)
      (rw (← shorter l i p.left q.0, ← shorter r j p.right q.1) n))

  -- THEOREM
  pub pairs_are_most : falls_after 0 l ≡ false → falls_after 0 r ≡ false → (ps : List Pair) → Pairing w l r ps → length ps ≤ length (pairs w l r)
  unfolding pairs
  pairs_are_most hl hr ps q = at_most l r 0 0 (steady 0 l hl).1 (steady 0 r hr).1 (length ps) (matching 0 0 ps (chain_of w l r ps q))
