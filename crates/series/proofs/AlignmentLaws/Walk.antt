-- The walk over the two lists: what stands left of the pairs, in the search for the next one and after each.
use Prim.Native.Nat.{ℕ, suc, ◌+◌, ◌≤◌, ◌<◌}
use mathlib.Core.Path.{◌≡◌, refl, ap, ◌∙◌}
use mathlib.Core.List.{List, [], ◌∷◌}
use native.Mathlib.Numerals.{add-one}
use native.Mathlib.Omega.{arith}
use lib.ListN.{length, get_or, drop, length-drop, drop_of_length-le, get_or-map}
use lib.Seq.{drop-cons}
use borrow.Author.Tests.{le-leb, lt-leb, lt-ltb, le-ltb}
use Rattle.series.specs.Pairs.{Pair, pair, apart, near, pair_step, pairs_from, pairs, lefts, rights}
use Rattle.series.specs.Steps.Walking.{rest, NextPair}
use Rattle.series.proofs.AlignmentLaws.Fronts.{front}

module _ (w : ℕ) (l r : List ℕ) where
  no_right : (i j : ℕ) (a : List ℕ) → pairs_from w i j a [] ≡ []
  no_right i j [] = refl
  no_right i j (x ∷ a) = refl

  end_left : (i j : ℕ) → length l ≤ i → rest w l r i j ≡ []
  unfolding rest
  end_left i j h = ap (λ (a : List ℕ). pairs_from w i j a (drop j r)) (drop_of_length-le l h)

  end_right : (i j : ℕ) → length r ≤ j → rest w l r i j ≡ []
  unfolding rest
  end_right i j h = ap (λ (b : List ℕ). pairs_from w i j (drop i l) b) (drop_of_length-le r h) ∙ no_right i j (drop i l)

  module _ (i j : ℕ) (hi : i < length l) (hj : j < length r) where
    opened : rest w l r i j ≡ pairs_from w i j (get_or l i 0 ∷ drop (suc i) l) (get_or r j 0 ∷ drop (suc j) r)
    unfolding rest
    opened = ap (λ (a : List ℕ). pairs_from w i j a (drop j r)) (drop-cons l i 0 hi)
        ∙ ap (λ (b : List ℕ). pairs_from w i j (get_or l i 0 ∷ drop (suc i) l) b) (drop-cons r j 0 hj)

    rest_both : apart (get_or l i 0) (get_or r j 0) ≤ w → rest w l r i j ≡ pair i j ∷ rest w l r (suc i) (suc j)
    unfolding rest pair_step near
    rest_both h = opened ∙ rw (le-leb (apart (get_or l i 0) (get_or r j 0)) w h, pairs_from)

    rest_left : w < apart (get_or l i 0) (get_or r j 0) → get_or l i 0 < get_or r j 0 → rest w l r i j ≡ rest w l r (suc i) j
    unfolding rest pair_step near
    rest_left h k = opened ∙ rw (lt-leb (apart (get_or l i 0) (get_or r j 0)) w h, lt-ltb (get_or l i 0) (get_or r j 0) k, pairs_from) (rw (drop-cons r j 0 hj))

    rest_right : w < apart (get_or l i 0) (get_or r j 0) → get_or r j 0 ≤ get_or l i 0 → rest w l r i j ≡ rest w l r i (suc j)
    unfolding rest pair_step near
    rest_right h k = opened ∙ rw (lt-leb (apart (get_or l i 0) (get_or r j 0)) w h, le-ltb (get_or l i 0) (get_or r j 0) k, pairs_from) (rw (drop-cons l i 0 hi))

-- from the fronts f and g on nothing is paired up to i and j
pub record Skipped (w : ℕ) (l r : List ℕ) (f g i j : ℕ) : Type 0 where
  pub left_on : f ≤ i
  pub right_on : g ≤ j
  pub same : rest w l r f g ≡ rest w l r i j

module _ (w : ℕ) (l r : List ℕ) (f g : ℕ) where
  pub skipped_none : Skipped w l r f g f g
  skipped_none = record { left_on = omega arith; right_on = omega arith; same = refl }

  pub ended_left : (i j : ℕ) → Skipped w l r f g i j → length l ≤ i → rest w l r f g ≡ []
  ended_left i j q h = q.same ∙ end_left w l r i j h

  pub ended_right : (i j : ℕ) → Skipped w l r f g i j → length r ≤ j → rest w l r f g ≡ []
  ended_right i j q h = q.same ∙ end_right w l r i j h

  module _ (i j : ℕ) (q : Skipped w l r f g i j) (hi : i < length l) (hj : j < length r) where
    pub found : apart (get_or l i 0) (get_or r j 0) ≤ w → NextPair w l r f g i j
    found h = record { left_on = q.left_on; right_on = q.right_on; in_left = hi; in_right = hj; first = q.same ∙ rest_both w l r i j hi hj h }

    pub skipped_left : w < apart (get_or l i 0) (get_or r j 0) → get_or l i 0 < get_or r j 0 → Skipped w l r f g (i + 1) j
    skipped_left h k = record { left_on = omega (arith, q.left_on); right_on = q.right_on; same = simp add-one (q.same ∙ rest_left w l r i j hi hj h k) }

    pub skipped_right : w < apart (get_or l i 0) (get_or r j 0) → get_or r j 0 ≤ get_or l i 0 → Skipped w l r f g i (j + 1)
    skipped_right h k = record { left_on = q.left_on; right_on = omega (arith, q.right_on); same = simp add-one (q.same ∙ rest_right w l r i j hi hj h k) }

-- n pairs are behind the loop, and the fronts are i and j
pub record Walked (w : ℕ) (l r : List ℕ) (n i j : ℕ) : Type 0 where
  pub in_left : i ≤ length l
  pub few : n ≤ i
  pub within : n ≤ length (pairs w l r)
  pub left : drop n (pairs w l r) ≡ rest w l r i j

module _ (w : ℕ) (l r : List ℕ) where
  pub start : Walked w l r 0 0 0
  unfolding pairs rest
  start = record { in_left = omega arith; few = omega arith; within = omega arith; left = refl }

  -- where none is left all pairs are made
  pub all_made : (n i j : ℕ) → Walked w l r n i j → rest w l r i j ≡ [] → n ≡ length (pairs w l r)
  all_made n i j q e = omega (arith, ap length (q.left ∙ e), length-drop n (pairs w l r), q.within)

  -- a pair is there to be written
  pub record Met (n i j : ℕ) : Type 0 where
    pub room : n < length (pairs w l r)
    pub pair_is : get_or (pairs w l r) n (pair 0 0) ≡ pair i j
    pub left_is : get_or (lefts (pairs w l r)) n 0 ≡ i
    pub right_is : get_or (rights (pairs w l r)) n 0 ≡ j
    pub on : Walked w l r (n + 1) (i + 1) (j + 1)

  pub met : (n f g i j : ℕ) → Walked w l r n f g → NextPair w l r f g i j → Met n i j
  met n f g i j q p =
      let ps = pairs w l r in
      let t = front (pair 0 0) ps n (pair i j) (rest w l r (suc i) (suc j)) (q.left ∙ p.first) in
      record {
        room = t.inside;
        pair_is = t.head;
        left_is = get_or-map (λ (x : Pair). x.left) ps n (pair 0 0) ∙ ap (λ (x : Pair). x.left) t.head;
        right_is = get_or-map (λ (x : Pair). x.right) ps n (pair 0 0) ∙ ap (λ (x : Pair). x.right) t.head;
        on = record { in_left = omega (arith, p.in_left); few = omega (arith, p.left_on, q.few); within = omega (arith, t.inside); left = simp add-one t.tail };
      }
