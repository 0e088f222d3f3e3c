-- The pairs given are an order-keeping pairing within the tolerance.
use Prim.Native.Nat.{ℕ, suc}
use mathlib.Core.Path.{◌≡◌, refl}
use mathlib.Core.List.{List, [], ◌∷◌}
use native.Mathlib.Nat.{le_refl}
use native.Mathlib.Omega.{arith}
use lib.ListN.{drop}
use Rattle.series.specs.Pairs.{pairs_from, pairs}
use Rattle.series.specs.Pairing.{Pairing}
use Rattle.series.proofs.AlignmentLaws.Fronts.{front}
use Rattle.series.proofs.AlignmentLaws.Turns.{by_turn}
use Rattle.series.proofs.AlignmentLaws.Chain.{Chain, looser, pairing_of}

module _ (w : ℕ) (l r : List ℕ) where
  chain : (a b : List ℕ) (i j : ℕ) → drop i l ≡ a → drop j r ≡ b → Chain w l r i j (pairs_from w i j a b)
  chain [] b i j p q = tt
  chain (x ∷ a) [] i j p q = tt
  chain (x ∷ a) (y ∷ b) i j p q =
      let f = front 0 l i x a p in
      let g = front 0 r j y b q in
      by_turn w i j x a y b (Chain w l r i j)
      (λ h. (le_refl i, le_refl j, record { in_left = f.inside; in_right = g.inside; close = rw (f.head, g.head) h }, chain a b (suc i) (suc j) f.tail g.tail))
      (λ h. looser w l r i j (suc i) j (pairs_from w (suc i) j a (y ∷ b)) (omega arith) (omega arith) (chain a (y ∷ b) (suc i) j f.tail q))
      (λ h. looser w l r i j i (suc j) (pairs_from w i (suc j) (x ∷ a) b) (omega arith) (omega arith) (chain (x ∷ a) b i (suc j) p g.tail))

  -- THEOREM
  pub pairs_are_a_pairing : Pairing w l r (pairs w l r)
  unfolding pairs
  pairs_are_a_pairing = pairing_of w l r (pairs_from w 0 0 l r) (chain l r 0 0 refl refl)
