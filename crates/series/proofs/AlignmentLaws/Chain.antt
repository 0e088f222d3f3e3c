-- A pairing, pair by pair: every pair stands at or past the fronts i and j, and the pairs after it past both of its positions.
use Prim.Native.Nat.{ℕ, zero, suc, ◌≤◌, ◌<◌}
use mathlib.Core.List.{List, [], ◌∷◌}
use native.Mathlib.Omega.{arith}
use lib.ListN.{length}
use Rattle.series.specs.Pairs.{Pair}
use Rattle.series.specs.Pairing.{at, Within, Pairing}

module _ (w : ℕ) (l r : List ℕ) where
  abbrev pub Chain : ℕ → ℕ → List Pair → Type 0
  Chain i j [] = Unit {0}
  Chain i j (p ∷ ps) = (i ≤ p.left) × (j ≤ p.right) × Within w l r p × Chain (suc p.left) (suc p.right) ps

  -- fronts further back ask less
  pub looser : (i j i' j' : ℕ) (ps : List Pair) → i ≤ i' → j ≤ j' → Chain i' j' ps → Chain i j ps
  looser i j i' j' [] hi hj q = tt
  looser i j i' j' (p ∷ ps) hi hj q = (omega arith, omega arith, q.2, q.3)

  -- ---- a chain is a pairing

  each : (i j : ℕ) (ps : List Pair) → Chain i j ps → (k : ℕ) → k < length ps → (i ≤ (at ps k).left) × (j ≤ (at ps k).right) × Within w l r (at ps k)
  each i j [] q k h = absurd (omega arith)
  each i j (p ∷ ps) q zero h = (q.0, q.1, q.2)
  each i j (p ∷ ps) q (suc k) h =
      let f = each (suc p.left) (suc p.right) ps q.3 k (omega arith) in
      (omega (arith, f.0, q.0), omega (arith, f.1, q.1), f.2)

  rises : (i j : ℕ) (ps : List Pair) → Chain i j ps → (k m : ℕ) → k < m → m < length ps → ((at ps k).left < (at ps m).left) × ((at ps k).right < (at ps m).right)
  rises i j [] q k m h g = absurd (omega arith)
  rises i j (p ∷ ps) q k zero h g = absurd (omega arith)
  rises i j (p ∷ ps) q zero (suc m) h g = let f = each (suc p.left) (suc p.right) ps q.3 m (omega arith) in (f.0, f.1)
  rises i j (p ∷ ps) q (suc k) (suc m) h g = rises (suc p.left) (suc p.right) ps q.3 k m (omega arith) (omega arith)

  pub pairing_of : (ps : List Pair) → Chain 0 0 ps → Pairing w l r ps
  pairing_of ps q =
      record { within = λ k h. (each 0 0 ps q k h).2; rises_left = λ k m h g. omega (arith, (rises 0 0 ps q k m h g).0); rises_right = λ k m h g. omega (arith, (rises 0 0 ps q k m h g).1) }

  -- ---- and a pairing a chain

  chain_from : (i j : ℕ) (ps : List Pair) → Pairing w l r ps → ((k : ℕ) → k < length ps → (i ≤ (at ps k).left) × (j ≤ (at ps k).right)) → Chain i j ps
  chain_from i j [] q f = tt
  chain_from i j (p ∷ ps) q f =
      let o = f 0 (omega arith) in (
        o.0,
        o.1,
        q.within 0 (omega arith),
        chain_from (suc p.left) (suc p.right) ps (record {
          within = λ k h. q.within (suc k) (omega arith);
          rises_left = λ k m h g. q.rises_left (suc k) (suc m) (omega arith) (omega arith);
          rises_right = λ k m h g. q.rises_right (suc k) (suc m) (omega arith) (omega arith);
        }) (λ k h. (omega (arith, q.rises_left 0 (suc k) (omega arith) (omega arith)), omega (arith, q.rises_right 0 (suc k) (omega arith) (omega arith)))),
      )

  pub chain_of : (ps : List Pair) → Pairing w l r ps → Chain 0 0 ps
  chain_of ps q = chain_from 0 0 ps q (λ k h. (omega arith, omega arith))
