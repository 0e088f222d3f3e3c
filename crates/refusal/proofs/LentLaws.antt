-- A turn of the loops that write at the front of a lent list, over the element: the functions' proofs cite it here and in the crates above. Assumes nothing.
use Prim.Native.Nat.{ℕ, suc, ◌+◌, ◌≤◌, ◌<◌}
use mathlib.Core.Path.{◌≡◌, sym, ap, ◌∙◌}
use mathlib.Core.List.{List, [], ◌∷◌, ◌++◌}
use native.Mathlib.Numerals.{add-one}
use native.Mathlib.Omega.{arith}
use lib.ListN.{length, get_or, set, take, drop, length-append}
use lib.Seq.{drop-cons, set_at, append_snoc, take-suc, length-take-le}
use Rattle.refusal.specs.Lent.{over}

module _ {A : Type 0} where
  over_next : (old new : List A) (i : ℕ) (a z : A) → length new ≡ i → i < length old
      → set (over old new) i a ≡ over old (new ++ (a ∷ []))
  unfolding over
  over_next old new i a z e h =
      let k : length new < length old = omega arith in
      let m : suc (length new) ≡ length (new ++ (a ∷ [])) = omega (arith, length-append new (a ∷ [])) in
      ap (λ (q : List A). set (new ++ q) i a) (drop-cons old (length new) z k)
      ∙ set_at new (get_or old (length new) z) (drop (suc (length new)) old) a i e
      ∙ sym (append_snoc new a (drop (suc (length new)) old))
      ∙ ap (λ (n : ℕ). new ++ (a ∷ []) ++ drop n old) m

  pub over_copy : (old src : List A) (i : ℕ) (z : A) → i < length src → length src ≤ length old
      → set (over old (take i src)) i (get_or src i z) ≡ over old (take (i + 1) src)
  over_copy old src i z h k =
      over_next old (take i src) i (get_or src i z) z (length-take-le i src (omega arith)) (omega arith)
      ∙ ap (over old) (sym (take-suc src i z h) ∙ ap (λ (n : ℕ). take n src) (sym (add-one i)))
