-- The point written once: the blocks that stay first, and the new one after them.
use Prim.Native.Nat.{ℕ, ◌+◌}
use mathlib.Core.Path.{◌≡◌, sym, ap, ◌∙◌}
use mathlib.Core.List.{List, ◌++◌}
use native.Mathlib.Omega.{arith}
use lib.ListN.{length, take, drop, length-append, length-drop}
use lib.Seq.{paste, take_at, take_all, take-length, drop-append-add, drop-drop}
use Rattle.refusal.specs.Lent.{over}
use Rattle.trcf.specs.Lists.{shift_in}

module _ {A : Type 0} where
  pub shifted_over : (out pn z front : List A) (m : ℕ) → m + length z ≡ length pn → front ≡ over out (take m (drop (length z) pn))
      → paste front m z (length z) ≡ over out (shift_in pn z)
  unfolding over shift_in
  shifted_over out pn z front m e q =
      let k = drop (length z) pn in
      let lk : length k ≡ m = omega (arith, length-drop (length z) pn) in
      let full : front ≡ k ++ drop (length k) out =
      q ∙ ap (λ (t : List A). t ++ drop (length t) out) (take_all m k (omega arith)) in
      let kept : take m front ≡ k = ap (take m) full ∙ take_at k (drop (length k) out) m lk in
      let rest : drop (m + length z) front ≡ drop (length (k ++ z)) out =
      ap (drop (m + length z)) full
      ∙ ap (λ (n : ℕ). drop (n + length z) (k ++ drop (length k) out)) (sym lk)
      ∙ drop-append-add k (drop (length k) out) (length z)
      ∙ drop-drop (length z) (length k) out
      ∙ ap (λ (n : ℕ). drop n out) (sym (length-append k z)) in
      λ j. kept j ++ take-length z j ++ rest j
