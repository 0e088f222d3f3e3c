-- An answer written to the front of a lent list, one element a turn.
use Prim.Native.Nat.{ℕ, suc, ◌<◌}
use mathlib.Core.Path.{◌≡◌, refl, sym, ◌∙◌}
use mathlib.Core.List.{List, [], ◌∷◌, ◌++◌, append_assoc}
use native.Mathlib.Omega.{arith}
use lib.ListN.{length, get_or, set, drop, length-append}
use lib.Seq.{drop-cons, set_at}
use Rattle.refusal.specs.Lent.{over}
use Rattle.trcf.specs.Lists.{tabulate}
use Rattle.trcf.proofs.FitLaws.{tabulate_length}

module _ {A : Type 0} where
  pub over_none : (l : List A) → l ≡ over l []
  unfolding over
  over_none l = refl

  pub over_more : (l : List A) (f : ℕ → A) (i : ℕ) → i < length l → set (over l (tabulate i f)) i (f i) ≡ over l (tabulate (suc i) f)
  unfolding over
  over_more l f i h =
      let n = tabulate_length i f in
      let y = get_or l i (f i) in
      let e : drop (length (tabulate i f)) l ≡ y ∷ drop (suc i) l = rw n (drop-cons l i (f i) h) in
      let k : length (tabulate i f ++ (f i ∷ [])) ≡ suc i = omega (arith, length-append (tabulate i f) (f i ∷ [])) in
      rw (e, k) (set_at (tabulate i f) y (drop (suc i) l) (f i) i n ∙ sym (append_assoc (tabulate i f) (f i ∷ []) (drop (suc i) l)))
