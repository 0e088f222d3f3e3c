-- A property of every element of a list, found element by element. Assumes nothing.
use Prim.Native.Nat.{ℕ, ◌+◌, ◌≤◌, ◌<◌}
use mathlib.Core.Path.{sym, ap, ◌∙◌, subst}
use mathlib.Core.List.{List, [], ◌∷◌}
use native.Mathlib.Numerals.{add-one}
use lib.ListN.{length, take, get_or}
use lib.Seq.{take-suc, take_all}
use Rattle.trcf.specs.Fit.{All}
use Rattle.trcf.proofs.FitLaws.{all_append}

module _ {A : Type 0} (P : A → Type 0) (l : List A) (i : ℕ) where
  pub all_next : (d : A) → i < length l → All P (take i l) → P (get_or l i d) → All P (take (i + 1) l)
  all_next d h a p =
      subst (All P) (sym (ap (λ (n : ℕ). take n l) (add-one i) ∙ take-suc l i d h)) (all_append P (take i l) (get_or l i d ∷ []) a (p, tt))

  pub all_taken : length l ≤ i → All P (take i l) → All P l
  all_taken h a = subst (All P) (take_all i l h) a
