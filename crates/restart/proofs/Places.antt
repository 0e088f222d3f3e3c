-- A statistic in the list by its place: written, and read again there and elsewhere.
use Prim.Native.Nat.{ℕ, zero, suc, ◌+◌, ◌*◌, ◌≤◌, ◌<◌}
use mathlib.Core.Path.{◌≡◌, refl, sym, ap, ◌∙◌}
use mathlib.Core.List.{List, [], ◌∷◌, ◌++◌, append_assoc}
use native.Mathlib.Omega.{arith}
use lib.ListN.{length, get_or, set, take, length-set}
use lib.Seq.{get_or-set_same, get_or-set_other, take-suc}
use lib.Ieee.{Float, nan}
use Rattle.common.specs.declared.deviation.Deviation.{Deviation}
use Rattle.common.specs.Deviation.{statistic}
use Rattle.trcf.specs.Transformer.{statistic_at, put_statistic}
use Rattle.restart.specs.Statistics.{dev_of, lines_to}

module _ (l : List Float) (n : ℕ) (s : Deviation) (dec : Float) (c : ℕ) where
  pub put_same : 3 * n + 2 < length l → statistic_at (put_statistic l n s) n dec c ≡ statistic dec s.weight s.sum s.sum_squared c
  unfolding statistic_at put_statistic
  put_same h =
      let a : List Float = set l (3 * n) s.weight in
      let b : List Float = set a (3 * n + 1) s.sum in
      let la : length a ≡ length l = length-set l (3 * n) s.weight in
      let lb : length b ≡ length l = length-set a (3 * n + 1) s.sum ∙ la in
      let w : get_or (set b (3 * n + 2) s.sum_squared) (3 * n) nan ≡ s.weight =
      get_or-set_other b (3 * n + 2) (3 * n) s.sum_squared nan (λ e. omega arith)
      ∙ get_or-set_other a (3 * n + 1) (3 * n) s.sum nan (λ e. omega arith)
      ∙ get_or-set_same l (3 * n) s.weight nan (omega arith) in
      let m : get_or (set b (3 * n + 2) s.sum_squared) (3 * n + 1) nan ≡ s.sum =
      get_or-set_other b (3 * n + 2) (3 * n + 1) s.sum_squared nan (λ e. omega arith)
      ∙ get_or-set_same a (3 * n + 1) s.sum nan (omega arith) in
      let q : get_or (set b (3 * n + 2) s.sum_squared) (3 * n + 2) nan ≡ s.sum_squared =
      get_or-set_same b (3 * n + 2) s.sum_squared nan (omega arith) in
      λ j. statistic dec (w j) (m j) (q j) c

  pub put_other : (p : ℕ) → (p ≡ n → ⊥) → statistic_at (put_statistic l n s) p dec c ≡ statistic_at l p dec c
  unfolding statistic_at put_statistic
  put_other p away =
      let at : (k : ℕ) → (k ≡ 3 * n → ⊥) → (k ≡ 3 * n + 1 → ⊥) → (k ≡ 3 * n + 2 → ⊥)
      → get_or (set (set (set l (3 * n) s.weight) (3 * n + 1) s.sum) (3 * n + 2) s.sum_squared) k nan ≡ get_or l k nan =
      λ k x y z. get_or-set_other (set (set l (3 * n) s.weight) (3 * n + 1) s.sum) (3 * n + 2) k s.sum_squared nan z
      ∙ get_or-set_other (set l (3 * n) s.weight) (3 * n + 1) k s.sum nan y
      ∙ get_or-set_other l (3 * n) k s.weight nan x in
      λ j. statistic dec (at (3 * p) (λ e. away (omega arith)) (λ e. omega arith) (λ e. omega arith) j)
      (at (3 * p + 1) (λ e. omega arith) (λ e. away (omega arith)) (λ e. omega arith) j)
      (at (3 * p + 2) (λ e. omega arith) (λ e. omega arith) (λ e. away (omega arith)) j) c

-- ---- a list is the lines of what stands at its places

module _ (l : List Float) where
  one_more_lem : (k m : ℕ) (rest : List Float) → m ≡ suc k → k < length l → take k l ++ (get_or l k nan ∷ rest) ≡ take m l ++ rest
  one_more_lem k m rest e h = rw e (sym (append_assoc (take k l) (get_or l k nan ∷ []) rest) ∙ ap (λ (x : List Float). x ++ rest) (sym (take-suc l k nan h)))

  module _ (dec : Float) (c : ℕ) where
    pub take_line : (p q : ℕ) (rest : List Float) → q ≡ suc p → 3 * p + 2 < length l
        → take (3 * p) l ++ (dev_of (statistic_at l p dec c) ++ rest) ≡ take (3 * q) l ++ rest
    unfolding statistic_at
    take_line p q rest e h =
        one_more_lem (3 * p) (3 * p + 1) _ (omega arith) (omega arith)
        ∙ one_more_lem (3 * p + 1) (3 * p + 2) _ (omega arith) (omega arith)
        ∙ one_more_lem (3 * p + 2) (3 * q) rest (omega arith) (omega arith)

    pub take_lines : (b n e : ℕ) (rest : List Float) → e ≡ n + b → 3 * e ≤ length l
        → take (3 * b) l ++ (lines_to n (λ i. statistic_at l (i + b) dec c) ++ rest) ≡ take (3 * e) l ++ rest
    take_lines b zero e rest q h = let z : b ≡ e = omega arith in ap (λ (x : ℕ). take (3 * x) l ++ rest) z
    take_lines b (suc n) e rest q h =
        ap (λ (x : List Float). take (3 * b) l ++ x) (append_assoc (lines_to n (λ i. statistic_at l (i + b) dec c)) (dev_of (statistic_at l (n + b) dec c)) rest)
        ∙ take_lines b n (n + b) (dev_of (statistic_at l (n + b) dec c) ++ rest) refl (omega arith)
        ∙ take_line (n + b) e rest (omega arith) (omega arith)

pub lines_same : (n : ℕ) (f g : ℕ → Deviation) → ((i : ℕ) → i < n → f i ≡ g i) → lines_to n f ≡ lines_to n g
lines_same zero f g h = refl
lines_same (suc n) f g h = λ j. lines_same n f g (λ i k. h i (omega arith)) j ++ dev_of (h n (omega arith) j)
