-- The numbers of the getters in a lent list, and the opening of the words. Assumes nothing.
use Prim.Native.Nat.{ℕ, ◌≤◌}
use mathlib.Core.Bool.{Bool, true, false, cond}
use mathlib.Core.List.{List, [], ◌∷◌}
use mathlib.Core.Path.{◌≡◌, refl, sym, ◌∙◌}
use native.Mathlib.Omega.{arith}
use lib.ListN.{length, drop, set}
use Rattle.refusal.specs.Lent.{over}
use Rattle.trcf.specs.Types.{method_number}
use Rattle.trcf.specs.declared.head.Status.{Status}
use Rattle.capi.specs.Head.{mode_number, form_row, words_row}
use Rattle.capi.specs.Calls.{open_row, flag, numbers_told}
use Rattle.capi.proofs.HeadLaws.{row_form}

-- ---- 22 before the words are looked at

module _ (w : List ℕ) where
  pub form_asked : (b : Bool) {n : ℕ} → b ≡ true → n ≡ form_row w → n ≡ cond b (form_row w) 22
  form_asked b e p = rw e p

  pub open_closed : (b : Bool) (n : ℕ) → n ≡ cond b (form_row w) 22 → (n ≡ 0 → ⊥) → n ≡ open_row b w
  unfolding open_row
  open_closed true n e z = e ∙ row_form w (λ q. z (e ∙ q))
  open_closed false n e z = e

  pub open_formed : (b : Bool) (n : ℕ) → n ≡ cond b (form_row w) 22 → n ≡ 0 → (b ≡ true) × (form_row w ≡ 0)
  open_formed true n e z = (refl, sym e ∙ z)
  open_formed false n e z = absurd (omega (arith, e, z))

  pub open_read : (b : Bool) {n : ℕ} → b ≡ true → n ≡ words_row w → n ≡ open_row b w
  unfolding open_row
  open_read b e p = rw e p

-- ---- ten numbers stored one by one

ten : (w : List ℕ) (a b c d e f g h i j : ℕ) → 10 ≤ length w
    → set (set (set (set (set (set (set (set (set (set w 0 a) 1 b) 2 c) 3 d) 4 e) 5 f) 6 g) 7 h) 8 i) 9 j
    ≡ a ∷ b ∷ c ∷ d ∷ e ∷ f ∷ g ∷ h ∷ i ∷ j ∷ drop 10 w
ten (x₀ ∷ x₁ ∷ x₂ ∷ x₃ ∷ x₄ ∷ x₅ ∷ x₆ ∷ x₇ ∷ x₈ ∷ x₉ ∷ w) a b c d e f g h i j n = refl
ten [] a b c d e f g h i j n = absurd (omega arith)
ten (x₀ ∷ []) a b c d e f g h i j n = absurd (omega arith)
ten (x₀ ∷ x₁ ∷ []) a b c d e f g h i j n = absurd (omega arith)
ten (x₀ ∷ x₁ ∷ x₂ ∷ []) a b c d e f g h i j n = absurd (omega arith)
ten (x₀ ∷ x₁ ∷ x₂ ∷ x₃ ∷ []) a b c d e f g h i j n = absurd (omega arith)
ten (x₀ ∷ x₁ ∷ x₂ ∷ x₃ ∷ x₄ ∷ []) a b c d e f g h i j n = absurd (omega arith)
ten (x₀ ∷ x₁ ∷ x₂ ∷ x₃ ∷ x₄ ∷ x₅ ∷ []) a b c d e f g h i j n = absurd (omega arith)
ten (x₀ ∷ x₁ ∷ x₂ ∷ x₃ ∷ x₄ ∷ x₅ ∷ x₆ ∷ []) a b c d e f g h i j n = absurd (omega arith)
ten (x₀ ∷ x₁ ∷ x₂ ∷ x₃ ∷ x₄ ∷ x₅ ∷ x₆ ∷ x₇ ∷ []) a b c d e f g h i j n = absurd (omega arith)
ten (x₀ ∷ x₁ ∷ x₂ ∷ x₃ ∷ x₄ ∷ x₅ ∷ x₆ ∷ x₇ ∷ x₈ ∷ []) a b c d e f g h i j n = absurd (omega arith)

pub numbers_stored : (w : List ℕ) (s : Status) {c h i : ℕ} → 10 ≤ length w → c ≡ flag s.ready → h ≡ method_number s.transform_method → i ≡ mode_number s.forest_mode
    → set (set (set (set (set (set (set (set (set (set w 0 s.values_seen) 1 s.internal_timestamp) 2 c) 3 s.input_dimensions) 4 s.shingle_size) 5 s.dimensions) 6
    s.start_normalization) 7 h) 8 i) 9 s.panel
    ≡ over w (numbers_told s)
unfolding over
numbers_stored w s {c} {h} {i} n p q r =
    ten w s.values_seen s.internal_timestamp c s.input_dimensions s.shingle_size s.dimensions s.start_normalization h i s.panel n
    ∙ (λ j. s.values_seen ∷ s.internal_timestamp ∷ p j ∷ s.input_dimensions ∷ s.shingle_size ∷ s.dimensions ∷ s.start_normalization ∷ q j ∷ r j ∷ s.panel ∷ drop 10 w)
