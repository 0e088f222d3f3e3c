-- Bits and kinds, and lists filled from the front. Assumes nothing.
use Prim.Native.Nat.{ℕ, zero, suc, ◌+◌, ◌≤◌, ◌<◌}
use mathlib.Core.List.{List, [], ◌∷◌, ◌++◌, map, append-nil}
use mathlib.Core.Path.{◌≡◌, refl, sym, ap, ◌∙◌}
use native.Mathlib.Omega.{arith}
use native.Mathlib.Numerals.{add-one}
use native.Mathlib.Nat.{mod-eq_of_lt}
use lib.Dec.{T}
use lib.ListN.{length, take, get_or, set, drop_of_length-le}
use lib.Seq.{take-suc-set, take_all}
use lib.Ieee.{Float, binary32, fits, of_bits, to_bits}
use lib.Ieee.Bits.{of_bits-to_bits, to_bits-lt}
use Rattle.refusal.specs.Lent.{over}
use Rattle.trcf.specs.Fit.{Fits}
use Rattle.trcf.specs.Types.{method_number}
use Rattle.trcf.specs.declared.types.TransformMethod.{TransformMethod}
use Rattle.trcf.specs.declared.types.TransformMethod.TheVariants.{NONE, WEIGHTED, DIFFERENCE, SUBTRACT_MA, NORMALIZE, NORMALIZE_DIFFERENCE}
use Rattle.trcf.specs.declared.types.ForestMode.{ForestMode}
use Rattle.trcf.specs.declared.types.ForestMode.TheVariants.{STANDARD, TIME_AUGMENTED, STREAMING_IMPUTE, GAP_AUGMENTED}
use Rattle.capi.specs.Head.{mode_number, mode_of, method_of, single}

-- ---- what is written is read back

pub mode_back : (m : ForestMode) → mode_of (mode_number m) ≡ m
mode_back STANDARD = refl
mode_back TIME_AUGMENTED = refl
mode_back STREAMING_IMPUTE = refl
mode_back GAP_AUGMENTED = refl

pub method_back : (m : TransformMethod) → method_of (method_number m) ≡ m
method_back NONE = refl
method_back WEIGHTED = refl
method_back DIFFERENCE = refl
method_back SUBTRACT_MA = refl
method_back NORMALIZE = refl
method_back NORMALIZE_DIFFERENCE = refl

pub single_back : (x : Float) → T (fits binary32 x) → single (to_bits binary32 x) ≡ x
single_back x h = ap (of_bits binary32) (mod-eq_of_lt (to_bits-lt binary32 x h)) ∙ of_bits-to_bits binary32 x h

pub singles_back : (l : List Float) → Fits binary32 l → map single (map (to_bits binary32) l) ≡ l
singles_back [] h = refl
singles_back (x ∷ l) h = λ j. single_back x h.0 j ∷ singles_back l h.1 j

-- ---- a list filled from the front by a function of another's elements

module _ {A B : Type 0} (f : B → A) where
  map_one : (i : ℕ) (l : List B) (d : B) → i < length l → map f (take (suc i) l) ≡ map f (take i l) ++ (f (get_or l i d) ∷ [])
  map_one zero (x ∷ l) d h = refl
  map_one (suc i) (x ∷ l) d h = ap (λ (r : List A). f x ∷ r) (map_one i l d (omega arith))
  map_one i [] d h = absurd (omega arith)

  pub filled_more : (i : ℕ) (a : List A) (l : List B) (v : A) (d : B)
      → take i a ≡ map f (take i l) → i < length a → i < length l → v ≡ f (get_or l i d) → take (i + 1) (set a i v) ≡ map f (take (i + 1) l)
  filled_more i a l v d e h k p =
      ap (λ (n : ℕ). take n (set a i v)) (add-one i)
      ∙ take-suc-set a i v h
      ∙ (λ j. e j ++ (p j ∷ []))
      ∙ sym (map_one i l d k)
      ∙ ap (λ (n : ℕ). map f (take n l)) (sym (add-one i))

  pub filled_whole : (i : ℕ) (a : List A) (l : List B) → take i a ≡ map f (take i l) → length a ≡ i → length l ≡ i → a ≡ map f l
  filled_whole i a l e h k = sym (take_all i a (omega arith)) ∙ e ∙ ap (map f) (take_all i l (omega arith))

-- ---- a list laid over one that is no longer

pub over_whole : (old new : List ℕ) → length old ≤ length new → over old new ≡ new
unfolding over
over_whole old new h = ap (λ (r : List ℕ). new ++ r) (drop_of_length-le old h) ∙ append-nil new
