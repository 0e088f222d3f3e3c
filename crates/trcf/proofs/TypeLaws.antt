-- The letters of the modes and the numbers of the methods, read back. Assumes nothing.
use Prim.Native.Nat.{ℕ}
use mathlib.Core.Bool.{Bool, true, false, true≢false}
use mathlib.Core.Path.{◌≡◌, refl, sym}
use lib.Dec.{eqb}
use borrow.Author.Tests.{eqb-true}
use Rattle.trcf.specs.Types.{method_number, method_of_number, mode_letter, mode_of_letter}
use Rattle.trcf.specs.Settings.{imputes}
use Rattle.trcf.specs.declared.types.TransformMethod.{TransformMethod}
use Rattle.trcf.specs.declared.types.TransformMethod.TheVariants.{NONE, WEIGHTED, DIFFERENCE, SUBTRACT_MA, NORMALIZE, NORMALIZE_DIFFERENCE}
use Rattle.trcf.specs.declared.types.ForestMode.{ForestMode}
use Rattle.trcf.specs.declared.types.ForestMode.TheVariants.{STANDARD, TIME_AUGMENTED, STREAMING_IMPUTE, GAP_AUGMENTED}

pub mode_back : (m : ForestMode) → mode_of_letter (mode_letter m) ≡ m
mode_back STANDARD = refl
mode_back TIME_AUGMENTED = refl
mode_back STREAMING_IMPUTE = refl
mode_back GAP_AUGMENTED = refl

-- a byte that names a mode of a text is that mode's letter
pub letter_back : (x : ℕ) → imputes (mode_of_letter x) ≡ false → mode_letter (mode_of_letter x) ≡ x
letter_back x h = go (eqb x 83) refl (eqb x 84) refl (eqb x 71) refl
  where
    go : (a : Bool) → eqb x 83 ≡ a → (b : Bool) → eqb x 84 ≡ b → (c : Bool) → eqb x 71 ≡ c → mode_letter (mode_of_letter x) ≡ x
    go true u b v c w = rw u (sym (eqb-true x 83 u))
    go false u true v c w = rw (u, v) (sym (eqb-true x 84 v))
    go false u false v true w = rw (u, v, w) (sym (eqb-true x 71 w))
    go false u false v false w = absurd (true≢false (rw (u, v, w) at h))

pub method_back : (m : TransformMethod) → method_of_number (method_number m) ≡ m
method_back NONE = refl
method_back WEIGHTED = refl
method_back DIFFERENCE = refl
method_back SUBTRACT_MA = refl
method_back NORMALIZE = refl
method_back NORMALIZE_DIFFERENCE = refl
