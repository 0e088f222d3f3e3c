-- The numbers and letters of the settings' kinds: document 01, 'Trace text'.
use Prim.Native.Char.{code}
use Rattle.std.specs.Prelude.{ℕ, ◌<◌, ◌≡◌, Bool, true, false, cond, eqb, Result, MatchResult}
use Rattle.refusal.specs.declared.Refusal.{Refusal}
use Rattle.refusal.specs.declared.Refusal.TheVariants.{Form}
use Rattle.trcf.specs.declared.types.TransformMethod.{TransformMethod}
use Rattle.trcf.specs.declared.types.TransformMethod.TheVariants.{NONE, WEIGHTED, DIFFERENCE, SUBTRACT_MA, NORMALIZE, NORMALIZE_DIFFERENCE}
use Rattle.trcf.specs.declared.types.ForestMode.{ForestMode}
use Rattle.trcf.specs.declared.types.ForestMode.TheVariants.{STANDARD, TIME_AUGMENTED, STREAMING_IMPUTE, GAP_AUGMENTED}

-- "method (0 NONE, 1 WEIGHTED, 2 DIFFERENCE, 3 SUBTRACT_MA, 4 NORMALIZE, 5 NORMALIZE_DIFFERENCE)"
abbrev pub method_number : TransformMethod → ℕ
method_number NONE = 0
method_number WEIGHTED = 1
method_number DIFFERENCE = 2
method_number SUBTRACT_MA = 3
method_number NORMALIZE = 4
method_number NORMALIZE_DIFFERENCE = 5

-- what a number names; one above 5 names none
abbrev pub MethodNumbered : ℕ → Result TransformMethod Refusal → Type 0
MethodNumbered n r = MatchResult r (λ m. method_number m ≡ n) (λ e. (e ≡ Form) × (5 < n))

-- and back; a number above 5 names none, and whoever asks has refused it
abbrev pub method_of_number : ℕ → TransformMethod
method_of_number n =
    cond (eqb n 0) NONE
    (cond (eqb n 1) WEIGHTED
    (cond (eqb n 2) DIFFERENCE (cond (eqb n 3) SUBTRACT_MA (cond (eqb n 4) NORMALIZE NORMALIZE_DIFFERENCE))))

-- "mode (S STANDARD, T TIME_AUGMENTED)", as a byte, and "letter G in `set`" (request 114); row 1 refuses STREAMING_IMPUTE, which has no letter in a text
abbrev pub mode_letter : ForestMode → ℕ
mode_letter STANDARD = code "S"
mode_letter TIME_AUGMENTED = code "T"
mode_letter STREAMING_IMPUTE = code "I"
mode_letter GAP_AUGMENTED = code "G"

-- what a byte names; one that is no mode's letter names none
abbrev pub ModeLettered : ℕ → Result ForestMode Refusal → Type 0
ModeLettered n r = MatchResult r (λ m. mode_letter m ≡ n) (λ e. (e ≡ Form) × ((m : ForestMode) → eqb n (mode_letter m) ≡ false))

-- and back; whatever is no letter of a text names the mode that row 1 refuses
abbrev pub mode_of_letter : ℕ → ForestMode
mode_of_letter n = cond (eqb n (code "S")) STANDARD (cond (eqb n (code "T")) TIME_AUGMENTED (cond (eqb n (code "G")) GAP_AUGMENTED STREAMING_IMPUTE))

abbrev pub is_none : TransformMethod → Bool
is_none NONE = true
is_none WEIGHTED = false
is_none DIFFERENCE = false
is_none SUBTRACT_MA = false
is_none NORMALIZE = false
is_none NORMALIZE_DIFFERENCE = false

-- NORMALIZE or NORMALIZE_DIFFERENCE
abbrev pub normalizes : TransformMethod → Bool
normalizes NONE = false
normalizes WEIGHTED = false
normalizes DIFFERENCE = false
normalizes SUBTRACT_MA = false
normalizes NORMALIZE = true
normalizes NORMALIZE_DIFFERENCE = true

-- DIFFERENCE or NORMALIZE_DIFFERENCE
abbrev pub differences : TransformMethod → Bool
differences NONE = false
differences WEIGHTED = false
differences DIFFERENCE = true
differences SUBTRACT_MA = false
differences NORMALIZE = false
differences NORMALIZE_DIFFERENCE = true

-- SUBTRACT_MA or NORMALIZE
abbrev pub centres : TransformMethod → Bool
centres NONE = false
centres WEIGHTED = false
centres DIFFERENCE = false
centres SUBTRACT_MA = true
centres NORMALIZE = true
centres NORMALIZE_DIFFERENCE = false

-- ---- what depends on the mode

-- whether a transformed reading has a time element after the channels'
abbrev pub augments : ForestMode → Bool
augments STANDARD = false
augments TIME_AUGMENTED = true
augments STREAMING_IMPUTE = false
augments GAP_AUGMENTED = true

-- whether that element is the gap from the newest time, to which no drift belongs (request 114: "as in T … but")
abbrev pub is_gap : ForestMode → Bool
is_gap STANDARD = false
is_gap TIME_AUGMENTED = false
is_gap STREAMING_IMPUTE = false
is_gap GAP_AUGMENTED = true
