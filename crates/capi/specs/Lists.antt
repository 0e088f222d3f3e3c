-- The calls on lists of readings at C's border (requests #104 and #108): the rule by its number, the number of pairs in a lent one.
use Rattle.std.specs.Prelude.{ℕ, cond, List, ltb, eqb, Float}
use Rattle.trcf.specs.Preprocessor.{accepted}
use Rattle.series.specs.Imputation.{Imputation, imputation, impute_of}
use Rattle.series.specs.Alignment.{Readings, Outputs, AlignOutcome, align_outcome, align_of}
use Rattle.series.specs.declared.imputation.ImputationMethod.{ImputationMethod}
use Rattle.series.specs.declared.imputation.ImputationMethod.TheVariants.{FIXED, PREVIOUS, NEXT, LINEAR}

-- ---- `impute`

-- the source's order
abbrev pub imputation_method_of : ℕ → ImputationMethod
imputation_method_of n = cond (eqb n 1) PREVIOUS (cond (eqb n 2) NEXT (cond (eqb n 3) LINEAR FIXED))

-- a number that names no rule has row 19, before the rows of the call
unfoldable pub impute_at : ℕ → ℕ → List Float → List ℕ → List Float → Imputation
impute_at n d cells marks fixed = cond (ltb 3 n) (imputation 19 cells) (impute_of (imputation_method_of n) d cells marks fixed)

-- ---- `align`

-- the number of pairs in a lent number, which a refusal leaves
abbrev pub align_told : ℕ → AlignOutcome → AlignOutcome
align_told n a = align_outcome a.row (accepted a.row a.number n) a.outs

unfoldable pub align_at : ℕ → Readings → Readings → ℕ → ℕ → Outputs → AlignOutcome
align_at d l r w n o = align_told n (align_of d l r w o)
