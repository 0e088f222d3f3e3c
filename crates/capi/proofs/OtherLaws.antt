-- The calls that take no preprocessor, from what stranding and series promise. Assumes nothing.
use Prim.Native.Nat.{ℕ, ◌<◌}
use mathlib.Core.List.{List}
use mathlib.Core.Path.{◌≡◌, refl, ap, ◌∙◌}
use lib.Ieee.{Float}
use borrow.Author.Tests.{lt-ltb}
use Rattle.refusal.specs.Refusal.{number_of}
use Rattle.refusal.specs.declared.Refusal.{Refusal}
use Rattle.refusal.specs.declared.Refusal.TheVariants.{Form}
use Rattle.trcf.specs.Preprocessor.{accepted}
use Rattle.stranding.specs.Counts.{RowCounts, row_counts as counted, strandings_of}
use Rattle.series.specs.Imputation.{Imputation, imputation, imputation_number, impute_of}
use Rattle.series.specs.Alignment.{Readings, Outputs, align_outcome, align_of}
use Rattle.series.specs.declared.imputation.ImputationMethod.{ImputationMethod}
use Rattle.series.specs.declared.imputation.ImputationMethod.TheVariants.{FIXED, PREVIOUS, NEXT, LINEAR}
use Rattle.capi.specs.Counts.{strandings_told, strandings_at}
use Rattle.capi.specs.Lists.{impute_at, align_told, align_at}

pub strandings_done : (start calls w d s : ℕ) {r : RowCounts} {w' d' s' : ℕ} → r ≡ strandings_of start calls
    → w' ≡ accepted r.row r.waiting w → d' ≡ accepted r.row r.drained d → s' ≡ accepted r.row r.stranded s
    → counted r.row w' d' s' ≡ strandings_at start calls w d s
unfolding strandings_at
strandings_done start calls w d s {r} e p q t = (λ j. counted r.row (p j) (q j) (t j)) ∙ ap (strandings_told w d s) e

module _ (d : ℕ) (cells : List Float) (marks : List ℕ) (fixed : List Float) where
  -- no rule has the number
  pub impute_no_rule : (n : ℕ) (e : Refusal) → e ≡ Form → 3 < n → imputation (number_of e) cells ≡ impute_at n d cells marks fixed
  unfolding impute_at
  impute_no_rule n e q h = rw (q, lt-ltb 3 n h) refl

  numbered : (m : ImputationMethod) {o : Imputation} → o ≡ impute_of m d cells marks fixed → o ≡ impute_at (imputation_number m) d cells marks fixed
  unfolding impute_at
  numbered FIXED p = p
  numbered PREVIOUS p = p
  numbered NEXT p = p
  numbered LINEAR p = p

  -- the rule of the number
  pub impute_done : (n : ℕ) (m : ImputationMethod) {o : Imputation} → imputation_number m ≡ n → o ≡ impute_of m d cells marks fixed
      → o ≡ impute_at n d cells marks fixed
  impute_done n m e p = rw (← e) (numbered m p)

pub align_done : (d : ℕ) (l r : Readings) (w n : ℕ) (o : Outputs) {row number n' : ℕ} {o' : Outputs}
    → align_outcome row number o' ≡ align_of d l r w o → n' ≡ accepted row number n → align_outcome row n' o' ≡ align_at d l r w n o
unfolding align_at
align_done d l r w n o {row} {number} {n'} {o'} p q = (λ j. align_outcome row (q j) o') ∙ ap (align_told n) p
