-- The number of a refusal goes before the rows that are tested after it. Assumes nothing.
use Rattle.std.proofs.Common.{◌≡◌, ℕ, sym, ap, ◌∙◌, arith}
use Rattle.std.specs.Prelude.{Result, Ok, Err, List, false}
use Rattle.std.specs.Result.{IsErrAnd}
use Rattle.refusal.specs.declared.Refusal.{Refusal}
use Rattle.refusal.specs.Refusal.{number_of, row_of}
use Rattle.refusal.proofs.RefusalLaws.{is_numbered, handed_on}
use lib.Ieee.{Float}
use Rattle.trcf.specs.Transformer.{zero32}
use Rattle.trcf.specs.View.{or_else, Lent, outcome, head_outcome, pointed, point_outcome, learn_outcome, processed_outcome}
use Rattle.trcf.specs.declared.head.Preprocessor.{Preprocessor}
use Rattle.trcf.specs.declared.head.Pointed.{Pointed}
use Rattle.trcf.specs.declared.head.PostProcessed.{PostProcessed}
use Rattle.trcf.proofs.RefusalLaws.{or_else_not}

-- a refusal's number is not 0
pub number_zero : (r : Refusal) → number_of r ≡ 0 → ⊥
number_zero r e = omega (arith, e, is_numbered r)

-- a row that a refusal names goes before whatever is tested after it
pub refused_first : (r : Refusal) (n m : ℕ) → number_of r ≡ n → number_of r ≡ or_else n m
refused_first r n m e = e ∙ or_else_not n m (λ z. number_zero r (e ∙ z))

module _ {A : Type 0} where
  -- what `?` hands on has no number 0
  pub handed_not : (e : Refusal) (r : Result A Refusal) → IsErrAnd r (λ d. d ≡ e) → row_of r ≡ 0 → ⊥
  handed_not e r h z = number_zero e (sym (handed_on e r h) ∙ z)

-- the outcome of an answer that `?` hands on
module _ (e : Refusal) (h : Preprocessor) (l : Lent) where
  pub head_err : (r : Result Preprocessor Refusal) → IsErrAnd r (λ d. d ≡ e) → head_outcome r h l ≡ outcome (number_of e) h l
  head_err (Ok a) x = absurd x
  head_err (Err d) x = ap (λ (q : Refusal). outcome (number_of q) h l) x

  pub point_err : (r : Result Pointed Refusal) (out : List Float) → IsErrAnd r (λ d. d ≡ e) → point_outcome r h l out ≡ pointed (number_of e) false h l out
  point_err (Ok a) out x = absurd x
  point_err (Err d) out x = ap (λ (q : Refusal). pointed (number_of q) false h l out) x

  pub processed_err : (r : Result PostProcessed Refusal) (deviations past expected : List Float) → IsErrAnd r (λ d. d ≡ e)
      → processed_outcome r h l deviations past expected ≡ learn_outcome (number_of e) false false 0 zero32 h l deviations past expected
  processed_err (Ok a) deviations past expected x = absurd x
  processed_err (Err d) deviations past expected x = ap (λ (q : Refusal). learn_outcome (number_of q) false false 0 zero32 h l deviations past expected) x
