-- `trcf_calls::queries::status` meets its contract: by its callees' promises and the laws of outcomes. Assumes nothing.
use mathlib.Core.Path.{◌≡◌, refl, ap, ◌∙◌}
use mathlib.Core.List.{List}
use lib.Ieee.{Float}
use Rattle.std.specs.Prelude.{Result, Ok, Err, IsErrAnd}
use Rattle.refusal.specs.declared.Refusal.{Refusal}
use Rattle.refusal.specs.Refusal.{number_of}
use Rattle.trcf.specs.View.{written, status_given, no_status}
use Rattle.trcf.specs.Steps.Told.{told_by}
use Rattle.trcf.specs.declared.head.Preprocessor.{Preprocessor}
use Rattle.trcf.specs.declared.head.Status.{Status}
use Rattle.trcf.proofs.NumberLaws.{number_zero}
use Rattle.trcf.proofs.OutcomeLaws.{status_by, status_told, status_refused}
use Rattle.trcf_calls.specs.Getters.{status_of_head}
use Rattle.trcf_calls.proofs.queries.status.Goals as goal

status_err : (e : Refusal) (r : Result Status Refusal) (out : List Float) → IsErrAnd r (λ (d : Refusal). d ≡ e) → status_given r out ≡ status_by (number_of e) (no_status out)
status_err e (Ok s) out h = absurd h
status_err e (Err d) out h = ap (λ (q : Refusal). status_by (number_of q) (no_status out)) h

status_ok : (h : Preprocessor) (s : Status) (out : List Float) → s ≡ status_of_head h → status_given (Ok s) out ≡ status_by 0 (told_by h out)
status_ok h s out e = ap (λ (x : Status). status_given (Ok x) out) e

pub returns-in_err-deviations : goal.returns-in_err-deviations
returns-in_err-deviations c =
    status_err _ _ _ c.from_residual.ensures.1 ∙ status_refused _ _ _ (written (number_of c.in_err-deviations.field-0.0) _) c.in_err-deviations.ensures (number_zero _)

pub returns : goal.returns
returns c = status_ok _ _ _ c.status_of_head.ensures ∙ status_told _ _ _ (written 0 _) c.in_ok-deviations.ensures refl
