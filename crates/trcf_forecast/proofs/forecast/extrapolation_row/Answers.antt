-- The first row that refuses. Assumes nothing.
use mathlib.Core.Path.{◌≡◌, sym, ◌∙◌}
use Rattle.std.specs.Prelude.{Result, Ok, Err, IsErrAnd, OnOk}
use Rattle.refusal.specs.declared.Refusal.{Refusal}
use Rattle.refusal.proofs.RefusalLaws.{handed_on}
use Rattle.std.proofs.lemmas.Result.{on_ok_weaker}
use Rattle.trcf.specs.View.{or_else}
use Rattle.trcf.specs.Calls.{forecast_output_short}
use Rattle.trcf.proofs.NumberLaws.{handed_not, refused_first}
use Rattle.trcf.proofs.ExtrapolationLaws.{row_head, row_own, row_output, row_unread}
use Rattle.trcf_forecast.proofs.forecast.extrapolation_row.Goals as goal

-- a refused answer says nothing of what is accepted
not_ok : {A : Type 0} (P : Type 0) (e : Refusal) (r : Result A Refusal) → IsErrAnd r (λ (d : Refusal). d ≡ e) → OnOk r P
not_ok P e (Ok a) h = absurd h
not_ok P e (Err d) h = tt

pub returns-in_err-head_row : goal.returns-in_err-head_row
returns-in_err-head_row c =
    let h = c.from_residual.ensures.1 in
    record { value = row_head _ _ _ _ _ _ (handed_on _ _ h ∙ c.in_err-head_row.ensures.value) (handed_not _ _ h); invertible = not_ok _ _ _ h }

pub broken_row-requires : goal.broken_row-requires
broken_row-requires c = c.in_ok-head_row.ensures.bounded

pub returns-in_err-broken_row : goal.returns-in_err-broken_row
returns-in_err-broken_row c =
    let h = c.from_residual-in_err-broken_row.ensures.1 in record {
      value = row_own _ _ _ _ _ _ (sym c.in_ok-head_row.ensures.value) (handed_on _ _ h ∙ refused_first _ _ _ c.in_err-broken_row.ensures.value) (handed_not _ _ h);
      invertible = not_ok _ _ _ h;
    }

pub returns-in_err-counters_row : goal.returns-in_err-counters_row
returns-in_err-counters_row c =
    let h = c.from_residual-in_err-counters_row.ensures.1 in record {
      value = row_own _ _ _ _ _ _ (sym c.in_ok-head_row.ensures.value)
          (handed_on _ _ h ∙ (λ j. or_else (c.in_ok-broken_row.ensures.value j) (c.in_err-counters_row.ensures j))) (handed_not _ _ h);
      invertible = not_ok _ _ _ h;
    }

pub output_row-requires : goal.output_row-requires
output_row-requires c = c.in_ok-head_row.ensures.bounded

pub returns-in_err-output_row : goal.returns-in_err-output_row
unfolding forecast_output_short
returns-in_err-output_row c =
    let h = c.from_residual-in_err-output_row.ensures.1 in record {
      value = row_output _ _ _ _ _ _ (sym c.in_ok-head_row.ensures.value)
          (sym (λ j. or_else (c.in_ok-broken_row.ensures.value j) (c.in_ok-counters_row.ensures j)))
          (handed_on _ _ h ∙ c.in_err-output_row.ensures.value) (handed_not _ _ h);
      invertible = not_ok _ _ _ h;
    }

pub unread_row-requires : goal.unread_row-requires
unread_row-requires c = c.in_ok-head_row.ensures.bounded

pub returns-clause-value : goal.returns-clause-value
unfolding forecast_output_short
returns-clause-value c =
    row_unread _ _ _ _ _ _ (sym c.in_ok-head_row.ensures.value)
    (sym (λ j. or_else (c.in_ok-broken_row.ensures.value j) (c.in_ok-counters_row.ensures j)))
    (sym c.in_ok-output_row.ensures.value) c.unread_row.ensures.value

pub returns-clause-invertible : goal.returns-clause-invertible
returns-clause-invertible c =
    on_ok_weaker c.unread_row.result
    (λ r. record {
      bounded = c.in_ok-head_row.ensures.bounded;
      unbroken = c.in_ok-broken_row.ensures.unbroken;
      long = λ a. let l = c.in_ok-output_row.ensures.long a in record { numbers = l.numbers; times = l.times };
      readable = r;
    })
    c.unread_row.ensures.readable
