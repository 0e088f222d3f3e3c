-- The ways to the answer of a row function, in their order: the head's row, the call's, and that of what is lent. Assumes nothing.
use Rattle.std.proofs.Common.{◌≡◌, ℕ, sym, ap, ◌∙◌}
use Rattle.std.specs.Prelude.{Result, Ok, Err, OnOk}
use Rattle.std.specs.Result.{IsErrAnd}
use Rattle.refusal.specs.declared.Refusal.{Refusal}
use Rattle.refusal.specs.Refusal.{number_of, row_of}
use Rattle.refusal.proofs.RefusalLaws.{handed_on}
use Rattle.trcf.specs.Calls.{Call, rows}
use Rattle.trcf.specs.Preprocessor.{facts}
use Rattle.trcf.specs.View.{Lent, settings_of, view, head_row, lengths_of, or_else, lent_row, Bounded, Ready, row_of as call_row}
use Rattle.trcf.specs.Steps.Rows.{lengths_row}
use Rattle.trcf.specs.declared.head.Preprocessor.{Preprocessor}
use Rattle.trcf.specs.declared.head.LentLengths.{LentLengths}
use Rattle.trcf.proofs.NumberLaws.{number_zero, refused_first}
use Rattle.trcf.proofs.RowLaws.{row_head, row_call, row_lent, fitted_of, lengths_row_lem}

abbrev pub Answer : Type 0
Answer = Result (Unit {0}) Refusal

module _ (h : Preprocessor) (l : Lent) (c : Call) where
  -- what `?` hands on: e, by the head or by the call
  pub head_refuses : (e : Refusal) (r : Answer) → IsErrAnd r (λ d. d ≡ e) → number_of e ≡ head_row (settings_of h) → row_of r ≡ call_row h l c
  head_refuses e r x k = handed_on e r x ∙ row_head h l c (number_of e) k (number_zero e)

  pub call_refuses : (e : Refusal) (r : Answer) → IsErrAnd r (λ d. d ≡ e) → 0 ≡ head_row (settings_of h) → number_of e ≡ rows (settings_of h) (facts (view h l)) c
      → row_of r ≡ call_row h l c
  call_refuses e r x f k = handed_on e r x ∙ row_call h l c (number_of e) (sym f) k (number_zero e)

  -- a test of the call's refuses
  pub test_refuses : (e : Refusal) → 0 ≡ head_row (settings_of h) → number_of e ≡ rows (settings_of h) (facts (view h l)) c → number_of e ≡ call_row h l c
  test_refuses e f k = row_call h l c (number_of e) (sym f) k (number_zero e)

  -- none refuses but what is lent
  pub lent_decides : (r : Answer) (n : LentLengths) → 0 ≡ head_row (settings_of h) → rows (settings_of h) (facts (view h l)) c ≡ 0 → n ≡ lengths_of l
      → row_of r ≡ lengths_row h n → row_of r ≡ call_row h l c
  lent_decides r n f g p k = row_lent h l c (row_of r) (sym f) g (k ∙ ap (lengths_row h) p)

module _ (h : Preprocessor) (l : Lent) where
  -- a head and what is lent that neither refuses
  pub lent_ready : (r : Answer) (n : LentLengths) → Bounded (settings_of h) → n ≡ lengths_of l → row_of r ≡ lengths_row h n → OnOk r (Ready h l)
  lent_ready (Ok u) n b p k = record { bounded = b; fitted = fitted_of h l (sym (k ∙ ap (lengths_row h) p ∙ lengths_row_lem h l)) }
  lent_ready (Err e) n b p k = tt

  pub held_refuses : (e : Refusal) (r : Answer) → IsErrAnd r (λ d. d ≡ e) → number_of e ≡ head_row (settings_of h) → row_of r ≡ or_else (head_row (settings_of h)) (lent_row h l)
  held_refuses e r x k = handed_on e r x ∙ k ∙ ap (λ (n : ℕ). n) (sym k ∙ refused_first e (head_row (settings_of h)) (lent_row h l) k)

  pub held_decides : (r : Answer) (n : LentLengths) → 0 ≡ head_row (settings_of h) → n ≡ lengths_of l → row_of r ≡ lengths_row h n
      → row_of r ≡ or_else (head_row (settings_of h)) (lent_row h l)
  held_decides r n f p k = k ∙ ap (lengths_row h) p ∙ lengths_row_lem h l ∙ ap (λ (m : ℕ). or_else m (lent_row h l)) f

-- what holds on Ok alone
pub not_ok : (P : Type 0) (e : Refusal) (r : Answer) → IsErrAnd r (λ d. d ≡ e) → OnOk r P
not_ok P e (Ok u) x = absurd x
not_ok P e (Err d) x = tt

pub when_ok : (P : Type 0) (r : Answer) → P → OnOk r P
when_ok P (Ok u) p = p
when_ok P (Err d) p = tt
