-- A call that writes one list, refused by what `?` hands on. Assumes nothing.
use mathlib.Core.Path.{◌≡◌, ◌∙◌}
use mathlib.Core.List.{List}
use native.Mathlib.Omega.{arith}
use lib.Ieee.{Float}
use Rattle.std.specs.Prelude.{Result, IsErrAnd}
use Rattle.refusal.specs.declared.Refusal.{Refusal}
use Rattle.refusal.specs.Refusal.{number_of, row_of}
use Rattle.refusal.proofs.RefusalLaws.{is_numbered, handed_on}
use Rattle.trcf.specs.Calls.{Call}
use Rattle.trcf.specs.Preprocessor.{State}
use Rattle.trcf.specs.View.{Lent, written, write_of, row_of as call_row}
use Rattle.trcf.specs.declared.head.Preprocessor.{Preprocessor}
use Rattle.trcf.proofs.OutcomeLaws.{write_stays}

pub write_refused_by : {A : Type 0} (h : Preprocessor) (l : Lent) (c : Call) (f : State → List Float) (out : List Float) (e : Refusal) (r : Result A Refusal)
    → IsErrAnd r (λ (d : Refusal). d ≡ e) → number_of e ≡ call_row h l c → written (row_of r) out ≡ write_of h l c f out
write_refused_by h l c f out e r handed row =
    let k = handed_on e r handed in write_stays h l c f out (row_of r) (k ∙ row) (λ z. omega (arith, z, k, is_numbered e))
