-- `capi::codes::tell_codes` meets its contract: by the test of the output's length. Assumes nothing.
use mathlib.Core.Path.{ap}
use mathlib.Core.List.{List, ◌++◌}
use Prim.Native.Nat.{ℕ}
use lib.ListN.{length, drop}
use Rattle.refusal.specs.Lent.{over}
use Rattle.capi.proofs.CallLaws.{list_many, list_fit}
use Rattle.capi.proofs.codes.tell_codes.Goals as goal

pub returns-then-output-codes : goal.returns-then-output-codes
returns-then-output-codes c = list_many c.args.codes.now c.args.output.now c.if-output-codes.true

pub returns : goal.returns
unfolding over
returns c =
    let a = c.args in
    list_fit a.codes.now a.output.now c.if-output-codes.false
    (ap (λ (v : List ℕ). v ++ drop (length a.codes.now) a.output.now) c.copy_from_slice.ensures.after)
