-- `snapshot::piece::name` meets its contract. Assumes nothing.
use Prim.Native.Nat.{ℕ}
use lib.ListN.{get_or}
use mathlib.Core.Path.{◌∙◌, ap}
use mathlib.Core.Option.{Option}
use mathlib.Core.List.{List}
use Rattle.snapshot.specs.Steps.Judge.{onto, byte}
use Rattle.snapshot.proofs.piece.name.Goals as goal

pub returns-in_err-p : goal.returns-in_err-p
returns-in_err-p c = rw c.from_residual.ensures (ap (λ (o : Option (List ℕ)). onto (onto o (byte (get_or c.args.letters 1 0))) (byte (get_or c.args.letters 2 0))) c.in_err-p.ensures)

pub returns-in_err-q : goal.returns-in_err-q
returns-in_err-q c =
    rw c.from_residual-in_err-q.ensures (ap (λ (o : Option (List ℕ)). onto o (byte (get_or c.args.letters 2 0))) c.in_err-q.ensures ∙ ap
    (λ (o : Option (List ℕ)). onto (onto o (byte (get_or c.args.letters 1 0))) (byte (get_or c.args.letters 2 0))) c.in_ok-p.ensures)

pub returns : goal.returns
returns c =
    c.byte-3.ensures ∙ ap (λ (o : Option (List ℕ)). onto o (byte (get_or c.args.letters 2 0))) c.in_ok-q.ensures ∙ ap
    (λ (o : Option (List ℕ)). onto (onto o (byte (get_or c.args.letters 1 0))) (byte (get_or c.args.letters 2 0))) c.in_ok-p.ensures
