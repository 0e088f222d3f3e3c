-- `access::rights::all_bits` meets its contract: by its loop's invariant. Assumes nothing.
use mathlib.Core.Bool.{◌&&◌}
use mathlib.Core.List.{List}
use mathlib.Core.Path.{sym, ap, ◌∙◌}
use Prim.Native.Nat.{ℕ, ◌≤◌}
use lib.Dec.{ltb}
use lib.ListN.{length, drop_of_length-le}
use native.Mathlib.Omega.{arith}
use Rattle.access.specs.Access.{bits}
use Rattle.access.proofs.Laws.{and_true, largest_step}
use Rattle.access.proofs.rights.all_bits.Goals as goal

pub loop-cell-preserved : goal.loop-cell-preserved
loop-cell-preserved c =
    let L = c.loop-cell in
    rw c.max-largest.ensures (largest_step c.args.table.now L.cell-index (omega arith) L.largest L.invariant)

pub returns : goal.returns
returns c =
    let L = c.loop-cell in
    let t = c.args.table.now in
    let h : length t ≤ L.cell-index = omega arith in
    sym (L.invariant ∙ ap (λ (l : List ℕ). ltb L.largest 2 && bits l) (drop_of_length-le t h) ∙ sym (and_true (ltb L.largest 2)))
