-- `stranding::sweep` meets its contract: before j the cells are swept, the others as they were.
use Prim.Native.Nat.{◌+◌}
use native.Mathlib.Omega.{arith}
use Rattle.stranding.proofs.Rows.{begin, cell_small, on, ends}
use Rattle.stranding.proofs.sweep.Goals as goal

pub loop-j-init : goal.loop-j-init
loop-j-init c = begin _ _

pub overflow_mul-table : goal.overflow_mul-table
overflow_mul-table c =
    let L = c.loop-j in
    omega (arith, cell_small _ _ L.j L.table c.requires.small.cells L.invariant L.j (omega arith) (omega (arith, L.invariant.up_to)))

pub overflow_add-table-in-loop-j : goal.overflow_add-table-in-loop-j
overflow_add-table-in-loop-j c =
    let L = c.loop-j in
    let x = cell_small _ _ L.j L.table c.requires.small.cells L.invariant L.j (omega arith) (omega (arith, L.invariant.up_to)) in
    let y = cell_small _ _ L.j L.table c.requires.small.cells L.invariant (L.j + 1) (omega arith) (omega arith) in
    omega (arith, x, y)

pub loop-j-preserved : goal.loop-j-preserved
loop-j-preserved c =
    let L = c.loop-j in
    on c.args.start c.args.table.now L.j L.table (omega (arith, c.requires.small.long, c.requires.start_bound)) L.invariant (omega arith)

pub returns : goal.returns
returns c =
    let L = c.loop-j in
    ends _ _ L.j L.table L.invariant (omega arith)
