-- `imputation::fill_gap` meets its contract. Before the turn at j the gap's readings before j are filled. Assumes nothing.
use Prim.Native.Nat.{ℕ, ◌+◌, ◌*◌, ◌≤◌, ◌<◌}
use mathlib.Core.Path.{◌≡◌, refl}
use lib.ListN.{length, length-set}
use native.Mathlib.Omega.{arith}
use Rattle.series.proofs.ImputationLists.{place_below}
use Rattle.series.proofs.ImputationLaws.{under_more, above_less, gap_start, gap_more}
use Rattle.series.proofs.imputation.fill_gap.Goals as goal

pub loop-j-init : goal.loop-j-init
loop-j-init c =
    let a = c.args in
    (refl, gap_start a.ch a.gap a.after a.cells.now)

pub filled-requires : goal.filled-requires
filled-requires c =
    let j = c.loop-j.j in (
      under_more c.args.gap.before c.args.gap.start j c.requires.start_le_end.1 (omega arith),
      above_less c.args.after j c.args.end c.requires.start_le_end.2 (omega arith),
    )

place : (d c j end n : ℕ) → c < d → j < end → end * d ≤ n → j * d + c < n
place d c j end n h k r = place_below d c j h end n k r

pub overflow_mul-cells : goal.overflow_mul-cells
overflow_mul-cells c =
    omega (arith, place c.args.ch.d c.args.ch.c c.loop-j.j c.args.end (length c.args.cells.now) c.requires.cell_inside.channel c.loop-j-test.true c.requires.cell_inside.room)

pub overflow_add-cells : goal.overflow_add-cells
overflow_add-cells c =
    omega (arith, place c.args.ch.d c.args.ch.c c.loop-j.j c.args.end (length c.args.cells.now) c.requires.cell_inside.channel c.loop-j-test.true c.requires.cell_inside.room)

pub bounds-cells-j : goal.bounds-cells-j
bounds-cells-j c =
    omega (arith, place c.args.ch.d c.args.ch.c c.loop-j.j c.args.end (length c.args.cells.now) c.requires.cell_inside.channel c.loop-j-test.true c.requires.cell_inside.room)

pub loop-j-preserved : goal.loop-j-preserved
loop-j-preserved c =
    let L = c.loop-j in
    let in_List = place c.args.ch.d c.args.ch.c L.j c.args.end (length c.args.cells.now) c.requires.cell_inside.channel c.loop-j-test.true c.requires.cell_inside.room in (
      simp length-set (omega arith),
      gap_more c.args.ch c.args.gap L.j c.args.after c.args.cells.now L.cells _ c.requires.cell_inside.channel (omega arith) in_List c.filled.ensures L.invariant.1,
    )

pub returns : goal.returns
returns c =
    let L = c.loop-j in
    let e : L.j ≡ c.args.end = omega (arith, c.requires.start_le_end.0) in
    rw e at L.invariant.1
