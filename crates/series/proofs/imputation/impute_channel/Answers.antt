-- `imputation::impute_channel` meets its contract. Before the turn at i the channel is walked up to reading i. Assumes nothing.
use Prim.Native.Nat.{ℕ, ◌+◌, ◌/◌, ◌≤◌}
use mathlib.Core.Path.{◌≡◌, refl, ◌∙◌, subst}
use lib.ListN.{length}
use native.Mathlib.Omega.{arith}
use native.Mathlib.Nat.{mul-le-mul_right}
use Rattle.series.proofs.ImputationLists.{place_below}
use Rattle.series.proofs.ImputationLaws.{Walked, walked_start, walked_more, walked_end, walked_under, walked_length}
use Rattle.series.proofs.imputation.impute_channel.Goals as goal

pub loop-i-init : goal.loop-i-init
loop-i-init c =
    let a = c.args in
    (refl, walked_start a.ch a.marks.now a.cells.now)

pub passed-gap-requires : goal.passed-gap-requires
passed-gap-requires c =
    let L = c.loop-i in
    let a = c.args in
    let t : L.i + 1 ≤ length a.cells.now / a.ch.d = omega arith in
    let r = mul-le-mul_right a.ch.d t in
    let e = c.requires.2 in
    record { cell_inside = (record { channel = c.requires.0; room = omega arith }, omega (arith, L.invariant.0, c.requires.1)); start_le_i = (L.invariant.1.start, walked_under L.invariant.1) }

pub loop-i-preserved : goal.loop-i-preserved
loop-i-preserved c =
    let L = c.loop-i in
    let a = c.args in
    let n = length a.cells.now in
    let below = c.loop-i-test.true in
    let in_List = place_below a.ch.d a.ch.c L.i c.requires.0 (n / a.ch.d) n below (omega (arith, c.requires.2)) in
    let W =
    walked_more a.ch a.marks.now a.cells.now c.requires.0 L.i L.gap c.passed-gap.result L.cells _
    L.invariant.1 below in_List c.passed-gap.ensures in
    (walked_length W, W)

pub fill_gap-requires : goal.fill_gap-requires
fill_gap-requires c =
    let L = c.loop-i in
    let g = L.invariant.1.start in
    record { cell_inside = record { channel = c.requires.0; room = omega (arith, c.requires.2, L.invariant.0) }; start_le_end = (omega arith, walked_under L.invariant.1, tt) }

pub returns : goal.returns
returns c =
    let L = c.loop-i in
    let a = c.args in
    let e : L.i ≡ length a.cells.now / a.ch.d = omega arith in
    c.fill_gap.ensures
    ∙ walked_end a.ch a.marks.now a.cells.now c.requires.0 L.gap L.cells
    (subst (λ (i : ℕ). Walked a.ch a.marks.now a.cells.now i L.gap L.cells) e L.invariant.1)
