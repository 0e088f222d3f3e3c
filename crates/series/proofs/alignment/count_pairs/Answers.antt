-- `alignment::count_pairs` meets its contract. Invariant: `Walked`. The measure is what is left of the first list.
use Rattle.series.proofs.AlignmentLaws.Walk.{start, all_made, met}
use Rattle.series.proofs.alignment.count_pairs.Goals as goal

pub loop-pair-init : goal.loop-pair-init
loop-pair-init c =
    let a = c.args in
    start a.tolerance a.left.now a.right.now

pub loop-pair-preserved : goal.loop-pair-preserved
loop-pair-preserved c =
    let L = c.loop-pair in
    let a = c.args in
    (met a.tolerance a.left.now a.right.now L.n _ _ _ _ L.invariant c.in-Some.ensures).on

pub returns : goal.returns
returns c =
    let L = c.loop-pair in
    let a = c.args in
    all_made a.tolerance a.left.now a.right.now L.n _ _ L.invariant c.in_default.ensures
