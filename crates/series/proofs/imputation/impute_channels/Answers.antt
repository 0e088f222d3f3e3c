-- `imputation::impute_channels` meets its contract. Before the turn at c the channels below c are done. Assumes nothing.
use Prim.Native.Nat.{ℕ, ◌+◌, ◌*◌, ◌/◌}
use mathlib.Core.Path.{◌≡◌, refl, sym, ap, ◌∙◌}
use lib.ListN.{length}
use native.Mathlib.Omega.{arith}
use Rattle.series.specs.Imputation.{by_place}
use Rattle.series.specs.Steps.ImputationSteps.{below_at}
use Rattle.series.proofs.ImputationLists.{length_by_place}
use Rattle.series.proofs.ImputationLaws.{below_start, below_more, below_end}
use Rattle.series.proofs.imputation.impute_channels.Goals as goal

pub loop-c-init : goal.loop-c-init
loop-c-init c =
    let a = c.args in
    (refl, below_start a.method a.d a.cells.now a.marks.now a.fixed.now c.requires.some)

pub impute_channel-requires : goal.impute_channel-requires
impute_channel-requires c =
    let L = c.loop-c in (
      c.loop-c-test.true,
      c.requires.marked ∙ sym L.invariant.0,
      ap (λ (n : ℕ). n / c.args.d * c.args.d) L.invariant.0 ∙ c.requires.whole ∙ sym L.invariant.0,
    )

pub loop-c-preserved : goal.loop-c-preserved
loop-c-preserved c =
    let L = c.loop-c in
    let a = c.args in
    let e = c.impute_channel.ensures
    ∙ below_more a.method a.d a.cells.now a.marks.now a.fixed.now c.requires.some c.requires.whole L.c
    c.loop-c-test.true L.cells L.invariant.1 in
    (ap length e ∙ length_by_place (below_at a.method a.d a.cells.now a.marks.now a.fixed.now (L.c + 1)) a.cells.now, e)

pub returns : goal.returns
returns c =
    let L = c.loop-c in
    let a = c.args in
    let e : L.c ≡ a.d = omega arith in
    L.invariant.1
    ∙ ap (λ (k : ℕ). by_place (below_at a.method a.d a.cells.now a.marks.now a.fixed.now k) a.cells.now) e
    ∙ below_end a.method a.d a.cells.now a.marks.now a.fixed.now c.requires.some
