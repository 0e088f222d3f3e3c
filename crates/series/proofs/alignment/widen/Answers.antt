-- `alignment::widen` meets its contract. Before the turn at c the first c sizes are taken in.
use Rattle.series.proofs.AlignmentLaws.Comparing.{widen_turn, widen_end}
use Prim.Native.Nat.{◌<◌}
use mathlib.Core.Path.{◌≡◌, refl, ◌∙◌}
use native.Mathlib.Omega.{arith}
use lib.ListN.{length, length-set}
use Rattle.series.specs.Steps.Comparing.{widened}
use Rattle.series.proofs.AlignmentLaws.Written.{part_none}
use Rattle.series.proofs.alignment.widen.Goals as goal

pub loop-c-init : goal.loop-c-init
loop-c-init c =
    let a = c.args in
    (part_none a.gaps.now (widened a.left.now a.a a.right.now a.b a.gaps.now), refl)

pub loop-c-preserved : goal.loop-c-preserved
loop-c-preserved c =
    let L = c.loop-c in
    let a = c.args in
    let h : L.c < length a.gaps.now = omega arith in (
      widen_turn a.left.now a.a a.right.now a.b a.gaps.now L.gaps L.c _ _ h L.invariant.0 c.size.ensures c.larger_of.ensures,
      simp length-set L.invariant.1,
    )

pub returns : goal.returns
returns c =
    let L = c.loop-c in
    let a = c.args in
    let e : L.c ≡ length a.gaps.now = omega arith in
    L.invariant.0 ∙ widen_end a.left.now a.a a.right.now a.b a.gaps.now L.c e
