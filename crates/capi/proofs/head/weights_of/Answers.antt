-- `capi::head::weights_of` meets its contract: by its loop's invariant. Assumes nothing.
use mathlib.Core.Path.{◌≡◌}
use native.Mathlib.Omega.{arith}
use lib.ListN.{length-set}
use Rattle.capi.specs.Head.{single}
use Rattle.capi.proofs.WordLaws.{filled_more, filled_whole}
use Rattle.capi.proofs.head.weights_of.Goals as goal

pub loop-i-preserved : goal.loop-i-preserved
loop-i-preserved c =
    let L = c.loop-i in (
      filled_more single L.i L.a c.args.words.now _ 0 L.invariant.0 (omega arith)
          (omega (arith, c.requires)) c.single_of.ensures,
      simp length-set (omega arith),
    )

pub returns : goal.returns
returns c =
    let at-loop = c.loop-i in
    let e : at-loop.i ≡ 16 = omega arith in
    filled_whole single 16 at-loop.a c.args.words.now (rw e at at-loop.invariant.0) at-loop.invariant.1 c.requires
