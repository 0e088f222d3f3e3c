-- `capi::head::write_weights` meets its contract: by its loop's invariant. Assumes nothing.
use mathlib.Core.Path.{◌≡◌}
use native.Mathlib.Omega.{arith}
use lib.ListN.{length-set}
use lib.Ieee.{binary32, to_bits, nan}
use Rattle.capi.proofs.WordLaws.{filled_more, filled_whole}
use Rattle.capi.proofs.head.write_weights.Goals as goal

pub loop-i-preserved : goal.loop-i-preserved
loop-i-preserved c =
    let L = c.loop-i in (
      filled_more (to_bits binary32) L.i L.words c.args.weights.now _ nan L.invariant.0 (omega arith)
          (omega (arith, c.requires)) c.single_bits.ensures,
      simp length-set (omega arith),
    )

pub returns : goal.returns
returns c =
    let at-loop = c.loop-i in
    let e : at-loop.i ≡ 16 = omega arith in
    filled_whole (to_bits binary32) 16 at-loop.words c.args.weights.now (rw e at at-loop.invariant.0) at-loop.invariant.1 c.requires.weights_len
