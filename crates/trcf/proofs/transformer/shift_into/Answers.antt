-- `trcf::transformer::shift_into` meets its contract: the invariant is that the answer's first i numbers stand over the output. Assumes nothing.
use Rattle.numeric.specs.Narrow.{narrowed}
use Rattle.trcf.specs.Types.{centres}
use Rattle.trcf.specs.Transformer.{shifts, basic_shift, zero32, mean_at}
use mathlib.Core.Bool.{cond}
use lib.Ieee.{binary32, add}
use lib.ListN.{length}
use Prim.Native.Nat.{◌<◌}
use native.Mathlib.Omega.{arith}
use native.Mathlib.Numerals.{add-one}
use mathlib.Core.Path.{◌≡◌}
use Rattle.trcf.proofs.LentLaws.{over_none, over_more}
use Rattle.trcf.proofs.transformer.shift_into.Goals as goal

pub loop-i-init : goal.loop-i-init
loop-i-init c = over_none _

pub loop-i-preserved : goal.loop-i-preserved
loop-i-preserved c =
    let L = c.loop-i in
    let a = c.args in
    let h : L.i < length a.output.now = omega arith in
    rw (add-one, L.invariant, c.shift_at.ensures) (over_more a.output.now
    (λ k. cond (centres a.t.transform_method) (add binary32 zero32 (narrowed (mean_at a.s.now k))) zero32) L.i h)

pub returns : goal.returns
unfolding shifts basic_shift
returns c = let L = c.loop-i in
    let e : L.i ≡ c.args.t.input_length = omega arith in
    rw e at L.invariant
