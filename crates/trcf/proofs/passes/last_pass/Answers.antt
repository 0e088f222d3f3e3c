-- `trcf::passes::last_pass` meets its contract: the invariant is that i channels have passed. Assumes nothing.
use mathlib.Core.Path.{◌≡◌, refl}
use native.Mathlib.Omega.{arith}
use Rattle.trcf.specs.Steps.Passes.{lasts}
use Rattle.trcf.proofs.PassLaws.{lasts_next}
use Rattle.trcf.proofs.passes.last_pass.Goals as goal

pub loop-i-init : goal.loop-i-init
unfolding lasts
loop-i-init c = refl

pub loop-i-preserved : goal.loop-i-preserved
loop-i-preserved c =
    let c8 = c in
    let L = c.loop-i in
    let p = c.args in
    rw (lasts_next L.i p.s.now p.d p.slow p.count p.a.now, ← L.invariant) c.feed_last.ensures

pub returns : goal.returns
returns c = let L = c.loop-i in
    let e : L.i ≡ c.args.d = omega arith in
    rw e at L.invariant
