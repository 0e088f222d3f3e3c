-- `trcf::passes::first_pass` meets its contract: the invariant is that i channels have passed. Assumes nothing.
use Prim.Native.Nat.{◌+◌, ◌*◌}
use mathlib.Core.Path.{◌≡◌, refl, sym, ◌∙◌}
use native.Mathlib.Omega.{arith}
use native.Mathlib.Numerals.{add-one}
use lib.ListN.{set, get_or}
use lib.Ieee.{nan}
use Rattle.common.specs.Deviation.{step_of}
use Rattle.trcf.specs.Transformer.{statistic_at}
use Rattle.trcf.specs.Steps.Passes.{radicand_of, difference_of, firsts, radicands}
use Rattle.trcf.proofs.PassLaws.{noted_next}
use Rattle.trcf.proofs.passes.first_pass.Goals as goal

pub loop-i-init : goal.loop-i-init
unfolding firsts radicands
loop-i-init c = (refl, refl)

pub loop-i-preserved : goal.loop-i-preserved
unfolding firsts
loop-i-preserved c =
    let c8 = c in
    let at-feed-first = c.feed_first-r in
    let L = c.loop-i in
    let p = c.args in
    let one = c.to_f64.ensures in
    let two = c.to_f64-in-loop-i.ensures in
    let passed = at-feed-first.ensures in
    let first = rw (one, two) at passed.s_after in
    let v = rw (one, L.invariant.0) at passed.value_value in
    let w = rw (two, L.invariant.0) at passed.difference_value in
    let known = radicands L.i p.a.now p.s.now p.d p.decay p.count p.input.now p.previous.now in
    let list = firsts L.i p.s.now p.d p.decay p.count p.input.now p.previous.now in
    let x = get_or p.input.now L.i nan in
    let dx = difference_of p.input.now p.previous.now L.i in
    let y = radicand_of (step_of (statistic_at list L.i p.decay p.count) x) in
    let z = radicand_of (step_of (statistic_at list (L.i + p.d) p.decay p.count) dx) in
    let r = at-feed-first.result in
    let noting : set (set L.a (2 * L.i) r.value) (2 * L.i + 1) r.difference ≡ set (set known (2 * L.i) y) (2 * L.i + 1) z = λ t. set (set (L.invariant.1 t) (2 * L.i) (v t))
    (2 * L.i + 1) (w t) in (
      rw (add-one, ← L.invariant.0) first,
      noting ∙ sym (noted_next p.d p.decay p.count p.input.now p.previous.now L.i p.a.now p.s.now),
    )

pub returns : goal.returns
returns c =
    let L = c.loop-i in
    let p = c.args in
    let e : L.i ≡ p.d = omega arith in
    record { s_after = rw e at L.invariant.0; a_after = rw e at L.invariant.1 }
