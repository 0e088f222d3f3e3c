-- `capi::codes::write_codes` meets its contract: the invariant is that the first i codes stand over the words. Assumes nothing.
use Prim.Native.Nat.{◌≤◌, ◌<◌}
use mathlib.Core.Path.{◌≡◌, ap, ◌∙◌}
use native.Mathlib.Omega.{arith}
use lib.ListN.{length, length-set}
use lib.Seq.{take-length}
use Rattle.refusal.specs.Lent.{over}
use Rattle.refusal.proofs.LentLaws.{over_copy}
use Rattle.trcf.proofs.LentLaws.{over_none}
use Rattle.capi.proofs.WordLaws.{over_whole}
use Rattle.capi.proofs.codes.write_codes.Goals as goal

pub loop-i-init : goal.loop-i-init
loop-i-init c = (over_none _, omega arith)

pub loop-i-preserved : goal.loop-i-preserved
loop-i-preserved c =
    let L = c.loop-i in
    let s = c in
    let w = c.args.words.now in
    let v = c.args.codes in
    let n : length v ≡ 16 = c.well_formed.1.0.1.0.1 in
    let h : L.i < length v = omega (arith, n) in
    let k : length v ≤ length w = omega (arith, n, c.requires) in
    (rw (L.invariant.0, c.from.ensures) (over_copy w v L.i 0 h k), simp length-set (omega arith))

pub returns : goal.returns
returns c =
    let L = c.loop-i in
    let s = c in
    let w = c.args.words.now in
    let v = c.args.codes in
    let n : length v ≡ 16 = c.well_formed.1.0.1.0.1 in
    let e : L.i ≡ length v = omega (arith, n) in
    let k : length w ≤ length v = omega (arith, n, c.requires) in
    let p = rw e at L.invariant.0 in
    p ∙ ap (over w) (take-length v) ∙ over_whole w v k
