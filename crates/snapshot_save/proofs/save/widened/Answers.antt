-- `snapshot_save::save::widened` meets its contract: the invariant is that the first i codes stand over zeros. Assumes nothing.
use mathlib.Core.Path.{◌≡◌, refl, ap, ◌∙◌}
use lib.Seq.{take-length}
use native.Mathlib.Omega.{arith}
use Prim.Native.Nat.{ℕ, ◌≤◌, ◌<◌}
use lib.ListN.{length, replicate, length-set}
use Rattle.trcf.proofs.LentLaws.{over_none}
use Rattle.refusal.specs.Lent.{over}
use Rattle.refusal.proofs.LentLaws.{over_copy}
use Rattle.snapshot.proofs.CodeLaws.{over_all_lem}
use Rattle.snapshot_save.proofs.save.widened.Goals as goal

pub loop-i-init : goal.loop-i-init
loop-i-init c = (over_none _, refl)

pub loop-i-preserved : goal.loop-i-preserved
loop-i-preserved c =
    let L = c.loop-i in
    let w = c.args.codes in
    let n : length w ≡ 16 = c.well_formed.0.1.0.1 in
    let h : L.i < length w = omega arith in
    let k : length w ≤ 16 = omega arith in
    (rw L.invariant.0 (over_copy (replicate {A = ℕ} 16 0) w L.i 0 h k), simp length-set (omega arith))

pub returns : goal.returns
returns c =
    let L = c.loop-i in
    let w = c.args.codes in
    let n : length w ≡ 16 = c.well_formed.0.1.0.1 in
    let e : L.i ≡ length w = omega arith in
    let p = rw e at L.invariant.0 in
    p ∙ ap (over (replicate {A = ℕ} 16 0)) (take-length w) ∙ over_all_lem w n
