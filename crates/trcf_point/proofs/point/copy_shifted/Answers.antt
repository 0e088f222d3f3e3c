-- `trcf_point::point::copy_shifted` meets its contract: two copies, the second after the first. Assumes nothing.
use Prim.Native.Nat.{◌-◌}
use mathlib.Core.Path.{◌∙◌}
use native.Mathlib.Omega.{arith}
use lib.ListN.{length, take, drop, length-take, length-drop}
use Rattle.trcf.proofs.LengthLaws.{roomy}
use Rattle.trcf.proofs.ShingleLaws.{paste_over}
use Rattle.trcf_point.proofs.PointLaws.{shifted_over}
use Rattle.trcf_point.proofs.point.copy_shifted.Goals as goal

pub returns : goal.returns
returns c =
    let a = c.args in
    let h = c.requires in
    let m = length a.point.now - length a.z.now in
    let first = c.copy_in in
    let stays = roomy _ first.ensures (simp (length-drop, length-take) (omega (arith, h))) ∙ paste_over a.output.now (take m (drop (length a.z.now) a.point.now)) in
    let comes = roomy _ c.copy_in-2.ensures (omega (arith, h, first.auto)) in
    comes ∙ shifted_over a.output.now a.point.now a.z.now _ m (omega (arith, h)) stays
