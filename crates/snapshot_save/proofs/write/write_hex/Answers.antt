-- `snapshot_save::write::write_hex` meets its contract. Assumes nothing.
use Prim.Native.Nat.{◌-◌, ◌/◌, ℕ, ◌+◌}
use native.Mathlib.Omega.{arith}
use mathlib.Core.Path.{◌≡◌, refl, ap, sym, ◌∙◌}
use lib.ListN.{length-set, set}
use Rattle.snapshot.specs.Text.{hex}
use Rattle.snapshot.specs.Steps.Write.{stored}
use Rattle.snapshot.proofs.HexLaws.{hex_length}
use Rattle.snapshot.proofs.WriteLaws.{hex_back, stored_none}
use Rattle.snapshot_save.proofs.write.write_hex.Goals as goal

pub loop-i-init : goal.loop-i-init
loop-i-init c = (omega arith, refl, refl)

pub loop-i-preserved : goal.loop-i-preserved
loop-i-preserved c =
    let L = c.loop-i in
    let a = c.args in (
      omega arith,
      L.invariant.1 ∙ hex_back L.i L.m L.out a.at (omega arith)
          ∙ ap (λ (d : ℕ). stored (set L.out (a.at + (L.i - 1)) d) a.at (hex (L.i - 1) (L.m / 16))) (sym c.hex_digit.ensures),
      simp length-set (omega arith),
    )

pub returns : goal.returns
returns c =
    let L = c.loop-i in
    let a = c.args in
    let z : L.i ≡ 0 = omega arith in
    record {
      place = omega (arith, hex_length a.w a.n);
      bytes = sym (L.invariant.1 ∙ rw z (stored_none L.out a.at));
      kept = L.invariant.2;
    }
