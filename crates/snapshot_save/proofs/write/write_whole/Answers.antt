-- `snapshot_save::write::write_whole` meets its contract. Assumes nothing.
use Rattle.snapshot.proofs.WriteLaws.{whole_back, whole_less, whole_more_length, whole_many, whole_few, whole_pos, stored_one}
use Rattle.snapshot.specs.Steps.Write.{stored}
use Rattle.snapshot.specs.Text.{whole}
use lib.ListN.{length-set, set}
use mathlib.Core.Path.{refl, ap, sym, ◌∙◌}
use native.Mathlib.Omega.{arith}
use Prim.Native.Nat.{ℕ, ◌+◌, ◌≤◌, ◌<◌, ◌-◌, ◌%◌, ◌/◌}
use Rattle.snapshot_save.proofs.write.write_whole.Goals as goal

pub loop-i-init : goal.loop-i-init
loop-i-init c = (c.whole_length-l.ensures.value, refl, refl)

pub loop-i-preserved : goal.loop-i-preserved
loop-i-preserved c =
    let L = c.loop-i in
    let a = c.args in
    let h : 10 ≤ L.m = whole_many L.m (omega (arith, L.invariant.0)) in (
      omega (arith, whole_more_length L.m h),
      L.invariant.1 ∙ whole_back L.m L.out a.at h ∙ ap (λ (k : ℕ). stored (set L.out (a.at + (k - 1)) (48 + L.m % 10)) a.at (whole (L.m / 10))) (sym L.invariant.0),
      simp length-set (omega arith),
    )

pub overflow_add-out-2 : goal.overflow_add-out-2
overflow_add-out-2 c = omega (arith, whole_few c.loop-i.m (omega (arith, c.loop-i.invariant.0)))

pub overflow_cast-out-2 : goal.overflow_cast-out-2
overflow_cast-out-2 c = omega (arith, whole_few c.loop-i.m (omega (arith, c.loop-i.invariant.0)))

pub bounds-out-at-2 : goal.bounds-out-at-2
bounds-out-at-2 c = omega (arith, whole_pos c.args.n)

pub returns : goal.returns
returns c =
    let L = c.loop-i in
    let a = c.args in
    let h : L.m < 10 = whole_few L.m (omega (arith, L.invariant.0)) in
    record {
      place = ap (λ (k : ℕ). a.at + k) c.whole_length-l.ensures.value;
      bytes = sym (L.invariant.1 ∙ ap (stored L.out a.at) (whole_less L.m h) ∙ stored_one L.out a.at (48 + L.m));
      kept = simp length-set (omega arith);
    }
