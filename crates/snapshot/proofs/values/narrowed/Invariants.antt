-- What holds in the loops of `snapshot::values::narrowed`.
use mathlib.Core.Path.{◌≡◌}
use Prim.Native.Nat.{ℕ}
use lib.ListN.{length, replicate, take}
use Rattle.refusal.specs.Lent.{over}
use Rattle.snapshot.proofs.values.narrowed.Given as goal

abbrev pub invariant-loop-i : goal.invariant-loop-i
invariant-loop-i l = (l.a ≡ over (replicate {A = ℕ} 16 0) (take l.i l.w)) × (length l.a ≡ 16)
