-- What holds in the loops of `stranding::strandings`.
use Prim.Native.Nat.{◌≤◌}
use Rattle.stranding.proofs.Rows.{Rows}
use Rattle.stranding.proofs.strandings.Given as goal

abbrev pub invariant-loop-i : goal.invariant-loop-i
invariant-loop-i l = (l.start ≤ 20) × (l.calls ≤ 20) × Rows l.start l.i l.table l.orders
