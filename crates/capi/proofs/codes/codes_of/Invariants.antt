-- What holds in the loops of `capi::codes::codes_of`.
use Prim.Native.Nat.{ℕ}
use mathlib.Core.Path.{◌≡◌}
use lib.ListN.{length, take, replicate}
use Rattle.refusal.specs.Lent.{over}
use Rattle.capi.proofs.codes.codes_of.Given as goal

abbrev pub invariant-loop-i : goal.invariant-loop-i
invariant-loop-i l = (l.a ≡ over (replicate {A = ℕ} 16 0) (take l.i l.words)) × (length l.a ≡ 16)
