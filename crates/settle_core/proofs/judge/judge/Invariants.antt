-- What holds in the loop of `settle_core::judge::judge`.
use mathlib.Core.Path.{◌≡◌}
use Prim.Native.Nat.{◌≤◌}
use lib.ListN.{length, drop}
use Rattle.settle_core.specs.Input.{input_of}
use Rattle.settle_core.proofs.JudgeLaws.{read_so_far}
use Rattle.settle_core.proofs.judge.judge.Given as goal

abbrev pub invariant-loop-n : goal.invariant-loop-n
invariant-loop-n l = (input_of l.text ≡ read_so_far l.pairs l.n (drop l.at l.text)) × (l.at ≤ length l.text) × (length l.pairs ≡ 8)
