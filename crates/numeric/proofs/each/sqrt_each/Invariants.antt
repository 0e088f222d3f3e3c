-- What holds in the loops of `numeric::each::sqrt_each`.
use Rattle.std.proofs.Common.{◌≡◌, length}
use Rattle.numeric.proofs.EachLaws.{rooted_to}
use Rattle.numeric.proofs.each.sqrt_each.Given as goal

abbrev pub invariant-loop-i : goal.invariant-loop-i
invariant-loop-i l = (l.x ≡ rooted_to l.i l.initial.x) × (length l.x ≡ length l.initial.x)
