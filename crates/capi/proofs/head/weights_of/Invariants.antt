-- What holds in the loops of `capi::head::weights_of`.
use mathlib.Core.List.{map}
use mathlib.Core.Path.{◌≡◌}
use lib.ListN.{length, take}
use Rattle.capi.specs.Head.{single}
use Rattle.capi.proofs.head.weights_of.Given as goal

abbrev pub invariant-loop-i : goal.invariant-loop-i
invariant-loop-i l = (take l.i l.a ≡ map single (take l.i l.words)) × (length l.a ≡ 16)
