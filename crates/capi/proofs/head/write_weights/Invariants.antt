-- What holds in the loops of `capi::head::write_weights`.
use mathlib.Core.List.{map}
use mathlib.Core.Path.{◌≡◌}
use lib.ListN.{length, take}
use lib.Ieee.{binary32, to_bits}
use Rattle.capi.proofs.head.write_weights.Given as goal

abbrev pub invariant-loop-i : goal.invariant-loop-i
invariant-loop-i l = (take l.i l.words ≡ map (to_bits binary32) (take l.i l.weights)) × (length l.words ≡ 16)
