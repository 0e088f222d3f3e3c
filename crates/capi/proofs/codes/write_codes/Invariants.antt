-- What holds in the loops of `capi::codes::write_codes`.
use mathlib.Core.Path.{◌≡◌}
use lib.ListN.{length, take}
use Rattle.refusal.specs.Lent.{over}
use Rattle.capi.proofs.codes.write_codes.Given as goal

abbrev pub invariant-loop-i : goal.invariant-loop-i
invariant-loop-i l = (l.words ≡ over l.initial.words (take l.i l.codes)) × (length l.words ≡ 16)
