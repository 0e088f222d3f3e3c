-- What holds in the loop of `vectors_core::digits::hexadecimal_number`: the number is that of the digits before.
use Rattle.std.proofs.Common.{◌≡◌, length, take}
use Rattle.std.specs.Prelude.{IsTrue}
use Rattle.std.specs.Str.Parse.{digits_value}
use Rattle.vectors_core.specs.Digits.{hexadecimal}
use Rattle.vectors_core.proofs.digits.hexadecimal_number.Given as goal

abbrev pub invariant-loop-b : goal.invariant-loop-b
invariant-loop-b l =
    (l.digits.value ≡ hexadecimal (take l.b-index l.text)) × (IsTrue l.digits.good → (length l.text ≡ l.n) × (l.digits.value ≡ digits_value 16 (take l.b-index l.text)))
