-- What holds in the loop of `vectors_core::digits::decimal`: the number is that of the digits before.
use Rattle.std.proofs.Common.{◌≡◌, take}
use Rattle.std.specs.Prelude.{IsTrue}
use Rattle.std.specs.Str.Parse.{digits_value}
use Rattle.vectors_core.specs.Digits.{decimal}
use Rattle.vectors_core.proofs.digits.decimal.Given as goal

abbrev pub invariant-loop-b : goal.invariant-loop-b
invariant-loop-b l = (l.digits.value ≡ decimal (take l.b-index l.text)) × (IsTrue l.digits.good → l.digits.value ≡ digits_value 10 (take l.b-index l.text))
