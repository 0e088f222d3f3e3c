-- What the code answers, an `Option` of its own kind, as the definitions say it; and a field as the code tells it.
use Rattle.std.specs.Prelude.{ℕ, Float, Option as Answer, Some, None}
use Rattle.std.proofs.Math.Option.{Option, none, some}
use Rattle.snapshot.specs.declared.field.Field.{Field}
use Rattle.snapshot.specs.declared.field.Field.TheVariants.{Single, Double, Bad}

abbrev pub told : {A : Type 0} → Answer A → Option A
told None = none
told (Some a) = some a

abbrev pub number_of : Option ℕ → Answer ℕ
number_of none = None
number_of (some n) = Some n

abbrev pub single_of : Option Float → Field
single_of none = Bad
single_of (some x) = Single x

abbrev pub double_of : Option Float → Field
double_of none = Bad
double_of (some x) = Double x
