-- Lists whose elements all have a property; numbers that fit their format.
use Rattle.std.specs.Prelude.{T, List, [], ◌∷◌, Float}
use Rattle.std.specs.Float.{Format}
use Rattle.std.specs.Float.Ieee.{fits}

module _ {A : Type 0} where
  abbrev pub All : (A → Type 0) → List A → Type 0
  All P [] = Unit {0}
  All P (x ∷ xs) = P x × All P xs

-- every number is one of the format
abbrev pub Fits : Format → List Float → Type 0
Fits f l = All (λ x. T (fits f x)) l
