-- A field from left to right, as the code reads it.
use Rattle.std.specs.Prelude.{ℕ, zero, suc, ◌+◌, ◌-◌, ◌*◌, Bool, true, false, not, ◌&&◌, cond, List, [], ◌∷◌, leb, ltb, eqb, length, Float}
use Rattle.std.proofs.Math.Option.{Option, none, some}
use Rattle.trcf.specs.Settings.{whole_max}
use Rattle.snapshot.specs.declared.field.Field.{Field}
use Rattle.snapshot.specs.declared.field.Field.TheVariants.{Whole as WholeField, Bad}
use Rattle.snapshot.specs.declared.field.Kind.{Kind}
use Rattle.snapshot.specs.declared.field.Kind.TheVariants.{Single, Double, Whole}
use Rattle.std.specs.Float.{nan, Format, binary32, binary64}
use Rattle.std.specs.Float.Ieee.{of_bits, to_bits, nan_bits}
use Rattle.snapshot.specs.Text.{width}
use Rattle.snapshot.specs.Read.{as_whole, as_float}
use Rattle.snapshot.specs.Scan.{single_of, double_of}

-- not empty, and no zero before another digit
abbrev pub lead : List ℕ → Bool
lead [] = false
lead (b ∷ []) = true
lead (b ∷ x ∷ xs) = not (eqb b 48)

abbrev pub digits : ℕ → Bool
digits b = leb 48 b && leb b 57

abbrev pub scan : ℕ → List ℕ → Option ℕ
scan a [] = some a
scan a (b ∷ bs) = let r = scan (10 * a + (b - 48)) bs in cond (digits b && leb (10 * a + (b - 48)) whole_max) r none

-- a lower-case hexadecimal digit, 16 for no digit
abbrev pub hex_of : ℕ → ℕ
hex_of b = cond (ltb b 48) 16 (cond (leb b 57) (b - 48) (cond (ltb b 97) 16 (cond (leb b 102) (b - 87) 16)))

abbrev pub hscan : ℕ → List ℕ → Option ℕ
hscan a [] = some a
hscan a (b ∷ bs) = let r = hscan (16 * a + hex_of b) bs in cond (leb (hex_of b) 15 && leb (16 * a + hex_of b) whole_max) r none

-- the number that so many digits write, none for more or fewer
abbrev pub sized : ℕ → List ℕ → Option ℕ
sized w c = cond (eqb (length c) w) (hscan 0 c) none

-- the float of a bit pattern: a not-a-number in one pattern only
abbrev pub bits_of : Format → Option ℕ → Option Float
bits_of f none = none
bits_of f (some n) = cond (nan_bits f n) (cond (eqb n (to_bits f nan)) (some nan) none) (some (of_bits f n))

abbrev pub float_of : Format → List ℕ → Option Float
float_of f c = cond (eqb (length c) (width f)) (bits_of f (hscan 0 c)) none

abbrev pub whole_of : Option ℕ → Field
whole_of none = Bad
whole_of (some n) = WholeField n

abbrev pub kind_number : Kind → ℕ
kind_number Single = 0
kind_number Double = 1
kind_number Whole = 2

-- a field by the kind that its place calls for: 0 a single, 1 a double, else a whole number
abbrev pub field_of : ℕ → List ℕ → Field
field_of zero c = single_of (as_float binary32 c)
field_of (suc zero) c = double_of (as_float binary64 c)
field_of (suc (suc k)) c = whole_of (as_whole c)
