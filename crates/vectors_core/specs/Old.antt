-- What lent memory holds before a call, and what says that it holds this still.
use Rattle.std.specs.Prelude.{ℕ, Float, List, All, IsTrue, eqb}
use Rattle.std.specs.Float.{binary32, binary64}
use Rattle.std.specs.Float.Ieee.{of_bits, to_bits}

-- 12345.678 in either width
abbrev pub old32 : Float
old32 = of_bits binary32 0x4640_e6b6

abbrev pub old64 : Float
old64 = of_bits binary64 0x40c8_1cd6_c8b4_3958

abbrev pub old_whole : ℕ
old_whole = 12345678

-- floats are compared by their patterns
abbrev pub IsUntouched32 : List Float → Type 0
IsUntouched32 xs = All (λ x. IsTrue (eqb (to_bits binary32 x) (to_bits binary32 old32))) xs

abbrev pub IsUntouched64 : List Float → Type 0
IsUntouched64 xs = All (λ x. IsTrue (eqb (to_bits binary64 x) (to_bits binary64 old64))) xs

abbrev pub IsUntouchedWhole : List ℕ → Type 0
IsUntouchedWhole xs = All (λ n. IsTrue (eqb n old_whole)) xs

-- 0.0 in either width, which new memory holds
abbrev pub zero32 : Float
zero32 = of_bits binary32 0

abbrev pub zero64 : Float
zero64 = of_bits binary64 0
