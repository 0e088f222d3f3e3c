-- Closed cases that antt computes from the definitions: document 01's samples, and rows of what x86-64 gives, so that the definitions are seen to be the machine's. Assumes nothing.
use Rattle.std.proofs.Common.{◌≡◌, ℕ, ◌-◌, ◌*◌, ◌^◌, ◌<◌, ◌≤◌, true, false, T, [], ◌∷◌, map, pos, negsuc, sym, refl, subst}
use lib.Ieee.Fits.{eq→eqb}
use lib.Ieee.Exact.{HasValue}
use lib.Ieee.{Float, nan, inf, fin, Format, binary32, binary64, up, down, size, round, fits, of_bits, to_bits, of_int, to_unsigned, sub, add, sum, neg, mul, div}
use Rattle.numeric.specs.Narrow.{narrowed}
use Rattle.numeric.specs.Root.{root_within, isqrt, halves, rooted, root_of, positive}
use Rattle.numeric.specs.Digits.{radicand, tried_below, digits_tried, digits_of}
use Rattle.numeric.proofs.DigitCount.{at_most_54, counts_positive, exact_count, inexact_count, radicand_is_exact}

-- an f64's pattern, and that of what becomes of it
abbrev narrow_bits : ℕ → ℕ
narrow_bits b = to_bits binary32 (narrowed (of_bits binary64 b))

abbrev root_bits : ℕ → ℕ
root_bits b = to_bits binary64 (root_of (of_bits binary64 b))

-- ---- document 01's starred samples of the number work, "proved together, as a list covered by one fact"
-- what a u64 becomes as a float of the format, as a whole number again
abbrev integer : Format → ℕ → ℕ
integer f n = to_unsigned 64 (of_int f (pos n))

-- what a whole number that an f64 holds becomes as an f32
abbrev narrowed_integer : ℕ → ℕ
narrowed_integer n = to_unsigned 64 (narrowed (of_int binary64 (pos n)))

-- the deviation of the scores 4, 1 with decay 0.5: weight 1.5, squares 9, mean 2, so the root of 9 / 1.5 - 2 * 2
abbrev deviation : Float
deviation = root_of (sub binary64 (div binary64 (of_int binary64 (pos 9)) (of_bits binary64 0x3ff8_0000_0000_0000)) (mul binary64 (of_int binary64 (pos 2)) (of_int binary64 (pos 2))))

samples : root_bits 0x1
    ∷ to_bits binary64 deviation
    ∷ integer binary64 9007199254740993
    ∷ integer binary64 9007199254740995
    ∷ integer binary32 16777217
    ∷ integer binary32 16777219
    ∷ narrowed_integer 16777217
    ∷ narrowed_integer 16777219
    ∷ []
    ≡ 0x1e60_0000_0000_0000 ∷ 0x3ff6_a09e_667f_3bcd ∷ 9007199254740992 ∷ 9007199254740996 ∷ 16777216 ∷ 16777220 ∷ 16777216 ∷ 16777220 ∷ []
unfolding root_of rooted halves root_within narrowed round of_bits to_bits of_int to_unsigned sub add sum neg mul div
samples = refl

-- ---- rows
-- zeros keep their sign, ties go to the even one, the last finite value and the midpoint above it, the subnormals' ends
narrow_rows : map narrow_bits (0x0 ∷ 0x8000000000000000 ∷ 0x1 ∷ 0x8000000000000001 ∷ 0x7ff0000000000000 ∷ 0xfff0000000000000 ∷ 0x3ff0000000000000 ∷ 0x3ff0000010000000 ∷ 0x3ff0000030000000 ∷ 0x3ff0000010000001 ∷ 0x47efffffefffffff ∷ 0x47effffff0000000 ∷ 0x3690000000000000 ∷ 0x3690000000000001 ∷ 0xb6a8000000000000 ∷ 0x380fffffe0000000 ∷ [])
    ≡ 0x0 ∷ 0x80000000 ∷ 0x0 ∷ 0x80000000 ∷ 0x7f800000 ∷ 0xff800000 ∷ 0x3f800000 ∷ 0x3f800000 ∷ 0x3f800002 ∷ 0x3f800001 ∷ 0x7f7fffff ∷ 0x7f800000 ∷ 0x0 ∷ 0x1 ∷ 0x80000002 ∷ 0x800000 ∷ []
unfolding narrowed round of_bits to_bits
narrow_rows = refl

narrow_nan : narrowed nan ≡ nan
unfolding narrowed
narrow_nan = refl

root_rows : map root_bits (0x0 ∷ 0x8000000000000000 ∷ 0x7ff0000000000000 ∷ 0x4000000000000000 ∷ 0x4010000000000000 ∷ 0x4008000000000000 ∷ 0x3ff0000000000001 ∷ 0x3fefffffffffffff ∷ 0x1 ∷ 0x3 ∷ 0xfffffffffffff ∷ 0x10000000000000 ∷ 0x7fefffffffffffff ∷ [])
    ≡ 0x0 ∷ 0x8000000000000000 ∷ 0x7ff0000000000000 ∷ 0x3ff6a09e667f3bcd ∷ 0x4000000000000000 ∷ 0x3ffbb67ae8584caa ∷ 0x3ff0000000000000 ∷ 0x3fefffffffffffff ∷ 0x1e60000000000000 ∷ 0x1e6bb67ae8584caa ∷ 0x1fffffffffffffff ∷ 0x2000000000000000 ∷ 0x5fefffffffffffff ∷ []
unfolding root_of rooted halves root_within round of_bits to_bits
root_rows = refl

-- of a negative number and of nan
root_none : map root_of (nan ∷ inf true ∷ fin true 1 (pos 0) ∷ []) ≡ nan ∷ nan ∷ nan ∷ []
unfolding root_of
root_none = refl

-- ---- the digits tried
abbrev digits_of_lem : ℕ → ℕ
digits_of_lem b = digits_of (of_bits binary64 b)

-- 1, 4 and 2 ^ -1074 take 1 digit, 2.25 takes 2, and 2 takes 54
digits_rows : map digits_of_lem (0x3ff0000000000000 ∷ 0x4010000000000000 ∷ 0x1 ∷ 0x4002000000000000 ∷ 0x4000000000000000 ∷ []) ≡ 1 ∷ 1 ∷ 1 ∷ 2 ∷ 54 ∷ []
unfolding digits_of digits_tried tried_below root_within size of_bits
digits_rows = refl

-- 9; the squares of the least and of the largest number of 27 digits that have 53 at most, and the f64s beside the second; 3 * 2 ^ -1074 and 9 * 2 ^ -1074; the largest f64; 1 and its neighbours
digits_more : map digits_of_lem
    (0x4022000000000000
    ∷ 0x4330000008000001
    ∷ 0x433ffffff8eff971
    ∷ 0x433ffffff8eff970
    ∷ 0x433ffffff8eff972
    ∷ 0x3
    ∷ 0x9
    ∷ 0x7fefffffffffffff
    ∷ 0x3fefffffffffffff
    ∷ 0x3ff0000000000001
    ∷ [])
    ≡ 2 ∷ 27 ∷ 27 ∷ 54 ∷ 54 ∷ 54 ∷ 2 ∷ 54 ∷ 54 ∷ 54 ∷ []
unfolding digits_of digits_tried tried_below root_within size of_bits
digits_more = refl

-- zeros, numbers below zero, infinities, and not-a-numbers
digits_none : map digits_of (fin false 0 (pos 0) ∷ fin true 0 (pos 0) ∷ fin true 1 (pos 2) ∷ inf false ∷ inf true ∷ nan ∷ []) ≡ 0 ∷ 0 ∷ 0 ∷ 0 ∷ 0 ∷ 0 ∷ []
unfolding digits_of
digits_none = refl

-- ---- an instance of each statement of specs/Digits.antt
most : digits_of (of_bits binary64 0x7fefffffffffffff) ≤ 54
most = at_most_54 (of_bits binary64 0x7fefffffffffffff)

above_zero : (0 < digits_of (fin false 1 (pos 1)) → T (positive (fin false 1 (pos 1)))) × (T (positive (fin false 1 (pos 1))) → 0 < digits_of (fin false 1 (pos 1)))
above_zero = counts_positive (fin false 1 (pos 1))

-- 2.25 is the square of 1.5, of 2 digits
exact : (digits_of (fin false 9 (negsuc 1)) ≡ size 3) × (size 3 ≤ 27)
unfolding fits root_of rooted halves root_within round
exact = exact_count (fin false 9 (negsuc 1)) tt 3 (negsuc 0) (refl, (refl, refl))

-- 2 is not the square of its root
abbrev square_of : Float → Type 0
square_of nan = ⊥
square_of (inf s) = ⊥
square_of (fin s q e) = HasValue (fin false 1 (pos 1)) false (q * up e * (q * up e)) (down e * down e)

inexact : digits_of (fin false 1 (pos 1)) ≡ 54
unfolding fits root_of rooted halves root_within round
inexact = inexact_count (fin false 1 (pos 1)) tt tt (λ q e x. no (subst square_of (sym x.0) x.1))
  where
    no : square_of (root_of (fin false 1 (pos 1))) → ⊥
    no v = eq→eqb v.1

radicand_of_lem : (radicand (2 ^ 2149) * 4 ^ (size (isqrt (2 ^ 2149)) - 54) ≡ 2 ^ 2149) × (size (isqrt (radicand (2 ^ 2149))) ≡ 54)
unfolding fits
radicand_of_lem = radicand_is_exact (fin false 1 (pos 1)) tt tt (2 ^ 2149) (refl, refl)
