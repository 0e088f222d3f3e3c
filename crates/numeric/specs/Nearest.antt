-- What IEEE 754-2019 asks of a correctly rounded result, said in whole numbers. Each statement at the end is proved in `proofs/`. Definitions only.
-- Section 4.3.1, roundTiesToEven: the result is the floating-point number nearest to the exact one; of two that are equally near, the one whose last digit is even;
-- and a magnitude of 2 ^ emax * (2 - 2 ^ -prec) or more, the midpoint above the largest value, is the infinity of the same sign.
-- Sizes are counted in units of the format's smallest value, 2 ^ -low, of which every value of the format is a whole multiple.
use Rattle.std.specs.Prelude.{◌≡◌, ℕ, suc, ◌+◌, ◌-◌, ◌*◌, ◌%◌, ◌^◌, ◌<◌, ◌≤◌, Bool, true, false, T, ◌⊎◌, ℤ, pos, to_bits, Float}
use Rattle.std.specs.Bool.{beq}
use Rattle.std.specs.Float.{inf, fin, Format, binary32, binary64}
use Rattle.std.specs.Float.Ieee.{prec, emax, low, up, down, round, of_int, fits}
use Rattle.std.specs.Float.Ieee.Exact.{HasValue}
use Rattle.numeric.specs.Narrow.{narrowed}
use Rattle.numeric.specs.Root.{isqrt, positive, root_of}

-- v is a finite value of the format f, with the sign s and the size of c units
pub record IsValue (f : Format) (s : Bool) (v : Float) (c : ℕ) : Type 0 where
  pub held : T (fits f v)
  pub value : HasValue v s c (2 ^ low f)

-- how far apart two numbers are, by their sizes: with the same sign, and with different signs
abbrev pub distance : Bool → ℕ → ℕ → ℕ
distance true a b = (a - b) + (b - a)
distance false a b = a + b

-- r is a value of f, and of all values of f the nearest to n / den units with the sign s; where another lies as near, r's last digit is even
pub record IsNearest (f : Format) (s : Bool) (n den : ℕ) (r : Float) : Type 0 where
  pub units : ℕ
  pub is : IsValue f s r units
  pub nearest : (t : Bool) (v : Float) (c : ℕ) → IsValue f t v c → distance true n (units * den) ≤ distance (beq s t) n (c * den)
  pub even : (t : Bool) (v : Float) (c : ℕ) → IsValue f t v c → distance true n (units * den) ≡ distance (beq s t) n (c * den) → (c ≡ units) ⊎ (to_bits f r % 2 ≡ 0)

-- twice the midpoint above the largest value, which is (2 ^ prec - 1) * 2 ^ (2 * emax - 1) units
abbrev pub overflow_limit : Format → ℕ
overflow_limit f = (2 ^ suc (prec f) - 1) * 2 ^ (2 * emax f - 1)

-- r is num / den with the sign s, correctly rounded to f
pub record IsRounded (f : Format) (s : Bool) (num den : ℕ) (r : Float) : Type 0 where
  pub over : overflow_limit f * den ≤ 2 * (num * 2 ^ low f) → r ≡ inf s
  pub under : 2 * (num * 2 ^ low f) < overflow_limit f * den → IsNearest f s (num * 2 ^ low f) den r

-- r is the f64 nearest to √x. x is n / 2 ^ 2148, so √x is √n units. The midpoint of r and of another value, of c units, is (units + c) / 2, and its square against n tells
-- which of the two lies nearer: r does, whatever the other. Both comparisons are strict, so √x is never a midpoint, and no tie has to be settled.
-- A negative value is farther from √x than zero, which is one of those that the last line speaks of.
pub record IsNearestRoot (x r : Float) : Type 0 where
  pub n : ℕ
  pub argument : HasValue x false n (2 ^ 2148)
  pub units : ℕ
  pub is : IsValue binary64 false r units
  pub above : (v : Float) (c : ℕ) → IsValue binary64 false v c → units < c → 4 * n < (units + c) * (units + c)
  pub below : (v : Float) (c : ℕ) → IsValue binary64 false v c → c < units → (units + c) * (units + c) < 4 * n

-- ---- the statements
-- the library's `round`, which every operation of `lib.Ieee` ends in, is IEEE 754's rounding
abbrev pub RoundIsNearest : Type 0
RoundIsNearest = (f : Format) (s : Bool) (num den : ℕ) → 0 < den → IsRounded f s num den (round f s num den)

-- f64 to f32
abbrev pub NarrowingIsNearest : Type 0
NarrowingIsNearest = (s : Bool) (m : ℕ) (e : ℤ) → IsRounded binary32 s (m * up e) (down e) (narrowed (fin s m e))

-- f32 to f64: every f32 is an f64, so that the nearest is the number itself, and nothing is rounded
abbrev pub WideningIsExact : Type 0
WideningIsExact = (x : Float) → T (fits binary32 x) → T (fits binary64 x)

-- u64 to f64 and u64 to f32
abbrev pub IntegerIsNearest : Type 0
IntegerIsNearest = (f : Format) (n : ℕ) → IsRounded f false n 1 (of_int f (pos n))

-- q is the whole root of n: q² ≤ n < (q + 1)²
abbrev pub WholeRoot : Type 0
WholeRoot = (n : ℕ) → (isqrt n * isqrt n ≤ n) × (n < (isqrt n + 1) * (isqrt n + 1))

-- the square root of a positive f64
abbrev pub RootIsNearest : Type 0
RootIsNearest = (x : Float) → T (fits binary64 x) → T (positive x) → IsNearestRoot x (root_of x)
