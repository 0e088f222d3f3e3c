-- How many binary digits of a root are tried, one after the other from the top. Definitions; each statement at the end is proved in `proofs/DigitCount.antt`.
-- Document 02, #109: "The result carries the number of binary digits of the root tried, from the top: it stops after the first prefix whose square equals the radicand, and otherwise
-- after 54, rounding digit included. The carried count equals that definition and never exceeds 54; zeros, negatives, infinities and not-a-numbers count 0."
use Rattle.std.specs.Prelude.{◌≡◌, ℕ, zero, suc, ◌+◌, ◌-◌, ◌*◌, ◌/◌, ◌^◌, ◌<◌, ◌≤◌, true, false, cond, T, ℤ, ◌==◌, Float}
use Rattle.std.specs.Float.{nan, inf, fin, binary64}
use Rattle.std.specs.Float.Ieee.{up, down, size, fits}
use Rattle.std.specs.Float.Ieee.Exact.{HasValue}
use Rattle.numeric.specs.Root.{isqrt, root_of, positive}

-- q's digits from the top without the `left` lowest, which are not tried yet and stand as zeros
abbrev pub prefix : ℕ → ℕ → ℕ
prefix q left = q / 2 ^ left * 2 ^ left

-- How many of q's `left` lowest digits are tried: the next one, and those below it unless the prefix that ends with it has the square n.
unfoldable pub tried_below : ℕ → ℕ → ℕ → ℕ
tried_below n q zero = 0
tried_below n q (suc left) = let rest = tried_below n q left in 1 + cond (prefix q left * prefix q left == n) 0 rest

-- how many digits of √n are tried, for an n whose whole root has 54
unfoldable pub digits_tried : ℕ → ℕ
digits_tried n = tried_below n (isqrt n) 54

-- n divided by the power of 4 that leaves a root of 54 digits. An n that is an f64 times 2 ^ 2148 has a root of 54 digits or more, and the division leaves no rest (`RadicandIsExact`).
abbrev pub radicand : ℕ → ℕ
radicand n = n / 4 ^ (size (isqrt n) - 54)

-- how many digits of √x are tried. A positive x is n / 2 ^ 2148 for a whole n, as in `root_of`.
unfoldable pub digits_of : Float → ℕ
digits_of nan = 0
digits_of (inf s) = 0
digits_of (fin s zero e) = 0
digits_of (fin true (suc m) e) = 0
digits_of (fin false (suc m) e) = digits_tried (radicand (suc m * up e * 2 ^ 2148 / down e))

-- the root of x is q * 2 ^ e, and x is the square of that: nothing was rounded. An f64 is written with an odd q, or q = 0, so q's digits are the root's significant ones.
abbrev pub ExactRoot : Float → ℕ → ℤ → Type 0
ExactRoot x q e = (root_of x ≡ fin false q e) × HasValue x false (q * up e * (q * up e)) (down e * down e)

-- ---- the statements
abbrev pub AtMost54 : Type 0
AtMost54 = (x : Float) → digits_of x ≤ 54

-- above 0 exactly for what is finite and above zero
abbrev pub CountsPositive : Type 0
CountsPositive = (x : Float) → (0 < digits_of x → T (positive x)) × (T (positive x) → 0 < digits_of x)

-- the count of an exact root is the number of its significant digits, of which it has 27 at most, since x has 53
abbrev pub ExactCount : Type 0
ExactCount = (x : Float) → T (fits binary64 x) → (q : ℕ) (e : ℤ) → ExactRoot x q e → (digits_of x ≡ size q) × (size q ≤ 27)

-- and of any other root all 54 are tried
abbrev pub InexactCount : Type 0
InexactCount = (x : Float) → T (fits binary64 x) → T (positive x) → ((q : ℕ) (e : ℤ) → ExactRoot x q e → ⊥) → digits_of x ≡ 54

-- the radicand is x times a power of 4, and its root has 54 digits
abbrev pub RadicandIsExact : Type 0
RadicandIsExact = (x : Float) → T (fits binary64 x) → T (positive x) → (n : ℕ) → HasValue x false n (2 ^ 2148) → (radicand n * 4 ^ (size (isqrt n) - 54) ≡ n) × (size (isqrt (radicand n)) ≡ 54)
