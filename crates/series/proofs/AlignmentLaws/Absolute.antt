-- The size of a number by its sign, as the code finds it.
use Prim.Native.Nat.{ℕ, zero, suc, ◌+◌, ◌*◌, ◌^◌}
use mathlib.Core.Path.{◌≡◌, refl, sym, ap, ◌∙◌}
use mathlib.Core.Bool.{Bool, true, false}
use native.Mathlib.Omega.{arith}
use borrow.Author.Tests.{ltb-true, ltb-false, eqb-true}
use native.Mathlib.Nat.{mul-pos}
use lib.Dec.{T, eqb, eqb→eq}
use lib.IntN.{ℤ, pos, negsuc}
use lib.Pow.{pow_pos}
use lib.Ieee.{Float, nan, inf, fin, binary32, level, lt, eq, neg, fits, of_bits, up, down}
use lib.Ieee.Fits.{up_pos}
use Rattle.series.specs.Gaps.{zero32, absolute}

pub above_zero : (z : Float) → lt zero32 z ≡ true → z ≡ absolute z
unfolding lt absolute of_bits
above_zero nan h = cc
above_zero (inf true) h = cc
above_zero (inf false) h = refl
above_zero (fin true m e) h = cc
above_zero (fin false m e) h = refl

pub below_zero : (z : Float) → lt z zero32 ≡ true → neg z ≡ absolute z
unfolding lt absolute of_bits neg
below_zero nan h = cc
below_zero (inf true) h = refl
below_zero (inf false) h = cc
below_zero (fin true m e) h = refl
below_zero (fin false m e) h = absurd (omega (arith, ltb-true))

-- a power of two that is 1 is that of 0
power : (n : ℕ) → 2 ^ n ≡ 1 → n ≡ 0
power zero h = refl
power (suc n) h = absurd (omega (arith, pow_pos n))

zero_exponent : (e : ℤ) → up e * down e ≡ 1 → e ≡ pos 0
zero_exponent (pos n) h = ap pos (power n (omega arith))
zero_exponent (negsuc n) h = absurd (omega (arith, power (suc n) (omega arith)))

never : true ≡ false → ⊥
never z = let y : ◌≡◌ {A = ℕ} 0 1 = cc in omega arith

-- two numbers are level where their magnitudes are equal, and zeros whatever their signs
level_zeros : (s : Bool) (a b : ℕ) → a ≡ 0 → b ≡ 0 → level s a false b ≡ true
level_zeros true a b e f = rw (e, f)
level_zeros false a b e f = rw (e, f)

level_only : (s : Bool) (a b : ℕ) → level s a false b ≡ true → a ≡ b
level_only s a b h = go (eqb a b) refl h
  where
    go : (t : Bool) → eqb a b ≡ t → level s a false b ≡ true → a ≡ b
    go true e k = eqb-true a b e
    go false e k = let z : false ≡ true = rw e at k in absurd (never (sym z))

pub at_zero : (z : Float) → T (fits binary32 z) → eq z zero32 ≡ true → zero32 ≡ absolute z
unfolding eq absolute of_bits fits
at_zero nan f h = cc
at_zero (inf s) f h = cc
at_zero (fin s zero e) f h = ap (fin false 0) (sym (zero_exponent e (eqb→eq (up e * down e) 1 f)))
at_zero (fin s (suc m) e) f h = absurd (omega (arith, level_only s (suc m * up e * 1) (0 * down e) h, mul-pos {m = suc m} {n = up e} (omega arith) (up_pos e)))

pub else_not_a_number : (z : Float) → lt zero32 z ≡ false → lt z zero32 ≡ false → eq z zero32 ≡ false → inf false ≡ absolute z
unfolding lt eq absolute of_bits
else_not_a_number nan p q r = refl
else_not_a_number (inf s) p q r = refl
else_not_a_number (fin true m e) p q r =
    let h : m * up e * 1 ≡ 0 = omega (arith, ltb-false 0 (m * up e * 1 + 0 * down e) q) in
    absurd (never (sym (level_zeros true (m * up e * 1) (0 * down e) h (omega arith)) ∙ r))
else_not_a_number (fin false m e) p q r =
    let h : m * up e * 1 ≡ 0 = omega (arith, ltb-false (0 * down e) (m * up e * 1) p) in
    absurd (never (sym (level_zeros false (m * up e * 1) (0 * down e) h (omega arith)) ∙ r))
