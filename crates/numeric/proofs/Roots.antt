-- The root of an f64: its pattern from 55 digits of it, and what the fields of a positive f64 say of it. Assumes nothing.
use Rattle.std.proofs.Common.{◌≡◌, ℕ, zero, suc, ◌+◌, ◌-◌, ◌*◌, ◌/◌, ◌%◌, ◌^◌, ◌<◌, ◌≤◌, Bool, true, false, cond, not, ◌&&◌, ◌||◌, T, eqb, ltb, leb, ℤ, sym, refl, ap, ◌∙◌, subst, inr, true≢false, zero-le, le_trans, le_of_eq, lt_of_lt_of_le, le_of_suc-le-suc, lt_of_le_of_lt, lt_irrefl, mul-le-mul_right, mod-eq_of_lt, zero-lt-suc, mul_assoc, mul-lt-mul_of_pos_right, mul-pos, lt_of_not-le, zero-add, zero-mul, mul-one, mul_right_comm, not-le_of_lt, mul-div_cancel, arith, eqb→eq, ltb→lt, lt→ltb, pow_pos, pow_mono, pow-add, shl_lt}
use native.Mathlib.Nat.{eq_of_mul-eq-mul_right, pow-succ'}
use native.Mathlib.Decide.{ℕ_discrete}
use mathlib.Core.Bool.{beq, false≢true}
use lib.Dec.{nleb→lt}
use lib.Arith.{lt→nleb, le→nltb}
use lib.Count.{count_leading_zeros, leading_top}
use lib.Ieee.{Float, nan, inf, fin, binary64, up, down, size, odd, is_nan, fits, hid, ones, top, lt, eq, of_fields, of_bits, nan_bits, to_bits}
use lib.Ieee.Bits.{is_false, nan_bits_is, nan_bits_above, to_bits-of_bits}
use lib.Ieee.Fits.{down_pos, up_pos}
use lib.Ieee.Exact.{HasValue}
use lib.Ieee.Nearest.{closest}
use borrow.Author.Tests.{eqb-false}
use Rattle.numeric.specs.Root.{positive, isqrt, halves, rooted, root_of}
use Rattle.numeric.specs.Steps.Scaled.{IsScaled}
use Rattle.numeric.specs.Digits.{radicand, digits_tried, digits_of}
use Rattle.numeric.proofs.Near.{two_powers, three_powers}
use Rattle.numeric.proofs.Pack.{size_exact, round_bits, round_pattern, Pattern}
use Rattle.numeric.proofs.Fields.{value_mid, value_low, no_nan_fields, read}
use Rattle.numeric.proofs.Tried.{square_lt, upper_root}
use Rattle.numeric.proofs.Squares.{square_double, square_times, square_back, scaled, isqrt_within, halves_lo, halves_hi}

-- ---- the pattern
small_pow : (p : ℕ) → p < 2 → 1 + p ≡ 2 ^ p
small_pow zero h = refl
small_pow (suc zero) h = refl
small_pow (suc (suc p)) h = absurd (no p h)
  where
    no : (p : ℕ) → suc (suc p) < 2 → ⊥
    no p h = omega arith

four_power : (l : ℕ) → 4 ^ l ≡ 2 ^ l * 2 ^ l
four_power zero = refl
four_power (suc l) = pow-succ' 4 l ∙ ap (λ (x : ℕ). 4 * x) (four_power l) ∙ sym (square_double (2 ^ l)) ∙ ap (λ (x : ℕ). x * x) (sym (pow-succ' 2 l))

-- the radicand m * 2 ^ (e + 1022), cut to 108 digits, and the power of two whose square was cut off
abbrev pub part : ℕ → ℕ → ℕ
part m e = m * (1 + e % 2) * 2 ^ 54

abbrev pub unit : ℕ → ℕ
unit e = 2 ^ (e / 2 + 484)

module _ (m e : ℕ) (lo : 2 ^ 52 ≤ m) (hi : m < 2 ^ 53) (E : e < 2098) where
  pub twice_lt : m * (1 + e % 2) < 2 ^ 54
  twice_lt = go (e % 2) (omega arith)
    where
      go : (p : ℕ) → p < 2 → m * (1 + p) < 2 ^ 54
      go zero h = omega arith
      go (suc zero) h = omega arith
      go (suc (suc p)) h = absurd (no p h)
        where
          no : (p : ℕ) → suc (suc p) < 2 → ⊥
          no p h = omega arith

  pub twice_le : 2 ^ 52 ≤ m * (1 + e % 2)
  twice_le = le_trans lo (le_trans (le_of_eq (sym (mul-one m))) (native.Mathlib.Nat.mul-le-mul_left m one_le))
    where
      one_le : 1 ≤ 1 + e % 2
      one_le = omega arith

  pub whole : m * 2 ^ (e + 1022) ≡ (part m e) * ((unit e) * (unit e))
  whole =
      let t = e / 2 + 484 in
      let x : e + 1022 ≡ e % 2 + 54 + (t + t) = omega arith in
      ap (λ (y : ℕ). m * 2 ^ y) x
      ∙ ap (λ (y : ℕ). m * y) (pow-add 2 (e % 2 + 54) (t + t) ∙ ap (λ (y : ℕ). y * 2 ^ (t + t)) (pow-add 2 (e % 2) 54) ∙ ap (λ (y : ℕ). 2 ^ (e % 2) * 2 ^ 54 * y) (pow-add 2 t t))
      ∙ sym (mul_assoc m (2 ^ (e % 2) * 2 ^ 54) (2 ^ t * 2 ^ t))
      ∙ ap (λ (y : ℕ). y * (2 ^ t * 2 ^ t)) (sym (mul_assoc m (2 ^ (e % 2)) (2 ^ 54)) ∙ ap (λ (y : ℕ). m * y * 2 ^ 54) (sym (small_pow (e % 2) (omega arith))))

  pub unit_pos : 0 < (unit e)
  unit_pos = pow_pos (e / 2 + 484)

  pub four_units : 2 ^ (e / 2 + 486) ≡ 4 * (unit e)
  four_units =
      let x : e / 2 + 486 ≡ 2 + (e / 2 + 484) = omega arith in
      ap (λ (y : ℕ). 2 ^ y) x ∙ pow-add 2 2 (e / 2 + 484)

  pub n_lo : 2 ^ 53 * (unit e) * (2 ^ 53 * (unit e)) ≤ (m * 2 ^ (e + 1022))
  n_lo =
      let h = twice_le in
      let g : 2 ^ 106 ≤ (part m e) = omega arith in
      le_trans (le_of_eq (square_times (2 ^ 53) (unit e))) (le_trans (mul-le-mul_right ((unit e) * (unit e)) g) (le_of_eq (sym whole)))

  n_hi : (m * 2 ^ (e + 1022)) < 2 ^ 54 * (unit e) * (2 ^ 54 * (unit e))
  n_hi =
      let h = twice_lt in
      let g : (part m e) < 2 ^ 108 = omega arith in
      lt_of_le_of_lt (le_of_eq whole) (lt_of_lt_of_le (mul-lt-mul_of_pos_right g (mul-pos unit_pos unit_pos)) (le_of_eq (sym (square_times (2 ^ 54) (unit e)))))

  -- 55 digits and those below them
  pub halves_in : (2 ^ 52 * 2 ^ (e / 2 + 486) ≤ halves (m * 2 ^ (e + 1022))) × (halves (m * 2 ^ (e + 1022)) < 2 ^ 53 * 2 ^ (e / 2 + 486))
  halves_in =
      let a = halves_lo (m * 2 ^ (e + 1022)) (2 ^ 53 * (unit e)) n_lo in
      let b = halves_hi (m * 2 ^ (e + 1022)) (2 ^ 54 * (unit e)) n_hi in
      let w = four_units in
      rw w (omega arith, omega arith)

  pub rooted_pattern : (q : ℕ) → q ≡ closest (halves (part m e)) 4 → Pattern binary64 (rooted (m * 2 ^ (e + 1022))) ((e / 2 + 485) * 2 ^ 52 + q)
  unfolding rooted
  rooted_pattern q z =
      let h = halves (m * 2 ^ (e + 1022)) in
      round_pattern binary64 false h (2 ^ 1075) ((e / 2 + 485) * 2 ^ 52 + q)
      (ap (λ (x : ℕ). (e / 2 + 485) * 2 ^ 52 + x)
      (z ∙ sym (scaled (part m e) (unit e) unit_pos) ∙ ap (λ (x : ℕ). closest (halves x) (4 * (unit e))) (sym whole) ∙ ap (λ (x : ℕ). closest h x) (sym four_units))
      ∙ sym (zero-add ((e / 2 + 485) * 2 ^ 52 + closest h (2 ^ (e / 2 + 486))))
      ∙ sym (round_bits binary64 false h (2 ^ 1075) h (e / 2 + 486) (e / 2 + 485) (pow_pos 1075) halves_in.1 (two_powers h 1074 (e / 2 + 486) (e / 2 + 485) 1075 (omega arith))
      (inr halves_in.0) (omega arith)))

  -- ---- the radicand for the digits
  root_size : size (isqrt (m * 2 ^ (e + 1022))) ≡ suc (53 + (e / 2 + 484))
  root_size =
      let n = m * 2 ^ (e + 1022) in
      let k = e / 2 + 484 in
      let w = isqrt_within n in
      let lo : 2 ^ 53 * unit e < suc (isqrt n) = square_back (2 ^ 53 * unit e) (suc (isqrt n)) (lt_of_le_of_lt n_lo w.high) in
      let sum : 54 + k ≡ suc (53 + k) = omega arith in
      let hi : isqrt n < 2 ^ 54 * unit e = square_back (isqrt n) (2 ^ 54 * unit e) (lt_of_le_of_lt w.low n_hi) in
      size_exact (53 + k) (isqrt n) (le_trans (le_of_eq (pow-add 2 53 k)) (le_of_suc-le-suc lo)) (lt_of_lt_of_le hi (le_of_eq (sym (pow-add 2 54 k) ∙ ap (λ (x : ℕ). 2 ^ x) sum)))

  pub cut_is : 4 ^ (size (isqrt (m * 2 ^ (e + 1022))) - 54) ≡ unit e * unit e
  cut_is = ap (λ (x : ℕ). 4 ^ (x - 54)) root_size ∙ ap (λ (x : ℕ). 4 ^ x) (less (e / 2 + 484)) ∙ four_power (e / 2 + 484)
    where
      less : (k : ℕ) → suc (53 + k) - 54 ≡ k
      less k = omega arith

  pub radicand_part : radicand (m * 2 ^ (e + 1022)) ≡ part m e
  radicand_part =
      ap (λ (x : ℕ). m * 2 ^ (e + 1022) / x) cut_is
      ∙ ap (λ (x : ℕ). x / (unit e * unit e)) whole
      ∙ mul-div_cancel (part m e) (mul-pos unit_pos unit_pos)

-- ---- the root of a value, by its size
not_zero : (m : ℕ) (e : ℤ) (a d : ℕ) → 0 < a → m * up e * d ≡ a * down e → (m ≡ 0) → ⊥
not_zero m e a d A v z =
    lt_irrefl 0 (subst (λ (x : ℕ). 0 < x) (sym v ∙ ap (λ (x : ℕ). x * up e * d) z ∙ ap (λ (x : ℕ). x * d) (zero-mul (up e)) ∙ zero-mul d) (mul-pos A (down_pos e)))

same_size : (m : ℕ) (e : ℤ) (a d n l : ℕ) → 0 < d → m * up e * d ≡ a * down e → a * l ≡ n * d → m * up e * l ≡ n * down e
same_size m e a d n l D v w =
    eq_of_mul-eq-mul_right d D (m * up e * l) (n * down e)
    (mul_right_comm (m * up e) l d ∙ ap (λ (x : ℕ). x * l) v ∙ mul_right_comm a (down e) l ∙ ap (λ (x : ℕ). x * down e) w ∙ mul_right_comm n d (down e))

pub root_of_value : (v : Float) (a d n : ℕ) → 0 < a → 0 < d → HasValue v false a d → a * 2 ^ 2148 ≡ n * d → (root_of v ≡ rooted n) × (digits_of v ≡ digits_tried (radicand n))
unfolding root_of digits_of
root_of_value nan a d n A D v w = absurd v
root_of_value (inf s) a d n A D v w = absurd v
root_of_value (fin true m e) a d n A D v w = absurd (true≢false v.0)
root_of_value (fin false zero e) a d n A D v w = absurd (not_zero zero e a d A v.1 refl)
root_of_value (fin false (suc m) e) a d n A D v w =
    let x : suc m * up e * 2 ^ 2148 / down e ≡ n = ap (λ (x : ℕ). x / down e) (same_size (suc m) e a d n (2 ^ 2148) D v.1 w) ∙ mul-div_cancel n (down_pos e) in
    (ap rooted x, ap (λ (y : ℕ). digits_tried (radicand y)) x)

-- x is a / c, and so b / d
pub same_value : (x : Float) (s : Bool) (a c b d : ℕ) → 0 < c → a * d ≡ b * c → HasValue x s a c → HasValue x s b d
same_value nan s a c b d C w v = absurd v
same_value (inf t) s a c b d C w v = absurd v
same_value (fin t m e) s a c b d C w v = (v.0, same_size m e a c b d C v.1 w)

of_scaled : (x : Float) (m e : ℕ) → IsScaled x m e → (root_of x ≡ rooted (m * 2 ^ (e + 1022))) × (digits_of x ≡ digits_tried (radicand (m * 2 ^ (e + 1022))))
of_scaled x m e s =
    root_of_value x (m * 2 ^ e) (2 ^ 1126) (m * 2 ^ (e + 1022)) (mul-pos (lt_of_lt_of_le (pow_pos 52) s.low) (pow_pos e)) (pow_pos 1126) s.value
    (two_powers m e 2148 (e + 1022) 1126 (omega arith))

pub root_of_scaled : (x : Float) (m e : ℕ) → IsScaled x m e → root_of x ≡ rooted (m * 2 ^ (e + 1022))
root_of_scaled x m e s = (of_scaled x m e s).0

pub digits_of_scaled : (x : Float) (m e : ℕ) → IsScaled x m e → digits_of x ≡ digits_tried (part m e)
digits_of_scaled x m e s = (of_scaled x m e s).1 ∙ ap digits_tried (radicand_part m e s.low s.high s.room)

-- ---- the fields of a value that is finite and above zero
pub positive_real : (x : Float) → T (positive x) → T (not (is_nan x))
unfolding is_nan
positive_real nan h = h
positive_real (inf s) h = tt
positive_real (fin s m e) h = tt

odd_negative : (d : ℕ) (q k l : ℕ) → positive (odd d true q k l) ≡ false
unfolding odd
odd_negative d zero k l = refl
odd_negative d (suc q) k l = refl

fields_negative : (x t : ℕ) → positive (of_fields binary64 true x t) ≡ false
unfolding of_fields
fields_negative zero t = odd_negative 53 t 0 1074
fields_negative (suc x) t = go (eqb (suc x) 2047) (eqb t 0)
  where
    go : (a b : Bool) → positive (cond a (cond b (inf true) nan) (odd 53 true (2 ^ 52 + t) x 1074)) ≡ false
    go true true = refl
    go true false = refl
    go false b = odd_negative 53 (2 ^ 52 + t) x 1074

module _ (x : Float) (F : T (fits binary64 x)) (P : T (positive x)) where
  pub no_sign : to_bits binary64 x < 2 ^ 63
  no_sign = go (leb (2 ^ 63) (to_bits binary64 x)) refl (nleb→lt (2 ^ 63) (to_bits binary64 x))
    where
      go : (s : Bool) → leb (2 ^ 63) (to_bits binary64 x) ≡ s → (T (not s) → to_bits binary64 x < 2 ^ 63) → to_bits binary64 x < 2 ^ 63
      go false e l = l tt
      go true e l =
          let b = to_bits binary64 x in
          let r : of_fields binary64 true (b % 2 ^ 63 / 2 ^ 52) (b % 2 ^ 52) ≡ x = ap (λ (s : Bool). of_fields binary64 s (b % 2 ^ 63 / 2 ^ 52) (b % 2 ^ 52)) (sym e) ∙ read x F in
          absurd (subst T (ap positive (sym r) ∙ fields_negative (b % 2 ^ 63 / 2 ^ 52) (b % 2 ^ 52)) P)

  fields_of_lem : of_fields binary64 false (to_bits binary64 x / 2 ^ 52) (to_bits binary64 x % 2 ^ 52) ≡ x
  fields_of_lem =
      let b = to_bits binary64 x in
      ap (λ (y : ℕ). of_fields binary64 false (y / 2 ^ 52) (b % 2 ^ 52)) (sym (mod-eq_of_lt no_sign))
      ∙ ap (λ (s : Bool). of_fields binary64 s (b % 2 ^ 63 / 2 ^ 52) (b % 2 ^ 52)) (sym (is_false (leb (2 ^ 63) b) (lt→nleb (2 ^ 63) b no_sign)))
      ∙ read x F

  -- the field is not that of the infinity
  pub field_lt : to_bits binary64 x / 2 ^ 52 < 2047
  field_lt = let b = to_bits binary64 x in let h = no_sign in go (eqb (b / 2 ^ 52) 2047) (eqb→eq (b / 2 ^ 52) 2047) (λ n. below (is_false (eqb (b / 2 ^ 52) 2047) n))
    where
      below : eqb (to_bits binary64 x / 2 ^ 52) 2047 ≡ false → to_bits binary64 x / 2 ^ 52 < 2047
      below e = let h = no_sign in let n = eqb-false (to_bits binary64 x / 2 ^ 52) 2047 e in omega arith

      infinite : of_fields binary64 false 2047 0 ≡ inf false
      infinite = unfold of_fields in refl

      go : (t : Bool) → (T t → to_bits binary64 x / 2 ^ 52 ≡ 2047) → (T (not t) → to_bits binary64 x / 2 ^ 52 < 2047) → to_bits binary64 x / 2 ^ 52 < 2047
      go false a b = b tt
      go true a b =
          let w = to_bits binary64 x in
          let z : w % 2 ^ 52 ≡ 0 = no_nan_fields x F (positive_real x P) (ap (λ (y : ℕ). y / 2 ^ 52) (mod-eq_of_lt no_sign) ∙ a tt) in
          let r : x ≡ inf false = sym fields_of_lem ∙ ap (λ (y : ℕ). of_fields binary64 false y (w % 2 ^ 52)) (a tt) ∙ ap (λ (y : ℕ). of_fields binary64 false 2047 y) z ∙ infinite in
          absurd (subst (λ (y : Float). T (positive y)) r P)

  -- a normal value
  pub scaled_mid : (to_bits binary64 x / 2 ^ 52 ≡ 0 → ⊥) → IsScaled x (to_bits binary64 x % 2 ^ 52 + 2 ^ 52) (to_bits binary64 x / 2 ^ 52 + 51)
  scaled_mid p =
      let f = to_bits binary64 x / 2 ^ 52 in
      let t = to_bits binary64 x % 2 ^ 52 in
      let h = field_lt in
      let v : HasValue x false ((t + 2 ^ 52) * 2 ^ (f - 1)) (2 ^ 1074) = subst (λ (y : Float). HasValue y false ((t + 2 ^ 52) * 2 ^ (f - 1)) (2 ^ 1074)) fields_of_lem
      (value_mid binary64 false f t (omega arith) h) in
      record {
        low = omega arith;
        high = omega arith;
        room = omega arith;
        value = same_value x false ((t + 2 ^ 52) * 2 ^ (f - 1)) (2 ^ 1074) ((t + 2 ^ 52) * 2 ^ (f + 51)) (2 ^ 1126) (pow_pos 1074) (two_powers (t + 2 ^ 52) (f - 1) 1126 (f + 51) 1074 (omega arith)) v;
      }

  -- a subnormal
  low_pos : (t : ℕ) → of_fields binary64 false 0 t ≡ x → 0 < t
  unfolding of_fields odd
  low_pos zero e = absurd (subst (λ (y : Float). T (positive y)) (sym e) P)
  low_pos (suc t) e = zero-lt-suc t

  low_is : to_bits binary64 x / 2 ^ 52 ≡ 0 → of_fields binary64 false 0 (to_bits binary64 x % 2 ^ 52) ≡ x
  low_is e = ap (λ (y : ℕ). of_fields binary64 false y (to_bits binary64 x % 2 ^ 52)) (sym e) ∙ fields_of_lem

  pub digits_pos : to_bits binary64 x / 2 ^ 52 ≡ 0 → 0 < to_bits binary64 x % 2 ^ 52
  digits_pos e = low_pos (to_bits binary64 x % 2 ^ 52) (low_is e)

-- ---- a subnormal's digits, shifted up to 53
module _ (t : ℕ) (P : 0 < t) (H : t < 2 ^ 52) where
  zeros : (j : ℕ) × (count_leading_zeros 64 t + suc j ≡ 64) × (2 ^ j ≤ t) × (t < 2 ^ suc j)
  zeros = leading_top 64 t P (omega arith)

  j_lt : zeros.0 < 52
  j_lt = lt_of_not-le (λ (g : 52 ≤ zeros.0). not-le_of_lt H (le_trans (pow_mono g) zeros.2))

  pub leading_in : (11 ≤ count_leading_zeros 64 t) × (count_leading_zeros 64 t ≤ 63)
  leading_in = let j = j_lt in let e = zeros.1 in omega arith

  size_is : suc zeros.0 + (count_leading_zeros 64 t - 11) ≡ 53
  size_is = let j = j_lt in let e = zeros.1 in omega arith

  up_is : t * 2 ^ (count_leading_zeros 64 t - 11) < 2 ^ 53
  up_is = subst (λ (x : ℕ). t * 2 ^ (count_leading_zeros 64 t - 11) < 2 ^ x) size_is (shl_lt (suc zeros.0) (count_leading_zeros 64 t - 11) zeros.3)

  pub shifted : (t * 2 ^ (count_leading_zeros 64 t - 11)) % 2 ^ 64 ≡ t * 2 ^ (count_leading_zeros 64 t - 11)
  shifted = let h = up_is in let g : t * 2 ^ (count_leading_zeros 64 t - 11) < 2 ^ 64 = omega arith in mod-eq_of_lt g

  pub shifted_in : (2 ^ 52 ≤ t * 2 ^ (count_leading_zeros 64 t - 11)) × (t * 2 ^ (count_leading_zeros 64 t - 11) < 2 ^ 53)
  shifted_in =
      let w : zeros.0 + (count_leading_zeros 64 t - 11) ≡ 52 = let e = size_is in omega arith in
      (le_trans (le_of_eq (ap (λ (x : ℕ). 2 ^ x) (sym w) ∙ pow-add 2 zeros.0 (count_leading_zeros 64 t - 11))) (mul-le-mul_right (2 ^ (count_leading_zeros 64 t - 11)) zeros.2), up_is)

pub scaled_low : (x : Float) (F : T (fits binary64 x)) (P : T (positive x)) → to_bits binary64 x / 2 ^ 52 ≡ 0
    → IsScaled x ((to_bits binary64 x % 2 ^ 52 * 2 ^ (count_leading_zeros 64 (to_bits binary64 x % 2 ^ 52) - 11)) % 2 ^ 64) (63 - count_leading_zeros 64 (to_bits binary64 x % 2 ^ 52))
scaled_low x F P e =
    let t = to_bits binary64 x % 2 ^ 52 in
    let y = count_leading_zeros 64 t in
    let p = digits_pos x F P e in
    let l = leading_in t p (omega arith) in
    let i = shifted_in t p (omega arith) in
    let v : HasValue x false (t * 2 ^ 0) (2 ^ 1074) = subst (λ (y : Float). HasValue y false (t * 2 ^ 0) (2 ^ 1074)) (low_is x F P e) (value_low binary64 false t) in
    rw (shifted t p (omega arith))
    (record {
      low = i.0;
      high = i.1;
      room = omega arith;
      value = same_value x false (t * 2 ^ 0) (2 ^ 1074) (t * 2 ^ (y - 11) * 2 ^ (63 - y)) (2 ^ 1126) (pow_pos 1074) (three_powers t 0 1126 (y - 11) (63 - y) 1074 (omega arith)) v;
    })

-- every such value has the form
pub scaled_of : (x : Float) (F : T (fits binary64 x)) (P : T (positive x)) → (m : ℕ) × (e : ℕ) × IsScaled x m e
scaled_of x F P = go (ℕ_discrete (to_bits binary64 x / 2 ^ 52) 0)
  where
    go : Dec (to_bits binary64 x / 2 ^ 52 ≡ 0) → (m : ℕ) × (e : ℕ) × IsScaled x m e
    go (yes z) = (_, _, scaled_low x F P z)
    go (no z) = (_, _, scaled_mid x F P z)

-- ---- what is neither finite nor above zero
-- what equals zero is a zero, and its own root
zero_cut : (a b : ℕ) (c : Bool) → b ≡ 0 → (eqb a b && c) ≡ true → a ≡ 0
zero_cut a b c z h = eqb→eq a b (both (eqb a b) c (subst T (sym h) tt)) ∙ z
  where
    both : (p q : Bool) → T (p && q) → T p
    both true q t = tt
    both false q t = t

no_size : (m : ℕ) (e : ℤ) → suc m * up e * 1 ≡ 0 → ⊥
no_size m e h = lt_irrefl 0 (subst (λ (x : ℕ). 0 < x) h (mul-pos (mul-pos (zero-lt-suc m) (up_pos e)) (zero-lt-suc 0)))

pub root_zero : (x : Float) → eq x (of_bits binary64 0) ≡ true → x ≡ root_of x
unfolding eq of_bits root_of
root_zero nan h = absurd (false≢true h)
root_zero (inf s) h = absurd (false≢true h)
root_zero (fin s zero e) h = refl
root_zero (fin s (suc m) e) h =
    absurd (no_size m e (zero_cut (suc m * up e * 1) (0 * 1 * down e) (beq s false || eqb (suc m * up e * 1) 0) (zero-mul (down e)) h))

zeros_equal : (s : Bool) (e : ℤ) → (eqb (0 * up e * 1) (0 * 1 * down e) && (beq s false || eqb (0 * up e * 1) 0)) ≡ true
zeros_equal s e = rw (zero-mul (up e), zero-mul (down e)) (last s)
  where
    last : (s : Bool) → (beq s false || true) ≡ true
    last true = refl
    last false = refl

no_above : (m : ℕ) (e : ℤ) → ltb (0 * 1 * down e) (suc m * up e * 1) ≡ false → ⊥
no_above m e h =
    subst T h (lt→ltb (0 * 1 * down e) (suc m * up e * 1) (subst (λ (x : ℕ). x < suc m * up e * 1) (sym (zero-mul (down e))) (mul-pos (mul-pos (zero-lt-suc m) (up_pos e)) (zero-lt-suc 0))))

-- what is neither above zero nor a zero has no root
pub root_none : (x : Float) → lt (of_bits binary64 0) x ≡ false → eq x (of_bits binary64 0) ≡ false → nan ≡ root_of x
unfolding lt eq of_bits root_of
root_none nan h k = refl
root_none (inf true) h k = refl
root_none (inf false) h k = absurd (true≢false h)
root_none (fin s zero e) h k = absurd (true≢false (sym (zeros_equal s e) ∙ k))
root_none (fin true (suc m) e) h k = refl
root_none (fin false (suc m) e) h k = absurd (no_above m e h)

-- and of what is not above zero no digit is tried
pub digits_none : (x : Float) → lt (of_bits binary64 0) x ≡ false → 0 ≡ digits_of x
unfolding lt of_bits digits_of
digits_none nan h = refl
digits_none (inf true) h = refl
digits_none (inf false) h = absurd (true≢false h)
digits_none (fin s zero e) h = refl
digits_none (fin true (suc m) e) h = refl
digits_none (fin false (suc m) e) h = absurd (no_above m e h)

-- the two tests that a program makes
-- nothing lies above the infinity
below_finite : (y : Float) → lt (inf false) y ≡ true → ⊥
unfolding lt
below_finite nan k = false≢true k
below_finite (inf true) k = false≢true k
below_finite (inf false) k = false≢true k
below_finite (fin s m e) k = false≢true k

pub positive_below : (x y : Float) → lt (of_bits binary64 0) x ≡ true → lt x y ≡ true → T (positive x)
unfolding lt of_bits
positive_below nan y h k = absurd (false≢true h)
positive_below (inf true) y h k = absurd (false≢true h)
positive_below (inf false) y h k = absurd (below_finite y k)
positive_below (fin true m e) y h k = absurd (false≢true h)
positive_below (fin false zero e) y h k =
    absurd (lt_irrefl 0 (subst (λ (b : ℕ). 0 < b) (ap (λ (a : ℕ). a * 1) (zero-mul (up e))) (lt_of_le_of_lt zero-le (ltb→lt (0 * 1 * down e) (0 * up e * 1) (subst T (sym h) tt)))))
positive_below (fin false (suc m) e) y h k = lt→ltb 0 (suc m) (zero-lt-suc m)

infinite : (x : Float) → lt (of_bits binary64 0) x ≡ true → lt x (of_bits binary64 0x7ff0_0000_0000_0000) ≡ false → x ≡ inf false
unfolding lt of_bits
infinite nan h k = absurd (false≢true h)
infinite (inf true) h k = absurd (false≢true h)
infinite (inf false) h k = refl
infinite (fin s m e) h k = absurd (true≢false k)

pub root_infinite : (x : Float) → lt (of_bits binary64 0) x ≡ true → lt x (of_bits binary64 0x7ff0_0000_0000_0000) ≡ false → x ≡ root_of x
unfolding root_of
root_infinite x h k = let e = infinite x h k in e ∙ sym (ap root_of e)

pub digits_infinite : (x : Float) → lt (of_bits binary64 0) x ≡ true → lt x (of_bits binary64 0x7ff0_0000_0000_0000) ≡ false → 0 ≡ digits_of x
unfolding digits_of
digits_infinite x h k = sym (ap digits_of (infinite x h k))

-- a pattern up to the infinity's is no NaN's
pub low_pattern : (p : ℕ) → p ≤ 2047 * 2 ^ 52 → T (not (nan_bits binary64 p))
low_pattern p h = subst (λ (t : Bool). T (not t)) (sym (nan_bits_above binary64 p)) (le→nltb (ones binary64 * hid binary64) (p % top binary64) (omega arith))

-- ---- the digits of the root of x, read off its pattern
module _ (x : Float) (m e : ℕ) (i : IsScaled x m e) where
  abbrev low_digits : ℕ
  low_digits = closest (halves (part m e)) 4

  root_pattern : Pattern binary64 (root_of x) ((e / 2 + 485) * 2 ^ 52 + low_digits)
  root_pattern = subst (λ (r : Float). Pattern binary64 r ((e / 2 + 485) * 2 ^ 52 + low_digits)) (sym (root_of_scaled x m e i)) (rooted_pattern m e i.low i.high i.room low_digits refl)

  pub root_real : T (not (is_nan (root_of x)))
  root_real =
      let p = root_pattern in
      subst (λ (r : Float). T (not (is_nan r))) p.reads (subst (λ (t : Bool). T (not t)) (nan_bits_is binary64 ((e / 2 + 485) * 2 ^ 52 + low_digits)) p.real)

  root_bits : to_bits binary64 (root_of x) ≡ (e / 2 + 485) * 2 ^ 52 + low_digits
  root_bits =
      let b = (e / 2 + 485) * 2 ^ 52 + low_digits in
      let p = root_pattern in
      ap (to_bits binary64) (sym p.reads) ∙ to_bits-of_bits binary64 b p.below (subst (λ (r : Float). T (not (is_nan r))) (sym p.reads) root_real)

  -- of an exact root, the 27 upper digits are all
  pub upper_digits : (b : ℕ) → b * b ≡ m * (1 + e % 2) → to_bits binary64 (root_of x) % 2 ^ 52 / 2 ^ 26 + 2 ^ 26 ≡ b
  upper_digits b s =
      let n = m * (1 + e % 2) in
      let l : low_digits ≡ b * 2 ^ 26 = upper_root n b low_digits s refl in
      let hi : b < 2 ^ 27 = square_back b (2 ^ 27) (lt_of_le_of_lt (le_of_eq s) (twice_lt m e i.low i.high i.room)) in
      let lo : 2 ^ 26 < suc b = square_back (2 ^ 26) (suc b) (lt_of_le_of_lt (le_trans (twice_le m e i.low i.high i.room) (le_of_eq (sym s))) (square_lt b (suc b) (le_of_eq refl))) in
      rw (root_bits, l) (upper (e / 2 + 485) b hi (le_of_suc-le-suc lo))
    where
      upper : (f b : ℕ) → b < 2 ^ 27 → 2 ^ 26 ≤ b → (f * 2 ^ 52 + b * 2 ^ 26) % 2 ^ 52 / 2 ^ 26 + 2 ^ 26 ≡ b
      upper f b h l = omega arith
