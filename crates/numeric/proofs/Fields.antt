-- The value of an f64 by its fields, and the f32 nearest to it as a pattern, by the ranges of the exponent's field. Assumes nothing.
use Rattle.std.proofs.Common.{◌≡◌, ℕ, suc, ◌+◌, ◌-◌, ◌*◌, ◌/◌, ◌%◌, ◌^◌, ◌<◌, ◌≤◌, Bool, true, false, cond, not, ◌&&◌, T, eqb, leb, sym, refl, ap, ◌∙◌, subst, inl, inr, mod-eq_of_lt, add_comm, zero-mul, arith, lit<, lit≤, eqb→eq, leb→le, pow_pos, pow_mono}
use native.Mathlib.Nat.{div-eq_of_lt}
use lib.Dec.{nleb→lt, not_T}
use lib.Ieee.{Float, nan, inf, fin, Format, binary32, binary64, prec, low, up, down, odd, round, is_nan, fits, hid, ones, top, of_fields, of_bits, nan_bits, to_bits}
use lib.Ieee.Bits.{cond_no, of_bits-to_bits, to_bits-lt, nan_bits_is}
use lib.Ieee.Fits.{down_pos, eq→eqb, nan-fits, inf-fits, round-fits}
use lib.Ieee.Exact.{HasValue, odd_sign}
use lib.Ieee.Nearest.{closest}
use lib.Ieee.Scale.{round_same}
use Rattle.numeric.specs.Narrow.{narrowed}
use Rattle.numeric.proofs.Near.{closest_lt, closest_beside, three_powers}
use Rattle.numeric.proofs.Pack.{round_bits, round_over, round_no_nan, Pattern, pattern_of}

-- ---- in either format
no : (a b : ℕ) → a < b → a ≡ b → ⊥
no a b h e = omega arith

back : (x : ℕ) → 0 < x → suc (x - 1) ≡ x
back x h = omega arith

mid : (f : Format) (s : Bool) (x t : ℕ) → suc x < ones f → of_fields f s (suc x) t ≡ odd (prec f) s (hid f + t) x (low f)
unfolding of_fields
mid f s x t h = cond_no (eqb (suc x) (ones f)) (cond (eqb t 0) (inf s) nan) (odd (prec f) s (hid f + t) x (low f))
    (not_T (eqb (suc x) (ones f)) (λ u. no (suc x) (ones f) h (eqb→eq (suc x) (ones f) u)))

-- a normal value
pub value_mid : (f : Format) (s : Bool) (x t : ℕ) → 0 < x → x < ones f → HasValue (of_fields f s x t) s ((t + hid f) * 2 ^ (x - 1)) (2 ^ low f)
value_mid f s x t p h =
    subst (λ (y : ℕ). HasValue (of_fields f s y t) s ((t + hid f) * 2 ^ (x - 1)) (2 ^ low f)) (back x p)
    (rw (mid f s (x - 1) t (subst (λ (y : ℕ). y < ones f) (sym (back x p)) h))
    (rw (add_comm t (hid f)) (odd_sign (prec f) s (hid f + t) (x - 1) (low f))))

-- a zero or a subnormal
pub value_low : (f : Format) (s : Bool) (t : ℕ) → HasValue (of_fields f s 0 t) s (t * 2 ^ 0) (2 ^ low f)
unfolding of_fields
value_low f s t = odd_sign (prec f) s t 0 (low f)

-- ---- the f32 nearest to an f64
narrowed_value : (v : Float) (s : Bool) (a d : ℕ) → 0 < d → HasValue v s a d → narrowed v ≡ round binary32 s a d
unfolding narrowed
narrowed_value nan s a d p v = absurd v
narrowed_value (inf t) s a d p v = absurd v
narrowed_value (fin t m e) s a d p v = ap (λ (b : Bool). round binary32 b (m * up e) (down e)) v.0 ∙ round_same binary32 s (m * up e) (down e) a d (down_pos e) p v.1

-- less than a half rounds to 0
nothing : (m j : ℕ) → m < 2 ^ 53 → 54 ≤ j → closest m (2 ^ j) ≡ 0
nothing m j h g =
    let b : 2 ^ 54 ≤ 2 ^ j = pow_mono g in
    let l : m < 2 ^ j = omega arith in
    closest_lt m (2 ^ j) (rw (mod-eq_of_lt l) (omega arith)) ∙ div-eq_of_lt l

-- k * hid + q, at k = 0
plain : (c h q : ℕ) → c + (0 * h + q) ≡ c + q
plain c h q = ap (λ (x : ℕ). c + (x + q)) (zero-mul h) ∙ ap (λ (x : ℕ). c + x) (zero_plus q)
  where
    zero_plus : (q : ℕ) → 0 + q ≡ q
    zero_plus q = omega arith

room : (t j : ℕ) → t < 2 ^ 53 → 29 ≤ j → t < 2 ^ 24 * 2 ^ j
room t j h g = let b : 2 ^ 29 ≤ 2 ^ j = pow_mono g in omega arith

module _ (s : Bool) (t : ℕ) (H : t < 2 ^ 52) where
  sum_lt : t + 2 ^ 52 < 2 ^ 53
  sum_lt = omega arith

  -- zeros and f64 subnormals
  pub narrow_0 : cond s (top binary32) 0 + 0 ≡ to_bits binary32 (narrowed (of_fields binary64 s 0 t))
  narrow_0 =
      let l : t < 2 ^ 53 = omega arith in
      sym (ap (to_bits binary32) (narrowed_value (of_fields binary64 s 0 t) s (t * 2 ^ 0) (2 ^ 1074) (pow_pos 1074) (value_low binary64 s t))
      ∙ round_bits binary32 s (t * 2 ^ 0) (2 ^ 1074) t 925 0 (pow_pos 1074) (room t 925 l (lit≤ tt)) (sym (three_powers t 0 1074 0 149 925 refl)) (inl refl) (lit< tt)
      ∙ plain (cond s (top binary32) 0) (hid binary32) (closest t (2 ^ 925))
      ∙ ap (λ (q : ℕ). cond s (top binary32) 0 + q) (nothing t 925 l (lit≤ tt)))

  module _ (x : ℕ) (P : 0 < x) (X : x < 2047) where
    as_round : narrowed (of_fields binary64 s x t) ≡ round binary32 s ((t + 2 ^ 52) * 2 ^ (x - 1)) (2 ^ 1074)
    as_round = narrowed_value (of_fields binary64 s x t) s ((t + 2 ^ 52) * 2 ^ (x - 1)) (2 ^ 1074) (pow_pos 1074) (value_mid binary64 s x t P X)

    -- f32 subnormals, and below
    pub narrow_sub : x ≤ 896 → cond s (top binary32) 0 + closest (t + 2 ^ 52) (2 ^ (926 - x)) ≡ to_bits binary32 (narrowed (of_fields binary64 s x t))
    narrow_sub h =
        sym (ap (to_bits binary32) as_round
        ∙ round_bits binary32 s ((t + 2 ^ 52) * 2 ^ (x - 1)) (2 ^ 1074) (t + 2 ^ 52) (926 - x) 0 (pow_pos 1074) (room (t + 2 ^ 52) (926 - x) sum_lt (omega arith))
        (sym (three_powers (t + 2 ^ 52) 0 1074 (x - 1) 149 (926 - x) (omega arith))) (inl refl) (lit< tt)
        ∙ plain (cond s (top binary32) 0) (hid binary32) (closest (t + 2 ^ 52) (2 ^ (926 - x))))

    pub narrow_zero : x ≤ 872 → cond s (top binary32) 0 + 0 ≡ to_bits binary32 (narrowed (of_fields binary64 s x t))
    narrow_zero h =
        ap (λ (q : ℕ). cond s (top binary32) 0 + q) (sym (nothing (t + 2 ^ 52) (926 - x) sum_lt (omega arith))) ∙ narrow_sub (omega arith)

    pub narrow_normal : 897 ≤ x → x ≤ 1150 → cond s (top binary32) 0 + ((x - 897) * 0x80_0000 + closest (t + 2 ^ 52) (2 ^ 29)) ≡ to_bits binary32 (narrowed (of_fields binary64 s x t))
    narrow_normal h k =
        sym (ap (to_bits binary32) as_round
        ∙ round_bits binary32 s ((t + 2 ^ 52) * 2 ^ (x - 1)) (2 ^ 1074) (t + 2 ^ 52) 29 (x - 897) (pow_pos 1074) (room (t + 2 ^ 52) 29 sum_lt (lit≤ tt))
        (sym (three_powers (t + 2 ^ 52) (x - 897) 1074 (x - 1) 149 29 (omega arith))) (inr (omega arith)) (omega arith))

    pub narrow_over : 1151 ≤ x → cond s (top binary32) 0 + 0x7f80_0000 ≡ to_bits binary32 (narrowed (of_fields binary64 s x t))
    narrow_over h =
        sym (ap (to_bits binary32) as_round
        ∙ round_over binary32 s ((t + 2 ^ 52) * 2 ^ (x - 1)) (2 ^ 1074) (t + 2 ^ 52) 29 (x - 897) (pow_pos 1074) (room (t + 2 ^ 52) 29 sum_lt (lit≤ tt))
        (sym (three_powers (t + 2 ^ 52) (x - 897) 1074 (x - 1) 149 29 (omega arith))) (omega arith) (omega arith))

-- the bits below the sign, from the exponent's new origin on
pub narrow_size : (s : Bool) (y : ℕ) → 0x3810_0000_0000_0000 ≤ y → y < 0x47f0_0000_0000_0000
    → cond s (top binary32) 0 + closest (y - 0x3800_0000_0000_0000) (2 ^ 29) ≡ to_bits binary32 (narrowed (of_fields binary64 s (y / 2 ^ 52) (y % 2 ^ 52)))
narrow_size s y l h =
    let x = y / 2 ^ 52 in
    let t = y % 2 ^ 52 in
    let e : y - 0x3800_0000_0000_0000 ≡ (x - 897) * 2 ^ 52 + (t + 2 ^ 52) = omega arith in
    ap (λ (m : ℕ). cond s (top binary32) 0 + closest m (2 ^ 29)) e
    ∙ ap (λ (q : ℕ). cond s (top binary32) 0 + q) (closest_beside (x - 897) (t + 2 ^ 52))
    ∙ narrow_normal s t (omega arith) x (omega arith) (omega arith) (omega arith) (omega arith)

-- the infinity
pub narrow_inf : (s : Bool) (x t : ℕ) → x ≡ 2047 → t ≡ 0 → cond s (top binary32) 0 + 0x7f80_0000 ≡ to_bits binary32 (narrowed (of_fields binary64 s x t))
narrow_inf s x t e z = rw (e, z) (at s)
  where
    at : (s : Bool) → cond s (top binary32) 0 + 0x7f80_0000 ≡ to_bits binary32 (narrowed (of_fields binary64 s 2047 0))
    at s = unfold to_bits in unfold narrowed in unfold of_fields in refl

-- ---- the whole pattern
narrowed_fits : (x : Float) → T (fits binary32 (narrowed x))
unfolding narrowed
narrowed_fits nan = nan-fits binary32
narrowed_fits (inf s) = inf-fits binary32 s
narrowed_fits (fin s m e) = round-fits binary32 s (m * up e) (down e)

narrowed_real : (x : Float) → T (not (is_nan x)) → T (not (is_nan (narrowed x)))
unfolding narrowed is_nan
narrowed_real nan h = h
narrowed_real (inf s) h = tt
narrowed_real (fin s m e) h = subst (λ (t : Bool). T (not t)) (sym (round_no_nan binary32 s (m * up e) (down e))) tt

sign_word : (b : ℕ) → b < 2 ^ 64 → b / 2 ^ 63 * 2 ^ 31 ≡ cond (leb (top binary64) b) (top binary32) 0
sign_word b h = go (leb (2 ^ 63) b) (leb→le (2 ^ 63) b) (nleb→lt (2 ^ 63) b)
  where
    go : (t : Bool) → (T t → 2 ^ 63 ≤ b) → (T (not t) → b < 2 ^ 63) → b / 2 ^ 63 * 2 ^ 31 ≡ cond t (top binary32) 0
    go true l g = let k : 2 ^ 63 ≤ b = l tt in omega arith
    go false l g = let k : b < 2 ^ 63 = g tt in omega arith

-- an f64 is read from its bits
pub read : (x : Float) → T (fits binary64 x) → of_fields binary64 (leb (top binary64) (to_bits binary64 x)) (to_bits binary64 x % top binary64 / hid binary64) (to_bits binary64 x % hid binary64) ≡ x
unfolding of_bits
read x h = of_bits-to_bits binary64 x h

-- the digits do not see the sign
digits : (b : ℕ) → b % 2 ^ 63 % 2 ^ 52 ≡ b % 2 ^ 52
digits b = omega arith

pub narrow_pattern : (x : Float) (low : ℕ) → T (fits binary64 x) → T (not (is_nan x))
    → ((s : Bool) → cond s (top binary32) 0 + low ≡ to_bits binary32 (narrowed (of_fields binary64 s (to_bits binary64 x % 2 ^ 63 / 2 ^ 52) (to_bits binary64 x % 2 ^ 63 % 2 ^ 52))))
    → Pattern binary32 (narrowed x) (to_bits binary64 x / 2 ^ 63 * 2 ^ 31 + low)
narrow_pattern x low h n e =
    let b = to_bits binary64 x in
    pattern_of binary32 (narrowed x) (b / 2 ^ 63 * 2 ^ 31 + low) (narrowed_fits x) (narrowed_real x n)
    (ap (λ (y : ℕ). y + low) (sign_word b (to_bits-lt binary64 x h)) ∙ e (leb (top binary64) b)
    ∙ ap (λ (t : ℕ). to_bits binary32 (narrowed (of_fields binary64 (leb (top binary64) b) (b % 2 ^ 63 / 2 ^ 52) t))) (digits b)
    ∙ ap (λ (v : Float). to_bits binary32 (narrowed v)) (read x h))

-- the fields of a value that is no NaN
pub no_nan_fields : (x : Float) → T (fits binary64 x) → T (not (is_nan x)) → to_bits binary64 x % top binary64 / hid binary64 ≡ 2047 → to_bits binary64 x % hid binary64 ≡ 0
unfolding nan_bits
no_nan_fields x h n e =
    let b = to_bits binary64 x in
    let z : nan_bits binary64 b ≡ is_nan x = nan_bits_is binary64 b ∙ ap is_nan (of_bits-to_bits binary64 x h) in
    go (eqb (b % top binary64 / hid binary64) 2047) (eqb (b % hid binary64) 0) (eq→eqb e) (eqb→eq (b % hid binary64) 0) (subst (λ (t : Bool). T (not t)) (sym z) n)
  where
    go : (p q : Bool) → T p → (T q → to_bits binary64 x % hid binary64 ≡ 0) → T (not (p && not q)) → to_bits binary64 x % hid binary64 ≡ 0
    go true true a b k = b tt
    go true false a b k = absurd k
    go false q a b k = absurd a

pub no_nan_size : (x : Float) → T (fits binary64 x) → T (not (is_nan x)) → to_bits binary64 x % 2 ^ 63 / 2 ^ 52 ≡ 2047 → to_bits binary64 x % 2 ^ 63 % 2 ^ 52 ≡ 0
no_nan_size x h n e = digits (to_bits binary64 x) ∙ no_nan_fields x h n e
