-- The test for a whole number that the code makes, by way of the whole part of the size, is `whole_within`. Assumes nothing.
use Rattle.std.proofs.Common.{◌≡◌, ℕ, zero, suc, ◌+◌, ◌*◌, ◌/◌, ◌%◌, ◌^◌, ◌<◌, ◌≤◌, min, Bool, true, false, ◌&&◌, T, eqb, ltb, leb, ℤ, pos, sym, refl, ap, ◌∙◌, subst, true≢false, zero-le, add-zero, zero-lt-suc, div-lt_iff_lt-mul, mul-pos, div-add-mod', le-div_iff_mul-le, zero-mul, mul-one, mul_right_comm, arith, lt→ltb, le-ltb, lt-ltb, eq-eqb, ne_eqb, le-leb}
use native.Mathlib.Nat.{zero-div, zero-mod}
use native.Mathlib.Nat.{eq_of_mul-eq-mul_right}
use native.Mathlib.Decide.{dec_lt, ℕ_discrete}
use borrow.Author.Tests.{lt-leb}
use lib.Ieee.{Float, nan, inf, fin, binary64, up, down, neg, lt, eq, round, of_int, of_bits, to_unsigned}
use lib.Ieee.Fits.{up_pos, down_pos}
use lib.Ieee.Exact.{HasValue}
use Rattle.common.specs.Corrected.{whole_within}
use Rattle.common.specs.Steps.Whole.{float_size}
use Rattle.common.proofs.WholeFloats.{whole_value}

-- ---- the size

not_below_zero : (a d : ℕ) → ltb (a * 1) (0 * d) ≡ false
not_below_zero a d = le-ltb (a * 1) (0 * d) (subst (λ (z : ℕ). z ≤ a * 1) (sym (zero-mul d)) (omega arith))

size_false : (m : ℕ) (e : ℤ) → float_size (fin false m e) ≡ fin false m e
unfolding float_size lt of_bits
size_false m e = rw (not_below_zero (m * up e) (down e))

size_zero : (e : ℤ) → float_size (fin true zero e) ≡ fin true zero e
unfolding float_size lt of_bits
size_zero e = rw (le-ltb 0 (0 * up e * 1 + 0 * down e) (omega arith))

size_true : (m : ℕ) (e : ℤ) → float_size (fin true (suc m) e) ≡ fin false (suc m) e
unfolding float_size lt of_bits neg
size_true m e = rw (lt-ltb 0 (suc m * up e * 1 + 0 * down e) (omega (arith, mul-pos (zero-lt-suc m) (up_pos e))))

-- ---- the whole part's float equals the number where nothing is cut off

eqb_same : (a b c d : ℕ) → (a ≡ b → c ≡ d) → (c ≡ d → a ≡ b) → eqb a b ≡ eqb c d
eqb_same a b c d f g = go (ℕ_discrete a b)
  where
    go : Dec (a ≡ b) → eqb a b ≡ eqb c d
    go (yes p) = eq-eqb a b p ∙ sym (eq-eqb c d (f p))
    go (no n) = ne_eqb a b n ∙ sym (ne_eqb c d (λ q. n (g q)))

and_true : (b : Bool) → (b && true) ≡ b
and_true true = refl
and_true false = refl

part_equal : (y : Float) (m : ℕ) (e : ℤ) → HasValue y false (m * up e / down e) 1 → eq y (fin false m e) ≡ eqb (m * up e % down e) 0
unfolding eq
part_equal (fin true p d) m e v = absurd (true≢false v.0)
part_equal (fin false p d) m e v =
    let n = m * up e in
    let c = n / down e in
    let q : p * up d ≡ c * down d = sym (mul-one (p * up d)) ∙ v.1 in
    and_true (eqb (p * up d * down e) (n * down d))
    ∙ eqb_same (p * up d * down e) (n * down d) (n % down e) 0
    (λ h. none (eq_of_mul-eq-mul_right (down d) (down_pos d) (c * down e) n (mul_right_comm c (down e) (down d) ∙ ap (λ (z : ℕ). z * down e) (sym q) ∙ h)) (div-add-mod' n (down e)))
    (λ h. ap (λ (z : ℕ). z * down e) q
    ∙ mul_right_comm c (down d) (down e)
    ∙ ap (λ (z : ℕ). z * down d) (sym (add-zero (c * down e)) ∙ ap (λ (z : ℕ). c * down e + z) (sym h) ∙ div-add-mod' n (down e)))
  where
    none : {a n r : ℕ} → a ≡ n → a + r ≡ n → r ≡ 0
    none p q = omega arith
part_equal nan m e v = elim v [ ]
part_equal (inf _) m e v = elim v [ ]

and_false : (b : Bool) → (b && false) ≡ false
and_false true = refl
and_false false = refl

-- 2 ^ 64, which the code compares with
abbrev pub wide_limit : Float
wide_limit = of_bits binary64 0x43f0_0000_0000_0000

-- what the code tests of the size
abbrev pub tested : ℕ → Float → Bool
tested b a = lt a wide_limit && (leb (to_unsigned 64 a) b && eq (of_int binary64 (pos (to_unsigned 64 a))) a)

wide_is : (m : ℕ) (e : ℤ) → lt (fin false m e) wide_limit ≡ ltb (m * up e * 1) (18446744073709551616 * down e)
unfolding lt of_bits
wide_is m e = refl

cut_is : (m : ℕ) (e : ℤ) → to_unsigned 64 (fin false m e) ≡ min (m * up e / down e) 18446744073709551615
unfolding to_unsigned
cut_is m e = refl

tested_plain : (b m : ℕ) (e : ℤ) → b ≤ 2 ^ 53 → tested b (fin false m e) ≡ (eqb (m * up e % down e) 0 && leb (m * up e / down e) b)
tested_plain b m e B = go (dec_lt (m * up e) (18446744073709551616 * down e)) (dec_lt b (m * up e / down e))
  where
    a : Float
    a = fin false m e

    c : ℕ
    c = m * up e / down e

    r : Bool
    r = eqb (m * up e % down e) 0

    go : Dec (m * up e < 18446744073709551616 * down e) → Dec (b < c) → tested b a ≡ (r && leb c b)
    go (no l) k =
        let w : lt a wide_limit ≡ false = wide_is m e ∙ le-ltb (m * up e * 1) (18446744073709551616 * down e) (omega arith) in
        let large : 18446744073709551616 ≤ c = (le-div_iff_mul-le (down_pos e)).1 (omega arith) in
        rw (w, lt-leb c b (omega arith), and_false)
    go (yes l) k =
        let w : lt a wide_limit ≡ true = wide_is m e ∙ lt-ltb (m * up e * 1) (18446744073709551616 * down e) (omega arith) in
        let below : c < 18446744073709551616 = (div-lt_iff_lt-mul (down_pos e)).1 l in
        let u : to_unsigned 64 a ≡ c = cut_is m e ∙ omega arith in
        rw (w, u) (size k)
      where
        size : Dec (b < c) → (leb c b && eq (of_int binary64 (pos c)) a) ≡ (r && leb c b)
        size (yes k) = rw (lt-leb c b k, and_false)
        size (no k) =
            let s : c ≤ b = omega arith in
            rw (le-leb c b s, and_true) (part_equal (of_int binary64 (pos c)) m e (whole_value binary64 (pos c) (omega arith)))

tested_zero : (b : ℕ) (e : ℤ) → tested b (fin true zero e) ≡ true
unfolding lt of_bits to_unsigned eq of_int round
tested_zero b e =
    rw (lt-ltb 0 (0 * up e * 1 + 18446744073709551616 * down e) (omega (arith, down_pos e)), le-leb 0 b zero-le, eq-eqb (0 * down e) (0 * up e * 1) (omega arith), eq-eqb (0 * down e) 0 (omega arith))

-- the code's test is `whole_within`
pub whole_by_size : (b : ℕ) (x : Float) → b ≤ 2 ^ 53 → tested b (float_size x) ≡ whole_within b x
unfolding whole_within
whole_by_size b nan B = unfold float_size lt in refl
whole_by_size b (inf true) B = unfold float_size lt of_bits neg in refl
whole_by_size b (inf false) B = unfold float_size lt of_bits in refl
whole_by_size b (fin false m e) B = rw (size_false m e) (tested_plain b m e B)
whole_by_size b (fin true zero e) B = rw (size_zero e, tested_zero b e, zero-mul (up e), zero-mod, zero-div) (sym (le-leb 0 b zero-le))
whole_by_size b (fin true (suc m) e) B = rw (size_true m e) (tested_plain b (suc m) e B)

above_plain : (m : ℕ) (e : ℤ) → T (lt (fin true 1 (pos 0)) (fin false m e))
unfolding lt
above_plain m e = lt→ltb 0 (1 * down e + m * up e * 1) (omega (arith, down_pos e))

above_zero : (e : ℤ) → T (lt (fin true 1 (pos 0)) (fin true 0 e))
unfolding lt
above_zero e = lt→ltb (0 * up e * 1) (1 * down e) (omega (arith, down_pos e))

-- the size may be cut to a u64: it is above -1
pub size_above : (x : Float) → lt (float_size x) wide_limit ≡ true → T (lt (fin true 1 (pos 0)) (float_size x))
size_above nan h = absurd (true≢false (sym (unfold float_size lt in h)))
size_above (inf true) h = unfold float_size lt of_bits neg in tt
size_above (inf false) h = unfold float_size lt of_bits in tt
size_above (fin false m e) h = rw (size_false m e) (above_plain m e)
size_above (fin true zero e) h = rw (size_zero e) (above_zero e)
size_above (fin true (suc m) e) h = rw (size_true m e) (above_plain (suc m) e)

pub size_below : (x : Float) → lt x wide_limit ≡ true → T (lt x (fin false 1 (pos 64)))
unfolding of_bits
size_below x h = subst T (sym h) tt
