-- A mean is one rounding of the sum over the count, and rounding keeps order: so a raised reading never lowers the mean. Assumes nothing.
use Rattle.std.proofs.Common.{◌≡◌, ℕ, zero, suc, ◌+◌, ◌-◌, ◌*◌, ◌^◌, ◌<◌, ◌≤◌, Bool, true, false, cond, ◌&&◌, ◌||◌, T, eqb, ltb, ℤ, pos, negsuc, ◌+ℤ◌, ◌-ℤ◌, neg_ℤ, nat_abs, sym, refl, ap, ◌∙◌, subst, inl, inr, true≢false, le_of_eq, le_of_lt, mul_assoc, mul-pos, zero-mul, mul-one, mul_right_comm, le_of_mul-le-mul_right, arith, eqb→eq, ltb→lt, ltb-false, le-ltb, lt-ltb}
use native.Mathlib.Nat.{eq_of_mul-eq-mul_right}
use lib.IntN.{+ℤ_comm, +ℤ-neg_ℤ_cancel}
use lib.Ieee.{Float, nan, inf, fin, binary64, up, down, unlike, below, level, round, div, le, eq, of_bits}
use lib.Ieee.Exact.{HasValue}
use lib.Ieee.Fits.{down_pos, and_l, and_r}
use Rattle.common.specs.declared.deviation.Deviation.{Deviation}
use Rattle.common.specs.Deviation.{zero64, is_empty, mean_of}
use Rattle.common.specs.WholeScores.{whole_float}
use Rattle.common.specs.Corrected.{reading_limit, length_limit, signed_integer, integer_of, corrected_statistic}
use Rattle.common.proofs.WholeFloats.{negative, whole_value, size_sum}
use Rattle.common.proofs.RoundOrder.{or_split, quotient, quotient_raised_signed, div_value}
use Rattle.common.proofs.WholeValues.{Whole, whole_is, integer_small}
use Rattle.common.proofs.CorrectedRows.{Accepted}

-- a float that equals a float that has a value has it, where that is not zero
same_value : (x y : Float) (n : ℕ) → 0 < n → eq x y ≡ true → HasValue y false n 1 → HasValue x false n 1
unfolding eq
same_value nan y n N h v = absurd (true≢false (sym h))
same_value (inf t) (fin u p d) n N h v = absurd (true≢false (sym h))
same_value (fin t m e) (fin true p d) n N h v = absurd (true≢false v.0)
same_value (fin true m e) (fin false p d) n N h v =
    let A = m * up e * down d in
    let B = p * up d * down e in
    let b : T (eqb A B && eqb A 0) = subst T (sym h) tt in
    let q : p * up d ≡ n * down d = sym (mul-one (p * up d)) ∙ v.1 in
    absurd (none (eqb→eq A B (and_l (eqb A B) (eqb A 0) b)) (eqb→eq A 0 (and_r (eqb A B) (eqb A 0) b)) (ap (λ (c : ℕ). c * down e) q) (mul-pos (mul-pos N (down_pos d)) (down_pos e)))
  where
    none : {a b c : ℕ} → a ≡ b → a ≡ 0 → b ≡ c → 0 < c → ⊥
    none p q r h = omega arith
same_value (fin false m e) (fin false p d) n N h v =
    let A = m * up e * down d in
    let B = p * up d * down e in
    let b : A ≡ B = eqb→eq A B (and_l (eqb A B) true (subst T (sym h) tt)) in
    let q : p * up d ≡ n * down d = sym (mul-one (p * up d)) ∙ v.1 in
    (refl, mul-one (m * up e) ∙ eq_of_mul-eq-mul_right (down d) (down_pos d) (m * up e) (n * down e) (b ∙ ap (λ (c : ℕ). c * down e) q ∙ mul_right_comm n (down d) (down e)))
same_value (inf t) nan n N h v = elim v [ ]
same_value (inf t) (inf _) n N h v = elim v [ ]
same_value (fin t m e) nan n N h v = elim v [ ]
same_value (fin t m e) (inf _) n N h v = elim v [ ]

pub size_negated : (z : ℤ) → nat_abs (neg_ℤ z) ≡ nat_abs z
size_negated (pos zero) = refl
size_negated (pos (suc n)) = refl
size_negated (negsuc n) = refl

zero_le_zero : T (le zero64 zero64)
unfolding le of_bits
zero_le_zero = tt

unlike_false : (s : Bool) → unlike s false ≡ s
unlike_false true = refl
unlike_false false = refl

-- what a row 26 that is passed leaves of the mean: one rounding of the sum over the count
mean_of_lem : (x w : Float) (s : Bool) (a n : ℕ) → 0 < n → HasValue x s a 1 → HasValue w false n 1 → div binary64 x w ≡ round binary64 s a n
mean_of_lem x w s a n N v u = div_value binary64 x w s false a n N v u ∙ ap (λ (b : Bool). round binary64 b a n) (unlike_false s)

change : (w k : ℤ) → w +ℤ k -ℤ w ≡ k
change w k = ap (λ (z : ℤ). z -ℤ w) (+ℤ_comm w k) ∙ +ℤ-neg_ℤ_cancel k w

mean_quotients : (x w : Float) (s : Bool) (a k n : ℕ) (z : ℤ) → 0 < n → HasValue x s a 1 → HasValue w false n 1 → nat_abs z ≤ 2 ^ 53 → z ≡ signed_integer s a +ℤ pos k
    → T (le (div binary64 x w) (div binary64 (whole_float z) w))
mean_quotients x w s a k n z N v u Z e =
    rw (mean_of_lem x w s a n N v u, mean_of_lem (whole_float z) w (negative z) (nat_abs z) n N (whole_value binary64 z Z) u)
    (subst (λ (y : ℤ). T (le (round binary64 s a n) (quotient binary64 y n))) (sym e) (quotient_raised_signed binary64 s a k n N))

pub mean_raised : (s : Deviation) (wrong right : Float) (k : ℕ) → Accepted s wrong right → integer_of right ≡ integer_of wrong +ℤ pos k
    → T (le (mean_of s) (mean_of (corrected_statistic s wrong right)))
unfolding mean_of is_empty corrected_statistic
mean_raised s wrong right k a e = go (le s.weight zero64)
  where
    n : ℕ
    n = s.count

    w : Whole (reading_limit * n) s.sum
    w = whole_is (reading_limit * n) s.sum (subst T (sym a.sum_whole) tt)

    z : ℤ
    z = integer_of s.sum +ℤ (integer_of right -ℤ integer_of wrong)

    go : (b : Bool) → T (le (cond b zero64 (div binary64 s.sum s.weight)) (cond b zero64 (div binary64 (whole_float z) s.weight)))
    go true = zero_le_zero
    go false =
        let N : 1 ≤ n = ltb-false n 1 a.some in
        let L : n ≤ length_limit = ltb-false length_limit n a.few in
        let S = w.small in
        let R = integer_small reading_limit right (subst T (sym a.right_whole) tt) in
        let W = integer_small reading_limit wrong (subst T (sym a.wrong_whole) tt) in
        let size : nat_abs (integer_of s.sum) ≤ reading_limit * n = integer_small (reading_limit * n) s.sum (subst T (sym a.sum_whole) tt) in
        let Z : nat_abs z ≤ 2 ^ 53 =
        omega (arith, size_sum (integer_of s.sum) (integer_of right -ℤ integer_of wrong), size_sum (integer_of right) (neg_ℤ (integer_of wrong)), size_negated (integer_of wrong)) in
        let u = same_value s.weight (whole_float (pos n)) n N a.weighed (whole_value binary64 (pos n) (omega arith)) in
        mean_quotients s.sum s.weight w.sign w.size k n z N w.value u Z
        (λ i. w.integer i +ℤ (ap (λ (y : ℤ). y -ℤ integer_of wrong) e ∙ change (integer_of wrong) (pos k)) i)

-- ---- the same, from the answer and from the order of the two readings as the machine has it

-- two whole values in order
Ordered : Bool → ℕ → Bool → ℕ → Type 0
Ordered false a false b = a ≤ b
Ordered false a true b = (a ≡ 0) × (b ≡ 0)
Ordered true a false b = Unit {0}
Ordered true a true b = b ≤ a

-- by a common denominator c
ordered : (s t : Bool) (a b c : ℕ) → 0 < c → T (below s (a * c) t (b * c) || level s (a * c) t (b * c)) → Ordered s a t b
unfolding Ordered
ordered false false a b c C h =
    le_of_mul-le-mul_right
    (elim (or_split (ltb (a * c) (b * c)) (eqb (a * c) (b * c) && true) h)
    [ inl u ↦ le_of_lt (ltb→lt (a * c) (b * c) u) | inr u ↦ le_of_eq (eqb→eq (a * c) (b * c) (and_l (eqb (a * c) (b * c)) true u)) ])
    C
ordered false true a b c C h =
    let z : a * c ≡ 0 = eqb→eq (a * c) 0 (and_r (eqb (a * c) (b * c)) (eqb (a * c) 0) h) in
    let e : a * c ≡ b * c = eqb→eq (a * c) (b * c) (and_l (eqb (a * c) (b * c)) (eqb (a * c) 0) h) in
    (gone a c C z, gone b c C (sym e ∙ z))
  where
    gone : (a c : ℕ) → 0 < c → a * c ≡ 0 → a ≡ 0
    gone a c C z = eq_of_mul-eq-mul_right c C a 0 (z ∙ sym (zero-mul c))
ordered true false a b c C h = tt
ordered true true a b c C h =
    le_of_mul-le-mul_right
    (elim (or_split (ltb (b * c) (a * c)) (eqb (a * c) (b * c) && true) h)
    [ inl u ↦ le_of_lt (ltb→lt (b * c) (a * c) u) | inr u ↦ le_of_eq (sym (eqb→eq (a * c) (b * c) (and_l (eqb (a * c) (b * c)) true u))) ])
    C

-- the second is the first and something more
difference : (s t : Bool) (a b : ℕ) → Ordered s a t b → (k : ℕ) × (signed_integer t b ≡ signed_integer s a +ℤ pos k)
unfolding Ordered
difference false false a b h = (b - a, ap pos (omega arith))
difference false true a b h = (0, (λ i. signed_integer true (h.1 i)) ∙ λ i. pos (sym h.0 i) +ℤ pos 0)
difference true false zero b h = (b, ap pos (omega arith))
difference true false (suc a) b h = (suc a + b, rw (le-ltb (suc a + b) (suc a) (omega arith)) (ap pos (omega arith)))
difference true true zero zero h = (0, refl)
difference true true zero (suc b) h = absurd (omega arith)
difference true true (suc a) zero h = (suc a, rw (le-ltb (suc a) (suc a) (omega arith)) (ap pos (omega arith)))
difference true true (suc a) (suc b) h = (a - b, rw (lt-ltb (a - b) (suc a) (omega arith)) (ap negsuc (omega arith)))

pub raised : (x y : Float) {b c : ℕ} → Whole b x → Whole c y → T (le x y) → (k : ℕ) × (integer_of y ≡ integer_of x +ℤ pos k)
unfolding le
raised x y w v h =
    let d = difference w.sign v.sign w.size v.size (go x y w.sign v.sign w.size v.size w.value v.value h) in
    (d.0, v.integer ∙ d.1 ∙ ap (λ (z : ℤ). z +ℤ pos d.0) (sym w.integer))
  where
    go : (x y : Float) (s t : Bool) (a b : ℕ) → HasValue x s a 1 → HasValue y t b 1 → T (le x y) → Ordered s a t b
    go (fin s m e) (fin t n d) s' t' a b v w h =
        let c = down e * down d in
        let p : m * up e * down d ≡ a * c = ap (λ (z : ℕ). z * down d) (sym (mul-one (m * up e)) ∙ v.1) ∙ mul_assoc a (down e) (down d) in
        let q : n * up d * down e ≡ b * c = ap (λ (z : ℕ). z * down e) (sym (mul-one (n * up d)) ∙ w.1) ∙ mul_right_comm b (down d) (down e) ∙ mul_assoc b (down e) (down d) in
        ordered s' t' a b c (mul-pos (down_pos e) (down_pos d)) (subst T (λ i. below (v.0 i) (p i) (w.0 i) (q i) || level (v.0 i) (p i) (w.0 i) (q i)) h)
    go nan _ s' t' a b v w h = elim v [ ]
    go (inf _) _ s' t' a b v w h = elim v [ ]
    go (fin s m e) nan s' t' a b v w h = elim w [ ]
    go (fin s m e) (inf _) s' t' a b v w h = elim w [ ]
