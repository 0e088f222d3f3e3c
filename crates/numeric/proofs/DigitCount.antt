-- The statements of specs/Digits.antt: how many digits are tried, whatever x is. A root q * 2 ^ e is exact where its 53 digits P have the square n * 2 ^ 52, n being x's 53 or 54 digits;
-- they are then those of a root of n, of 27 digits, with zeros after them, and q is their odd part. Assumes nothing.
use Rattle.std.proofs.Common.{◌≡◌, ℕ, zero, suc, ◌+◌, ◌-◌, ◌*◌, ◌/◌, ◌%◌, ◌^◌, ◌<◌, ◌≤◌, Bool, true, false, ◌&&◌, T, eqb, ltb, leb, ◌⊎◌, ℤ, pos, negsuc, sym, refl, ap, ◌∙◌, subst, inl, inr, true≢false, le_trans, le_of_eq, lt_of_lt_of_le, le_of_suc-le-suc, lt_of_le_of_lt, lt_irrefl, zero-lt-suc, mul_assoc, mul-pos, zero-mul, mul_right_comm, arith, eqb→eq, lt→ltb, pow_pos, pow-add}
use native.Mathlib.Nat.{eq_of_mul-eq-mul_right}
use lib.Count.{count_trailing_zeros}
use lib.Ieee.{Float, nan, inf, fin, binary64, up, down, span, climb, size, fits}
use lib.Ieee.Exact.{HasValue}
use lib.Ieee.Fits.{down_pos, and_l, round-fits}
use lib.Ieee.Nearest.{closest}
use Rattle.numeric.specs.Root.{isqrt, halves, rooted, root_of}
use Rattle.numeric.specs.Steps.Scaled.{IsScaled}
use Rattle.numeric.specs.Digits.{radicand, digits_tried, digits_of, ExactRoot, AtMost54, CountsPositive, ExactCount, InexactCount, RadicandIsExact}
use Rattle.numeric.proofs.Near.{two_powers}
use Rattle.numeric.proofs.Pack.{size_exact}
use Rattle.numeric.proofs.Squares.{square_suc, square_times, square_back, square_down, isqrt_within}
use Rattle.numeric.proofs.Tried.{tried_le, tried_pos, odd_part, odd_one, digits_square, digits_other, upper_root, size_odd}
use Rattle.numeric.proofs.Roots.{part, unit, unit_pos, whole, twice_lt, twice_le, root_of_scaled, digits_of_scaled, same_value, scaled_of, cut_is, radicand_part}
use Rattle.numeric.proofs.RootNearest.{root_value}

-- ---- bounds
tried_in : (n : ℕ) → (digits_tried n ≤ 54) × (0 < digits_tried n)
unfolding digits_tried
tried_in n = (tried_le n (isqrt n) 54, tried_pos n (isqrt n) 53)

pub at_most_54 : AtMost54
unfolding digits_of
at_most_54 nan = omega arith
at_most_54 (inf s) = omega arith
at_most_54 (fin s zero e) = omega arith
at_most_54 (fin true (suc m) e) = omega arith
at_most_54 (fin false (suc m) e) = (tried_in _).0

no_count : (A : Type 0) → 0 < 0 → A
no_count A h = absurd (lt_irrefl 0 h)

pub counts_positive : CountsPositive
unfolding digits_of
counts_positive nan = (no_count _, λ p. absurd p)
counts_positive (inf s) = (no_count _, λ p. absurd p)
counts_positive (fin true zero e) = (no_count _, λ p. absurd p)
counts_positive (fin false zero e) = (no_count _, λ p. absurd p)
counts_positive (fin true (suc m) e) = (no_count _, λ p. absurd p)
counts_positive (fin false (suc m) e) = (λ p. lt→ltb 0 (suc m) (zero-lt-suc m), λ p. (tried_in _).1)

-- ---- one value as two fractions
cross : (x : Float) (s : Bool) (a c b d : ℕ) → HasValue x s a c → HasValue x s b d → a * d ≡ b * c
cross nan s a c b d v w = absurd v
cross (inf t) s a c b d v w = absurd v
cross (fin t m e) s a c b d v w =
    eq_of_mul-eq-mul_right (down e) (down_pos e) (a * d) (b * c)
    (mul_right_comm a d (down e) ∙ ap (λ (y : ℕ). y * d) (sym v.1) ∙ mul_right_comm (m * up e) c d ∙ ap (λ (y : ℕ). y * c) w.1 ∙ mul_right_comm b (down e) c)

power_up : (e : ℤ) → (k : ℕ) × (up e ≡ 2 ^ k)
power_up (pos k) = (k, refl)
power_up (negsuc k) = (0, refl)

power_down : (e : ℤ) → (k : ℕ) × (down e ≡ 2 ^ k)
power_down (pos k) = (0, refl)
power_down (negsuc k) = (suc k, refl)

-- what a format holds is written with an odd number, or is zero
odd_or_zero : (q : ℕ) (e : ℤ) → T (fits binary64 (fin false q e)) → (q ≡ 0) ⊎ (q % 2 ≡ 1)
unfolding fits
odd_or_zero zero e h = inl refl
odd_or_zero (suc q) e h =
    let a = eqb (suc q % 2) 1 in
    let b = ltb (suc q) (2 ^ 53) in
    let c = leb (down e) (2 ^ 1074) in
    inr (eqb→eq (suc q % 2) 1 (and_l a b (and_l (a && b) c (and_l (a && b && c) (ltb (suc q * up e) (2 ^ 1024 * down e)) h))))

-- ---- an x in the form that `scale` gives
module _ (x : Float) (m e : ℕ) (i : IsScaled x m e) where
  abbrev n : ℕ
  n = m * (1 + e % 2)

  abbrev P : ℕ
  P = closest (halves (part m e)) 4

  n_lt : n < 2 ^ 54
  n_lt = twice_lt m e i.low i.high i.room

  n_le : 2 ^ 52 ≤ n
  n_le = twice_le m e i.low i.high i.room

  x_value : HasValue x false (m * 2 ^ (e + 1022)) (2 ^ 2148)
  x_value = same_value x false (m * 2 ^ e) (2 ^ 1126) (m * 2 ^ (e + 1022)) (2 ^ 2148) (pow_pos 1126) (two_powers m e 2148 (e + 1022) 1126 (omega arith)) i.value

  -- the square of A / D = P * 2 * unit / 2 ^ 1074
  squared : (A D : ℕ) → A * 2 ^ 1074 ≡ P * (2 * unit e) * D → A * A * 2 ^ 2148 ≡ P * P * 4 * (unit e * unit e) * (D * D)
  squared A D v =
      let u = unit e in
      let w : P * (2 * u) * (P * (2 * u)) ≡ P * P * 4 * (u * u) =
      square_times P (2 * u) ∙ ap (λ (y : ℕ). P * P * y) (square_times 2 u) ∙ sym (mul_assoc (P * P) 4 (u * u)) in
      ap (λ (y : ℕ). A * A * y) (pow-add 2 1074 1074)
      ∙ sym (square_times A (2 ^ 1074))
      ∙ ap (λ (y : ℕ). y * y) v
      ∙ square_times (P * (2 * u)) D
      ∙ ap (λ (y : ℕ). y * (D * D)) w

  -- x is that square exactly where P's is n * 2 ^ 52
  square_to : (A D : ℕ) → 0 < D → A * 2 ^ 1074 ≡ P * (2 * unit e) * D → HasValue x false (A * A) (D * D) → P * P ≡ n * (2 ^ 26 * 2 ^ 26)
  square_to A D d v h =
      let u = unit e in
      let U = unit_pos m e i.low i.high i.room in
      let N = m * 2 ^ (e + 1022) in
      let a : N * (D * D) ≡ P * P * 4 * (u * u) * (D * D) = cross x false N (2 ^ 2148) (A * A) (D * D) x_value h ∙ squared A D v in
      let b : N ≡ P * P * 4 * (u * u) = eq_of_mul-eq-mul_right (D * D) (mul-pos d d) N (P * P * 4 * (u * u)) a in
      let c : part m e ≡ P * P * 4 = eq_of_mul-eq-mul_right (u * u) (mul-pos U U) (part m e) (P * P * 4) (sym (whole m e i.low i.high i.room) ∙ b) in
      omega arith

  square_from : (A D : ℕ) → 0 < D → A * 2 ^ 1074 ≡ P * (2 * unit e) * D → P * P ≡ n * (2 ^ 26 * 2 ^ 26) → HasValue x false (A * A) (D * D)
  square_from A D d v h =
      let u = unit e in
      let N = m * 2 ^ (e + 1022) in
      let c : part m e ≡ P * P * 4 = omega arith in
      let b : N ≡ P * P * 4 * (u * u) = whole m e i.low i.high i.room ∙ ap (λ (y : ℕ). y * (u * u)) c in
      same_value x false N (2 ^ 2148) (A * A) (D * D) (pow_pos 2148) (ap (λ (y : ℕ). y * (D * D)) b ∙ sym (squared A D v)) x_value

  -- the root as a fraction
  root_as : (q : ℕ) (k : ℤ) → root_of x ≡ fin false q k → q * up k * 2 ^ 1074 ≡ P * (2 * unit e) * down k
  root_as q k r =
      let v : HasValue (fin false q k) false (P * (2 * unit e)) (2 ^ 1074) =
      subst (λ (y : Float). HasValue y false (P * (2 * unit e)) (2 ^ 1074)) (sym (root_of_scaled x m e i) ∙ r) (root_value m e i.low i.high i.room) in
      v.1

  root_fits : T (fits binary64 (root_of x))
  unfolding rooted
  root_fits = subst (λ (y : Float). T (fits binary64 y)) (sym (root_of_scaled x m e i)) (round-fits binary64 false (halves (m * 2 ^ (e + 1022))) (2 ^ 1075))

  -- where n is the square of b, q is the odd part of b
  module _ (b o t : ℕ) (B : b * b ≡ n) (O : o % 2 ≡ 1) (S : b ≡ o * 2 ^ t) where
    p_is : P ≡ b * 2 ^ 26
    p_is = upper_root n b P B refl

    odd_is : (q : ℕ) (k : ℤ) → q % 2 ≡ 1 → root_of x ≡ fin false q k → q ≡ o
    odd_is q k Q r =
        let f = power_up k in
        let g = power_down k in
        let j = e / 2 + 484 in
        let left : q * up k * 2 ^ 1074 ≡ q * 2 ^ (f.0 + 1074) = ap (λ (y : ℕ). q * y * 2 ^ 1074) f.1 ∙ mul_assoc q (2 ^ f.0) (2 ^ 1074) ∙ ap (λ (y : ℕ). q * y) (sym (pow-add 2 f.0 1074)) in
        let two : 2 * unit e ≡ 2 ^ (1 + j) = sym (pow-add 2 1 j) in
        let big : P ≡ o * 2 ^ (t + 26) = p_is ∙ ap (λ (y : ℕ). y * 2 ^ 26) S ∙ mul_assoc o (2 ^ t) (2 ^ 26) ∙ ap (λ (y : ℕ). o * y) (sym (pow-add 2 t 26)) in
        let right : P * (2 * unit e) * down k ≡ o * 2 ^ (t + 26 + (1 + j) + g.0) =
        ap (λ (y : ℕ). P * (2 * unit e) * y) g.1
        ∙ ap (λ (y : ℕ). P * y * 2 ^ g.0) two
        ∙ ap (λ (y : ℕ). y * 2 ^ (1 + j) * 2 ^ g.0) big
        ∙ ap (λ (y : ℕ). y * 2 ^ g.0) (mul_assoc o (2 ^ (t + 26)) (2 ^ (1 + j)) ∙ ap (λ (y : ℕ). o * y) (sym (pow-add 2 (t + 26) (1 + j))))
        ∙ mul_assoc o (2 ^ (t + 26 + (1 + j))) (2 ^ g.0)
        ∙ ap (λ (y : ℕ). o * y) (sym (pow-add 2 (t + 26 + (1 + j)) g.0)) in
        odd_one q o (f.0 + 1074) (t + 26 + (1 + j) + g.0) Q O (sym left ∙ root_as q k r ∙ right)

  -- q is not zero
  P_pos : (b : ℕ) → b * b ≡ n → P ≡ b * 2 ^ 26 → 0 < P
  P_pos b B s = let l = n_le in let p : 0 < b = square_back 0 b (omega arith) in omega arith

  exact_scaled : (q : ℕ) (k : ℤ) → ExactRoot x q k → (digits_of x ≡ size q) × (size q ≤ 27)
  exact_scaled q k (r, v) =
      let s = square_to (q * up k) (down k) (down_pos k) (root_as q k r) v in
      let d = square_down n 26 P s in
      let b = d.0 in
      let B = d.1 in
      let hi : b < 2 ^ 27 = square_back b (2 ^ 27) (lt_of_le_of_lt (le_of_eq B) n_lt) in
      let l = n_le in
      let p : 0 < b = square_back 0 b (omega arith) in
      let o = odd_part 27 b p hi in
      let t = count_trailing_zeros 27 b in
      let c = digits_square n b o.0 t n_lt B o.1 o.2 in
      let lo : 2 ^ 26 < suc b = square_back (2 ^ 26) (suc b) (above n b B l) in
      let z : size o.0 ≡ 27 - t = size_odd b o.0 t (le_of_suc-le-suc lo) hi c.1 o.2 in
      let Q : q % 2 ≡ 1 = elim (odd_or_zero q k (subst (λ (y : Float). T (fits binary64 y)) r root_fits)) [
        | inl w ↦ absurd (nothing w (P_pos b B (p_is b o.0 t B o.1 o.2)))
        | inr w ↦ w
      ] in
      let y : q ≡ o.0 = odd_is b o.0 t B o.1 o.2 q k Q r in
      let a : size q ≡ 27 - t = ap size y ∙ z in
      (digits_of_scaled x m e i ∙ c.0 ∙ sym a, le_trans (le_of_eq a) (most t))
    where
      above : (n b : ℕ) → b * b ≡ n → 2 ^ 52 ≤ n → 2 ^ 26 * 2 ^ 26 < suc b * suc b
      above n b B l = let s = square_suc b in omega arith

      most : (t : ℕ) → 27 - t ≤ 27
      most t = omega arith

      nothing : q ≡ 0 → 0 < P → ⊥
      nothing w p =
          lt_irrefl 0
          (lt_of_lt_of_le (mul-pos (mul-pos p (mul-pos (zero-lt-suc 1) (unit_pos m e i.low i.high i.room))) (down_pos k))
          (le_of_eq (sym (root_as q k r) ∙ ap (λ (y : ℕ). y * up k * 2 ^ 1074) w ∙ ap (λ (y : ℕ). y * 2 ^ 1074) (zero-mul (up k)) ∙ zero-mul (2 ^ 1074))))

  -- the root is finite
  finite : (r : Float) → root_of x ≡ r → HasValue r false (P * (2 * unit e)) (2 ^ 1074) → ((q : ℕ) (k : ℤ) → root_of x ≡ fin false q k → ⊥) → ⊥
  finite nan r v h = v
  finite (inf s) r v h = v
  finite (fin false q k) r v h = h q k r
  finite (fin true q k) r v h = true≢false v.0

  inexact_scaled : ((q : ℕ) (k : ℤ) → ExactRoot x q k → ⊥) → digits_of x ≡ 54
  inexact_scaled h =
      digits_of_scaled x m e i
      ∙ digits_other n (λ b B.
      finite (root_of x) refl (subst (λ (y : Float). HasValue y false (P * (2 * unit e)) (2 ^ 1074)) (sym (root_of_scaled x m e i)) (root_value m e i.low i.high i.room)) (λ q k r.
      h q k (r, square_from (q * up k) (down k) (down_pos k) (root_as q k r) (ap (λ (y : ℕ). y * y) (upper_root n b P B refl) ∙ square_times b (2 ^ 26) ∙ ap (λ (y : ℕ). y * (2 ^ 26 * 2 ^ 26)) B))))

  radicand_scaled : (w : ℕ) → HasValue x false w (2 ^ 2148) → (radicand w * 4 ^ (size (isqrt w) - 54) ≡ w) × (size (isqrt (radicand w)) ≡ 54)
  radicand_scaled w v =
      let N = m * 2 ^ (e + 1022) in
      let s : N ≡ w = eq_of_mul-eq-mul_right (2 ^ 2148) (pow_pos 2148) N w (cross x false N (2 ^ 2148) w (2 ^ 2148) x_value v) in
      let c = cut_is m e i.low i.high i.room in
      let p = radicand_part m e i.low i.high i.room in
      let k = isqrt_within (part m e) in
      let l = n_le in
      let g = n_lt in
      let lo : 2 ^ 53 < suc (isqrt (part m e)) = square_back (2 ^ 53) (suc (isqrt (part m e))) (lt_of_le_of_lt (least n l) k.high) in
      let hi : isqrt (part m e) < 2 ^ 54 = square_back (isqrt (part m e)) (2 ^ 54) (lt_of_le_of_lt k.low (most n g)) in
      let back : radicand N * 4 ^ (size (isqrt N) - 54) ≡ N =
      ap (λ (y : ℕ). y * 4 ^ (size (isqrt N) - 54)) p ∙ ap (λ (y : ℕ). part m e * y) c ∙ sym (whole m e i.low i.high i.room) in
      let long : size (isqrt (radicand N)) ≡ 54 = ap (λ (y : ℕ). size (isqrt y)) p ∙ size_exact 53 (isqrt (part m e)) (le_of_suc-le-suc lo) hi in
      subst (λ (y : ℕ). (radicand y * 4 ^ (size (isqrt y) - 54) ≡ y) × (size (isqrt (radicand y)) ≡ 54)) s (back, long)
    where
      least : (n : ℕ) → 2 ^ 52 ≤ n → 2 ^ 53 * 2 ^ 53 ≤ n * 2 ^ 54
      least n l = omega arith

      most : (n : ℕ) → n < 2 ^ 54 → n * 2 ^ 54 < 2 ^ 54 * 2 ^ 54
      most n l = omega arith

-- ---- the statements
-- zero is its own root, and has no digits
abbrev significand : Float → ℕ
significand nan = 0
significand (inf s) = 0
significand (fin s m e) = m

nought : (q : ℕ) (e k : ℤ) → root_of (fin false zero k) ≡ fin false q e → (digits_of (fin false zero k) ≡ size q) × (size q ≤ 27)
unfolding root_of digits_of
nought q e k r = let z : size q ≡ 0 = ap size (sym (ap significand r)) ∙ none in (sym z, le_trans (le_of_eq z) (omega arith))
  where
    none : size 0 ≡ 0
    none = unfold size span climb in refl

pub exact_count : ExactCount
exact_count nan F q e (r, v) = absurd v
exact_count (inf s) F q e (r, v) = absurd v
exact_count (fin true m k) F q e (r, v) = absurd (true≢false v.0)
exact_count (fin false zero k) F q e (r, v) = nought q e k r
exact_count (fin false (suc m) k) F q e x = let s = scaled_of (fin false (suc m) k) F (lt→ltb 0 (suc m) (zero-lt-suc m)) in exact_scaled (fin false (suc m) k) s.0 s.1 s.2 q e x

pub inexact_count : InexactCount
inexact_count x F P h = let s = scaled_of x F P in inexact_scaled x s.0 s.1 s.2 h

pub radicand_is_exact : RadicandIsExact
radicand_is_exact x F P n v = let s = scaled_of x F P in radicand_scaled x s.0 s.1 s.2 n v
