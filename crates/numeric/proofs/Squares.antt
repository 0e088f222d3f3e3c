-- The whole square root: `isqrt` is the one q with q * q ≤ n < (q + 1) * (q + 1), and `halves` of n times 4 ^ t rounds, t places further down, as that of n does. Assumes nothing.
use Rattle.std.proofs.Common.{◌≡◌, ℕ, zero, suc, ◌+◌, ◌-◌, ◌*◌, ◌/◌, ◌%◌, ◌^◌, ◌<◌, ◌≤◌, Bool, true, false, cond, not, T, eqb, leb, sym, refl, ap, ◌∙◌, subst, inl, inr, le_of_eq, lt_of_lt_of_le, le_of_suc-le-suc, lt_of_le_of_lt, add-zero, le_of_lt, zero-lt-suc, mul_assoc, suc-mul, mul_comm, add-mul, mul-le-mul, le_antisymm, eq-or-lt_of_le, mul-lt-mul_of_pos_right, mul-pos, lt_of_not-le, mul-one, mul-suc, mul-add, not-le_of_lt, mul_left_comm, add-one, arith, eqb→eq, leb→le}
use native.Mathlib.Nat.{pow-succ'}
use native.Mathlib.Decide.{dec_lt}
use lib.Dec.{nleb→lt, not_T}
use lib.Arith.{digits_div, digits_mod}
use lib.Ieee.Bits.{is_true, is_false}
use lib.Ieee.Fits.{eq→eqb}
use lib.Ieee.Nearest.{closest, closest_same}
use Rattle.numeric.specs.Root.{root_within, isqrt, halves}
use Rattle.numeric.proofs.Near.{closest_lt, closest_gt}

-- ---- squares
pub square_double : (p : ℕ) → 2 * p * (2 * p) ≡ 4 * (p * p)
square_double p = let e : 2 * p * (2 * p) ≡ 2 * (2 * (p * p)) = simp (mul_assoc, mul_left_comm) in omega arith

pub square_suc : (q : ℕ) → suc q * suc q ≡ q * q + 2 * q + 1
square_suc q = let e : suc q * suc q ≡ q * q + q + suc q = suc-mul q (suc q) ∙ ap (λ (x : ℕ). x + suc q) (mul-suc q q) in omega arith

pub square_sum : (a b : ℕ) → (a + b) * (a + b) ≡ a * a + 2 * (a * b) + b * b
square_sum a b =
    let e : (a + b) * (a + b) ≡ a * a + a * b + (a * b + b * b) = add-mul a b (a + b) ∙ ap (λ (x : ℕ). x + b * (a + b)) (mul-add a a b) ∙ ap (λ (x : ℕ). a * a + a * b + x)
    (mul-add b a b ∙ ap (λ (x : ℕ). x + b * b) (mul_comm b a)) in
    omega arith

-- a number moved by one, and what its square leaves
pub square_up : (c w k : ℕ) → w + c * c ≡ k → c * 2 + 1 ≤ w → w - (c * 2 + 1) + (c + 1) * (c + 1) ≡ k
square_up c w k e h = let s = square_suc c in let i : (c + 1) * (c + 1) ≡ suc c * suc c = ap (λ (x : ℕ). x * x) (add-one c) in omega arith

pub square_down_one : (c w k : ℕ) → w + c * c ≡ k → 0 < c → w + (c * 2 - 1) + (c - 1) * (c - 1) ≡ k
square_down_one c w k e h =
    let s = square_suc (c - 1) in
    let x : c ≡ suc (c - 1) = omega arith in
    let i : c * c ≡ suc (c - 1) * suc (c - 1) = ap (λ (y : ℕ). y * y) x in
    omega arith

pub square_back : (a b : ℕ) → a * a < b * b → a < b
square_back a b h = lt_of_not-le (λ (g : b ≤ a). not-le_of_lt h (mul-le-mul g g))

-- ---- the root
pub record Within (n q : ℕ) : Type 0 where
  pub low : q * q ≤ n
  pub high : n < suc q * suc q

within : (d n : ℕ) → n ≤ d → Within n (root_within d n)
unfolding root_within
within zero n h = record { low = omega arith; high = omega arith }
within (suc d) zero h = record { low = omega arith; high = omega arith }
within (suc d) (suc n) h = go (leb ((2 * p + 1) * (2 * p + 1)) (suc n)) (leb→le ((2 * p + 1) * (2 * p + 1)) (suc n)) (nleb→lt ((2 * p + 1) * (2 * p + 1)) (suc n)) (within d (suc n / 4) (omega arith))
  where
    p : ℕ
    p = root_within d (suc n / 4)

    go : (t : Bool) → (T t → (2 * p + 1) * (2 * p + 1) ≤ suc n) → (T (not t) → suc n < (2 * p + 1) * (2 * p + 1)) → Within (suc n / 4) p → Within (suc n) (2 * p + cond t 1 0)
    go true a b w =
        let l : suc n / 4 < suc p * suc p = w.high in
        let e : suc (2 * p + 1) ≡ 2 * suc p = omega arith in
        record {
          low = a tt;
          high = subst (λ (x : ℕ). suc n < x * x) (sym e) (subst (λ (x : ℕ). suc n < x) (sym (square_double (suc p))) (omega arith));
        }
    go false a b w =
        let l : p * p ≤ suc n / 4 = w.low in
        let e : 2 * p + 0 ≡ 2 * p = omega arith in
        subst (λ (x : ℕ). Within (suc n) x) (sym e)
        (record { low = subst (λ (x : ℕ). x ≤ suc n) (sym (square_double p)) (omega arith); high = subst (λ (x : ℕ). suc n < x * x) (add-one (2 * p)) (b tt) })

-- the law of `isqrt`, and that it is the only such number
pub isqrt_within : (n : ℕ) → Within n (isqrt n)
isqrt_within n = within n n (le_of_eq refl)

pub isqrt_is : (n q : ℕ) → Within n q → isqrt n ≡ q
isqrt_is n q w =
    let v = isqrt_within n in
    le_antisymm (le_of_suc-le-suc (square_back (isqrt n) (suc q) (lt_of_le_of_lt v.low w.high))) (le_of_suc-le-suc (square_back q (suc (isqrt n)) (lt_of_le_of_lt w.low v.high)))

-- ---- halves
halves_at : (n q : ℕ) → isqrt n ≡ q → halves n ≡ 2 * q + cond (eqb (q * q) n) 0 1
unfolding halves
halves_at n q e = ap (λ (x : ℕ). 2 * x + cond (eqb (x * x) n) 0 1) e

grows : (q n : ℕ) → n ≡ q * q → n < suc q * suc q
grows q n e = let s = square_suc q in omega arith

pub halves_exact : (n q : ℕ) → q * q ≡ n → halves n ≡ 2 * q
halves_exact n q e =
    halves_at n q (isqrt_is n q (record { low = le_of_eq e; high = grows q n (sym e) }))
    ∙ ap (λ (t : Bool). 2 * q + cond t 0 1) (is_true (eqb (q * q) n) (eq→eqb e))
    ∙ plus_zero (2 * q)
  where
    plus_zero : (a : ℕ) → a + 0 ≡ a
    plus_zero a = omega arith

differ : (a b : ℕ) → a < b → a ≡ b → ⊥
differ a b h e = omega arith

pub halves_between : (n q : ℕ) → q * q < n → n < suc q * suc q → halves n ≡ 2 * q + 1
halves_between n q l h =
    halves_at n q (isqrt_is n q (record { low = le_of_lt l; high = h }))
    ∙ ap (λ (t : Bool). 2 * q + cond t 0 1) (is_false (eqb (q * q) n) (not_T (eqb (q * q) n) (λ t. differ (q * q) n l (eqb→eq (q * q) n t))))

-- a root and its remainder
pub halves_rest : (n q r : ℕ) → q * q + r ≡ n → 0 < r → r ≤ 2 * q → halves n ≡ 2 * q + 1
halves_rest n q r e p h = let s = square_suc q in halves_between n q (omega arith) (omega arith)

-- ---- the whole number nearest to √n: c * c - c < n ≤ c * c + c, since no square of a half is a whole number
quarter_at : (x c : ℕ) → 4 * c ≤ x → x < 4 * c + 2 → closest x 4 ≡ c
quarter_at x c l h = closest_lt x 4 (omega arith) ∙ is
  where
    is : x / 4 ≡ c
    is = omega arith

quarter_under : (x c : ℕ) → x + 1 ≡ 4 * c → closest x 4 ≡ c
quarter_under x c e = closest_gt x 4 (omega arith) ∙ is
  where
    is : x / 4 + 1 ≡ c
    is = omega arith

pub closest_root : (n c : ℕ) → c * c < n + c → n ≤ c * c + c → closest (halves (4 * n)) 4 ≡ c
closest_root n c a b = go (dec_lt n (c * c))
  where
    above : c * c ≤ n → closest (halves (4 * n)) 4 ≡ c
    above l =
        let f = square_double c in
        elim (eq-or-lt_of_le l) [
          | inl e ↦ let x : halves (4 * n) ≡ 2 * (2 * c) = halves_exact (4 * n) (2 * c) (f ∙ ap (λ (y : ℕ). 4 * y) e) in quarter_at (halves (4 * n)) c (omega arith) (omega arith)
          | inr g ↦
              let s = square_suc (2 * c) in
              let x : halves (4 * n) ≡ 2 * (2 * c) + 1 = halves_between (4 * n) (2 * c) (omega arith) (omega arith) in
              quarter_at (halves (4 * n)) c (omega arith) (omega arith)
        ]

    under : (p : ℕ) → c ≡ suc p → n < c * c → closest (halves (4 * n)) 4 ≡ c
    under p e h =
        let s = square_suc p in
        let t = square_suc (2 * p) in
        let d = square_double p in
        let f = square_double c in
        let i : c * c ≡ suc p * suc p = ap (λ (x : ℕ). x * x) e in
        let k : suc (suc (2 * p)) ≡ 2 * c = omega arith in
        let j : suc (suc (2 * p)) * suc (suc (2 * p)) ≡ 2 * c * (2 * c) = ap (λ (x : ℕ). x * x) k in
        let x : halves (4 * n) ≡ 2 * suc (2 * p) + 1 = halves_between (4 * n) (suc (2 * p)) (omega arith) (omega arith) in
        quarter_under (halves (4 * n)) c (omega arith)

    go : Dec (n < c * c) → closest (halves (4 * n)) 4 ≡ c
    go (yes h) = let p : 0 < c = square_back 0 c (omega arith) in under (c - 1) (omega arith) h
    go (no h) = above (omega arith)

-- ---- halves of n * 4 ^ t, with u for 2 ^ t
pub square_times : (q u : ℕ) → q * u * (q * u) ≡ q * q * (u * u)
square_times q u = simp (mul_assoc, mul_left_comm)

-- a quotient and a remainder by 4 * u
parts : (a v r u : ℕ) → a ≡ v * (4 * u) + r → r < 4 * u → (a / (4 * u) ≡ v) × (a % (4 * u) ≡ r)
parts a v r u e h = (ap (λ (x : ℕ). x / (4 * u)) e ∙ digits_div v h, ap (λ (x : ℕ). x % (4 * u)) e ∙ digits_mod v h)

-- what lies strictly between two even numbers of quarters rounds as the odd number between them does
even_quarters : (a v u : ℕ) → v * (4 * u) < a → a < v * (4 * u) + 2 * u → closest a (4 * u) ≡ v
even_quarters a v u l h =
    let p = parts a v (a - v * (4 * u)) u (omega arith) (omega arith) in
    let e = p.1 in
    closest_lt a (4 * u) (rw e (omega arith)) ∙ p.0

odd_quarters : (a v u : ℕ) → v * (4 * u) + 2 * u < a → a < v * (4 * u) + 4 * u → closest a (4 * u) ≡ v + 1
odd_quarters a v u l h =
    let p = parts a v (a - v * (4 * u)) u (omega arith) (omega arith) in
    let e = p.1 in
    closest_gt a (4 * u) (rw e (omega arith)) ∙ ap (λ (x : ℕ). x + 1) p.0

between_quarters : (a q u : ℕ) → q * u * 2 < a → a < q * u * 2 + 2 * u → closest a (4 * u) ≡ closest (2 * q + 1) 4
between_quarters a q u l h = go (q / 2) (q % 2) (omega arith) (omega arith)
  where
    times : (v : ℕ) → v * (4 * u) ≡ 4 * (v * u)
    times v = mul_left_comm v 4 u

    doubled : (v : ℕ) → 2 * v * u ≡ 2 * (v * u)
    doubled v = mul_assoc 2 v u

    go : (v b : ℕ) → q ≡ 2 * v + b → b < 2 → closest a (4 * u) ≡ closest (2 * q + 1) 4
    go v zero e k =
        let w : q * u ≡ 2 * (v * u) = ap (λ (x : ℕ). x * u) (e ∙ plain (2 * v)) ∙ doubled v in
        let t = times v in
        even_quarters a v u (omega arith) (omega arith) ∙ sym (closest_lt (2 * q + 1) 4 (omega arith) ∙ quarter)
      where
        plain : (x : ℕ) → x + 0 ≡ x
        plain x = omega arith

        quarter : (2 * q + 1) / 4 ≡ v
        quarter = omega arith
    go v (suc zero) e k =
        let w : q * u ≡ 2 * (v * u) + u = ap (λ (x : ℕ). x * u) (e ∙ add-one (2 * v)) ∙ suc-mul (2 * v) u ∙ ap (λ (x : ℕ). x + u) (doubled v) in
        let t = times v in
        odd_quarters a v u (omega arith) (omega arith) ∙ sym (closest_gt (2 * q + 1) 4 (omega arith) ∙ ap (λ (x : ℕ). x + 1) quarter)
      where
        quarter : (2 * q + 1) / 4 ≡ v
        quarter = omega arith
    go v (suc (suc b)) e k = absurd (too_large b k)
      where
        too_large : (b : ℕ) → suc (suc b) < 2 → ⊥
        too_large b k = omega arith

module _ (n u : ℕ) (U : 0 < u) where
  UU : 0 < u * u
  UU = mul-pos U U

  scaled_exact : (q : ℕ) → q * q ≡ n → closest (halves (n * (u * u))) (4 * u) ≡ closest (halves n) 4
  scaled_exact q e =
      ap (λ (x : ℕ). closest x (4 * u)) (halves_exact (n * (u * u)) (q * u) (square_times q u ∙ ap (λ (x : ℕ). x * (u * u)) e))
      ∙ closest_same (2 * (q * u)) (4 * u) (2 * q) 4 (mul-pos (zero-lt-suc 3) U) (zero-lt-suc 3) (simp (mul_assoc, mul_comm, mul_left_comm))
      ∙ ap (λ (x : ℕ). closest x 4) (sym (halves_exact n q e))

  scaled_between : (q : ℕ) → q * q < n → n < suc q * suc q → closest (halves (n * (u * u))) (4 * u) ≡ closest (halves n) 4
  scaled_between q l h =
      let N = n * (u * u) in
      let w = isqrt_within N in
      let p = isqrt N in
      let under : q * u * (q * u) < N = lt_of_le_of_lt (le_of_eq (square_times q u)) (mul-lt-mul_of_pos_right l UU) in
      let over : N < suc q * u * (suc q * u) = lt_of_lt_of_le (mul-lt-mul_of_pos_right h UU) (le_of_eq (sym (square_times (suc q) u))) in
      let p_lo : q * u < suc p = square_back (q * u) (suc p) (lt_of_lt_of_le under (le_of_lt w.high)) in
      let p_hi : p < suc q * u = square_back p (suc q * u) (lt_of_le_of_lt w.low over) in
      let s : suc q * u ≡ q * u + u = suc-mul q u in
      let inside : (q * u * 2 < halves N) × (halves N < q * u * 2 + 2 * u) = elim (eq-or-lt_of_le w.low) [
        | inl e ↦
            let x : halves N ≡ 2 * p = halves_exact N p e in
            let y : q * u < p = square_back (q * u) p (lt_of_lt_of_le under (le_of_eq (sym e))) in
            (omega arith, omega arith)
        | inr g ↦ let x : halves N ≡ 2 * p + 1 = halves_between N p g w.high in (omega arith, omega arith)
      ] in
      between_quarters (halves N) q u inside.0 inside.1 ∙ ap (λ (x : ℕ). closest x 4) (sym (halves_between n q l h))

  pub scaled : closest (halves (n * (u * u))) (4 * u) ≡ closest (halves n) 4
  scaled =
      let w = isqrt_within n in
      elim (eq-or-lt_of_le w.low) [
        | inl e ↦ scaled_exact (isqrt n) e
        | inr g ↦ scaled_between (isqrt n) g w.high
      ]

-- ---- how large it is
pub halves_lo : (n a : ℕ) → a * a ≤ n → 2 * a ≤ halves n
halves_lo n a h =
    let w = isqrt_within n in
    let p = isqrt n in
    let g : a < suc p = square_back a (suc p) (lt_of_le_of_lt h w.high) in
    elim (eq-or-lt_of_le w.low) [
      | inl e ↦ let x = halves_exact n p e in omega arith
      | inr l ↦ let x = halves_between n p l w.high in omega arith
    ]

pub halves_hi : (n a : ℕ) → n < a * a → halves n < 2 * a
halves_hi n a h =
    let w = isqrt_within n in
    let p = isqrt n in
    let g : p < a = square_back p a (lt_of_le_of_lt w.low h) in
    elim (eq-or-lt_of_le w.low) [
      | inl e ↦ let x = halves_exact n p e in omega arith
      | inr l ↦ let x = halves_between n p l w.high in omega arith
    ]

-- a square times 4 ^ t is a square only if it was one
half_square : (p k : ℕ) → p * p ≡ 4 * k → p / 2 * (p / 2) ≡ k
half_square p k e = go (p / 2) (p % 2) (omega arith) (omega arith)
  where
    go : (v b : ℕ) → p ≡ 2 * v + b → b < 2 → v * v ≡ k
    go v zero w h = let s = square_double v in let x : p * p ≡ 2 * v * (2 * v) = ap (λ (y : ℕ). y * y) (w ∙ add-zero (2 * v)) in omega arith
    go v (suc zero) w h =
        let s = square_double v in
        let u = square_suc (2 * v) in
        let x : p * p ≡ suc (2 * v) * suc (2 * v) = ap (λ (y : ℕ). y * y) (w ∙ add-one (2 * v)) in
        absurd (odd_never (v * v) v k (omega arith))
      where
        odd_never : (a b c : ℕ) → 4 * a + 2 * (2 * b) + 1 ≡ 4 * c → ⊥
        odd_never a b c h = omega arith
    go v (suc (suc b)) w h = absurd (too_large b h)
      where
        too_large : (b : ℕ) → suc (suc b) < 2 → ⊥
        too_large b h = omega arith

pub square_down : (n t p : ℕ) → p * p ≡ n * (2 ^ t * 2 ^ t) → (q : ℕ) × (q * q ≡ n)
square_down n zero p e = (p, e ∙ mul-one n)
square_down n (suc t) p e =
    square_down n t (p / 2)
    (half_square p (n * (2 ^ t * 2 ^ t))
    (e ∙ ap (λ (x : ℕ). n * (x * x)) (pow-succ' 2 t) ∙ ap (λ (x : ℕ). n * x) (square_double (2 ^ t)) ∙ mul_left_comm n 4 (2 ^ t * 2 ^ t)))
