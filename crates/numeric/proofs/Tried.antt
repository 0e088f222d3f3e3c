-- How many digits of a root are tried: all that are left where no prefix has the square, and those of its odd part where the root is exact. Assumes nothing.
use Rattle.std.proofs.Common.{◌≡◌, ℕ, zero, suc, ◌+◌, ◌-◌, ◌*◌, ◌/◌, ◌%◌, ◌^◌, ◌<◌, ◌≤◌, Bool, true, false, cond, eqb, sym, refl, ap, ◌∙◌, inl, inr, le_trans, le_of_eq, lt_of_lt_of_le, le_of_suc-le-suc, lt_of_le_of_lt, mul-le-mul_right, mul_assoc, mul_comm, mul-le-mul, lt_of_mul-lt-mul_right, eq-or-lt_of_le, one-mul, lt_of_not-le, mul-one, not-le_of_lt, le_of_mul-le-mul_right, arith, eqb→eq, pow_pos, pow_mono, pow-add}
use native.Mathlib.Nat.{eq_of_mul-eq-mul_right, pow-succ'}
use lib.Dec.{not_T}
use lib.Arith.{lt_of_le-ne}
use lib.Bits.{shifted_even}
use lib.Pow.{shl-shr, split}
use lib.Count.{count_trailing_zeros, under}
use lib.Ieee.{size}
use lib.Ieee.Bits.{is_true, is_false}
use lib.Ieee.Fits.{eq→eqb}
use lib.Ieee.Nearest.{closest}
use Rattle.numeric.specs.Root.{isqrt, halves}
use Rattle.numeric.specs.Digits.{prefix, tried_below, digits_tried}
use Rattle.numeric.proofs.Near.{closest_lt}
use Rattle.numeric.proofs.Pack.{size_exact}
use Rattle.numeric.proofs.Squares.{square_suc, square_back, square_times, square_down, isqrt_is, isqrt_within, halves_exact}

-- ---- squares
differ : (a b : ℕ) → a < b → a ≡ b → ⊥
differ a b h e = omega arith

pub square_lt : (a b : ℕ) → a < b → a * a < b * b
square_lt a b h = let x : suc a * suc a ≤ b * b = mul-le-mul h h in let y = square_suc a in omega arith

pub square_one : (a b : ℕ) → a * a ≡ b * b → a ≡ b
square_one a b e = go (leq a b (le_of_eq e)) (leq b a (le_of_eq (sym e)))
  where
    leq : (a b : ℕ) → a * a ≤ b * b → a ≤ b
    leq a b h = le_of_suc-le-suc (square_back a (suc b) (lt_of_le_of_lt h (square_lt b (suc b) (omega arith))))

    go : a ≤ b → b ≤ a → a ≡ b
    go h k = omega arith

pub isqrt_exact : (n q : ℕ) → q * q ≡ n → isqrt n ≡ q
isqrt_exact n q e = isqrt_is n q (record { low = le_of_eq e; high = lt_of_le_of_lt (le_of_eq (sym e)) (square_lt q (suc q) (omega arith)) })

-- ---- one digit more
prefix_le : (q left : ℕ) → prefix q left ≤ q
prefix_le q left = let s = split q left in omega arith

goes_on : (n q left : ℕ) → (prefix q left * prefix q left ≡ n → ⊥) → tried_below n q (suc left) ≡ suc (tried_below n q left)
unfolding tried_below
goes_on n q left h =
    let p = prefix q left in
    ap (λ (t : Bool). 1 + cond t 0 (tried_below n q left)) (is_false (eqb (p * p) n) (not_T (eqb (p * p) n) (λ t. h (eqb→eq (p * p) n t))))
    ∙ one_more_lem (tried_below n q left)
  where
    one_more_lem : (a : ℕ) → 1 + a ≡ suc a
    one_more_lem a = omega arith

stops : (n q left : ℕ) → prefix q left * prefix q left ≡ n → tried_below n q (suc left) ≡ 1
unfolding tried_below
stops n q left e = let p = prefix q left in ap (λ (t : Bool). 1 + cond t 0 (tried_below n q left)) (is_true (eqb (p * p) n) (eq→eqb e))

pub tried_le : (n q left : ℕ) → tried_below n q left ≤ left
unfolding tried_below
tried_le n q zero = le_of_eq refl
tried_le n q (suc left) = go (eqb (prefix q left * prefix q left) n) (tried_le n q left)
  where
    go : (t : Bool) → tried_below n q left ≤ left → 1 + cond t 0 (tried_below n q left) ≤ suc left
    go true h = omega arith
    go false h = omega arith

pub tried_pos : (n q left : ℕ) → 0 < tried_below n q (suc left)
unfolding tried_below
tried_pos n q left = let c = cond (eqb (prefix q left * prefix q left) n) 0 (tried_below n q left) in at_least c
  where
    at_least : (c : ℕ) → 0 < 1 + c
    at_least c = omega arith

-- ---- a root that is not exact
none_below : (n q : ℕ) → tried_below n q 0 ≡ 0
unfolding tried_below
none_below n q = refl

pub tried_all : (n q left : ℕ) → q * q < n → tried_below n q left ≡ left
tried_all n q zero h = none_below n q
tried_all n q (suc left) h =
    let p = prefix_le q left in
    goes_on n q left (differ (prefix q left * prefix q left) n (lt_of_le_of_lt (mul-le-mul p p) h)) ∙ ap suc (tried_all n q left h)

-- ---- an exact one: an odd number with z zeros after it
even_power : (v k : ℕ) → (v * 2 ^ suc k) % 2 ≡ 0
even_power v k = shifted_even v k

-- no prefix above the zeros is the whole
shorter : (o z left : ℕ) → o % 2 ≡ 1 → z < left → prefix (o * 2 ^ z) left ≡ o * 2 ^ z → ⊥
shorter o z left h l e = odd_even o (v * 2 ^ suc k) h (even_power v k) same
  where
    k : ℕ
    k = left - suc z

    v : ℕ
    v = o * 2 ^ z / 2 ^ left

    sum : left ≡ suc k + z
    sum = omega arith

    same : v * 2 ^ suc k ≡ o
    same =
        eq_of_mul-eq-mul_right (2 ^ z) (pow_pos z) (v * 2 ^ suc k) o
        (mul_assoc v (2 ^ suc k) (2 ^ z) ∙ ap (λ (x : ℕ). v * x) (sym (pow-add 2 (suc k) z) ∙ ap (λ (x : ℕ). 2 ^ x) (sym sum)) ∙ e)

    odd_even : (a b : ℕ) → a % 2 ≡ 1 → b % 2 ≡ 0 → b ≡ a → ⊥
    odd_even a b h k e = omega arith

pub tried_odd : (o z left : ℕ) → o % 2 ≡ 1 → z < left → tried_below (o * 2 ^ z * (o * 2 ^ z)) (o * 2 ^ z) left ≡ left - z
tried_odd o z zero h l = absurd (none z l)
  where
    none : (z : ℕ) → z < 0 → ⊥
    none z l = omega arith
tried_odd o z (suc left) h l =
    let q = o * 2 ^ z in
    elim (eq-or-lt_of_le (le_of_suc-le-suc l)) [
      | inl e ↦
          let p : prefix q left ≡ q = ap (λ (x : ℕ). q / 2 ^ x * 2 ^ x) (sym e) ∙ ap (λ (x : ℕ). x * 2 ^ z) (shl-shr o z) in
          stops (q * q) q left (ap (λ (x : ℕ). x * x) p) ∙ last z left e
      | inr g ↦ goes_on (q * q) q left (λ e. shorter o z left h g (square_one (prefix q left) q e)) ∙ ap suc (tried_odd o z left h g) ∙ more z left g
    ]
  where
    last : (z left : ℕ) → z ≡ left → 1 ≡ suc left - z
    last z left e = omega arith

    more : (z left : ℕ) → z < left → suc (left - z) ≡ suc left - z
    more z left g = omega arith

-- ---- a number is an odd one with zeros after it
pub odd_part : (d a : ℕ) → 0 < a → a < 2 ^ d → (o : ℕ) × (o % 2 ≡ 1) × (a ≡ o * 2 ^ count_trailing_zeros d a)
unfolding count_trailing_zeros
odd_part zero a p h = absurd (none a p h)
  where
    none : (a : ℕ) → 0 < a → a < 1 → ⊥
    none a p h = omega arith
odd_part (suc d) a p h = go (a % 2) refl (odd_part d (a / 2))
  where
    half_lt : a / 2 < 2 ^ d
    half_lt = let e : 2 ^ suc d ≡ 2 * 2 ^ d = pow-succ' 2 d in omega arith

    go : (r : ℕ) → a % 2 ≡ r → (0 < a / 2 → a / 2 < 2 ^ d → (o : ℕ) × (o % 2 ≡ 1) × (a / 2 ≡ o * 2 ^ count_trailing_zeros d (a / 2)))
        → (o : ℕ) × (o % 2 ≡ 1) × (a ≡ o * 2 ^ under r (count_trailing_zeros d (a / 2)))
    go zero e half =
        let t = count_trailing_zeros d (a / 2) in
        let i = half (omega arith) half_lt in
        let x : 2 ^ suc t ≡ 2 ^ t * 2 = pow-succ' 2 t ∙ mul_comm 2 (2 ^ t) in
        let y : a ≡ a / 2 * 2 = omega arith in
        (i.0, i.1, y ∙ ap (λ (z : ℕ). z * 2) i.2 ∙ mul_assoc i.0 (2 ^ t) 2 ∙ ap (λ (z : ℕ). i.0 * z) (sym x))
    go (suc r) e half = (a, odd a r e, sym (mul-one a))
      where
        odd : (a r : ℕ) → a % 2 ≡ suc r → a % 2 ≡ 1
        odd a r e = omega arith

-- and in one way only
pub odd_one : (a b i j : ℕ) → a % 2 ≡ 1 → b % 2 ≡ 1 → a * 2 ^ i ≡ b * 2 ^ j → a ≡ b
odd_one a b zero zero h k e = sym (mul-one a) ∙ e ∙ mul-one b
odd_one a b zero (suc j) h k e = absurd (no a (b * 2 ^ suc j) h (shifted_even b j) (sym (mul-one a) ∙ e))
  where
    no : (a c : ℕ) → a % 2 ≡ 1 → c % 2 ≡ 0 → a ≡ c → ⊥
    no a c h k e = omega arith
odd_one a b (suc i) zero h k e = absurd (no b (a * 2 ^ suc i) k (shifted_even a i) (e ∙ mul-one b))
  where
    no : (a c : ℕ) → a % 2 ≡ 1 → c % 2 ≡ 0 → c ≡ a → ⊥
    no a c h k e = omega arith
odd_one a b (suc i) (suc j) h k e = odd_one a b i j h k (eq_of_mul-eq-mul_right 2 (omega arith) (a * 2 ^ i) (b * 2 ^ j) (half a i ∙ e ∙ sym (half b j)))
  where
    half : (a i : ℕ) → a * 2 ^ i * 2 ≡ a * 2 ^ suc i
    half a i = mul_assoc a (2 ^ i) 2 ∙ ap (λ (x : ℕ). a * x) (mul_comm (2 ^ i) 2 ∙ sym (pow-succ' 2 i))

-- ---- the root of n * 2 ^ 54, for an n of 53 or 54 digits
pub shifted_square : (n b : ℕ) → b * b ≡ n → b * 2 ^ 27 * (b * 2 ^ 27) ≡ n * 2 ^ 54
shifted_square n b e = square_times b (2 ^ 27) ∙ ap (λ (x : ℕ). x * 2 ^ 54) e

-- an odd number with zeros after it has no more zeros than digits
zeros_lt : (o t d : ℕ) → o % 2 ≡ 1 → o * 2 ^ t < 2 ^ d → t < d
zeros_lt o t d h l = lt_of_not-le (λ (g : d ≤ t). not-le_of_lt l (le_trans (pow_mono g) (le_trans (le_of_eq (sym (one-mul (2 ^ t)))) (mul-le-mul_right (2 ^ t) (one_le o h)))))
  where
    one_le : (o : ℕ) → o % 2 ≡ 1 → 1 ≤ o
    one_le o h = omega arith

pub digits_square : (n b o t : ℕ) → n < 2 ^ 54 → b * b ≡ n → o % 2 ≡ 1 → b ≡ o * 2 ^ t → (digits_tried (n * 2 ^ 54) ≡ 27 - t) × (t < 27)
unfolding digits_tried
digits_square n b o t N e h s =
    let l : b < 2 ^ 27 = square_back b (2 ^ 27) (lt_of_le_of_lt (le_of_eq e) N) in
    let t_lt : t < 27 = zeros_lt o t 27 h (lt_of_le_of_lt (le_of_eq (sym s)) l) in
    let q : b * 2 ^ 27 ≡ o * 2 ^ (t + 27) = ap (λ (x : ℕ). x * 2 ^ 27) s ∙ mul_assoc o (2 ^ t) (2 ^ 27) ∙ ap (λ (x : ℕ). o * x) (sym (pow-add 2 t 27)) in
    let r : n * 2 ^ 54 ≡ o * 2 ^ (t + 27) * (o * 2 ^ (t + 27)) = sym (shifted_square n b e) ∙ ap (λ (x : ℕ). x * x) q in (
      ap (λ (x : ℕ). tried_below (n * 2 ^ 54) x 54) (isqrt_exact (n * 2 ^ 54) (o * 2 ^ (t + 27)) (sym r))
          ∙ ap (λ (x : ℕ). tried_below x (o * 2 ^ (t + 27)) 54) r
          ∙ tried_odd o (t + 27) 54 h (omega arith)
          ∙ rest t t_lt,
      t_lt,
    )
  where
    rest : (t : ℕ) → t < 27 → 54 - (t + 27) ≡ 27 - t
    rest t l = omega arith

pub digits_other : (n : ℕ) → ((b : ℕ) → b * b ≡ n → ⊥) → digits_tried (n * 2 ^ 54) ≡ 54
unfolding digits_tried
digits_other n none =
    let q = isqrt (n * 2 ^ 54) in
    tried_all (n * 2 ^ 54) q 54 (lt_of_le-ne (isqrt_within (n * 2 ^ 54)).low (λ e. let b = square_down n 27 q e in none b.0 b.1))

-- the 27 upper digits of the rounded root, if n is a square
pub upper_root : (n b r : ℕ) → b * b ≡ n → r ≡ closest (halves (n * 2 ^ 54)) 4 → r ≡ b * 2 ^ 26
upper_root n b r e s =
    let h : halves (n * 2 ^ 54) ≡ 2 * (b * 2 ^ 27) = halves_exact (n * 2 ^ 54) (b * 2 ^ 27) (shifted_square n b e) in
    s ∙ ap (λ (x : ℕ). closest x 4) h ∙ closest_lt (2 * (b * 2 ^ 27)) 4 (omega arith) ∙ quarter b
  where
    quarter : (b : ℕ) → 2 * (b * 2 ^ 27) / 4 ≡ b * 2 ^ 26
    quarter b = omega arith

-- how many digits the odd part has, where zeros fill it up to 27
pub size_odd : (b o t : ℕ) → 2 ^ 26 ≤ b → b < 2 ^ 27 → t < 27 → b ≡ o * 2 ^ t → size o ≡ 27 - t
size_odd b o t lo hi l s = go (26 - t) (omega arith)
  where
    go : (z : ℕ) → z + t ≡ 26 → size o ≡ 27 - t
    go z e =
        let low : 2 ^ z * 2 ^ t ≤ o * 2 ^ t = le_trans (le_of_eq (sym (pow-add 2 z t) ∙ ap (λ (x : ℕ). 2 ^ x) e)) (le_trans lo (le_of_eq s)) in
        let f : suc z + t ≡ 27 = omega arith in
        let high : o * 2 ^ t < 2 ^ suc z * 2 ^ t = lt_of_le_of_lt (le_of_eq (sym s)) (lt_of_lt_of_le hi (le_of_eq (ap (λ (x : ℕ). 2 ^ x) (sym f) ∙ pow-add 2 (suc z) t))) in
        size_exact z o (le_of_mul-le-mul_right low (pow_pos t)) (lt_of_mul-lt-mul_right (2 ^ t) high) ∙ last z e
      where
        last : (z : ℕ) → z + t ≡ 26 → suc z ≡ 27 - t
        last z e = omega arith
