-- Whole numbers as floats, over the format: sums are those of the integers, and so are the squares and the product by one. A sum or a product of two floats
-- that have whole values is one rounding of the whole number; that the values are whole is `round_whole` of the library. Assumes nothing.
use Rattle.std.proofs.Common.{◌≡◌, ℕ, suc, ◌+◌, ◌-◌, ◌*◌, ◌^◌, ◌<◌, ◌≤◌, Bool, true, false, ◌&&◌, ltb, ℤ, pos, negsuc, ◌+ℤ◌, ◌*ℤ◌, nat_abs, sym, refl, ap, ◌∙◌, mul-le-mul_right, zero-lt-suc, mul_assoc, mul_comm, add-mul, mul-lt-mul_of_pos_right, mul-pos, mul-one, mul_right_comm, mul_left_comm, arith, le-ltb, lt-ltb}
use native.Mathlib.Nat.{mul-sub}
use native.Mathlib.Decide.{dec_lt}
use lib.IntN.{sub_ℕ}
use lib.Ieee.{Float, fin, Format, prec, up, down, unlike, round, sum, add, mul, of_int}
use lib.Ieee.Fits.{down_pos}
use lib.Ieee.Scale.{round_same}
use lib.Ieee.Exact.{HasValue}
use lib.Ieee.Back.{round_whole}

-- ---- a common denominator goes away

ltb_scale : (a b c : ℕ) → 0 < c → ltb (a * c) (b * c) ≡ ltb a b
ltb_scale a b c C = go (dec_lt a b)
  where
    go : Dec (a < b) → ltb (a * c) (b * c) ≡ ltb a b
    go (yes l) = lt-ltb (a * c) (b * c) (mul-lt-mul_of_pos_right l C) ∙ sym (lt-ltb a b l)
    go (no n) =
        let l : b ≤ a = omega arith in
        le-ltb (a * c) (b * c) (mul-le-mul_right c l) ∙ sym (le-ltb a b l)

sub_mul : (a b c : ℕ) → (a - b) * c ≡ a * c - b * c
sub_mul a b c = mul_comm (a - b) c ∙ mul-sub c a b ∙ λ i. mul_comm c a i - mul_comm c b i

sum_scale : (f : Format) (s t : Bool) (a b c : ℕ) → 0 < c → sum f s (a * c) t (b * c) c ≡ sum f s a t b 1
unfolding sum
sum_scale f s t a b c C =
    let both : round f s (a * c + b * c) c ≡ round f s (a + b) 1 =
    round_same f s (a * c + b * c) c (a + b) 1 C (zero-lt-suc 0) (mul-one (a * c + b * c) ∙ sym (add-mul a b c)) in
    let less : (r : Bool) (x y : ℕ) → round f r (x * c - y * c) c ≡ round f r (x - y) 1 =
    λ r x y. round_same f r (x * c - y * c) c (x - y) 1 C (zero-lt-suc 0) (mul-one (x * c - y * c) ∙ sym (sub_mul x y c)) in
    rw (ltb_scale a b c C, ltb_scale b a c C, both, less t b a, less (s && ltb b a) a b)

-- ---- the operations see the whole values alone

pub add_value : (f : Format) (x y : Float) (s t : Bool) (a b : ℕ) → HasValue x s a 1 → HasValue y t b 1 → add f x y ≡ sum f s a t b 1
unfolding add
add_value f (fin s m e) (fin t n d) s' t' a b v w =
    let c = down e * down d in
    let p : m * up e * down d ≡ a * c = ap (λ (z : ℕ). z * down d) (sym (mul-one (m * up e)) ∙ v.1) ∙ mul_assoc a (down e) (down d) in
    let q : n * up d * down e ≡ b * c = ap (λ (z : ℕ). z * down e) (sym (mul-one (n * up d)) ∙ w.1) ∙ mul_right_comm b (down d) (down e) ∙ mul_assoc b (down e) (down d) in
    (λ i. sum f (v.0 i) (p i) (w.0 i) (q i) c) ∙ sum_scale f s' t' a b c (mul-pos (down_pos e) (down_pos d))
add_value f lib.Ieee.nan y s' t' a b v w = elim v [ ]
add_value f (lib.Ieee.inf _) y s' t' a b v w = elim v [ ]
add_value f (fin s m e) lib.Ieee.nan s' t' a b v w = elim w [ ]
add_value f (fin s m e) (lib.Ieee.inf _) s' t' a b v w = elim w [ ]

pub mul_value : (f : Format) (x y : Float) (s t : Bool) (a b : ℕ) → HasValue x s a 1 → HasValue y t b 1 → mul f x y ≡ round f (unlike s t) (a * b) 1
unfolding mul
mul_value f (fin s m e) (fin t n d) s' t' a b v w =
    let c = down e * down d in
    let p : m * up e ≡ a * down e = sym (mul-one (m * up e)) ∙ v.1 in
    let q : n * up d ≡ b * down d = sym (mul-one (n * up d)) ∙ w.1 in
    let r : a * down e * (b * down d) * 1 ≡ a * b * c = simp (mul-one, mul_assoc, mul_left_comm) in
    (λ i. round f (unlike (v.0 i) (w.0 i)) (p i * q i) c) ∙ round_same f (unlike s' t') (a * down e * (b * down d)) c (a * b) 1 (mul-pos (down_pos e) (down_pos d)) (zero-lt-suc 0) r
mul_value f lib.Ieee.nan y s' t' a b v w = elim v [ ]
mul_value f (lib.Ieee.inf _) y s' t' a b v w = elim v [ ]
mul_value f (fin s m e) lib.Ieee.nan s' t' a b v w = elim w [ ]
mul_value f (fin s m e) (lib.Ieee.inf _) s' t' a b v w = elim w [ ]

-- ---- integers within the precision

abbrev pub negative : ℤ → Bool
negative (pos n) = false
negative (negsuc n) = true

pub whole_value : (f : Format) (z : ℤ) → nat_abs z ≤ 2 ^ prec f → HasValue (of_int f z) (negative z) (nat_abs z) 1
unfolding of_int
whole_value f (pos n) h = round_whole f false n h
whole_value f (negsuc n) h = round_whole f true (suc n) h

-- a difference of two whole numbers, the first with the sign of its place
pub sum_integers : (f : Format) (y z : ℤ) → sum f (negative y) (nat_abs y) (negative z) (nat_abs z) 1 ≡ of_int f (y +ℤ z)
unfolding sum of_int
sum_integers f (pos m) (pos n) = refl
sum_integers f (negsuc m) (negsuc n) = ap (λ (k : ℕ). round f true k 1) (omega arith)
sum_integers f (pos m) (negsuc n) = go (dec_lt m (suc n))
  where
    go : Dec (m < suc n) → sum f false m true (suc n) 1 ≡ of_int f (sub_ℕ m (suc n))
    go (yes l) = rw (lt-ltb m (suc n) l) (ap (λ (k : ℕ). round f true k 1) (omega arith))
    go (no g) = let l : suc n ≤ m = omega arith in rw (le-ltb m (suc n) l)
sum_integers f (negsuc m) (pos n) = go (dec_lt n (suc m)) (dec_lt (suc m) n)
  where
    go : Dec (n < suc m) → Dec (suc m < n) → sum f true (suc m) false n 1 ≡ of_int f (sub_ℕ n (suc m))
    go (yes l) g = let h : n ≤ suc m = omega arith in rw (lt-ltb n (suc m) l, le-ltb (suc m) n h) (ap (λ (k : ℕ). round f true k 1) (omega arith))
    go (no g) (yes l) = let h : suc m ≤ n = omega arith in rw (le-ltb n (suc m) h, lt-ltb (suc m) n l)
    go (no g) (no k) =
        let h : suc m ≤ n = omega arith in
        let j : n ≤ suc m = omega arith in
        rw (le-ltb n (suc m) h, le-ltb (suc m) n j) (ap (λ (k : ℕ). round f false k 1) (omega arith))

-- the sum of the floats is the float of the sum, a zero being +0
pub add_whole : (f : Format) (y z : ℤ) → nat_abs y ≤ 2 ^ prec f → nat_abs z ≤ 2 ^ prec f → add f (of_int f y) (of_int f z) ≡ of_int f (y +ℤ z)
add_whole f y z Y Z =
    add_value f (of_int f y) (of_int f z) (negative y) (negative z) (nat_abs y) (nat_abs z) (whole_value f y Y) (whole_value f z Z) ∙ sum_integers f y z

-- a product by 1 changes nothing
pub mul_whole_one : (f : Format) (z : ℤ) → nat_abs z ≤ 2 ^ prec f → 1 ≤ 2 ^ prec f → mul f (of_int f z) (of_int f (pos 1)) ≡ of_int f z
unfolding of_int
mul_whole_one f z Z O =
    mul_value f (of_int f z) (of_int f (pos 1)) (negative z) false (nat_abs z) 1 (whole_value f z Z) (whole_value f (pos 1) O) ∙ go z
  where
    go : (z : ℤ) → round f (unlike (negative z) false) (nat_abs z * 1) 1 ≡ of_int f z
    go (pos n) = ap (λ (k : ℕ). round f false k 1) (mul-one n)
    go (negsuc n) = ap (λ (k : ℕ). round f true k 1) (mul-one (suc n))

-- a square is the float of the square
pub square_whole : (f : Format) (z : ℤ) → nat_abs z ≤ 2 ^ prec f → mul f (of_int f z) (of_int f z) ≡ of_int f (z *ℤ z)
unfolding of_int
square_whole f z Z =
    mul_value f (of_int f z) (of_int f z) (negative z) (negative z) (nat_abs z) (nat_abs z) (whole_value f z Z) (whole_value f z Z) ∙ go z
  where
    go : (z : ℤ) → round f (unlike (negative z) (negative z)) (nat_abs z * nat_abs z) 1 ≡ of_int f (z *ℤ z)
    go (pos n) = refl
    go (negsuc n) = refl

-- ---- sizes

pub size_sum : (y z : ℤ) → nat_abs (y +ℤ z) ≤ nat_abs y + nat_abs z
size_sum (pos m) (pos n) = omega arith
size_sum (negsuc m) (negsuc n) = omega arith
size_sum (pos m) (negsuc n) = go (dec_lt m (suc n))
  where
    go : Dec (m < suc n) → nat_abs (sub_ℕ m (suc n)) ≤ m + suc n
    go (yes l) = rw (lt-ltb m (suc n) l) (omega arith)
    go (no g) = let l : suc n ≤ m = omega arith in rw (le-ltb m (suc n) l) (omega arith)
size_sum (negsuc m) (pos n) = go (dec_lt n (suc m))
  where
    go : Dec (n < suc m) → nat_abs (sub_ℕ n (suc m)) ≤ suc m + n
    go (yes l) = rw (lt-ltb n (suc m) l) (omega arith)
    go (no g) = let l : suc m ≤ n = omega arith in rw (le-ltb n (suc m) l) (omega arith)

pub size_square : (z : ℤ) → nat_abs (z *ℤ z) ≡ nat_abs z * nat_abs z
size_square (pos n) = refl
size_square (negsuc n) = refl
