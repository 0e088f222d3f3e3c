-- Floats that are whole numbers, -0 among them: the value of one, that the whole number's own float is one, and what a sum and a square make of one. Assumes nothing.
use Rattle.std.proofs.Common.{◌≡◌, ℕ, zero, suc, ◌+◌, ◌*◌, ◌/◌, ◌%◌, ◌^◌, ◌≤◌, Bool, true, false, not, T, eqb, leb, ℤ, pos, negsuc, ◌+ℤ◌, ◌-ℤ◌, ◌*ℤ◌, neg_ℤ, nat_abs, sym, refl, ap, ◌∙◌, subst, zero-le, le_trans, add-zero, div-add-mod', mul-one, mul-div_cancel, arith, le→leb, eqb→eq, leb→le, le-ltb, lt-ltb}
use native.Mathlib.Nat.{mul-mod_left}
use lib.IntN.{neg_ℤ-neg_ℤ, +ℤ_idl, +ℤ_assoc}
use lib.Ieee.{Float, nan, inf, fin, Format, prec, up, down, unlike, round, sum, neg, add, sub, mul, of_int}
use lib.Ieee.Fits.{down_pos, and_l, and_r, and_i, eq→eqb}
use lib.Ieee.Exact.{HasValue}
use Rattle.common.specs.Corrected.{signed_integer, whole_within, integer_of}
use Rattle.common.proofs.WholeFloats.{negative, add_value, mul_value, whole_value, sum_integers, size_sum}

-- ---- the value

-- x is s c, and c is at most b
pub record Whole (b : ℕ) (x : Float) : Type 0 where
  pub sign : Bool
  pub size : ℕ
  pub value : HasValue x sign size 1
  pub integer : integer_of x ≡ signed_integer sign size
  pub small : size ≤ b

pub whole_is : (b : ℕ) (x : Float) → T (whole_within b x) → Whole b x
unfolding whole_within integer_of
whole_is b nan h = absurd h
whole_is b (inf s) h = absurd h
whole_is b (fin s m e) h =
    let n = m * up e in
    let r : n % down e ≡ 0 = eqb→eq (n % down e) 0 (and_l (eqb (n % down e) 0) (leb (n / down e) b) h) in
    record {
      sign = s;
      size = n / down e;
      value = (refl, mul-one n ∙ sym (div-add-mod' n (down e)) ∙ ap (λ (x : ℕ). n / down e * down e + x) r ∙ add-zero (n / down e * down e));
      integer = refl;
      small = leb→le (n / down e) b (and_r (eqb (n % down e) 0) (leb (n / down e) b) h);
    }

signed_size : (s : Bool) (n : ℕ) → nat_abs (signed_integer s n) ≡ n
signed_size false n = refl
signed_size true zero = refl
signed_size true (suc n) = refl

whole_small : (b : ℕ) (x : Float) → Whole b x → nat_abs (integer_of x) ≤ b
whole_small b x w = subst (λ (n : ℕ). n ≤ b) (sym (ap nat_abs w.integer ∙ signed_size w.sign w.size)) w.small

pub integer_small : (b : ℕ) (x : Float) → T (whole_within b x) → nat_abs (integer_of x) ≤ b
integer_small b x h = whole_small b x (whole_is b x h)

-- whatever has a whole value of that size passes the test, and is that integer
pub whole_of : (b : ℕ) (x : Float) (s : Bool) (n : ℕ) → HasValue x s n 1 → n ≤ b → T (whole_within b x)
unfolding whole_within
whole_of b (fin t m e) s n v h =
    let q : m * up e ≡ n * down e = sym (mul-one (m * up e)) ∙ v.1 in
    let c : m * up e / down e ≡ n = ap (λ (x : ℕ). x / down e) q ∙ mul-div_cancel n (down_pos e) in
    let r : m * up e % down e ≡ 0 = ap (λ (x : ℕ). x % down e) q ∙ mul-mod_left n (down e) in
    and_i (eqb (m * up e % down e) 0) (leb (m * up e / down e) b) (eq→eqb r) (le→leb (m * up e / down e) b (subst (λ (k : ℕ). k ≤ b) (sym c) h))
whole_of b nan s n v h = elim v [ ]
whole_of b (inf _) s n v h = elim v [ ]

pub integer_of_lem : (x : Float) (s : Bool) (n : ℕ) → HasValue x s n 1 → integer_of x ≡ signed_integer s n
unfolding integer_of
integer_of_lem (fin t m e) s n v =
    let q : m * up e ≡ n * down e = sym (mul-one (m * up e)) ∙ v.1 in
    λ i. signed_integer (v.0 i) ((ap (λ (x : ℕ). x / down e) q ∙ mul-div_cancel n (down_pos e)) i)
integer_of_lem nan s n v = elim v [ ]
integer_of_lem (inf _) s n v = elim v [ ]

-- a larger bound
pub whole_wider : (b c : ℕ) (x : Float) → T (whole_within b x) → b ≤ c → T (whole_within c x)
whole_wider b c x h l = let w = whole_is b x h in whole_of c x w.sign w.size w.value (le_trans w.small l)

signed_own : (z : ℤ) → signed_integer (negative z) (nat_abs z) ≡ z
signed_own (pos n) = refl
signed_own (negsuc n) = refl

-- an integer's own float
pub own_within : (f : Format) (b : ℕ) (z : ℤ) → nat_abs z ≤ 2 ^ prec f → nat_abs z ≤ b → T (whole_within b (of_int f z))
own_within f b z Z h = whole_of b (of_int f z) (negative z) (nat_abs z) (whole_value f z Z) h

pub own_integer : (f : Format) (z : ℤ) → nat_abs z ≤ 2 ^ prec f → integer_of (of_int f z) ≡ z
own_integer f z Z = integer_of_lem (of_int f z) (negative z) (nat_abs z) (whole_value f z Z) ∙ signed_own z

-- ---- a sum and a square with -0 among the summands

sum_signed : (f : Format) (y : ℤ) (t : Bool) (b : ℕ) → sum f (negative y) (nat_abs y) t b 1 ≡ of_int f (y +ℤ signed_integer t b)
unfolding sum of_int
sum_signed f y false b = sum_integers f y (pos b)
sum_signed f y true (suc b) = sum_integers f y (negsuc b)
sum_signed f (pos m) true zero = rw (le-ltb m 0 (zero-le)) (ap (λ (k : ℕ). round f false k 1) (omega arith))
sum_signed f (negsuc m) true zero = rw (lt-ltb 0 (suc m) (omega arith)) (ap (λ (k : ℕ). round f true k 1) (omega arith))

pub add_signed : (f : Format) (y : ℤ) (x : Float) → nat_abs y ≤ 2 ^ prec f → {b : ℕ} → Whole b x → add f (of_int f y) x ≡ of_int f (y +ℤ integer_of x)
add_signed f y x Y w =
    add_value f (of_int f y) x (negative y) w.sign (nat_abs y) w.size (whole_value f y Y) w.value
    ∙ sum_signed f y w.sign w.size
    ∙ ap (λ (z : ℤ). of_int f (y +ℤ z)) (sym w.integer)

pub square_signed : (f : Format) (x : Float) → {b : ℕ} → Whole b x → mul f x x ≡ of_int f (integer_of x *ℤ integer_of x)
unfolding of_int
square_signed f x w =
    mul_value f x x w.sign w.sign w.size w.size w.value w.value
    ∙ go w.sign w.size
    ∙ ap (λ (z : ℤ). of_int f (z *ℤ z)) (sym w.integer)
  where
    go : (s : Bool) (n : ℕ) → round f (unlike s s) (n * n) 1 ≡ of_int f (signed_integer s n *ℤ signed_integer s n)
    go false n = refl
    go true zero = refl
    go true (suc n) = refl

-- ---- a difference, and a whole number moved by one

neg_whole : (b : ℕ) (x : Float) → Whole b x → Whole b (neg x)
unfolding neg integer_of
neg_whole b nan w = absurd w.value
neg_whole b (inf s) w = absurd w.value
neg_whole b (fin s m e) w =
    record {
      sign = not w.sign;
      size = w.size;
      value = (ap not w.value.0, w.value.1);
      integer = integer_of_lem (fin (not s) m e) (not w.sign) w.size (ap not w.value.0, w.value.1);
      small = w.small;
    }

neg_integer : (x : Float) → integer_of (neg x) ≡ neg_ℤ (integer_of x)
unfolding neg integer_of
neg_integer nan = refl
neg_integer (inf s) = refl
neg_integer (fin true m e) = sym (neg_ℤ-neg_ℤ (pos (m * up e / down e)))
neg_integer (fin false m e) = refl

pub sub_signed : (f : Format) (y : ℤ) (x : Float) → nat_abs y ≤ 2 ^ prec f → {b : ℕ} → Whole b x → sub f (of_int f y) x ≡ of_int f (y -ℤ integer_of x)
unfolding sub
sub_signed f y x Y {b} w = add_signed f y (neg x) Y (neg_whole b x w) ∙ ap (λ (z : ℤ). of_int f (y +ℤ z)) (neg_integer x)

-- from +0 on, one whole number in and one out
pub moved_whole : (f : Format) (x p q : Float) (a b c : ℕ) → Whole a x → Whole b p → Whole c q → a + b ≤ 2 ^ prec f
    → sub f (add f (add f (of_int f (pos 0)) x) p) q ≡ of_int f (integer_of x +ℤ (integer_of p -ℤ integer_of q))
moved_whole f x p q a b c X P Q h =
    let z = integer_of x in
    let r = integer_of p in
    let X' : nat_abs z ≤ a = whole_small a x X in
    let P' : nat_abs r ≤ b = whole_small b p P in
    ap (λ (y : Float). sub f (add f y p) q) (add_signed f (pos 0) x zero-le X ∙ ap (λ (y : ℤ). of_int f y) (+ℤ_idl z))
    ∙ ap (λ (y : Float). sub f y q) (add_signed f z p (omega arith) P)
    ∙ sub_signed f (z +ℤ r) q (omega (arith, size_sum z r)) Q
    ∙ ap (λ (y : ℤ). of_int f y) (+ℤ_assoc z r (neg_ℤ (integer_of q)))
