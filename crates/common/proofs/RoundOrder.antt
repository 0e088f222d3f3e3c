-- `round` keeps the order of whole numbers of either sign over one divisor: the larger one's quotient rounds to a value that is no smaller.
-- The library has it for fractions that are not negative (`round_mono`); a negative value is the negation of a positive one. Over the format. Assumes nothing.
use Rattle.std.proofs.Common.{◌≡◌, ℕ, zero, suc, ◌+◌, ◌-◌, ◌*◌, ◌/◌, ◌%◌, ◌^◌, ◌<◌, ◌≤◌, Bool, true, false, cond, not, ◌||◌, T, eqb, ltb, ◌⊎◌, ℤ, pos, negsuc, ◌+ℤ◌, nat_abs, sym, refl, ◌∙◌, subst, inl, inr, mul-le-mul_right, mul_assoc, mul_comm, add_comm, mul-pos, zero-mul, mul-one, mul_left_comm, arith, eqb→eq, lt→ltb, le-ltb, lt-ltb}
use mathlib.Core.Bool.{beq}
use Prim.Native.Nat.{compare}
use native.Mathlib.Decide.{dec_lt}
use lib.Dec.{eqb-suc-zero}
use lib.IntN.{sub_ℕ}
use lib.Ieee.{Float, nan, inf, fin, Format, prec, emax, low, up, down, unlike, nearest, size, round, units, odd, neg, below, level, le, div}
use lib.Ieee.Fits.{down_pos, and_l}
use lib.Ieee.Exact.{HasValue}
use lib.Ieee.Order.{round_mono}
use lib.Ieee.Scale.{round_same}
use Rattle.common.specs.Corrected.{signed_integer}
use Rattle.common.proofs.WholeFloats.{negative}

-- ---- the sign goes through `round`

odd_negated : (d q k l : ℕ) → odd d true q k l ≡ neg (odd d false q k l)
unfolding odd neg
odd_negated d zero k l = refl
odd_negated d (suc q) k l = refl

neg_cond : (b : Bool) (x y : Float) → neg (cond b x y) ≡ cond b (neg x) (neg y)
neg_cond true x y = refl
neg_cond false x y = refl

inf_negated : inf true ≡ neg (inf false)
unfolding neg
inf_negated = refl

units_negated : (f : Format) (q k : ℕ) → units f true q k ≡ neg (units f false q k)
unfolding units
units_negated f q k =
    let b = ltb (q * 2 ^ k) (2 ^ (low f + suc (emax f))) in
    (λ i. cond b (odd_negated (suc (prec f)) q k (low f) i) (inf_negated i)) ∙ sym (neg_cond b (odd (suc (prec f)) false q k (low f)) (inf false))

pub round_negated : (f : Format) (a c : ℕ) → round f true a c ≡ neg (round f false a c)
unfolding round
round_negated f a c = units_negated f _ _

-- ---- negation turns the order round

pub or_split : (a b : Bool) → T (a || b) → T a ⊎ T b
or_split true b t = inl tt
or_split false b t = inr t

pub or_l : (a b : Bool) → T a → T (a || b)
or_l true b t = tt
or_l false b t = absurd t

or_r : (a b : Bool) → T b → T (a || b)
or_r true b t = tt
or_r false b t = t

below_turn : (s t : Bool) (a b : ℕ) → T (below s a t b) → T (below (not t) b (not s) a)
below_turn false false a b h = h
below_turn false true a b h = absurd h
below_turn true false a b h = subst (λ (n : ℕ). T (ltb 0 n)) (add_comm a b) h
below_turn true true a b h = h

level_same : (s t : Bool) (a : ℕ) → T (level s a t a) → T (level (not t) a (not s) a)
level_same false false a h = h
level_same false true a h = h
level_same true false a h = h
level_same true true a h = h

level_turn : (s t : Bool) (a b : ℕ) → T (level s a t b) → T (level (not t) b (not s) a)
level_turn s t a b h =
    let e : a ≡ b = eqb→eq a b (and_l (eqb a b) (beq s t || eqb a 0) h) in
    subst (λ (n : ℕ). T (level (not t) n (not s) a)) e (level_same s t a (subst (λ (n : ℕ). T (level s a t n)) (sym e) h))

turn : (s t : Bool) (a b : ℕ) → T (below s a t b || level s a t b) → T (below (not t) b (not s) a || level (not t) b (not s) a)
turn s t a b h =
    let x = below (not t) b (not s) a in
    let y = level (not t) b (not s) a in
    elim (or_split (below s a t b) (level s a t b) h) [ inl u ↦ or_l x y (below_turn s t a b u) | inr u ↦ or_r x y (level_turn s t a b u) ]

pub neg_le : (x y : Float) → T (le x y) → T (le (neg y) (neg x))
unfolding le neg
neg_le nan y h = absurd h
neg_le (inf s) nan h = absurd h
neg_le (inf true) (inf true) h = tt
neg_le (inf true) (inf false) h = tt
neg_le (inf false) (inf true) h = absurd h
neg_le (inf false) (inf false) h = tt
neg_le (inf true) (fin t n d) h = tt
neg_le (inf false) (fin t n d) h = absurd h
neg_le (fin s m e) nan h = absurd h
neg_le (fin s m e) (inf true) h = absurd h
neg_le (fin s m e) (inf false) h = tt
neg_le (fin s m e) (fin t n d) h = turn s t (m * up e * down d) (n * up d * down e) h

-- ---- a value of either sign

-- not negative, an infinity included
abbrev unsigned : Float → Bool
unsigned nan = false
unsigned (inf s) = not s
unsigned (fin s m e) = not s

odd_unsigned : (d q k l : ℕ) → T (unsigned (odd d false q k l))
unfolding odd
odd_unsigned d zero k l = tt
odd_unsigned d (suc q) k l = tt

unsigned_cond : (b : Bool) (x y : Float) → T (unsigned x) → T (unsigned y) → T (unsigned (cond b x y))
unsigned_cond true x y p q = p
unsigned_cond false x y p q = q

units_unsigned : (f : Format) (q k : ℕ) → T (unsigned (units f false q k))
unfolding units
units_unsigned f q k = unsigned_cond (ltb (q * 2 ^ k) (2 ^ (low f + suc (emax f)))) (odd (suc (prec f)) false q k (low f)) (inf false) (odd_unsigned (suc (prec f)) q k (low f)) tt

round_unsigned : (f : Format) (a c : ℕ) → T (unsigned (round f false a c))
unfolding round
round_unsigned f a c =
    let n = a * 2 ^ low f in
    let k = size (n / c) - prec f in
    units_unsigned f (nearest (n / (c * 2 ^ k)) (compare (n % (c * 2 ^ k) * 2) (c * 2 ^ k))) k

either_side : (a b : ℕ) → T (below true a false b || level true a false b)
either_side zero zero = tt
either_side zero (suc b) = or_l (ltb 0 (0 + suc b)) (level true zero false (suc b)) (lt→ltb 0 (0 + suc b) (omega arith))
either_side (suc a) b = or_l (ltb 0 (suc a + b)) (level true (suc a) false b) (lt→ltb 0 (suc a + b) (omega arith))

pub across : (x y : Float) → T (unsigned x) → T (unsigned y) → T (le (neg x) y)
unfolding le neg
across nan y p q = absurd p
across (inf true) y p q = absurd p
across (inf false) nan p q = absurd q
across (inf false) (inf true) p q = absurd q
across (inf false) (inf false) p q = tt
across (inf false) (fin t n d) p q = tt
across (fin true m e) y p q = absurd p
across (fin false m e) nan p q = absurd q
across (fin false m e) (inf true) p q = absurd q
across (fin false m e) (inf false) p q = tt
across (fin false m e) (fin true n d) p q = absurd q
across (fin false m e) (fin false n d) p q = either_side (m * up e * down d) (n * up d * down e)

-- an integer over a natural number, rounded
abbrev pub quotient : Format → ℤ → ℕ → Float
quotient f z n = round f (negative z) (nat_abs z) n

-- The law: what is added raises the quotient or leaves it.
pub quotient_raised : (f : Format) (z : ℤ) (k n : ℕ) → 0 < n → T (le (quotient f z n) (quotient f (z +ℤ pos k) n))
quotient_raised f (pos m) k n N = round_mono f m n (m + k) n N N (mul-le-mul_right n (omega arith))
quotient_raised f (negsuc m) k n N = go (dec_lt k (suc m))
  where
    go : Dec (k < suc m) → T (le (round f true (suc m) n) (quotient f (sub_ℕ k (suc m)) n))
    go (yes l) =
        rw (lt-ltb k (suc m) l, round_negated f (suc m) n, round_negated f (suc (suc m - suc k)) n)
        (neg_le (round f false (suc (suc m - suc k)) n) (round f false (suc m) n) (round_mono f (suc (suc m - suc k)) n (suc m) n N N (mul-le-mul_right n (omega arith))))
    go (no g) = let l : suc m ≤ k = omega arith in
        rw (le-ltb k (suc m) l, round_negated f (suc m) n) (across (round f false (suc m) n) (round f false (k - suc m) n) (round_unsigned f (suc m) n) (round_unsigned f (k - suc m) n))

-- the same from a signed size, whose zero may be -0
pub quotient_raised_signed : (f : Format) (s : Bool) (c k n : ℕ) → 0 < n → T (le (round f s c n) (quotient f (signed_integer s c +ℤ pos k) n))
quotient_raised_signed f false c k n N = quotient_raised f (pos c) k n N
quotient_raised_signed f true (suc c) k n N = quotient_raised f (negsuc c) k n N
quotient_raised_signed f true zero k n N = rw (round_negated f 0 n) (across (round f false 0 n) (round f false (0 + k) n) (round_unsigned f 0 n) (round_unsigned f (0 + k) n))

-- ---- a quotient of two floats that have whole values is one rounding of theirs

pub div_value : (f : Format) (x y : Float) (s t : Bool) (a b : ℕ) → 0 < b → HasValue x s a 1 → HasValue y t b 1 → div f x y ≡ round f (unlike s t) a b
unfolding div
div_value f (fin s m e) (fin t zero d) s' t' a b B v w = absurd (none (zero-mul (up d)) (sym (mul-one (0 * up d)) ∙ w.1) (mul-pos B (down_pos d)))
  where
    none : {x y : ℕ} → x ≡ 0 → x ≡ y → 0 < y → ⊥
    none p q h = omega arith
div_value f (fin s m e) (fin t (suc n) d) s' t' a b B v w =
    let p : m * up e ≡ a * down e = sym (mul-one (m * up e)) ∙ v.1 in
    let q : suc n * up d ≡ b * down d = sym (mul-one (suc n * up d)) ∙ w.1 in
    let r : a * down e * down d * b ≡ a * (b * down d * down e) = simp (mul_assoc, mul_comm, mul_left_comm) in
    rw (eqb-suc-zero n)
    ((λ i. round f (unlike (v.0 i) (w.0 i)) (p i * down d) (q i * down e))
    ∙ round_same f (unlike s' t') (a * down e * down d) (b * down d * down e) a b (mul-pos (mul-pos B (down_pos d)) (down_pos e)) B r)
div_value f nan y s' t' a b B v w = elim v [ ]
div_value f (inf _) y s' t' a b B v w = elim v [ ]
div_value f (fin s m e) nan s' t' a b B v w = elim w [ ]
div_value f (fin s m e) (inf _) s' t' a b B v w = elim w [ ]
