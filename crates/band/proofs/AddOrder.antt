-- Addition keeps order, over the width: what is not below stays not below when the same is added to both, infinities, signed zeros and not-a-numbers included.
-- Assumes nothing.
use Prim.Native.Nat.{ℕ, zero, suc, ◌+◌, ◌-◌, ◌*◌, ◌^◌, ◌≤◌, ◌<◌}
use mathlib.Core.Path.{◌≡◌, refl, sym, ap, ◌∙◌, subst}
use mathlib.Core.Bool.{Bool, true, false, not, cond, beq, ◌&&◌}
use mathlib.Core.Logic.{inl, inr}
use native.Mathlib.Nat.{mul_comm, mul_assoc, mul_left_comm, mul-pos, mul-le-mul_right, add-mul, zero-mul, zero-lt-suc}
use native.Mathlib.Omega.{arith}
use borrow.Author.Tests.{ltb-false, ltb-true, le-ltb}
use lib.Dec.{T, ltb, eqb, eqb→eq, ltb→lt}
use lib.Pow.{pow_pos}
use lib.Ieee.{Float, nan, inf, fin, Format, prec, emax, low, up, down, odd, units, round, neg, below, level, sum, add, lt, le, eq}
use lib.Ieee.Fits.{down_pos, and_l, and_r}
use lib.Ieee.Exact.{HasValue, round_exact}
use lib.Ieee.Order.{round_mono}
use Rattle.common.proofs.RoundOrder.{round_negated, or_split, neg_le}

-- ---- ±a as what stands above zero and what stands below it

abbrev above : Bool → ℕ → ℕ
above true a = 0
above false a = a

abbrev under : Bool → ℕ → ℕ
under true a = a
under false a = 0

-- ±a is not below ±b
abbrev NotBelow : Bool → ℕ → Bool → ℕ → Type 0
NotBelow s a t b = above t b + under s a ≤ above s a + under t b

not_below : (s : Bool) (a : ℕ) (t : Bool) (b : ℕ) → below s a t b ≡ false → NotBelow s a t b
not_below false a false b e = omega (arith, ltb-false a b e)
not_below false a true b e = omega arith
not_below true a false b e = omega (arith, ltb-false 0 (a + b) e)
not_below true a true b e = omega (arith, ltb-false b a e)

above_times : (s : Bool) (a q : ℕ) → above s a * q ≡ above s (a * q)
above_times true a q = zero-mul q
above_times false a q = refl

under_times : (s : Bool) (a q : ℕ) → under s a * q ≡ under s (a * q)
under_times true a q = refl
under_times false a q = zero-mul q

times : (s : Bool) (a : ℕ) (t : Bool) (b q : ℕ) → NotBelow s a t b → NotBelow s (a * q) t (b * q)
times s a t b q h =
    let k : (above t b + under s a) * q ≤ (above s a + under t b) * q = mul-le-mul_right q h in
    let l = add-mul (above t b) (under s a) q in
    let r = add-mul (above s a) (under t b) q in
    omega (arith, k, l, r, above_times t b q, under_times s a q, above_times s a q, under_times t b q)

not_below_back : (s : Bool) (a : ℕ) (t : Bool) (b : ℕ) → NotBelow s a t b → below s a t b ≡ false
not_below_back false a false b h = le-ltb a b (omega (arith, h))
not_below_back false a true b h = refl
not_below_back true a false b h = le-ltb 0 (a + b) (omega (arith, h))
not_below_back true a true b h = le-ltb b a (omega (arith, h))

-- ---- IEEE's ≤ the one way excludes its < the other way

below_gives : (s : Bool) (a : ℕ) (t : Bool) (b : ℕ) → T (below t b s a) → NotBelow s a t b
below_gives false a false b h = omega (arith, ltb→lt b a h)
below_gives false a true b h = omega arith
below_gives true a false b h = absurd h
below_gives true a true b h = omega (arith, ltb→lt a b h)

level_gives : (s : Bool) (a : ℕ) (t : Bool) (b : ℕ) → T (level t b s a) → NotBelow s a t b
level_gives false a false b h = omega (arith, eqb→eq b a (and_l (eqb b a) true h))
level_gives false a true b h = omega arith
level_gives true a false b h = omega (arith, eqb→eq b a (and_l (eqb b a) (eqb b 0) h), eqb→eq b 0 (and_r (eqb b a) (eqb b 0) h))
level_gives true a true b h = omega (arith, eqb→eq b a (and_l (eqb b a) true h))

pub below_not : (x y : Float) → T (le y x) → lt x y ≡ false
unfolding le lt eq
below_not nan y h = refl
below_not (inf s) nan h = refl
below_not (inf true) (inf true) h = refl
below_not (inf true) (inf false) h = absurd h
below_not (inf false) (inf t) h = refl
below_not (inf true) (fin t n d) h = absurd h
below_not (inf false) (fin t n d) h = refl
below_not (fin s m e) nan h = refl
below_not (fin s m e) (inf true) h = refl
below_not (fin s m e) (inf false) h = absurd h
below_not (fin s m e) (fin t n d) h =
    let a = m * up e * down d in
    let b = n * up d * down e in
    not_below_back s a t b
    (elim (or_split (below t b s a) (level t b s a) h) [ inl u ↦ below_gives s a t b u | inr u ↦ level_gives s a t b u ])

-- ---- rounding keeps order

-- not negative, an infinity included: so is what `round` makes of no sign, and it is not below the negation of another
abbrev unsigned : Float → Bool
unsigned nan = false
unsigned (inf s) = not s
unsigned (fin s m e) = not s

round_unsigned : (f : Format) (a c : ℕ) → T (unsigned (round f false a c))
unfolding round units odd
round_unsigned f a c = by _ _
  where
    small : (q k : ℕ) → T (unsigned (odd (suc (prec f)) false q k (low f)))
    small zero k = tt
    small (suc q) k = tt

    choose : (b : Bool) (q k : ℕ) → T (unsigned (cond b (odd (suc (prec f)) false q k (low f)) (inf false)))
    choose true q k = small q k
    choose false q k = tt

    by : (q k : ℕ) → T (unsigned (units f false q k))
    by q k = choose (ltb (q * 2 ^ k) (2 ^ (low f + suc (emax f)))) q k

unsigned_above : (x y : Float) → T (unsigned x) → T (unsigned y) → lt x (neg y) ≡ false
unfolding lt neg
unsigned_above nan y p q = refl
unsigned_above (inf true) y p q = absurd p
unsigned_above (inf false) nan p q = refl
unsigned_above (inf false) (inf t) p q = refl
unsigned_above (inf false) (fin t n d) p q = refl
unsigned_above (fin true m e) y p q = absurd p
unsigned_above (fin false m e) nan p q = refl
unsigned_above (fin false m e) (inf true) p q = absurd q
unsigned_above (fin false m e) (inf false) p q = refl
unsigned_above (fin false m e) (fin true n d) p q = absurd q
unsigned_above (fin false m e) (fin false n d) p q = refl

zero_value : (f : Format) (c : ℕ) → 0 < c → HasValue (round f false 0 c) false 0 c
zero_value f c C = round_exact f false 0 c 0 0 C (pow_pos (prec f)) (omega (arith, pow_pos (low f + suc (emax f)))) (zero-mul (2 ^ low f) ∙ sym (zero-mul c))

nothing : (x q : ℕ) → 0 < q → x * q ≤ 0 → x ≡ 0
nothing zero q Q k = refl
nothing (suc x) q Q k = absurd (omega (arith, mul-pos (zero-lt-suc x) Q, k))

zeros : (s t : Bool) → NotBelow s 0 t 0
zeros true true = omega arith
zeros true false = omega arith
zeros false true = omega arith
zeros false false = omega arith

-- −0 is not below +0
zero_not_below : (x y : Float) (c c' : ℕ) → 0 < c → 0 < c' → HasValue x false 0 c → HasValue y false 0 c' → lt (neg x) y ≡ false
unfolding lt neg
zero_not_below nan y c c' C C' v w = absurd v
zero_not_below (inf s) y c c' C C' v w = absurd v
zero_not_below (fin s m e) nan c c' C C' v w = absurd w
zero_not_below (fin s m e) (inf t) c c' C C' v w = absurd w
zero_not_below (fin s m e) (fin t n d) c c' C C' v w =
    let p : m * up e ≡ 0 = nothing (m * up e) c C (omega (arith, v.1, zero-mul (down e))) in
    let q : n * up d ≡ 0 = nothing (n * up d) c' C' (omega (arith, w.1, zero-mul (down d))) in
    let a : m * up e * down d ≡ 0 = ap (λ (x : ℕ). x * down d) p ∙ zero-mul (down d) in
    let b : n * up d * down e ≡ 0 = ap (λ (x : ℕ). x * down e) q ∙ zero-mul (down e) in
    rw (a, b) (not_below_back (not s) 0 t 0 (zeros (not s) t))

round_order : (f : Format) (s : Bool) (a c : ℕ) (t : Bool) (b c' : ℕ) → 0 < c → 0 < c' → NotBelow s (a * c') t (b * c) → lt (round f s a c) (round f t b c') ≡ false
round_order f false a c false b c' C C' h = below_not (round f false a c) (round f false b c') (round_mono f b c' a c C' C (omega (arith, h)))
round_order f false a c true b c' C C' h =
    rw (round_negated f b c') (unsigned_above (round f false a c) (round f false b c') (round_unsigned f a c) (round_unsigned f b c'))
round_order f true a c true b c' C C' h =
    rw (round_negated f a c, round_negated f b c')
    (below_not (neg (round f false a c)) (neg (round f false b c')) (neg_le (round f false a c) (round f false b c') (round_mono f a c b c' C C' (omega (arith, h)))))
round_order f true a c false b c' C C' h =
    rw (nothing a c' C' (omega (arith, h)), nothing b c C (omega (arith, h)), round_negated f 0 c)
    (zero_not_below (round f false 0 c) (round f false 0 c') c c' C C' (zero_value f c C) (zero_value f c' C'))

-- ---- a sum is one rounding: its sign and its size

abbrev sign : Bool → ℕ → Bool → ℕ → Bool
sign s a t b = cond (beq s t) s (cond (ltb a b) t (s && ltb b a))

abbrev magnitude : Bool → ℕ → Bool → ℕ → ℕ
magnitude s a t b = cond (beq s t) (a + b) (cond (ltb a b) (b - a) (a - b))

sum_rounds : (f : Format) (s : Bool) (a : ℕ) (t : Bool) (b c : ℕ) → sum f s a t b c ≡ round f (sign s a t b) (magnitude s a t b) c
unfolding sum
sum_rounds f s a t b c = by (beq s t) (ltb a b)
  where
    by : (x y : Bool) → cond x (round f s (a + b) c) (cond y (round f t (b - a) c) (round f (s && ltb b a) (a - b) c))
        ≡ round f (cond x s (cond y t (s && ltb b a))) (cond x (a + b) (cond y (b - a) (a - b))) c
    by true y = refl
    by false true = refl
    by false false = refl

-- what stands above and below zero of a sum
sum_parts : (s : Bool) (a : ℕ) (t : Bool) (b : ℕ) → above (sign s a t b) (magnitude s a t b) + (under s a + under t b) ≡ under (sign s a t b) (magnitude s a t b) + (above s a + above t b)
sum_parts true a true b = omega arith
sum_parts false a false b = omega arith
sum_parts false a true b = by (ltb a b) refl
  where
    by : (x : Bool) → ltb a b ≡ x → above (cond x true false) (cond x (b - a) (a - b)) + (0 + b) ≡ under (cond x true false) (cond x (b - a) (a - b)) + (a + 0)
    by true e = omega (arith, ltb-true a b e)
    by false e = omega (arith, ltb-false a b e)
sum_parts true a false b = by (ltb a b) (ltb b a) refl refl
  where
    by : (x y : Bool) → ltb a b ≡ x → ltb b a ≡ y → above (cond x false y) (cond x (b - a) (a - b)) + (a + 0) ≡ under (cond x false y) (cond x (b - a) (a - b)) + (0 + b)
    by true y d e = omega (arith, ltb-true a b d)
    by false true d e = omega (arith, ltb-true b a e)
    by false false d e = omega (arith, ltb-false a b d, ltb-false b a e)

-- the same with a factor
parts_times : (s : Bool) (a : ℕ) (t : Bool) (b q : ℕ)
    → above (sign s a t b) (magnitude s a t b * q) + (under s (a * q) + under t (b * q)) ≡ under (sign s a t b) (magnitude s a t b * q) + (above s (a * q) + above t (b * q))
parts_times s a t b q =
    let g = sign s a t b in
    let m = magnitude s a t b in
    let e : (above g m + (under s a + under t b)) * q ≡ (under g m + (above s a + above t b)) * q = ap (λ (x : ℕ). x * q) (sum_parts s a t b) in
    let l = add-mul (above g m) (under s a + under t b) q in
    let r = add-mul (under g m) (above s a + above t b) q in
    let l₂ = add-mul (under s a) (under t b) q in
    let r₂ = add-mul (above s a) (above t b) q in
    omega (arith, e, l, r, l₂, r₂, above_times g m q, under_times g m q, above_times s a q, above_times t b q, under_times s a q, under_times t b q)

-- ---- the law

-- of finite values: a / c and b / c' with k / c = l / c' added to each
sum_order : (f : Format) (s : Bool) (a : ℕ) (t : Bool) (b : ℕ) (r : Bool) (k l c c' : ℕ) → 0 < c → 0 < c' → k * c' ≡ l * c → NotBelow s (a * c') t (b * c)
    → lt (sum f s a r k c) (sum f t b r l c') ≡ false
sum_order f s a t b r k l c c' C C' e h =
    rw (sum_rounds f s a r k c, sum_rounds f t b r l c')
    (round_order f (sign s a r k) (magnitude s a r k) c (sign t b r l) (magnitude t b r l) c' C C'
    (let x = parts_times s a r k c' in
    let y = parts_times t b r l c in
    let z : above r (k * c') ≡ above r (l * c) = ap (above r) e in
    let w : under r (k * c') ≡ under r (l * c) = ap (under r) e in
    omega (arith, x, y, z, w, h)))

below_nan : (x : Float) → lt x nan ≡ false
unfolding lt
below_nan nan = refl
below_nan (inf s) = refl
below_nan (fin s m e) = refl

below_least : (x : Float) → lt x (inf true) ≡ false
unfolding lt
below_least nan = refl
below_least (inf true) = refl
below_least (inf false) = refl
below_least (fin s m e) = refl

greatest_below : (x : Float) → lt (inf false) x ≡ false
unfolding lt
greatest_below nan = refl
greatest_below (inf s) = refl
greatest_below (fin s m e) = refl

never : true ≡ false → ⊥
never e = let z : ◌≡◌ {A = ℕ} 0 1 = cc in omega arith

pub add_order : (f : Format) (u v x : Float) → lt u v ≡ false → lt (add f u x) (add f v x) ≡ false
unfolding add lt
add_order f nan v x h = refl
add_order f (inf true) nan x h = below_nan (add f (inf true) x)
add_order f (inf true) (inf true) nan h = refl
add_order f (inf true) (inf true) (inf true) h = refl
add_order f (inf true) (inf true) (inf false) h = refl
add_order f (inf true) (inf true) (fin r k g) h = refl
add_order f (inf true) (inf false) x h = absurd (never h)
add_order f (inf true) (fin t n d) x h = absurd (never h)
add_order f (inf false) v nan h = refl
add_order f (inf false) v (inf true) h = refl
add_order f (inf false) v (inf false) h = greatest_below (add f v (inf false))
add_order f (inf false) v (fin r k g) h = greatest_below (add f v (fin r k g))
add_order f (fin s m e) nan x h = below_nan (add f (fin s m e) x)
add_order f (fin s m e) (inf true) nan h = refl
add_order f (fin s m e) (inf true) (inf true) h = refl
add_order f (fin s m e) (inf true) (inf false) h = refl
add_order f (fin s m e) (inf true) (fin r k g) h = below_least (add f (fin s m e) (fin r k g))
add_order f (fin s m e) (inf false) x h = absurd (never h)
add_order f (fin s m e) (fin t n d) nan h = refl
add_order f (fin s m e) (fin t n d) (inf true) h = refl
add_order f (fin s m e) (fin t n d) (inf false) h = refl
add_order f (fin s m e) (fin t n d) (fin r k g) h =
    let C : 0 < down e * down g = mul-pos (down_pos e) (down_pos g) in
    let C' : 0 < down d * down g = mul-pos (down_pos d) (down_pos g) in
    let same : k * up g * down e * (down d * down g) ≡ k * up g * down d * (down e * down g) = simp (mul_assoc, mul_comm, mul_left_comm) in
    let a : m * up e * down d * (down g * down g) ≡ m * up e * down g * (down d * down g) = simp (mul_assoc, mul_comm, mul_left_comm) in
    let b : n * up d * down e * (down g * down g) ≡ n * up d * down g * (down e * down g) = simp (mul_assoc, mul_comm, mul_left_comm) in
    let wide : NotBelow s (m * up e * down d * (down g * down g)) t (n * up d * down e * (down g * down g)) =
    times s (m * up e * down d) t (n * up d * down e) (down g * down g) (not_below s (m * up e * down d) t (n * up d * down e) h) in
    sum_order f s (m * up e * down g) t (n * up d * down g) r (k * up g * down e) (k * up g * down d) (down e * down g) (down d * down g) C C' same
    (subst (λ (q : ℕ). NotBelow s (m * up e * down g * (down d * down g)) t q) b (subst (λ (q : ℕ). NotBelow s q t (n * up d * down e * (down g * down g))) a wide))
