-- `round` is IEEE 754's rounding: to the nearest value of the format, at a tie to the one whose last digit is even, from the midpoint above the largest value on to infinity.
-- The exact number is n / den units of the smallest value, and the result q * 2 ^ k units, with q the whole number nearest to n / (den * 2 ^ k). So it is the nearest multiple of 2 ^ k units;
-- every value of the format from hid * 2 ^ k units on is such a multiple, and where digits are dropped the exact number is no smaller than that. Assumes nothing.
use Rattle.std.proofs.Common.{◌≡◌, ℕ, zero, suc, ◌+◌, ◌-◌, ◌*◌, ◌/◌, ◌%◌, ◌^◌, ◌<◌, ◌≤◌, Bool, true, false, cond, T, ltb, ◌⊎◌, pos, sym, refl, ap, ◌∙◌, subst, inl, inr, le_trans, le_of_eq, lt_of_lt_of_le, lt_of_le_of_lt, mul-le-mul_right, mod-lt, mul_assoc, suc-mul, mul_comm, div-lt_iff_lt-mul, add-mul, lt_of_mul-lt-mul_right, eq-or-lt_of_le, mul-le-mul_left, mul-lt-mul_of_pos_right, mul-pos, one-mul, lt_of_not-le, div-add-mod', le-div_iff_mul-le, zero-mul, mul-one, not-le_of_lt, div-mul-le_self, le_of_mul-le-mul_right, mul_left_comm, add-one, arith, lit<, pow_pos, pow_mono, pow-add}
use Prim.Native.Nat.{compare}
use native.Mathlib.Nat.{eq_of_mul-eq-mul_right, pow-succ'}
use native.Mathlib.Decide.{dec_lt, ℕ_discrete}
use mathlib.Core.Bool.{beq}
use lib.Pow.{pow-lt}
use lib.Ieee.{Float, nan, inf, fin, Format, binary32, binary64, prec, emax, low, up, down, size, units, round, of_int, fits, hid, ones, top, to_bits}
use lib.Ieee.Digits.{size-lt, size_reaches, back}
use lib.Ieee.Fits.{two, reach, nearest-le, round_is, round-fits, down_pos, fits_widens}
use lib.Ieee.Exact.{HasValue, units_val}
use lib.Ieee.Nearest.{closest, nearest-ge}
use Rattle.numeric.specs.Narrow.{narrowed}
use Rattle.numeric.specs.Nearest.{IsValue, distance, IsNearest, overflow_limit, IsRounded, RoundIsNearest, NarrowingIsNearest, WideningIsExact, IntegerIsNearest}
use Rattle.numeric.proofs.Near.{closest_lt, closest_gt, closest_eq}
use Rattle.numeric.proofs.Pack.{twice_hid, units_bits, units_inf}
use Rattle.numeric.proofs.Held.{Held, held, one_lt}

-- ---- whole numbers: q * u is within a half of u of n, and where it is just a half away, q is even
abbrev pub Half : ℕ → ℕ → ℕ → Type 0
Half n u q = (2 * distance true n (q * u) ≤ u) × (2 * distance true n (q * u) ≡ u → q % 2 ≡ 0)

pub half : (n u : ℕ) → 0 < u → Half n u (closest n u)
half n u U = go (dec_lt (n % u * 2) u) (dec_lt u (n % u * 2))
  where
    down_case : n % u * 2 < u → Half n u (n / u)
    down_case l = let w = div-add-mod' n u in (omega arith, λ e. omega arith)

    up_case : u < n % u * 2 → Half n u (n / u + 1)
    up_case g =
        let w = div-add-mod' n u in
        let r = mod-lt n U in
        let s : (n / u + 1) * u ≡ n / u * u + u = ap (λ (x : ℕ). x * u) (add-one (n / u)) ∙ suc-mul (n / u) u in
        (omega arith, λ e. omega arith)

    tie_case : n % u * 2 ≡ u → (b : ℕ) → b < 2 → n / u % 2 ≡ b → Half n u (n / u + b)
    tie_case e zero h p =
        let w = div-add-mod' n u in
        let s : (n / u + 0) * u ≡ n / u * u = add-mul (n / u) 0 u ∙ ap (λ (x : ℕ). n / u * u + x) (zero-mul u) ∙ plain (n / u * u) in
        (omega arith, λ x. omega arith)
      where
        plain : (x : ℕ) → x + 0 ≡ x
        plain x = omega arith
    tie_case e (suc zero) h p =
        let w = div-add-mod' n u in
        let s : (n / u + 1) * u ≡ n / u * u + u = ap (λ (x : ℕ). x * u) (add-one (n / u)) ∙ suc-mul (n / u) u in
        (omega arith, λ x. omega arith)
    tie_case e (suc (suc b)) h p = absurd (no b h)
      where
        no : (b : ℕ) → suc (suc b) < 2 → ⊥
        no b h = omega arith

    go : Dec (n % u * 2 < u) → Dec (u < n % u * 2) → Half n u (closest n u)
    go (yes l) y = subst (λ (q : ℕ). Half n u q) (sym (closest_lt n u l)) (down_case l)
    go (no k) (yes g) = subst (λ (q : ℕ). Half n u q) (sym (closest_gt n u g)) (up_case g)
    go (no k) (no j) =
        let e : n % u * 2 ≡ u = omega arith in
        subst (λ (q : ℕ). Half n u q) (sym (closest_eq n u e)) (tie_case e (n / u % 2) (mod-lt (n / u) (lit< tt)) refl)

-- so no multiple of u is nearer
others : (n u q d : ℕ) → Half n u q → (d ≡ q → ⊥) → (distance true n (q * u) ≤ distance true n (d * u)) × (distance true n (q * u) ≡ distance true n (d * u) → q % 2 ≡ 0)
others n u q d h ne = go (dec_lt d q)
  where
    less : d < q → d * u + u ≤ q * u
    less l = le_trans (le_of_eq (sym (suc-mul d u))) (mul-le-mul_right u l)

    more : q < d → q * u + u ≤ d * u
    more l = le_trans (le_of_eq (sym (suc-mul q u))) (mul-le-mul_right u l)

    go : Dec (d < q) → (distance true n (q * u) ≤ distance true n (d * u)) × (distance true n (q * u) ≡ distance true n (d * u) → q % 2 ≡ 0)
    go (yes l) = let a = less l in let b = h.0 in (omega arith, λ e. h.1 (omega arith))
    go (no k) =
        let a = more (above d q k ne) in
        let b = h.0 in
        (omega arith, λ e. h.1 (omega arith))
      where
        above : (d q : ℕ) → (d < q → ⊥) → (d ≡ q → ⊥) → q < d
        above d q a b = omega arith

not_nearer : (n u q d : ℕ) → Half n u q → distance true n (q * u) ≤ distance true n (d * u)
not_nearer n u q d h = go (ℕ_discrete d q)
  where
    go : Dec (d ≡ q) → distance true n (q * u) ≤ distance true n (d * u)
    go (yes e) = le_of_eq (ap (λ (x : ℕ). distance true n (x * u)) (sym e))
    go (no ne) = (others n u q d h ne).0

-- ---- the values of a format: from hid * 2 ^ k units on each is a multiple of 2 ^ k
pow_lt_back : (a b : ℕ) → 2 ^ a < 2 ^ b → a < b
pow_lt_back a b h = lt_of_not-le (λ (g : b ≤ a). not-le_of_lt h (pow_mono g))

same_units : (v : Float) (s t : Bool) (a b c : ℕ) → HasValue v s a c → HasValue v t b c → a ≡ b
same_units nan s t a b c x y = absurd x
same_units (inf r) s t a b c x y = absurd x
same_units (fin r m e) s t a b c x y = eq_of_mul-eq-mul_right (down e) (down_pos e) a b (sym x.1 ∙ y.1)

held_of : (f : Format) (v : Float) (s : Bool) (c : ℕ) → T (fits f v) → HasValue v s c (2 ^ low f) → Held f v
held_of f nan s c h x = absurd x
held_of f (inf r) s c h x = absurd x
held_of f (fin r m e) s c h x = held f r m e h

next : (p k j : ℕ) → 2 ≤ p → p - 1 + k < p + j → k ≤ j
next p k j h l = omega arith

pub on_grid : (f : Format) (t : Bool) (v : Float) (c k : ℕ) → IsValue f t v c → (k ≡ 0) ⊎ (hid f * 2 ^ k ≤ c) → (d : ℕ) × (c ≡ d * 2 ^ k)
on_grid f t v c k i (inl z) = (c, sym (ap (λ (x : ℕ). c * 2 ^ x) z ∙ mul-one c))
on_grid f t v c k i (inr g) =
    let h = held_of f v t c i.held i.value in
    let M = h.M in
    let j = h.k in
    let e : c ≡ M * 2 ^ j = same_units v t h.s c (M * 2 ^ j) (2 ^ low f) i.value h.value in
    let l : 2 ^ (prec f - 1 + k) < 2 ^ (prec f + j) =
    lt_of_le_of_lt (le_of_eq (pow-add 2 (prec f - 1) k)) (lt_of_le_of_lt g
    (lt_of_le_of_lt (le_of_eq e) (lt_of_lt_of_le (mul-lt-mul_of_pos_right h.small (pow_pos j)) (le_of_eq (sym (pow-add 2 (prec f) j)))))) in
    let k_le : k ≤ j = next (prec f) k j (two f) (pow_lt_back (prec f - 1 + k) (prec f + j) l) in
    (M * 2 ^ (j - k), e ∙ ap (λ (x : ℕ). M * 2 ^ x) (sym (back j k k_le)) ∙ ap (λ (x : ℕ). M * x) (pow-add 2 (j - k) k) ∙ sym (mul_assoc M (2 ^ (j - k)) (2 ^ k)))

zero_value : (f : Format) (s : Bool) → IsValue f s (fin s 0 (pos 0)) 0
unfolding fits
zero_value f s = record { held = tt; value = (refl, ap (λ (x : ℕ). x * 2 ^ low f) (zero-mul 1) ∙ zero-mul (2 ^ low f) ∙ sym (zero-mul 1)) }

-- ---- the last digit of a pattern
even_hid : (f : Format) → hid f ≡ 2 * (hid f / 2)
even_hid binary32 = refl
even_hid binary64 = refl

even_sign : (f : Format) (s : Bool) → cond s (top f) 0 % 2 ≡ 0
even_sign binary32 true = refl
even_sign binary32 false = refl
even_sign binary64 true = refl
even_sign binary64 false = refl

last_digit : (f : Format) (s : Bool) (k q : ℕ) → q % 2 ≡ 0 → (cond s (top f) 0 + (k * hid f + q)) % 2 ≡ 0
last_digit f s k q e =
    let a = even_sign f s in
    let b : k * hid f ≡ 2 * (k * (hid f / 2)) = ap (λ (x : ℕ). k * x) (even_hid f) ∙ mul_left_comm k 2 (hid f / 2) in
    omega arith

-- ---- the largest value: in units, 2 ^ (emax + 1) is 2 ^ prec * 2 ^ top-k
abbrev top_k : Format → ℕ
top_k f = 2 * emax f - 1

bound_is : (f : Format) → 2 ^ (low f + suc (emax f)) ≡ 2 ^ prec f * 2 ^ top_k f
bound_is f = ap (λ (x : ℕ). 2 ^ x) (sum (prec f) (emax f) (two f) (reach f)) ∙ pow-add 2 (prec f) (top_k f)
  where
    sum : (p e : ℕ) → 2 ≤ p → p ≤ suc e → e + p - 2 + suc e ≡ p + (2 * e - 1)
    sum p e h g = omega arith

-- the limit, with w for den * 2 ^ top-k
limit_is : (f : Format) (den : ℕ) → overflow_limit f * den + den * 2 ^ top_k f ≡ 2 * (2 ^ prec f * (den * 2 ^ top_k f))
limit_is f den =
    let K = 2 ^ top_k f in
    let P = 2 ^ prec f in
    let a : (2 ^ suc (prec f) - 1) * K * den ≡ (2 ^ suc (prec f) - 1) * (den * K) = mul_assoc (2 ^ suc (prec f) - 1) K den ∙ ap (λ (x : ℕ). (2 ^ suc (prec f) - 1) * x) (mul_comm K den) in
    let b : (2 ^ suc (prec f) - 1) * (den * K) + den * K ≡ suc (2 ^ suc (prec f) - 1) * (den * K) = sym (suc-mul (2 ^ suc (prec f) - 1) (den * K)) in
    let c : suc (2 ^ suc (prec f) - 1) ≡ 2 * P = lib.Pow.suc_ones (suc (prec f)) ∙ pow-succ' 2 (prec f) in
    ap (λ (x : ℕ). x + den * K) a ∙ b ∙ ap (λ (x : ℕ). x * (den * K)) c ∙ mul_assoc 2 P (den * K)

-- ---- n / den units, of which k digits are dropped
module _ (f : Format) (s : Bool) (n den k : ℕ) (D : 0 < den) (lead : (k ≡ 0) ⊎ (hid f * (den * 2 ^ k) ≤ n)) (small : n < 2 ^ prec f * (den * 2 ^ k)) where
  U : 0 < den * 2 ^ k
  U = mul-pos D (pow_pos k)

  is_half : Half n (den * 2 ^ k) (closest n (den * 2 ^ k))
  is_half = half n (den * 2 ^ k) U

  q_hi : closest n (den * 2 ^ k) ≤ 2 ^ prec f
  q_hi = let u = den * 2 ^ k in le_trans (nearest-le (n / u) (compare (n % u * 2) u)) ((div-lt_iff_lt-mul U).1 small)

  q_lo : hid f * (den * 2 ^ k) ≤ n → hid f ≤ closest n (den * 2 ^ k)
  q_lo h = let u = den * 2 ^ k in le_trans ((le-div_iff_mul-le U).1 h) (nearest-ge (n / u) (compare (n % u * 2) u))

  q_lead : (k ≡ 0) ⊎ (hid f ≤ closest n (den * 2 ^ k))
  q_lead = go lead
    where
      go : (k ≡ 0) ⊎ (hid f * (den * 2 ^ k) ≤ n) → (k ≡ 0) ⊎ (hid f ≤ closest n (den * 2 ^ k))
      go (inl z) = inl z
      go (inr h) = inr (q_lo h)

  shape : (d : ℕ) → d * 2 ^ k * den ≡ d * (den * 2 ^ k)
  shape d = mul_assoc d (2 ^ k) den ∙ ap (λ (x : ℕ). d * x) (mul_comm (2 ^ k) den)

  -- at a multiple of 2 ^ k units, and at any value of the format
  at_multiple : (d : ℕ) → let a = closest n (den * 2 ^ k) * 2 ^ k in
      (distance true n (a * den) ≤ distance true n (d * 2 ^ k * den)) × (distance true n (a * den) ≡ distance true n (d * 2 ^ k * den) → (d * 2 ^ k ≡ a) ⊎ (closest n (den * 2 ^ k) % 2 ≡ 0))
  at_multiple d = rw (shape (closest n (den * 2 ^ k)), shape d) (go (ℕ_discrete d q))
    where
      q : ℕ
      q = closest n (den * 2 ^ k)

      go : Dec (d ≡ q) → (distance true n (q * (den * 2 ^ k)) ≤ distance true n (d * (den * 2 ^ k))) ×
          (distance true n (q * (den * 2 ^ k)) ≡ distance true n (d * (den * 2 ^ k)) → (d * 2 ^ k ≡ q * 2 ^ k) ⊎ (q % 2 ≡ 0))
      go (yes e) = (not_nearer n (den * 2 ^ k) q d is_half, λ x. inl (ap (λ (x : ℕ). x * 2 ^ k) e))
      go (no ne) = let o = others n (den * 2 ^ k) q d is_half ne in (o.0, λ e. inr (o.1 e))

  at_value : (t : Bool) (v : Float) (c : ℕ) → IsValue f t v c → let a = closest n (den * 2 ^ k) * 2 ^ k in
      (distance true n (a * den) ≤ distance true n (c * den)) × (distance true n (a * den) ≡ distance true n (c * den) → (c ≡ a) ⊎ (closest n (den * 2 ^ k) % 2 ≡ 0))
  at_value t v c i = go (dec_lt c (hid f * 2 ^ k)) lead
    where
      Is : ℕ → Type 0
      Is c = let a = closest n (den * 2 ^ k) * 2 ^ k in
          (distance true n (a * den) ≤ distance true n (c * den)) × (distance true n (a * den) ≡ distance true n (c * den) → (c ≡ a) ⊎ (closest n (den * 2 ^ k) % 2 ≡ 0))

      multiple : (k ≡ 0) ⊎ (hid f * 2 ^ k ≤ c) → Is c
      multiple b = let g = on_grid f t v c k i b in subst Is (sym g.1) (at_multiple g.0)

      go : Dec (c < hid f * 2 ^ k) → (k ≡ 0) ⊎ (hid f * (den * 2 ^ k) ≤ n) → Is c
      go (no g) l = multiple (inr (above c (hid f * 2 ^ k) g))
        where
          above : (a b : ℕ) → (a < b → ⊥) → b ≤ a
          above a b h = omega arith
      go (yes g) (inl z) = multiple (inl z)
      go (yes g) (inr l) =
          let a = (at_multiple (hid f)).0 in
          let b : c * den < hid f * 2 ^ k * den = mul-lt-mul_of_pos_right g D in
          let e = shape (hid f) in
          (omega arith, λ x. absurd (no (closest n (den * 2 ^ k) * 2 ^ k * den) (c * den) (hid f * 2 ^ k * den) a b (le_trans (le_of_eq e) l) x))
        where
          no : (y c h : ℕ) → distance true n y ≤ distance true n h → c < h → h ≤ n → distance true n y ≡ distance true n c → ⊥
          no y c h a b l e = omega arith

  -- ---- where the result is a value
  value_of : closest n (den * 2 ^ k) * 2 ^ k < 2 ^ (low f + suc (emax f)) → T (fits f (units f s (closest n (den * 2 ^ k)) k)) → IsNearest f s n den (units f s (closest n (den * 2 ^ k)) k)
  value_of l h =
      record {
        units = q * 2 ^ k;
        is = record { held = h; value = units_val f s q k l };
        nearest = λ t v c i. near_by (beq s t) c (at_value t v c i).0;
        even = λ t v c i e. digit (even_by (beq s t) c (at_value t v c i).1 e);
      }
    where
      q : ℕ
      q = closest n (den * 2 ^ k)

      at_zero : (distance true n (q * 2 ^ k * den) ≤ distance true n (0 * den)) × (distance true n (q * 2 ^ k * den) ≡ distance true n (0 * den) → (0 ≡ q * 2 ^ k) ⊎ (q % 2 ≡ 0))
      at_zero = at_value s (fin s 0 (pos 0)) 0 (zero_value f s)

      near_by : (b : Bool) (c : ℕ) → distance true n (q * 2 ^ k * den) ≤ distance true n (c * den) → distance true n (q * 2 ^ k * den) ≤ distance b n (c * den)
      near_by true c x = x
      near_by false c x = let z = at_zero.0 in let w = zero-mul den in omega arith

      even_by : (b : Bool) (c : ℕ) → (distance true n (q * 2 ^ k * den) ≡ distance true n (c * den) → (c ≡ q * 2 ^ k) ⊎ (q % 2 ≡ 0)) → distance true n (q * 2 ^ k * den) ≡ distance b n
          (c * den) → (c ≡ q * 2 ^ k) ⊎ (q % 2 ≡ 0)
      even_by true c x e = x e
      even_by false c x e = x (none c z)
        where
          w : 0 * den ≡ 0
          w = zero-mul den

          z : c * den ≡ 0
          z = let a = at_zero.0 in let b = w in omega arith

          none : (c : ℕ) → c * den ≡ 0 → distance true n (q * 2 ^ k * den) ≡ distance true n (c * den)
          none c z = let a = e in let b = at_zero.0 in omega arith

      top_field : suc k < ones f
      top_field = go q_lead
        where
          go : (k ≡ 0) ⊎ (hid f ≤ q) → suc k < ones f
          go (inl z) = subst (λ (x : ℕ). suc x < ones f) (sym z) (one_lt f)
          go (inr g) =
              let x : 2 ^ (prec f - 1 + k) < 2 ^ (prec f + top_k f) =
              lt_of_le_of_lt (le_trans (le_of_eq (pow-add 2 (prec f - 1) k)) (mul-le-mul_right (2 ^ k) g)) (lt_of_lt_of_le l (le_of_eq (bound_is f ∙ sym (pow-add 2 (prec f) (top_k f))))) in
              last (prec f) (emax f) k (two f) (reach f) (pow_lt_back (prec f - 1 + k) (prec f + top_k f) x)
            where
              last : (p e k : ℕ) → 2 ≤ p → p ≤ suc e → p - 1 + k < p + (2 * e - 1) → suc k < 2 * e + 1
              last p e k h g l = omega arith

      digit : {c : ℕ} → (c ≡ q * 2 ^ k) ⊎ (q % 2 ≡ 0) → (c ≡ q * 2 ^ k) ⊎ (to_bits f (units f s q k) % 2 ≡ 0)
      digit (inl e) = inl e
      digit (inr e) = inr (ap (λ (x : ℕ). x % 2) (units_bits f s q k q_hi q_lead top_field) ∙ last_digit f s k q e)

  -- ---- where it is the infinity
  P_pos : 0 < 2 ^ prec f
  P_pos = pow_pos (prec f)

  same_top : top_k f ≡ k → 2 ^ prec f * 2 ^ top_k f ≤ closest n (den * 2 ^ k) * 2 ^ k → overflow_limit f * den ≤ 2 * n
  same_top e g =
      let q = closest n (den * 2 ^ k) in
      let a : 2 ^ prec f ≤ q = le_of_mul-le-mul_right (le_trans (le_of_eq (ap (λ (x : ℕ). 2 ^ prec f * 2 ^ x) (sym e))) g) (pow_pos k) in
      let b : 2 ^ prec f * (den * 2 ^ k) ≤ q * (den * 2 ^ k) = mul-le-mul_right (den * 2 ^ k) a in
      let c : overflow_limit f * den + den * 2 ^ k ≡ 2 * (2 ^ prec f * (den * 2 ^ k)) = subst (λ (x : ℕ). overflow_limit f * den + den * 2 ^ x ≡ 2 * (2 ^ prec f * (den * 2 ^ x))) e (limit_is f den) in
      let h = is_half.0 in
      omega arith

  -- from the next power of two on
  past_top : top_k f < k → hid f * (den * 2 ^ k) ≤ n → 2 ^ prec f * (den * 2 ^ top_k f) ≤ n
  past_top l h =
      let a : 2 * 2 ^ top_k f ≤ 2 ^ k = le_trans (le_of_eq (sym (pow-succ' 2 (top_k f)))) (pow_mono l) in
      let b : hid f * (den * (2 * 2 ^ top_k f)) ≤ n = le_trans (mul-le-mul_left (hid f) (mul-le-mul_left den a)) h in
      let c : 2 ^ prec f * (den * 2 ^ top_k f) ≡ hid f * (den * (2 * 2 ^ top_k f)) =
      ap (λ (x : ℕ). x * (den * 2 ^ top_k f)) (twice_hid f ∙ mul_comm 2 (hid f)) ∙ mul_assoc (hid f) 2 (den * 2 ^ top_k f) ∙ ap (λ (x : ℕ). hid f * x) (mul_left_comm 2 den (2 ^ top_k f)) in
      le_trans (le_of_eq c) b

  w_pos : 0 < den * 2 ^ top_k f
  w_pos = mul-pos D (pow_pos (top_k f))

  finite : 2 * n < overflow_limit f * den → closest n (den * 2 ^ k) * 2 ^ k < 2 ^ (low f + suc (emax f))
  finite l = lt_of_not-le (λ g. go (subst (λ (x : ℕ). x ≤ closest n (den * 2 ^ k) * 2 ^ k) (bound_is f) g))
    where
      go : 2 ^ prec f * 2 ^ top_k f ≤ closest n (den * 2 ^ k) * 2 ^ k → ⊥
      go g = which (eq-or-lt_of_le K-le) lead
        where
          K-le : top_k f ≤ k
          K-le =
              let a : 2 ^ (prec f + top_k f) ≤ 2 ^ (prec f + k) = le_trans (le_of_eq (pow-add 2 (prec f) (top_k f)))
              (le_trans g (le_trans (mul-le-mul_right (2 ^ k) q_hi) (le_of_eq (sym (pow-add 2 (prec f) k))))) in
              lt_suc (prec f) (top_k f) k (lt_of_not-le (λ (h : suc (prec f + k) ≤ prec f + top_k f). not-le_of_lt (pow-lt h) a))
            where
              lt_suc : (p a b : ℕ) → p + a < suc (p + b) → a ≤ b
              lt_suc p a b h = omega arith

          which : (top_k f ≡ k) ⊎ (top_k f < k) → (k ≡ 0) ⊎ (hid f * (den * 2 ^ k) ≤ n) → ⊥
          which (inl e) x = let a = same_top e g in not-le_of_lt l a
          which (inr h) (inl z) = none (top_k f) k h z
            where
              none : (a k : ℕ) → a < k → k ≡ 0 → ⊥
              none a k h z = omega arith
          which (inr h) (inr x) = let a = past_top h x in let b = limit_is f den in let c = w_pos in omega arith

  infinite : overflow_limit f * den ≤ 2 * n → units f s (closest n (den * 2 ^ k)) k ≡ inf s
  infinite l = units_inf f s (closest n (den * 2 ^ k)) k (no_lt (subst (λ (x : ℕ). x ≤ closest n (den * 2 ^ k) * 2 ^ k) (sym (bound_is f)) big))
    where
      q : ℕ
      q = closest n (den * 2 ^ k)

      no_lt : {a b : ℕ} → b ≤ a → ltb a b ≡ false
      no_lt {a} {b} h = lib.Ieee.Bits.is_false (ltb a b) (lib.Arith.le→nltb a b h)

      big : 2 ^ prec f * 2 ^ top_k f ≤ q * 2 ^ k
      big = which (eq-or-lt_of_le K-le) lead
        where
          lo : hid f * (den * 2 ^ top_k f) ≤ n
          lo =
              let a = limit_is f den in
              let b : den * 2 ^ top_k f ≤ hid f * (den * 2 ^ top_k f) = le_trans (le_of_eq (sym (one-mul (den * 2 ^ top_k f)))) (mul-le-mul_right (den * 2 ^ top_k f) (pow_pos (prec f - 1))) in
              let c : 2 ^ prec f * (den * 2 ^ top_k f) ≡ 2 * (hid f * (den * 2 ^ top_k f)) = ap (λ (x : ℕ). x * (den * 2 ^ top_k f)) (twice_hid f) ∙ mul_assoc 2 (hid f) (den * 2 ^ top_k f) in
              omega arith

          K-le : top_k f ≤ k
          K-le =
              let a : hid f * 2 ^ top_k f * den < 2 ^ prec f * 2 ^ k * den =
              lt_of_le_of_lt (le_of_eq (mul_assoc (hid f) (2 ^ top_k f) den ∙ ap (λ (x : ℕ). hid f * x) (mul_comm (2 ^ top_k f) den)))
              (lt_of_le_of_lt lo (lt_of_lt_of_le small (le_of_eq (sym (shape (2 ^ prec f)))))) in
              let b : 2 ^ (prec f - 1 + top_k f) < 2 ^ (prec f + k) = lt_of_le_of_lt (le_of_eq (pow-add 2 (prec f - 1) (top_k f)))
              (lt_of_lt_of_le (lt_of_mul-lt-mul_right den a) (le_of_eq (sym (pow-add 2 (prec f) k)))) in
              next (prec f) (top_k f) k (two f) (pow_lt_back (prec f - 1 + top_k f) (prec f + k) b)

          -- q below 2 ^ prec would be a tie, at an odd number
          full : top_k f ≡ k → 2 ^ prec f ≤ q
          full e = lt_of_suc (2 ^ prec f) q (λ (g : q < 2 ^ prec f). no g)
            where
              lt_of_suc : (a b : ℕ) → (b < a → ⊥) → a ≤ b
              lt_of_suc a b h = omega arith

              no : q < 2 ^ prec f → ⊥
              no g =
                  let u = den * 2 ^ k in
                  let c : overflow_limit f * den + u ≡ 2 * (2 ^ prec f * u) = subst (λ (x : ℕ). overflow_limit f * den + den * 2 ^ x ≡ 2 * (2 ^ prec f * (den * 2 ^ x))) e (limit_is f den) in
                  let a : q * u + u ≤ 2 ^ prec f * u = le_trans (le_of_eq (sym (suc-mul q u))) (mul-le-mul_right u g) in
                  let h = is_half.0 in
                  let even : q % 2 ≡ 0 = is_half.1 (omega arith) in
                  let full : suc q * u ≡ 2 ^ prec f * u = suc-mul q u ∙ exact (q * u) u (2 ^ prec f * u) n (overflow_limit f * den) a c l h in
                  let is : suc q ≡ 2 ^ prec f = eq_of_mul-eq-mul_right u U (suc q) (2 ^ prec f) full in
                  odd_even q (hid f) even (is ∙ twice_hid f)
                where
                  exact : (x u p n m : ℕ) → x + u ≤ p → m + u ≡ 2 * p → m ≤ 2 * n → 2 * distance true n x ≤ u → x + u ≡ p
                  exact x u p n m a b c d = omega arith

                  odd_even : (q h : ℕ) → q % 2 ≡ 0 → suc q ≡ 2 * h → ⊥
                  odd_even q h a b = omega arith

          which : (top_k f ≡ k) ⊎ (top_k f < k) → (k ≡ 0) ⊎ (hid f * (den * 2 ^ k) ≤ n) → 2 ^ prec f * 2 ^ top_k f ≤ q * 2 ^ k
          which (inl e) x = le_trans (mul-le-mul_right (2 ^ top_k f) (full e)) (le_of_eq (ap (λ (x : ℕ). q * 2 ^ x) e))
          which (inr h) (inl z) = absurd (none (top_k f) k h z)
            where
              none : (a k : ℕ) → a < k → k ≡ 0 → ⊥
              none a k h z = omega arith
          which (inr h) (inr x) =
              let a : 2 * 2 ^ top_k f ≤ 2 ^ k = le_trans (le_of_eq (sym (pow-succ' 2 (top_k f)))) (pow_mono h) in
              let b : 2 ^ prec f * 2 ^ top_k f ≡ hid f * (2 * 2 ^ top_k f) = ap (λ (x : ℕ). x * 2 ^ top_k f) (twice_hid f ∙ mul_comm 2 (hid f)) ∙ mul_assoc (hid f) 2 (2 ^ top_k f) in
              le_trans (le_of_eq b) (le_trans (mul-le-mul_left (hid f) a) (mul-le-mul_right (2 ^ k) (q_lo x)))

-- ---- `round` drops as many digits as that asks
module _ (f : Format) (s : Bool) (num den : ℕ) (D : 0 < den) where
  abbrev n : ℕ
  n = num * 2 ^ low f

  abbrev k : ℕ
  k = size (n / den) - prec f

  times : (a : ℕ) → a * (den * 2 ^ k) ≡ a * 2 ^ k * den
  times a = ap (λ (x : ℕ). a * x) (mul_comm den (2 ^ k)) ∙ sym (mul_assoc a (2 ^ k) den)

  round_small : n < 2 ^ prec f * (den * 2 ^ k)
  round_small =
      let a : n / den < 2 ^ (prec f + k) = lt_of_lt_of_le (size-lt (n / den)) (pow_mono (cover (size (n / den)) (prec f))) in
      lt_of_lt_of_le ((div-lt_iff_lt-mul D).0 a) (le_of_eq (ap (λ (x : ℕ). x * den) (pow-add 2 (prec f) k) ∙ sym (times (2 ^ prec f))))
    where
      cover : (z p : ℕ) → z ≤ p + (z - p)
      cover z p = omega arith

  round_lead : (k ≡ 0) ⊎ (hid f * (den * 2 ^ k) ≤ n)
  round_lead = go (ℕ_discrete k 0)
    where
      in_use : (z p : ℕ) → 2 ≤ p → (z - p ≡ 0 → ⊥) → p - 1 + (z - p) < z
      in_use z p h k = omega arith

      go : Dec (k ≡ 0) → (k ≡ 0) ⊎ (hid f * (den * 2 ^ k) ≤ n)
      go (yes z) = inl z
      go (no z) =
          let a : 2 ^ (prec f - 1 + k) ≤ n / den = size_reaches (n / den) (prec f - 1 + k) (in_use (size (n / den)) (prec f) (two f) z) in
          inr (le_trans (le_of_eq (times (hid f) ∙ ap (λ (x : ℕ). x * den) (sym (pow-add 2 (prec f - 1) k)))) (le_trans (mul-le-mul_right den a) (div-mul-le_self n den)))

  rounded : IsRounded f s num den (round f s num den)
  rounded =
      let e = round_is f s num den in
      record {
        over = λ h. e ∙ infinite f s n den k D round_lead round_small h;
        under = λ h. subst (λ (r : Float). IsNearest f s n den r) (sym e)
            (value_of f s n den k D round_lead round_small (finite f s n den k D round_lead round_small h) (subst (λ (r : Float). T (fits f r)) e (round-fits f s num den)));
      }

-- ---- the statements
pub round_is_nearest : RoundIsNearest
round_is_nearest f s num den D = rounded f s num den D

pub narrowing_is_nearest : NarrowingIsNearest
unfolding narrowed
narrowing_is_nearest s m e = rounded binary32 s (m * up e) (down e) (down_pos e)

pub widening_is_exact : WideningIsExact
widening_is_exact = fits_widens

pub integer_is_nearest : IntegerIsNearest
unfolding of_int
integer_is_nearest f n = rounded f false n 1 (lit< tt)
