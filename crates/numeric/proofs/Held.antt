-- What a format holds: a significand of at most prec digits, times a power of two, and `round` gives it back. So an f32 as an f64 and back is itself. Assumes nothing.
use Rattle.std.proofs.Common.{◌≡◌, ℕ, zero, suc, ◌+◌, ◌-◌, ◌*◌, ◌/◌, ◌%◌, ◌^◌, ◌<◌, ◌≤◌, Bool, true, false, cond, T, eqb, leb, ◌⊎◌, ℤ, sym, refl, ap, ◌∙◌, subst, inl, inr, le_trans, le_of_eq, lt_of_lt_of_le, le_of_suc-le-suc, le_of_lt, mod-lt, zero-lt-suc, mul_comm, div-lt_iff_lt-mul, mul-pos, mul-one, div-one, arith, lit<, pow_pos}
use native.Mathlib.Nat.{mod-one}
use lib.Arith.{lt_of_le-ne}
use lib.Ieee.{Float, nan, inf, fin, Format, binary32, binary64, prec, emax, low, up, down, size, odd, round, fits, hid, ones, top, of_fields, of_bits, to_bits}
use lib.Ieee.Bits.{of_bits-to_bits}
use lib.Ieee.Fits.{down_pos, eq→eqb, round-fits}
use lib.Ieee.Scale.{round_same}
use lib.Ieee.Exact.{HasValue}
use lib.Ieee.Nearest.{closest}
use Rattle.numeric.specs.Narrow.{narrowed}
use Rattle.numeric.proofs.Near.{closest_lt}
use Rattle.numeric.proofs.Pack.{twice_hid, to_bits_value, packed, round_bits}
use Rattle.numeric.proofs.Fields.{value_mid, value_low}

-- ---- what a format holds, `round` gives back. So an f32 as an f64 and back is itself
-- the fields of what the format holds
read : (f : Format) (x : Float) → T (fits f x) → of_fields f (leb (top f) (to_bits f x)) (to_bits f x % top f / hid f) (to_bits f x % hid f) ≡ x
unfolding of_bits
read f x h = of_bits-to_bits f x h

at_most : (f : Format) (b : ℕ) → b % top f / hid f < suc (ones f)
at_most f b = (div-lt_iff_lt-mul (pow_pos (prec f - 1))).1 (subst (λ (a : ℕ). b % top f < a) (mul_comm (hid f) (suc (ones f))) (mod-lt b (mul-pos (pow_pos (prec f - 1)) (zero-lt-suc (ones f)))))

-- x is M * 2 ^ k of the smallest values, as a finite pattern has it
pub record Held (f : Format) (x : Float) : Type 0 where
  pub s : Bool
  pub M : ℕ
  pub k : ℕ
  pub value : HasValue x s (M * 2 ^ k) (2 ^ low f)
  pub small : M < 2 ^ prec f
  pub lead : (k ≡ 0) ⊎ (hid f ≤ M)
  pub field : suc k < ones f

not_finite : (f : Format) (s : Bool) (x t : ℕ) (r : Bool) (m : ℕ) (e : ℤ) → x ≡ ones f → of_fields f s x t ≡ fin r m e → ⊥
unfolding of_fields
not_finite f s zero t r m e z h = no (emax f) z
  where
    no : (e : ℕ) → 0 ≡ 2 * e + 1 → ⊥
    no e h = omega arith
not_finite f s (suc x) t r m e z h = go (eqb (suc x) (ones f)) (eqb t 0) (eq→eqb z) h
  where
    go : (a b : Bool) → T a → cond a (cond b (inf s) nan) (odd (prec f) s (hid f + t) x (low f)) ≡ fin r m e → ⊥
    go true true a h = let z : ◌≡◌ {A = ℕ} 0 1 = cc in omega arith
    go true false a h = let z : ◌≡◌ {A = ℕ} 0 1 = cc in omega arith
    go false b a h = a

twice : (f : Format) (t : ℕ) → t < hid f → t + hid f < 2 ^ prec f
twice f t h = let e = twice_hid f in omega arith

pub one_lt : (f : Format) → 1 < ones f
one_lt binary32 = lit< tt
one_lt binary64 = lit< tt

held_at : (f : Format) (s : Bool) (x t : ℕ) (r : Bool) (m : ℕ) (e : ℤ) → x < suc (ones f) → t < hid f → of_fields f s x t ≡ fin r m e → Held f (fin r m e)
held_at f s zero t r m e X H w =
    let d = twice f t H in
    record { s = s; M = t; k = 0; value = subst (λ (v : Float). HasValue v s (t * 2 ^ 0) (2 ^ low f)) w (value_low f s t); small = omega arith; lead = inl refl; field = one_lt f }
held_at f s (suc k) t r m e X H w =
    let l : suc k < ones f = lt_of_le-ne (le_of_suc-le-suc X) (λ o. not_finite f s (suc k) t r m e o w) in
    record {
      s = s;
      M = t + hid f;
      k = suc k - 1;
      value = subst (λ (v : Float). HasValue v s ((t + hid f) * 2 ^ (suc k - 1)) (2 ^ low f)) w (value_mid f s (suc k) t (zero-lt-suc k) l);
      small = twice f t H;
      lead = inr (omega arith);
      field = omega arith;
    }

pub held : (f : Format) (s : Bool) (m : ℕ) (e : ℤ) → T (fits f (fin s m e)) → Held f (fin s m e)
held f s m e h =
    let b = to_bits f (fin s m e) in
    held_at f (leb (top f) b) (b % top f / hid f) (b % hid f) s m e (at_most f b) (mod-lt b (pow_pos (prec f - 1))) (read f (fin s m e) h)

pub round_held : (f : Format) (s : Bool) (m : ℕ) (e : ℤ) → T (fits f (fin s m e)) → round f s (m * up e) (down e) ≡ fin s m e
round_held f s m e h =
    let d = held f s m e h in
    let M = d.M in
    let k = d.k in
    let one : closest M (2 ^ 0) ≡ M = closest_lt M 1 (rw (mod-one M) (omega arith)) ∙ div-one M in
    let eq : M * 2 ^ k * 2 ^ low f * 2 ^ 0 ≡ M * 2 ^ k * 2 ^ low f = mul-one (M * 2 ^ k * 2 ^ low f) in
    let fit : M < 2 ^ prec f * 2 ^ 0 = lt_of_lt_of_le d.small (le_of_eq (sym (mul-one (2 ^ prec f)))) in
    let bits_r : to_bits f (round f d.s (M * 2 ^ k) (2 ^ low f)) ≡ cond d.s (top f) 0 + (k * hid f + closest M (2 ^ 0)) =
    round_bits f d.s (M * 2 ^ k) (2 ^ low f) M 0 k (pow_pos (low f)) fit eq (lead d.lead) d.field in
    let bits_x : to_bits f (fin s m e) ≡ cond d.s (top f) 0 + (k * hid f + M) =
    to_bits_value f (fin s m e) d.s (M * 2 ^ k) d.value ∙ regroup (cond d.s (top f) 0) ((size (M * 2 ^ k) - prec f) * hid f) (M * 2 ^ k / 2 ^ (size (M * 2 ^ k) - prec f))
    ∙ ap (λ (y : ℕ). cond d.s (top f) 0 + y) (packed f M k (le_of_lt d.small) d.lead) in
    let same : round f s (m * up e) (down e) ≡ round f d.s (M * 2 ^ k) (2 ^ low f) =
    ap (λ (t : Bool). round f t (m * up e) (down e)) d.value.0 ∙ round_same f d.s (m * up e) (down e) (M * 2 ^ k) (2 ^ low f) (down_pos e) (pow_pos (low f)) d.value.1 in
    same
    ∙ sym (of_bits-to_bits f (round f d.s (M * 2 ^ k) (2 ^ low f)) (round-fits f d.s (M * 2 ^ k) (2 ^ low f)))
    ∙ ap (of_bits f) (bits_r ∙ ap (λ (y : ℕ). cond d.s (top f) 0 + (k * hid f + y)) one ∙ sym bits_x)
    ∙ of_bits-to_bits f (fin s m e) h
  where
    lead : {k M : ℕ} → (k ≡ 0) ⊎ (hid f ≤ M) → (k ≡ 0) ⊎ (hid f * 2 ^ 0 ≤ M)
    lead (inl z) = inl z
    lead (inr g) = inr (le_trans (le_of_eq (mul-one (hid f))) g)

    regroup : (c p q : ℕ) → c + p + q ≡ c + (p + q)
    regroup c p q = omega arith

pub narrowed_held : (x : Float) → T (fits binary32 x) → narrowed x ≡ x
unfolding narrowed
narrowed_held nan h = refl
narrowed_held (inf s) h = refl
narrowed_held (fin s m e) h = round_held binary32 s m e h
