-- A u64 as a float, over the format. With its leading zeros shifted out n has 64 digits, of which the format keeps prec: `round_bits` at j = 64 - prec. Assumes nothing.
use Rattle.std.proofs.Common.{◌≡◌, ℕ, suc, ◌+◌, ◌-◌, ◌*◌, ◌%◌, ◌^◌, ◌<◌, ◌≤◌, false, pos, sym, refl, ap, ◌∙◌, subst, inr, le_trans, le_of_eq, lt_of_lt_of_le, mul-le-mul_right, zero-lt-suc, zero-add, mul-one, arith, lit<, lit≤, pow-add, shl_lt, shl_exact}
use lib.Count.{count_leading_zeros, leading_top}
use lib.Ieee.{Format, binary32, binary64, prec, low, hid, ones, of_int}
use lib.Ieee.Nearest.{closest}
use Rattle.numeric.proofs.Near.{two_powers}
use Rattle.numeric.proofs.Pack.{Pattern, round_bits, round_pattern}

-- n without its leading zeros, as the machine shifts it
abbrev pub word : ℕ → ℕ
word n = (n * 2 ^ count_leading_zeros 64 n) % 2 ^ 64

-- how many of a word's digits the format drops, and the exponent's field of 2 ^ 63, less one
abbrev pub spare : Format → ℕ
spare f = 64 - prec f

abbrev pub field : Format → ℕ
field f = low f + spare f

-- what the two formats have in common here
record Roomy (f : Format) : Type 0 where
  kept : prec f + spare f ≡ 64
  lead : prec f - 1 + spare f ≡ 63
  fields : suc (field f) < ones f
  deep : 64 ≤ field f

roomy : (f : Format) → Roomy f
roomy binary32 = record { kept = refl; lead = refl; fields = lit< tt; deep = lit≤ tt }
roomy binary64 = record { kept = refl; lead = refl; fields = lit< tt; deep = lit≤ tt }

pub above : (n : ℕ) → (n ≡ 0 → ⊥) → 0 < n
above n h = omega arith

module _ (n : ℕ) (P : 0 < n) (H : n < 2 ^ 64) where
  pub zeros_lt : count_leading_zeros 64 n < 64
  zeros_lt = let l = leading_top 64 n P H in let e = l.1 in omega arith

  shifted : word n ≡ n * 2 ^ count_leading_zeros 64 n
  shifted = let l = leading_top 64 n P H in let e = l.1 in shl_exact (suc l.0) (count_leading_zeros 64 n) 64 l.3 (omega arith)

  hi : n * 2 ^ count_leading_zeros 64 n < 2 ^ 64
  hi =
      let l = leading_top 64 n P H in
      let e = l.1 in
      let w : suc l.0 + count_leading_zeros 64 n ≡ 64 = omega arith in
      subst (λ (x : ℕ). n * 2 ^ count_leading_zeros 64 n < 2 ^ x) w (shl_lt (suc l.0) (count_leading_zeros 64 n) l.3)

  lo : 2 ^ 63 ≤ n * 2 ^ count_leading_zeros 64 n
  lo =
      let l = leading_top 64 n P H in
      let e = l.1 in
      let w : l.0 + count_leading_zeros 64 n ≡ 63 = omega arith in
      le_trans (le_of_eq (ap (λ (x : ℕ). 2 ^ x) (sym w) ∙ pow-add 2 l.0 (count_leading_zeros 64 n))) (mul-le-mul_right (2 ^ count_leading_zeros 64 n) l.2)

  module _ (f : Format) where
    scaled : n * 2 ^ low f * 2 ^ spare f ≡ n * 2 ^ count_leading_zeros 64 n * 2 ^ (field f - count_leading_zeros 64 n) * 1
    scaled =
        two_powers n (low f) (spare f) (count_leading_zeros 64 n) (field f - count_leading_zeros 64 n) (back (field f) (count_leading_zeros 64 n) (roomy f).deep zeros_lt)
        ∙ sym (mul-one (n * 2 ^ count_leading_zeros 64 n * 2 ^ (field f - count_leading_zeros 64 n)))
      where
        back : (a z : ℕ) → 64 ≤ a → z < 64 → a ≡ z + (a - z)
        back a z h k = omega arith

    pub made : (q : ℕ) → q ≡ closest (word n) (2 ^ spare f) → Pattern f (of_int f (pos n)) ((field f - count_leading_zeros 64 n) * hid f + q)
    unfolding of_int
    made q e =
        let z = count_leading_zeros 64 n in
        let k = field f - z in
        let top : n * 2 ^ z < 2 ^ prec f * 2 ^ spare f = lt_of_lt_of_le hi (le_of_eq (ap (λ (x : ℕ). 2 ^ x) (sym (roomy f).kept) ∙ pow-add 2 (prec f) (spare f))) in
        let bot : hid f * 2 ^ spare f ≤ n * 2 ^ z = le_trans (le_of_eq (sym (pow-add 2 (prec f - 1) (spare f)) ∙ ap (λ (x : ℕ). 2 ^ x) (roomy f).lead)) lo in
        round_pattern f false n 1 (k * hid f + q)
        (ap (λ (x : ℕ). k * hid f + x) (e ∙ ap (λ (x : ℕ). closest x (2 ^ spare f)) shifted)
        ∙ sym (round_bits f false n 1 (n * 2 ^ z) (spare f) k (zero-lt-suc 0) top scaled (inr bot) (less (field f) z (ones f) (roomy f).fields)
        ∙ zero-add (k * hid f + closest (n * 2 ^ z) (2 ^ spare f))))
      where
        less : (a z o : ℕ) → suc a < o → suc (a - z) < o
        less a z o h = omega arith
