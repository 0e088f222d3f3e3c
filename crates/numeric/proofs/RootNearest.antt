-- The whole root, and that no f64 lies nearer to √x than the root that `root_of` gives, in whole numbers. x is n / 2 ^ 2148, with n = part * g * g and g = 2 ^ (e / 2 + 484), and the result is
-- a = c * 2 g units with c of 53 digits. So (a - g)² ≤ n ≤ (a + g)², and neither is an equation: part is even, and the squares of 2 c - 1 and 2 c + 1 are odd. Assumes nothing.
use Rattle.std.proofs.Common.{◌≡◌, ℕ, suc, ◌+◌, ◌-◌, ◌*◌, ◌/◌, ◌%◌, ◌^◌, ◌<◌, ◌≤◌, true, false, ◌⊎◌, sym, ap, ◌∙◌, subst, inl, inr, le_trans, le_of_eq, lt_of_lt_of_le, lt_of_le_of_lt, le_of_lt, mul-le-mul_right, mul_assoc, suc-mul, mul-le-mul, lt_of_mul-lt-mul_right, eq-or-lt_of_le, mul-pos, mul_left_comm, add-one, arith, pow_pos, pow-add}
use native.Mathlib.Nat.{eq_of_mul-eq-mul_right, pow-succ'}
use native.Mathlib.Decide.{dec_lt}
use lib.Arith.{lt_of_le-ne}
use lib.Pow.{pow-lt}
use lib.Ieee.{Float, binary64, round, units}
use lib.Ieee.Fits.{round-fits}
use lib.Ieee.Exact.{HasValue, units_val}
use lib.Ieee.Nearest.{closest}
use Rattle.numeric.specs.Root.{isqrt, halves, rooted}
use Rattle.numeric.specs.Nearest.{IsValue, distance, WholeRoot, RootIsNearest}
use Rattle.numeric.proofs.Near.{two_powers}
use Rattle.numeric.proofs.Pack.{round_units, closest_hi, closest_lo}
use Rattle.numeric.proofs.Squares.{square_times, isqrt_within, halves_exact, halves_between, scaled}
use Rattle.numeric.proofs.Roots.{part, unit, unit_pos, whole, four_units, n_lo, halves_in, root_of_scaled, same_value, scaled_of}
use Rattle.numeric.proofs.Tried.{square_lt}
use Rattle.numeric.proofs.Rounded.{half, on_grid}

pub whole_root : WholeRoot
whole_root n = let w = isqrt_within n in (w.low, subst (λ (x : ℕ). n < x * x) (sym (add-one (isqrt n))) w.high)

-- ---- squares
twice_square : (x : ℕ) → 2 * x * (2 * x) ≡ 4 * (x * x)
twice_square x = square_times 2 x

odd_square : (x : ℕ) → x % 2 ≡ 1 → (x * x) % 2 ≡ 1
odd_square x h =
    let a : x ≡ suc (2 * (x / 2)) = omega arith in
    let b : x * x ≡ 2 * (x / 2) * x + x = ap (λ (y : ℕ). y * x) a ∙ suc-mul (2 * (x / 2)) x in
    let c : 2 * (x / 2) * x ≡ 2 * (x / 2 * x) = mul_assoc 2 (x / 2) x in
    omega arith

-- an odd multiple of g has no square that is an even multiple of g * g
never : (p g x n : ℕ) → 0 < g → n ≡ p * (g * g) → p % 2 ≡ 0 → x % 2 ≡ 1 → x * g * (x * g) ≡ n → ⊥
never p g x n G e h o s =
    let a : x * x ≡ p = eq_of_mul-eq-mul_right (g * g) (mul-pos G G) (x * x) p (sym (square_times x g) ∙ s ∙ e) in
    let b = odd_square x o in
    omega arith

-- from halves of the root to the root: √n is within g of y
ends : (n y g : ℕ) → 2 * y ≤ halves n + 2 * g → halves n ≤ 2 * y + 2 * g → ((y - g) * (y - g) ≤ n) × (n ≤ (y + g) * (y + g))
ends n y g a b =
    let w = isqrt_within n in
    let q = isqrt n in
    elim (eq-or-lt_of_le w.low) [
      | inl e ↦
          let x = halves_exact n q e in
          let l : y - g ≤ q = omega arith in
          let h : q ≤ y + g = omega arith in
          (le_trans (mul-le-mul l l) w.low, le_trans (le_of_eq (sym e)) (mul-le-mul h h))
      | inr k ↦
          let x = halves_between n q k w.high in
          let l : y - g ≤ q = omega arith in
          let h : suc q ≤ y + g = omega arith in
          (le_trans (mul-le-mul l l) w.low, le_trans (le_of_lt w.high) (mul-le-mul h h))
    ]

-- ---- c places of 2 * g units, √n strictly within g of them, and n at least the square of the smallest such number
record Strict (n c g : ℕ) : Type 0 where
  full : 2 ^ 52 ≤ c
  low : (c * (2 * g) - g) * (c * (2 * g) - g) < n
  high : n < (c * (2 * g) + g) * (c * (2 * g) + g)
  least : 2 ^ 52 * (2 * g) * (2 ^ 52 * (2 * g)) ≤ n

module _ (n c g : ℕ) (G : 0 < g) (S : Strict n c g) where
  -- a number that is larger by a place or more, and one that is smaller by as much
  beyond : (b : ℕ) → c * (2 * g) + 2 * g ≤ b → 4 * n < (c * (2 * g) + b) * (c * (2 * g) + b)
  beyond b h =
      let a = c * (2 * g) in
      let x : 2 * (a + g) ≤ a + b = omega arith in
      let y : 2 * (a + g) * (2 * (a + g)) ≤ (a + b) * (a + b) = mul-le-mul x x in
      let z = twice_square (a + g) in
      let w = S.high in
      omega arith

  before : (b : ℕ) → b + 2 * g ≤ c * (2 * g) → (c * (2 * g) + b) * (c * (2 * g) + b) < 4 * n
  before b h =
      let a = c * (2 * g) in
      let x : a + b ≤ 2 * (a - g) = omega arith in
      let y : (a + b) * (a + b) ≤ 2 * (a - g) * (2 * (a - g)) = mul-le-mul x x in
      let z = twice_square (a - g) in
      let w = S.low in
      omega arith

  at_least : 2 ^ 52 * (2 * g) ≤ c * (2 * g)
  at_least = mul-le-mul_right (2 * g) S.full

  place : (a b : ℕ) → a < b → a * (2 * g) + 2 * g ≤ b * (2 * g)
  place a b h = le_trans (le_of_eq (sym (suc-mul a (2 * g)))) (mul-le-mul_right (2 * g) h)

  above_by : (b d : ℕ) → b ≡ d * (2 * g) → c * (2 * g) < b → 4 * n < (c * (2 * g) + b) * (c * (2 * g) + b)
  above_by b d e l = beyond b (le_trans (place c d (lt_of_mul-lt-mul_right (2 * g) (lt_of_lt_of_le l (le_of_eq e)))) (le_of_eq (sym e)))

  below_by : (b d : ℕ) → b ≡ d * (2 * g) → b < c * (2 * g) → (c * (2 * g) + b) * (c * (2 * g) + b) < 4 * n
  below_by b d e l = before b (le_trans (le_of_eq (ap (λ (x : ℕ). x + 2 * g) e)) (place d c (lt_of_mul-lt-mul_right (2 * g) (lt_of_le_of_lt (le_of_eq (sym e)) l))))

  below_least : (b : ℕ) → b < 2 ^ 52 * (2 * g) → (c * (2 * g) + b) * (c * (2 * g) + b) < 4 * n
  below_least b l = go (eq-or-lt_of_le S.full)
    where
      go : (2 ^ 52 ≡ c) ⊎ (2 ^ 52 < c) → (c * (2 * g) + b) * (c * (2 * g) + b) < 4 * n
      go (inl e) =
          let B = 2 ^ 52 * (2 * g) in
          let a : c * (2 * g) ≡ B = ap (λ (x : ℕ). x * (2 * g)) (sym e) in
          let x : c * (2 * g) + b < 2 * B = omega arith in
          let y = square_lt (c * (2 * g) + b) (2 * B) x in
          let z = twice_square B in
          let w = S.least in
          omega arith
      go (inr h) = let p = place (2 ^ 52) c h in before b (omega arith)

-- ---- the root of m * 2 ^ (e + 1022)
module _ (m e : ℕ) (lo : 2 ^ 52 ≤ m) (hi : m < 2 ^ 53) (E : e < 2098) where
  scale : halves (m * 2 ^ (e + 1022)) * 2 ^ 1074 * 2 ^ (e / 2 + 486) ≡ halves (m * 2 ^ (e + 1022)) * 2 ^ (e / 2 + 485) * 2 ^ 1075
  scale = two_powers (halves (m * 2 ^ (e + 1022))) 1074 (e / 2 + 486) (e / 2 + 485) 1075 (omega arith)

  two : 2 ^ (e / 2 + 485) ≡ 2 * unit e
  two = let x : e / 2 + 485 ≡ suc (e / 2 + 484) = omega arith in ap (λ (x : ℕ). 2 ^ x) x ∙ pow-succ' 2 (e / 2 + 484)

  four : 2 ^ (e / 2 + 486) ≡ 2 * (2 * unit e)
  four = let x : e / 2 + 486 ≡ suc (e / 2 + 485) = omega arith in ap (λ (x : ℕ). 2 ^ x) x ∙ pow-succ' 2 (e / 2 + 485) ∙ ap (λ (x : ℕ). 2 * x) two

  abbrev places : ℕ
  places = closest (halves (m * 2 ^ (e + 1022))) (2 ^ (e / 2 + 486))

  places_lo : 2 ^ 52 ≤ places
  places_lo = let h = halves (m * 2 ^ (e + 1022)) in let i = halves_in m e lo hi E in closest_lo binary64 false h (2 ^ 1075) h (e / 2 + 486) (e / 2 + 485) (pow_pos 1075) i.1 scale i.0

  places_hi : places ≤ 2 ^ 53
  places_hi = let h = halves (m * 2 ^ (e + 1022)) in closest_hi binary64 false h (2 ^ 1075) h (e / 2 + 486) (e / 2 + 485) (pow_pos 1075) (halves_in m e lo hi E).1 scale

  within : let a = places * (2 * unit e) in let g = unit e in ((a - g) * (a - g) ≤ m * 2 ^ (e + 1022)) × (m * 2 ^ (e + 1022) ≤ (a + g) * (a + g))
  within =
      let n = m * 2 ^ (e + 1022) in
      let g = unit e in
      let h : 2 * distance true (halves n) (places * 2 ^ (e / 2 + 486)) ≤ 2 ^ (e / 2 + 486) = (half (halves n) (2 ^ (e / 2 + 486)) (pow_pos (e / 2 + 486))).0 in
      let f = four in
      let d : places * 2 ^ (e / 2 + 486) ≡ 2 * (places * (2 * g)) = ap (λ (x : ℕ). places * x) f ∙ mul_left_comm places 2 (2 * g) in
      ends n (places * (2 * g)) g (omega arith) (omega arith)

  even_part : part m e % 2 ≡ 0
  even_part = omega arith

  strict : Strict (m * 2 ^ (e + 1022)) places (unit e)
  strict =
      let n = m * 2 ^ (e + 1022) in
      let g = unit e in
      let w = within in
      let W = whole m e lo hi E in
      record {
        full = places_lo;
        low = lt_of_le-ne w.0 (λ x. never (part m e) g (2 * places - 1) n (unit_pos m e lo hi E) W even_part (odd_less places places_lo) (ap (λ (y : ℕ). y * y) (less places g places_lo) ∙ x));
        high = lt_of_le-ne w.1 (λ x. never (part m e) g (2 * places + 1) n (unit_pos m e lo hi E) W even_part (odd_more places) (ap (λ (y : ℕ). y * y) (more places g) ∙ sym x));
        least = le_trans (le_of_eq (ap (λ (y : ℕ). y * y) (sym (mul_assoc (2 ^ 52) 2 g)))) (n_lo m e lo hi E);
      }
    where
      odd_less : (c : ℕ) → 2 ^ 52 ≤ c → (2 * c - 1) % 2 ≡ 1
      odd_less c h = omega arith

      odd_more : (c : ℕ) → (2 * c + 1) % 2 ≡ 1
      odd_more c = omega arith

      more : (c g : ℕ) → (2 * c + 1) * g ≡ c * (2 * g) + g
      more c g = ap (λ (x : ℕ). x * g) (add-one (2 * c)) ∙ suc-mul (2 * c) g ∙ ap (λ (x : ℕ). x + g) (mul_assoc 2 c g ∙ mul_left_comm 2 c g)

      less : (c g : ℕ) → 2 ^ 52 ≤ c → (2 * c - 1) * g ≡ c * (2 * g) - g
      less c g h =
          let a : suc (2 * c - 1) * g ≡ (2 * c - 1) * g + g = suc-mul (2 * c - 1) g in
          let b : suc (2 * c - 1) ≡ 2 * c = omega arith in
          let d : suc (2 * c - 1) * g ≡ c * (2 * g) = ap (λ (x : ℕ). x * g) b ∙ mul_assoc 2 c g ∙ mul_left_comm 2 c g in
          omega arith

  is_value : IsValue binary64 false (rooted (m * 2 ^ (e + 1022))) (places * (2 * unit e))
  unfolding rooted
  is_value =
      let h = halves (m * 2 ^ (e + 1022)) in
      let i = halves_in m e lo hi E in
      let under : places * 2 ^ (e / 2 + 485) < 2 ^ (1074 + 1024) =
      lt_of_le_of_lt (le_trans (mul-le-mul_right (2 ^ (e / 2 + 485)) places_hi) (le_of_eq (sym (pow-add 2 53 (e / 2 + 485))))) (pow-lt {i = 53 + (e / 2 + 485)} {j = 2098} (omega arith)) in
      let v : HasValue (units binary64 false places (e / 2 + 485)) false (places * 2 ^ (e / 2 + 485)) (2 ^ 1074) = units_val binary64 false places (e / 2 + 485) under in
      let is : round binary64 false h (2 ^ 1075) ≡ units binary64 false places (e / 2 + 485) = round_units binary64 false h (2 ^ 1075) h (e / 2 + 486) (e / 2 + 485) (pow_pos 1075) i.1
      scale (inr i.0) in
      record {
        held = round-fits binary64 false h (2 ^ 1075);
        value = subst (λ (r : Float). HasValue r false (places * (2 * unit e)) (2 ^ 1074)) (sym is)
            (subst (λ (x : ℕ). HasValue (units binary64 false places (e / 2 + 485)) false (places * x) (2 ^ 1074)) two v);
      }

  -- the same from the 53 digits of the radicand's own root
  pub root_value : HasValue (rooted (m * 2 ^ (e + 1022))) false (closest (halves (part m e)) 4 * (2 * unit e)) (2 ^ 1074)
  root_value =
      let n = m * 2 ^ (e + 1022) in
      let same : places ≡ closest (halves (part m e)) 4 =
      ap (λ (u : ℕ). closest (halves n) u) (four_units m e lo hi E) ∙ ap (λ (x : ℕ). closest (halves x) (4 * unit e)) (whole m e lo hi E) ∙ scaled (part m e) (unit e) (unit_pos m e lo hi E) in
      subst (λ (p : ℕ). HasValue (rooted n) false (p * (2 * unit e)) (2 ^ 1074)) same is_value.value

  -- a value from 2 ^ 52 places on is a whole number of places
  grid : (v : Float) (b : ℕ) → IsValue binary64 false v b → 2 ^ 52 * (2 * unit e) ≤ b → (d : ℕ) × (b ≡ d * (2 * unit e))
  grid v b i h = subst (λ (u : ℕ). (d : ℕ) × (b ≡ d * u)) two (on_grid binary64 false v b (e / 2 + 485) i (inr (le_trans (le_of_eq (ap (λ (x : ℕ). 2 ^ 52 * x) two)) h)))

  above_all : (v : Float) (b : ℕ) → IsValue binary64 false v b → places * (2 * unit e) < b → 4 * (m * 2 ^ (e + 1022)) < (places * (2 * unit e) + b) * (places * (2 * unit e) + b)
  above_all v b i l =
      let G = unit_pos m e lo hi E in
      let n = m * 2 ^ (e + 1022) in
      let g = grid v b i (le_trans (at_least n places (unit e) G strict) (le_of_lt l)) in
      above_by n places (unit e) G strict b g.0 g.1 l

  below_all : (v : Float) (b : ℕ) → IsValue binary64 false v b → b < places * (2 * unit e) → (places * (2 * unit e) + b) * (places * (2 * unit e) + b) < 4 * (m * 2 ^ (e + 1022))
  below_all v b i l = go (dec_lt b (2 ^ 52 * (2 * unit e)))
    where
      go : Dec (b < 2 ^ 52 * (2 * unit e)) → (places * (2 * unit e) + b) * (places * (2 * unit e) + b) < 4 * (m * 2 ^ (e + 1022))
      go (yes k) = below_least (m * 2 ^ (e + 1022)) places (unit e) (unit_pos m e lo hi E) strict b k
      go (no k) = let g = grid v b i (not_lt b (2 ^ 52 * (2 * unit e)) k) in below_by (m * 2 ^ (e + 1022)) places (unit e) (unit_pos m e lo hi E) strict b g.0 g.1 l
        where
          not_lt : (a b : ℕ) → (a < b → ⊥) → b ≤ a
          not_lt a b h = omega arith

pub root_is_nearest : RootIsNearest
root_is_nearest x F P =
    let s = scaled_of x F P in
    let m = s.0 in
    let e = s.1 in
    let i = s.2 in
    let r = root_of_scaled x m e i in
    record {
      n = m * 2 ^ (e + 1022);
      argument = same_value x false (m * 2 ^ e) (2 ^ 1126) (m * 2 ^ (e + 1022)) (2 ^ 2148) (pow_pos 1126) (two_powers m e 2148 (e + 1022) 1126 (omega arith)) i.value;
      units = places m e i.low i.high i.room * (2 * unit e);
      is = subst (λ (y : Float). IsValue binary64 false y (places m e i.low i.high i.room * (2 * unit e))) (sym r) (is_value m e i.low i.high i.room);
      above = above_all m e i.low i.high i.room;
      below = below_all m e i.low i.high i.room;
    }
