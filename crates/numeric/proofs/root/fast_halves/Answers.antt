-- `numeric::root::fast_halves` meets its contract. With b = 2 ^ 27 and n = s * s + r, the division r * b = low * 2 * s + u gives q = s * b + low, and then q * q + u * b = n * b * b + low * low.
-- So u * b against low * low says whether q is the root, exact or not, or one too large. Assumes nothing.
use Rattle.std.proofs.Common.{◌≡◌, ℕ, suc, ◌+◌, ◌-◌, ◌*◌, ◌/◌, ◌%◌, ◌^◌, ◌<◌, ◌≤◌, ◌⊎◌, sym, ap, ◌∙◌, subst, inl, inr, le_of_suc-le-suc, lt_of_le_of_lt, mod-lt, mul_assoc, mul_comm, div-lt_iff_lt-mul, mul-le-mul, div-add-mod', mul_right_comm, mul_left_comm, add-one, arith}
use lib.Arith.{lt_of_le-ne}
use Rattle.numeric.specs.Root.{halves}
use Rattle.numeric.proofs.Flags.{lower, differs}
use Rattle.numeric.proofs.Squares.{square_suc, square_sum, square_back, halves_exact, halves_between, halves_rest}
use Rattle.numeric.proofs.root.fast_halves.Goals as goal
use Rattle.numeric.proofs.root.fast_halves.Goals.{After-small_root-s, After-from-rest}

square_shift : (s : ℕ) → s * 2 ^ 27 * (s * 2 ^ 27) ≡ s * s * 2 ^ 54
square_shift s = mul_assoc s (2 ^ 27) (s * 2 ^ 27) ∙ ap (λ (x : ℕ). s * x) (mul_left_comm (2 ^ 27) s (2 ^ 27)) ∙ sym (mul_assoc s s (2 ^ 54))

abbrev shifted : ℕ → ℕ → ℕ
shifted n s = (n - s * s) * 2 ^ 27

-- ---- the two tests
data Came (left square over rest : ℕ) : Type 0 where
  above : left < square → over ≡ 1 → rest ≡ 1 → Came left square over rest
  same : left ≡ square → over ≡ 0 → rest ≡ 0 → Came left square over rest
  below : square < left → over ≡ 0 → rest ≡ 1 → Came left square over rest

came : (left square over rest : ℕ) → ((left < square) × (over ≡ 1)) ⊎ ((square ≤ left) × (over ≡ 0)) → ((left ≡ square) × (rest ≡ 0)) ⊎ ((left ≡ square → ⊥) × (rest ≡ 1)) → Came left square over rest
came l s o r (inl x) (inl y) = absurd (no l s x.0 y.0)
  where
    no : (a b : ℕ) → a < b → a ≡ b → ⊥
    no a b h e = omega arith
came l s o r (inl x) (inr y) = above x.0 x.1 y.1
came l s o r (inr x) (inl y) = same y.0 x.1 y.1
came l s o r (inr x) (inr y) = below (lt_of_le-ne x.0 (λ e. y.0 (sym e))) x.1 y.1

small : {l s o r : ℕ} → Came l s o r → (o ≤ 1) × (r ≤ 1)
small (above a b c) = omega arith
small (same a b c) = omega arith
small (below a b c) = omega arith

module _ (n s : ℕ) (N : 2 ^ 52 ≤ n) (M : n < 2 ^ 54) (R : (s * s ≤ n) × (n < (s + 1) * (s + 1))) where
  s_lo : 2 ^ 26 ≤ s
  s_lo = le_of_suc-le-suc (subst (λ (x : ℕ). 2 ^ 26 < x) (add-one s) (square_back (2 ^ 26) (s + 1) (lt_of_le_of_lt N R.1)))

  s_hi : s < 2 ^ 27
  s_hi = square_back s (2 ^ 27) (lt_of_le_of_lt R.0 M)

  rest_le : n - s * s ≤ 2 * s
  rest_le =
      let a : n < suc s * suc s = subst (λ (x : ℕ). n < x * x) (add-one s) R.1 in
      let b = square_suc s in
      omega arith

  positive : 0 < s * 2
  positive = let h = s_lo in omega arith

  low_le : shifted n s / (s * 2) ≤ 2 ^ 27
  low_le =
      let a = rest_le in
      let b = s_lo in
      le_of_suc-le-suc ((div-lt_iff_lt-mul positive).1 (subst (λ (x : ℕ). shifted n s < x) (mul_comm (s * 2) (suc (2 ^ 27))) (omega arith)))

  u_lt : shifted n s % (s * 2) < s * 2
  u_lt = mod-lt (shifted n s) positive

  square_le : shifted n s / (s * 2) * (shifted n s / (s * 2)) ≤ 2 ^ 54
  square_le = mul-le-mul low_le low_le

  identity : (s * 2 ^ 27 + shifted n s / (s * 2)) * (s * 2 ^ 27 + shifted n s / (s * 2)) + shifted n s % (s * 2) * 2 ^ 27 ≡ n * 2 ^ 54 + shifted n s / (s * 2) * (shifted n s / (s * 2))
  identity = go (shifted n s / (s * 2)) (shifted n s % (s * 2)) (div-add-mod' (shifted n s) (s * 2))
    where
      go : (l u : ℕ) → l * (s * 2) + u ≡ shifted n s → (s * 2 ^ 27 + l) * (s * 2 ^ 27 + l) + u * 2 ^ 27 ≡ n * 2 ^ 54 + l * l
      go l u e =
          let a = square_sum (s * 2 ^ 27) l in
          let b = square_shift s in
          let c : s * 2 ^ 27 * l ≡ s * l * 2 ^ 27 = mul_right_comm s (2 ^ 27) l in
          let d : l * (s * 2) ≡ s * l * 2 = sym (mul_assoc l s 2) ∙ ap (λ (x : ℕ). x * 2) (mul_comm l s) in
          let r = R.0 in
          omega arith

  -- the three answers
  over : shifted n s % (s * 2) * 2 ^ 27 < shifted n s / (s * 2) * (shifted n s / (s * 2)) → (s * 2 ^ 27 + shifted n s / (s * 2)) * 2 - 1 ≡ halves (n * 2 ^ 54)
  over h = let b = s_lo in go (s * 2 ^ 27 + shifted n s / (s * 2) - 1) (omega arith)
    where
      go : (p : ℕ) → s * 2 ^ 27 + shifted n s / (s * 2) ≡ suc p → (s * 2 ^ 27 + shifted n s / (s * 2)) * 2 - 1 ≡ halves (n * 2 ^ 54)
      go p e =
          let i : suc p * suc p + shifted n s % (s * 2) * 2 ^ 27 ≡ n * 2 ^ 54 + shifted n s / (s * 2) * (shifted n s / (s * 2)) = ap (λ (x : ℕ). x * x + shifted n s % (s * 2) * 2 ^ 27)
          (sym e) ∙ identity in
          let j = square_suc p in
          let k = square_le in
          let l : 0 < shifted n s / (s * 2) = square_back 0 (shifted n s / (s * 2)) (omega arith) in
          let m = s_lo in
          let x : (s * 2 ^ 27 + shifted n s / (s * 2)) * 2 - 1 ≡ 2 * p + 1 = omega arith in
          x ∙ sym (halves_between (n * 2 ^ 54) p (omega arith) (omega arith))

  exact : shifted n s % (s * 2) * 2 ^ 27 ≡ shifted n s / (s * 2) * (shifted n s / (s * 2)) → (s * 2 ^ 27 + shifted n s / (s * 2)) * 2 ≡ halves (n * 2 ^ 54)
  exact h =
      let q = s * 2 ^ 27 + shifted n s / (s * 2) in
      let i = identity in
      mul_comm q 2 ∙ sym (halves_exact (n * 2 ^ 54) q (omega arith))

  under : shifted n s / (s * 2) * (shifted n s / (s * 2)) < shifted n s % (s * 2) * 2 ^ 27 → (s * 2 ^ 27 + shifted n s / (s * 2)) * 2 + 1 ≡ halves (n * 2 ^ 54)
  under h =
      let q = s * 2 ^ 27 + shifted n s / (s * 2) in
      let i = identity in
      let u = u_lt in
      ap (λ (x : ℕ). x + 1) (mul_comm q 2)
      ∙ sym (halves_rest (n * 2 ^ 54) q (shifted n s % (s * 2) * 2 ^ 27 - shifted n s / (s * 2) * (shifted n s / (s * 2))) (omega arith) (omega arith) (omega arith))

  answer : (o r : ℕ) → Came (shifted n s % (s * 2) * 2 ^ 27) (shifted n s / (s * 2) * (shifted n s / (s * 2))) o r → (s * 2 ^ 27 + shifted n s / (s * 2) - o) * 2 + r ≡ halves (n * 2 ^ 54)
  answer o r (above a b c) = let l = s_lo in minus (s * 2 ^ 27 + shifted n s / (s * 2)) o r b c (omega arith) ∙ over a
    where
      minus : (q o r : ℕ) → o ≡ 1 → r ≡ 1 → 1 ≤ q → (q - o) * 2 + r ≡ q * 2 - 1
      minus q o r a b h = omega arith
  answer o r (same a b c) = none (s * 2 ^ 27 + shifted n s / (s * 2)) o r b c ∙ exact a
    where
      none : (q o r : ℕ) → o ≡ 0 → r ≡ 0 → (q - o) * 2 + r ≡ q * 2
      none q o r a b = omega arith
  answer o r (below a b c) = plus (s * 2 ^ 27 + shifted n s / (s * 2)) o r b c ∙ under a
    where
      plus : (q o r : ℕ) → o ≡ 0 → r ≡ 1 → (q - o) * 2 + r ≡ q * 2 + 1
      plus q o r a b = omega arith

-- ---- the needs
-- the facts at the place after the call
module _ (c : After-small_root-s) where
  root_lo : 2 ^ 26 ≤ c.small_root-s.result
  root_lo = s_lo c.args.n c.small_root-s.result c.requires.bound c.requires.n_bound c.small_root-s.ensures

  root_hi : c.small_root-s.result < 2 ^ 27
  root_hi = s_hi c.args.n c.small_root-s.result c.requires.bound c.requires.n_bound c.small_root-s.ensures

  rest : c.args.n - c.small_root-s.result * c.small_root-s.result ≤ 2 * c.small_root-s.result
  rest = rest_le c.args.n c.small_root-s.result c.requires.bound c.requires.n_bound c.small_root-s.ensures

  low_hi : shifted c.args.n c.small_root-s.result / (c.small_root-s.result * 2) ≤ 2 ^ 27
  low_hi = low_le c.args.n c.small_root-s.result c.requires.bound c.requires.n_bound c.small_root-s.ensures

pub overflow_mul-d-2 : goal.overflow_mul-d-2
overflow_mul-d-2 c = let a = rest (goal.at.overflow_mul-d-2 c).After-small_root-s in let b = root_hi (goal.at.overflow_mul-d-2 c).After-small_root-s in omega arith

pub overflow_mul-low : goal.overflow_mul-low
overflow_mul-low c = let b = root_hi (goal.at.overflow_mul-low c).After-small_root-s in omega arith

pub nonzero_div-low : goal.nonzero_div-low
nonzero_div-low c = let b = root_lo (goal.at.nonzero_div-low c).After-small_root-s in omega arith

pub overflow_mul-left : goal.overflow_mul-left
overflow_mul-left c = let b = root_hi (goal.at.overflow_mul-left c).After-small_root-s in omega arith

pub nonzero_rem-left : goal.nonzero_rem-left
nonzero_rem-left c = let b = root_lo (goal.at.nonzero_rem-left c).After-small_root-s in omega arith

pub overflow_mul-left-2 : goal.overflow_mul-left-2
overflow_mul-left-2 c =
    let b = root_hi (goal.at.overflow_mul-left-2 c).After-small_root-s in
    let u = u_lt c.args.n c.small_root-s.result c.requires.bound c.requires.n_bound c.small_root-s.ensures in
    omega arith

pub overflow_mul-square : goal.overflow_mul-square
overflow_mul-square c = let b = square_le c.args.n c.small_root-s.result c.requires.bound c.requires.n_bound c.small_root-s.ensures in omega arith

pub overflow_mul-q : goal.overflow_mul-q
overflow_mul-q c = let b = root_hi (goal.at.overflow_mul-q c).After-small_root-s in omega arith

pub overflow_add-q : goal.overflow_add-q
overflow_add-q c = let b = root_hi (goal.at.overflow_add-q c).After-small_root-s in let l = low_hi (goal.at.overflow_add-q c).After-small_root-s in omega arith

how : (c : After-from-rest) → let n = c.args.n in let s = c.small_root-s.result in
    Came (shifted n s % (s * 2) * 2 ^ 27) (shifted n s / (s * 2) * (shifted n s / (s * 2))) c.from-over.result c.from-rest.result
how c =
    let n = c.args.n in
    let s = c.small_root-s.result in
    let left = shifted n s % (s * 2) * 2 ^ 27 in
    let square = shifted n s / (s * 2) * (shifted n s / (s * 2)) in
    came left square c.from-over.result c.from-rest.result (lower left square c.from-over.result c.from-over.ensures) (differs left square c.from-rest.result c.from-rest.ensures)

pub overflow_sub-result : goal.overflow_sub-result
overflow_sub-result c = let b = root_lo (goal.at.overflow_sub-result c).After-small_root-s in let m = small (how (goal.at.overflow_sub-result c).After-from-rest) in omega arith

pub overflow_mul-result : goal.overflow_mul-result
overflow_mul-result c = let b = root_hi (goal.at.overflow_mul-result c).After-small_root-s in let l = low_hi (goal.at.overflow_mul-result c).After-small_root-s in omega arith

pub overflow_add-result : goal.overflow_add-result
overflow_add-result c =
    let b = root_hi (goal.at.overflow_add-result c).After-small_root-s in
    let l = low_hi (goal.at.overflow_add-result c).After-small_root-s in
    let m = small (how (goal.at.overflow_add-result c).After-from-rest) in
    omega arith

pub returns : goal.returns
returns c =
    answer c.args.n c.small_root-s.result c.requires.bound c.requires.n_bound c.small_root-s.ensures c.from-over.result c.from-rest.result (how (goal.at.returns c).After-from-rest)
