-- `numeric::root::mended` meets its contract: `closest_root`, where the remainder of a number moved by one is that of the first and the difference of the two squares. Assumes nothing.
use Rattle.std.proofs.Common.{◌≡◌, ℕ, ◌+◌, ◌-◌, ◌*◌, ◌^◌, ◌<◌, ◌≤◌, ◌⊎◌, sym, ap, ◌∙◌, inl, inr, arith}
use lib.Ieee.Nearest.{closest}
use Rattle.numeric.specs.Root.{halves}
use Rattle.numeric.proofs.Flags.{lower, no_higher}
use Rattle.numeric.proofs.Squares.{square_up, square_down_one, closest_root}
use Rattle.numeric.proofs.root.mended.Goals as goal
use Rattle.numeric.proofs.root.mended.Goals.{After-from-down}

-- which way the number moves
data Step (w c up down : ℕ) : Type 0 where
  rises : 2 ^ 60 + c < w → up ≡ 1 → down ≡ 0 → Step w c up down
  falls : w + c ≤ 2 ^ 60 → up ≡ 0 → down ≡ 1 → Step w c up down
  stays : w ≤ 2 ^ 60 + c → 2 ^ 60 < w + c → up ≡ 0 → down ≡ 0 → Step w c up down

step : (w c up down : ℕ) → ((2 ^ 60 + c < w) × (up ≡ 1)) ⊎ ((w ≤ 2 ^ 60 + c) × (up ≡ 0)) → ((w + c ≤ 2 ^ 60) × (down ≡ 1)) ⊎ ((2 ^ 60 < w + c) × (down ≡ 0)) → Step w c up down
step w c up down (inl x) (inl y) = absurd (no w c x.0 y.0)
  where
    no : (w c : ℕ) → 2 ^ 60 + c < w → w + c ≤ 2 ^ 60 → ⊥
    no w c h k = omega arith
step w c up down (inl x) (inr y) = rises x.0 x.1 y.1
step w c up down (inr x) (inl y) = falls y.0 x.1 y.1
step w c up down (inr x) (inr y) = stays x.0 y.0 x.1 y.1

small : {w c up down : ℕ} → Step w c up down → (up ≤ 1) × (down ≤ 1)
small (rises h e f) = omega arith
small (falls h e f) = omega arith
small (stays h k e f) = omega arith

-- a number whose remainder is in the bounds is the nearest
certified : (n r w : ℕ) → w + r * r ≡ n * 2 ^ 52 + 2 ^ 60 → w ≤ 2 ^ 60 + r → 2 ^ 60 < w + r → r ≡ closest (halves (n * 2 ^ 54)) 4
certified n r w e h k =
    let x : n * 2 ^ 54 ≡ 4 * (n * 2 ^ 52) = omega arith in
    sym (ap (λ (y : ℕ). closest (halves y) 4) x ∙ closest_root (n * 2 ^ 52) r (omega arith) (omega arith))

-- the number and its remainder after the step
module _ (n w c up down : ℕ) (C : 2 ^ 52 ≤ c) (D : c < 2 ^ 53) (e : w + c * c ≡ n * 2 ^ 52 + 2 ^ 60) (lo : 2 ^ 60 + 2 < w + c * 3) (hi : w ≤ 2 ^ 60 + c * 3 + 2) where
  answer : Step w c up down → c + up - down ≡ closest (halves (n * 2 ^ 54)) 4
  answer (rises h f g) =
      let a : c + up - down ≡ c + 1 = omega arith in
      a ∙ certified n (c + 1) (w - (c * 2 + 1)) (square_up c w (n * 2 ^ 52 + 2 ^ 60) e (omega arith)) (omega arith) (omega arith)
  answer (falls h f g) =
      let a : c + up - down ≡ c - 1 = omega arith in
      a ∙ certified n (c - 1) (w + (c * 2 - 1)) (square_down_one c w (n * 2 ^ 52 + 2 ^ 60) e (omega arith)) (omega arith) (omega arith)
  answer (stays h k f g) =
      let a : c + up - down ≡ c = omega arith in
      a ∙ certified n c w e h k

-- ---- the needs
how : (c : After-from-down) → Step c.in_ok-w.w c.args.c c.from-up.result c.from-down.result
how c =
    let w = c.in_ok-w.w in
    step w c.args.c c.from-up.result c.from-down.result
    (lower (2 ^ 60 + c.args.c) w c.from-up.result c.from-up.ensures) (no_higher (w + c.args.c) (2 ^ 60) c.from-down.result c.from-down.ensures)

pub overflow_add-result : goal.overflow_add-result
overflow_add-result c = let h = small (how (goal.at.overflow_add-result c).After-from-down) in omega arith

pub overflow_sub-result : goal.overflow_sub-result
overflow_sub-result c = let h = small (how (goal.at.overflow_sub-result c).After-from-down) in omega arith

pub returns : goal.returns
returns c =
    let s = c.in_ok-w.ensures in
    answer c.args.n c.in_ok-w.w c.args.c c.from-up.result c.from-down.result c.requires.bound c.requires.c_bound
    s.c_value s.bound_2 s.upper_bound (how (goal.at.returns c).After-from-down)
