-- `numeric::rounding::nearest` meets its contract: `1 << d` is 2 ^ d, and the one test settles `closest`'s three cases. Assumes nothing.
use Rattle.std.proofs.Common.{⊎_elim, ltb, ◌≡◌, ℕ, ◌+◌, ◌*◌, ◌/◌, ◌%◌, ◌^◌, ◌<◌, ap, ◌∙◌, subst, arith, pow_pos}
use Rattle.std.specs.Int.{from_bool}
use lib.Ieee.Nearest.{closest}
use Rattle.numeric.proofs.Flags.{lower}
use Rattle.numeric.proofs.Near.{closest_up_one, closest_stay, one_shl, room, twice_rest}
use Rattle.numeric.proofs.rounding.nearest.Goals as goal
use Rattle.numeric.proofs.rounding.nearest.Goals.{Start}

-- the divisor, as the machine has it
abbrev shl : ℕ → ℕ
shl d = (1 * 2 ^ d) % 2 ^ 64

module _ (c : Start) where
  is : shl c.args.d ≡ 2 ^ c.args.d
  is = one_shl c.args.d c.requires.d_bound

  positive : 0 < shl c.args.d
  positive = rw is (pow_pos c.args.d)

  twice_lt : c.args.m % shl c.args.d * 2 < 2 ^ 64
  twice_lt = rw is (twice_rest c.args.m c.args.d c.requires.d_bound)

  next_lt : c.args.m / shl c.args.d < 2 ^ 63
  next_lt = rw is (room c.args.m c.args.d c.ranges.m.fits c.requires.d_nonzero)

  at : (q : ℕ) → q ≡ closest c.args.m (shl c.args.d) → q ≡ closest c.args.m (2 ^ c.args.d)
  at q e = subst (λ (u : ℕ). q ≡ closest c.args.m u) is e

pub nonzero_div-q : goal.nonzero_div-q
nonzero_div-q c = positive (goal.at.nonzero_div-q c).Start

pub nonzero_rem-t : goal.nonzero_rem-t
nonzero_rem-t c = positive (goal.at.nonzero_rem-t c).Start

pub overflow_mul-t : goal.overflow_mul-t
overflow_mul-t c = let h = twice_lt (goal.at.overflow_mul-t c).Start in omega arith

pub overflow_add-t : goal.overflow_add-t
overflow_add-t c = let h = twice_lt (goal.at.overflow_add-t c).Start in omega arith

-- what was added is 0 or 1
up_lt : (a b x : ℕ) → x ≡ from_bool (ltb a b) → x < 2
up_lt a b x e = ⊎_elim (λ h. omega (arith, h.1)) (λ h. omega (arith, h.1)) (lower a b x e)

pub overflow_add-result : goal.overflow_add-result
overflow_add-result c = let h = next_lt (goal.at.overflow_add-result c).Start in let k = up_lt _ _ c.from-up.result c.from-up.ensures in omega arith

pub returns : goal.returns
returns c =
    let m = c.args.m in
    let u = shl c.args.d in
    at (goal.at.returns c).Start (m / u + c.from-up.result)
    (⊎_elim
    (λ h. ap (λ (x : ℕ). m / u + x) h.1 ∙ closest_up_one m u h.0)
    (λ h. ap (λ (x : ℕ). m / u + x) h.1 ∙ closest_stay m u h.0)
    (lower u (m % u * 2 + m / u % 2) c.from-up.result c.from-up.ensures))
