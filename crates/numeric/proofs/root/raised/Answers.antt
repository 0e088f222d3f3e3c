-- `numeric::root::raised` meets its contract: the number grows while the square of the next is not above n. Assumes nothing.
use Rattle.std.proofs.Common.{ℕ, ◌+◌, ◌*◌, ◌^◌, ◌<◌, ◌≤◌, sym, le_trans, le_of_eq, lt_of_le_of_lt, mul-le-mul, mul-le-mul_left, mul-one, arith}
use Rattle.numeric.proofs.Squares.{square_back}
use Rattle.numeric.proofs.root.raised.Goals as goal
use Rattle.numeric.proofs.root.raised.Goals.{At-loop-r}

at_least : (s : ℕ) → s + 1 ≤ (s + 1) * (s + 1)
at_least s = let one : 1 ≤ s + 1 = omega arith in le_trans (le_of_eq (sym (mul-one (s + 1)))) (mul-le-mul_left (s + 1) one)

small : (c : At-loop-r) → c.loop-r.r < 2 ^ 27
small c = square_back c.loop-r.r (2 ^ 27) (lt_of_le_of_lt c.loop-r.invariant c.requires.n_bound)

pub loop-r-init : goal.loop-r-init
loop-r-init c = c.requires.s_bound

pub overflow_add-r : goal.overflow_add-r
overflow_add-r c = let h = small (goal.at.overflow_add-r c).At-loop-r in omega arith

pub overflow_add-r-in-loop-r : goal.overflow_add-r-in-loop-r
overflow_add-r-in-loop-r c = let h = small (goal.at.overflow_add-r-in-loop-r c).At-loop-r in omega arith

pub overflow_mul-r : goal.overflow_mul-r
overflow_mul-r c =
    let h = small (goal.at.overflow_mul-r c).At-loop-r in
    let l : c.loop-r.r + 1 ≤ 2 ^ 27 = omega arith in
    let p : (c.loop-r.r + 1) * (c.loop-r.r + 1) ≤ 2 ^ 27 * 2 ^ 27 = mul-le-mul l l in
    omega arith

pub overflow_add-r-in-loop-r-2 : goal.overflow_add-r-in-loop-r-2
overflow_add-r-in-loop-r-2 c = let h = small (goal.at.overflow_add-r-in-loop-r-2 c).At-loop-r in omega arith

pub loop-r-smaller : goal.loop-r-smaller
loop-r-smaller c = let h = at_least c.loop-r.r in let t = c.loop-r-test.true in omega arith

pub loop-r-preserved : goal.loop-r-preserved
loop-r-preserved c = c.loop-r-test.true

pub returns : goal.returns
returns c = (c.loop-r.invariant, c.loop-r-test.false)
