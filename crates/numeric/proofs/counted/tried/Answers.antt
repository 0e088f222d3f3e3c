-- `numeric::counted::tried` meets its contract: `digits_square` where a is the root of n, and else `digits_other`. Assumes nothing.
use Rattle.std.proofs.Common.{◌≡◌, ℕ, ◌-◌, ◌*◌, ◌^◌, ◌<◌, sym, ap, ◌∙◌, le_of_eq, lt_of_lt_of_le, le_of_lt, mul-le-mul, arith}
use lib.Count.{count_trailing_zeros}
use Rattle.numeric.specs.Digits.{digits_tried}
use Rattle.numeric.proofs.Squares.{square_back}
use Rattle.numeric.proofs.Tried.{odd_part, digits_square, digits_other}
use Rattle.numeric.proofs.counted.tried.Goals as goal
use Rattle.numeric.proofs.counted.tried.Goals.{Start}

exact : (c : Start) → c.args.a * c.args.a ≡ c.args.n → (digits_tried (c.args.n * 2 ^ 54) ≡ 27 - count_trailing_zeros 64 c.args.a) × (count_trailing_zeros 64 c.args.a < 27)
exact c e =
    let a = c.args.a in
    let h = c.requires.a_bound in
    let p : 0 < a = square_back 0 a (lt_of_lt_of_le (let l = c.requires.bound in omega arith) (le_of_eq (sym e))) in
    let o = odd_part 64 a p (omega arith) in
    digits_square c.args.n a o.0 (count_trailing_zeros 64 a) c.requires.n_bound e o.1 o.2

pub overflow_mul-a : goal.overflow_mul-a
overflow_mul-a c = let h = le_of_lt c.requires.a_bound in let m = mul-le-mul h h in omega arith

pub overflow_cast-result : goal.overflow_cast-result
overflow_cast-result c = let h = (exact (goal.at.overflow_cast-result c).Start (omega arith)).1 in omega arith

pub overflow_sub-result : goal.overflow_sub-result
overflow_sub-result c = let h = (exact (goal.at.overflow_sub-result c).Start (omega arith)).1 in omega arith

pub returns-then-a-n : goal.returns-then-a-n
returns-then-a-n c = sym (exact (goal.at.returns-then-a-n c).Start (omega arith)).0

pub returns-else-a-n : goal.returns-else-a-n
returns-else-a-n c =
    let s = c in
    sym (digits_other c.args.n (λ b e. let w : c.args.a * c.args.a ≡ c.args.n = ap (λ (x : ℕ). x * x) (c.requires.by_index b e) ∙ e in omega arith))
