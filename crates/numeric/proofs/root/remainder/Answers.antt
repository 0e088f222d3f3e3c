-- `numeric::root::remainder` meets its contract: with c = a * 2 ^ 26 + l, the square of c is a * a * 2 ^ 52 + 2 * a * l * 2 ^ 26 + l * l. Assumes nothing.
use Rattle.std.proofs.Common.{◌≡◌, ℕ, ◌+◌, ◌-◌, ◌*◌, ◌/◌, ◌%◌, ◌^◌, ◌<◌, ◌≤◌, ap, mul-le-mul, mul_right_comm, arith}
use Rattle.numeric.proofs.Squares.{square_sum, square_times}
use Rattle.numeric.proofs.root.remainder.Goals as goal

identity : (n c a l d v w : ℕ) → c ≡ a * 2 ^ 26 + l → d + a * a ≡ n + 0x4000_0100 → v + (a * l * 2 + 2 ^ 56) ≡ d * 2 ^ 26 → w + l * l ≡ v * 2 ^ 26 → w + c * c ≡ n * 2 ^ 52 + 2 ^ 60
identity n c a l d v w e f g h =
    let s : c * c ≡ (a * 2 ^ 26 + l) * (a * 2 ^ 26 + l) = ap (λ (x : ℕ). x * x) e in
    let t = square_sum (a * 2 ^ 26) l in
    let x : a * 2 ^ 26 * (a * 2 ^ 26) ≡ a * a * 2 ^ 52 = square_times a (2 ^ 26) in
    let y : a * 2 ^ 26 * l ≡ a * l * 2 ^ 26 = mul_right_comm a (2 ^ 26) l in
    omega arith

-- how large the products are
module _ (c : ℕ) (h : c < 2 ^ 53) where
  a_le : c / 2 ^ 26 ≤ 2 ^ 27
  a_le = omega arith

  l_le : c % 2 ^ 26 ≤ 2 ^ 26
  l_le = omega arith

  high_le : c / 2 ^ 26 * (c / 2 ^ 26) ≤ 2 ^ 54
  high_le = mul-le-mul a_le a_le

  cross_le : c / 2 ^ 26 * (c % 2 ^ 26) ≤ 2 ^ 53
  cross_le = mul-le-mul a_le l_le

  low_le : c % 2 ^ 26 * (c % 2 ^ 26) ≤ 2 ^ 52
  low_le = mul-le-mul l_le l_le

pub overflow_mul-square : goal.overflow_mul-square
overflow_mul-square c = let h = high_le c.args.c c.requires.c_bound in omega arith

pub overflow_mul-cross : goal.overflow_mul-cross
overflow_mul-cross c = let s = c in let h = cross_le c.args.c c.requires.c_bound in omega arith

pub overflow_mul-cross-2 : goal.overflow_mul-cross-2
overflow_mul-cross-2 c = let s = c in let h = cross_le c.args.c c.requires.c_bound in omega arith

pub overflow_add-cross : goal.overflow_add-cross
overflow_add-cross c = let s = c in let h = cross_le c.args.c c.requires.c_bound in omega arith

pub overflow_mul-result-2 : goal.overflow_mul-result-2
overflow_mul-result-2 c = let s = c in let h = low_le c.args.c c.requires.c_bound in omega arith

pub overflow_sub-result : goal.overflow_sub-result
overflow_sub-result c = let s = c in let h = low_le c.args.c c.requires.c_bound in omega arith

pub returns : goal.returns
returns c =
    let n = c.args.n in
    let k = c.args.c in
    let h = low_le k c.requires.c_bound in
    let d = n + 0x4000_0100 - k / 2 ^ 26 * (k / 2 ^ 26) in
    let v = d * 2 ^ 26 - (k / 2 ^ 26 * (k % 2 ^ 26) * 2 + 2 ^ 56) in
    record {
      c_value = identity n k (k / 2 ^ 26) (k % 2 ^ 26) d v (v * 2 ^ 26 - k % 2 ^ 26 * (k % 2 ^ 26)) (omega arith) (omega arith) (omega arith) (omega arith);
      bound_2 = omega arith;
      upper_bound = omega arith;
    }
