-- A radicand in the form in which its root is worked out. Only private contracts and proofs cite this.
use Rattle.std.specs.Prelude.{ℕ, ◌*◌, ◌^◌, ◌<◌, ◌≤◌, false, Float}
use Rattle.std.specs.Float.Ieee.Exact.{HasValue}

-- x is m * 2 ^ (e - 1126), and m has 53 binary digits
pub record IsScaled (x : Float) (m e : ℕ) : Type 0 where
  pub low : 2 ^ 52 ≤ m
  pub high : m < 2 ^ 53
  pub room : e < 2098
  pub value : HasValue x false (m * 2 ^ e) (2 ^ 1126)
