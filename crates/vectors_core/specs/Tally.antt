-- Counting lines. At the largest u64 a counter stays.
use Rattle.std.specs.Prelude.{ℕ, ◌+◌, min}

abbrev pub one_more : ℕ → ℕ
one_more n = min (n + 1) 18446744073709551615
