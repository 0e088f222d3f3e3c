-- The factor that rises with the count, and its table (document 02, #103). Definitions only.
use Rattle.std.specs.Prelude.{ℕ, ◌+◌, cond, ltb, pos, Float}
use Rattle.std.specs.Float.{binary64}
use Rattle.std.specs.Float.Ieee.{sub, div, of_int, of_bits, to_bits}

-- "1 − 1/(count + 2)", in f64
unfoldable pub growing_at : ℕ → Float
growing_at n =
    let one = of_bits binary64 0x3ff0_0000_0000_0000 in
    sub binary64 one (div binary64 one (of_int binary64 (pos (n + 2))))

-- the one rule over all entries: entry n is the bits of that number
unfoldable pub bits_at : ℕ → ℕ
bits_at n = to_bits binary64 (growing_at n)

-- "For counts 0 to 999 that number is read from a constant table of 1,000 f64 bit patterns"
abbrev pub table_length : ℕ
table_length = 1000

-- what is read for a count, 0 where the table does not reach
unfoldable pub listed_of : ℕ → ℕ
listed_of n = cond (ltb n table_length) (bits_at n) 0
