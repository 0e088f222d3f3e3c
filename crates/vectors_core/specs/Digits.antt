-- What the digits of a field are taken for, also where they are not those of a number.
use Rattle.std.specs.Prelude.{ℕ, ◌+◌, ◌-◌, ◌*◌, ◌%◌, Bool, true, false, ◌&&◌, List, drop, ℤ, pos, neg_ℤ, if◌then◌else◌, eqb, leb, slice_index}
use Rattle.std.specs.List.{fold}

-- a digit of either radix; 16 for any other byte
abbrev pub digit : ℕ → ℕ
digit b = if leb 48 b && leb b 57 then b - 48 else (if leb 97 b && leb b 102 then b - 87 else 16)

-- one decimal digit more; 0 where that is 2^64 or more
abbrev pub with_decimal : ℕ → ℕ → ℕ
with_decimal value d = if leb (value * 10 + d % 10) 18446744073709551615 then value * 10 + d % 10 else 0

-- one hexadecimal digit more, in 64 bits
abbrev pub with_hexadecimal : ℕ → ℕ → ℕ
with_hexadecimal value d = value % 1152921504606846976 * 16 + d % 16

abbrev pub decimal : List ℕ → ℕ
decimal text = fold (λ value b. with_decimal value (digit b)) 0 text

abbrev pub hexadecimal : List ℕ → ℕ
hexadecimal text = fold (λ value b. with_hexadecimal value (digit b)) 0 text

-- in 32 bits, of which one is the sign
abbrev pub signed : Bool → ℕ → ℤ
signed negative n = if negative then neg_ℤ (pos (if eqb n 0 then 0 else (n - 1) % 2147483648 + 1)) else pos (n % 2147483648)

-- with a `-` in front where it is negative
abbrev pub signed_decimal : List ℕ → ℤ
signed_decimal text = if eqb (slice_index text 0) 45 then signed true (decimal (drop 1 text)) else signed false (decimal text)
