-- The table at its ends and past it, and its law at the last entry, by computation. Assumes nothing.
use mathlib.Core.Path.{◌≡◌, refl}
use mathlib.Core.List.{[], ◌∷◌}
use lib.Count.{count_trailing_zeros}
use lib.Dec.{lit≤}
use lib.Ieee.{binary64, size, odd, units, round, neg, sum, add, sub, div, of_int, of_bits, to_bits}
use Rattle.factors.specs.Factors.{growing_at, bits_at, listed_of}
use Rattle.factors.proofs.Entries.{listed_float}

pub ends : (listed_of 0 ∷ listed_of 1 ∷ listed_of 998 ∷ listed_of 999 ∷ listed_of 1000 ∷ listed_of 1001 ∷ [])
    ≡ 0x3fe0_0000_0000_0000 ∷ 0x3fe5_5555_5555_5556 ∷ 0x3fef_f7ce_d916_872b ∷ 0x3fef_f7d0_f16c_2e09 ∷ 0 ∷ 0 ∷ []
unfolding listed_of bits_at growing_at to_bits of_int div sub add neg sum round size units odd of_bits count_trailing_zeros
ends = refl

pub last : of_bits binary64 (listed_of 999) ≡ growing_at 999
last = listed_float 999 (lit≤ tt)
