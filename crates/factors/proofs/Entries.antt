-- The table's rule: one computed test over all its entries, and the law that carries it to each. Assumes nothing.
use mathlib.Core.Path.{◌≡◌, refl, sym, ap, ◌∙◌, subst}
use mathlib.Core.Bool.{Bool, true, false, not}
use mathlib.Core.List.{List, [], ◌∷◌}
use Prim.Native.Nat.{ℕ, zero, suc, ◌+◌, ◌≤◌, ◌<◌}
use native.Mathlib.Nat.{add-zero, add-suc, suc-add, le_of_suc-le-suc, not-suc-le-zero}
use native.Mathlib.Omega.{arith}
use borrow.Author.Tests.{lt-ltb, le-ltb}
use lib.Count.{count_trailing_zeros}
use lib.Dec.{T, eqb, eqb→eq}
use lib.ListN.{length, get_or}
use lib.Ieee.{binary64, fits, size, odd, units, round, neg, sum, add, sub, div, of_int, of_bits, to_bits, nan_bits}
use lib.Ieee.Bits.{of_bits-to_bits}
use lib.Ieee.Fits.{sub-fits}
use Rattle.factors.specs.declared.table.TheConstants.{TABLE}
use Rattle.factors.specs.Factors.{growing_at, bits_at, table_length, listed_of}

-- ---- a test over a list, at each entry and its place, counted from i

abbrev pub both : Bool → Bool → Bool
both true b = b
both false b = false

both_left : (a b : Bool) → T (both a b) → T a
both_left true b t = tt
both_left false b t = t

both_right : (a b : Bool) → T (both a b) → T b
both_right true b t = t
both_right false b t = absurd t

abbrev pub every : (ℕ → ℕ → Bool) → ℕ → List ℕ → Bool
every f i [] = true
every f i (x ∷ xs) = both (f i x) (every f (suc i) xs)

from : (f : ℕ → ℕ → Bool) (xs : List ℕ) (i : ℕ) → T (every f i xs) → (k : ℕ) → k < length xs → T (f (i + k) (get_or xs k 0))
from f [] i t k h = absurd (not-suc-le-zero h)
from f (x ∷ xs) i t zero h = subst (λ (m : ℕ). T (f m x)) (sym (add-zero i)) (both_left (f i x) (every f (suc i) xs) t)
from f (x ∷ xs) i t (suc k) h =
    subst (λ (m : ℕ). T (f m (get_or xs k 0))) (suc-add i k ∙ sym (add-suc i k))
    (from f xs (suc i) (both_right (f i x) (every f (suc i) xs) t) k (le_of_suc-le-suc h))

-- ---- the rule

-- entry n is the bits of 1 − 1/(n + 2), and of a number
unfoldable pub right : ℕ → ℕ → Bool
right n x = both (eqb x (bits_at n)) (not (nan_bits binary64 x))

-- the one computed test: the rule over all 1,000 entries
pub tested : T (every right 0 TABLE)
unfolding right bits_at growing_at to_bits nan_bits of_int div sub add neg sum round size units odd of_bits count_trailing_zeros
tested = tt

table_entries : length TABLE ≡ 1000
table_entries = refl

-- the law that carries it to each entry
entry : (n : ℕ) → n < table_length → T (right n (get_or TABLE n 0))
entry n h =
    let at : 0 + n ≡ n = omega arith in
    subst (λ (m : ℕ). T (right m (get_or TABLE n 0))) at (from right TABLE 0 tested n (omega (arith, table_entries)))

entry_is : (n : ℕ) → n < table_length → get_or TABLE n 0 ≡ bits_at n
unfolding right
entry_is n h =
    let x = get_or TABLE n 0 in
    eqb→eq x (bits_at n) (both_left (eqb x (bits_at n)) (not (nan_bits binary64 x)) (entry n h))

-- ---- what is read

pub listed_within : (n : ℕ) → n < table_length → listed_of n ≡ bits_at n
unfolding listed_of
listed_within n h = rw (lt-ltb n table_length h)

pub listed_past : (n : ℕ) → table_length ≤ n → listed_of n ≡ 0
unfolding listed_of
listed_past n h = rw (le-ltb n table_length h)

pub listed_is : (n : ℕ) → n < table_length → get_or TABLE n 0 ≡ listed_of n
listed_is n h = entry_is n h ∙ sym (listed_within n h)

-- ---- for the crate above: an entry, read as a float, is the number, and is no not-a-number

growing_fits : (n : ℕ) → T (fits binary64 (growing_at n))
unfolding growing_at
growing_fits n = sub-fits binary64 _ _

pub listed_float : (n : ℕ) → n < table_length → of_bits binary64 (listed_of n) ≡ growing_at n
unfolding bits_at
listed_float n h = ap (λ (x : ℕ). of_bits binary64 x) (listed_within n h) ∙ of_bits-to_bits binary64 (growing_at n) (growing_fits n)

pub listed_number : (n : ℕ) → n < table_length → T (not (nan_bits binary64 (listed_of n)))
unfolding right
listed_number n h =
    let x = get_or TABLE n 0 in
    subst (λ (y : ℕ). T (not (nan_bits binary64 y))) (entry_is n h ∙ sym (listed_within n h)) (both_right (eqb x (bits_at n)) (not (nan_bits binary64 x)) (entry n h))
