-- Worked examples of the filler by computation, and an instance of each of its theorems. Assumes nothing.
use Prim.Native.Nat.{ℕ, zero, suc, ◌<◌}
use mathlib.Core.Bool.{true, false}
use mathlib.Core.List.{List, [], ◌∷◌}
use mathlib.Core.Path.{◌≡◌, refl}
use native.Mathlib.Omega.{arith}
use lib.IntN.{pos}
use lib.ListN.{length, get_or, replicate}
use lib.Ieee.{Float, nan, inf, binary32, add, sub, mul, div, of_int, of_bits}
use Rattle.series.specs.declared.imputation.ImputationMethod.TheVariants.{FIXED, PREVIOUS, NEXT, LINEAR}
use Rattle.series.specs.Imputation.{is_present, interpolated, missing_of, imputed_at, by_place, imputed}
use Rattle.series.specs.Imputation.{cells_misshapen, known_marks, finite_present, all_finite, impute_row, Imputation, imputation, impute_of, Origin, Agree}
use Rattle.series.proofs.ImputationTheorems.{present_kept, missing_unread, origin}

-- opens what a call computes by
all : Unit {0}
unfolding interpolated missing_of imputed_at by_place imputed cells_misshapen known_marks finite_present all_finite impute_row impute_of add sub mul div of_int of_bits
all = tt

abbrev pub n : ℕ → Float
n k = of_int binary32 (pos k)

-- Five readings of two channels. In the first the readings 1, 2 and 4 are missing, in the second 0, 2 and 3; not-a-numbers stand in them.
abbrev pub cells : List Float
cells = n 2 ∷ nan ∷ nan ∷ n 30 ∷ nan ∷ nan ∷ n 8 ∷ nan ∷ nan ∷ n 60 ∷ []

abbrev pub marks : List ℕ
marks = 0 ∷ 1 ∷ 1 ∷ 0 ∷ 1 ∷ 1 ∷ 0 ∷ 1 ∷ 1 ∷ 0 ∷ []

abbrev pub fixed : List Float
fixed = n 7 ∷ n 9 ∷ []

abbrev pub largest : Float
largest = of_bits binary32 0x7f7f_ffff

abbrev pub smallest : Float
smallest = of_bits binary32 0xff7f_ffff

-- the four rules; a channel with one side, and one with none; overflow of b − a; no readings
pub given : List Imputation
unfolding all
given =
    impute_of FIXED 2 cells marks fixed
    ∷ impute_of PREVIOUS 2 cells marks fixed
    ∷ impute_of NEXT 2 cells marks fixed
    ∷ impute_of LINEAR 2 cells marks fixed
    ∷ impute_of LINEAR 1 (nan ∷ nan ∷ []) (1 ∷ 1 ∷ []) (n 5 ∷ [])
    ∷ impute_of LINEAR 1 (smallest ∷ nan ∷ largest ∷ []) (0 ∷ 1 ∷ 0 ∷ []) (n 5 ∷ [])
    ∷ impute_of NEXT 3 [] [] (n 1 ∷ n 2 ∷ n 3 ∷ [])
    ∷ []

pub samples : given
    ≡ imputation 0 (n 2 ∷ n 9 ∷ n 7 ∷ n 30 ∷ n 7 ∷ n 9 ∷ n 8 ∷ n 9 ∷ n 7 ∷ n 60 ∷ [])
    ∷ imputation 0 (n 2 ∷ n 9 ∷ n 2 ∷ n 30 ∷ n 2 ∷ n 30 ∷ n 8 ∷ n 30 ∷ n 8 ∷ n 60 ∷ [])
    ∷ imputation 0 (n 2 ∷ n 30 ∷ n 8 ∷ n 30 ∷ n 8 ∷ n 60 ∷ n 8 ∷ n 60 ∷ n 7 ∷ n 60 ∷ [])
    ∷ imputation 0 (n 2 ∷ n 30 ∷ n 4 ∷ n 30 ∷ n 6 ∷ n 40 ∷ n 8 ∷ n 50 ∷ n 8 ∷ n 60 ∷ [])
    ∷ imputation 0 (n 5 ∷ n 5 ∷ [])
    ∷ imputation 0 (smallest ∷ inf false ∷ largest ∷ [])
    ∷ imputation 0 []
    ∷ []
unfolding all given
samples = refl

-- Each row, and each before the next: d 0 and d above 16 with nothing else right; cells, marks and fixed values of another shape; 2,001 readings with
-- a fixed value that is not finite; a mark of 2 likewise; a present cell that is infinite; a fixed value, also with no readings. Nothing is changed.
pub refusals : List ℕ
unfolding all
refusals =
    impute_row 0 (nan ∷ []) (2 ∷ []) []
    ∷ impute_row 18446744073709551615 (nan ∷ []) (2 ∷ []) []
    ∷ impute_row 17 [] [] []
    ∷ impute_row 2 (nan ∷ []) (2 ∷ []) (nan ∷ nan ∷ [])
    ∷ impute_row 1 (nan ∷ []) (2 ∷ 2 ∷ []) (nan ∷ [])
    ∷ impute_row 1 (nan ∷ []) (2 ∷ []) []
    ∷ impute_row 2 [] [] (nan ∷ [])
    ∷ impute_row 1 (nan ∷ []) (2 ∷ []) (nan ∷ [])
    ∷ impute_row 1 (inf false ∷ []) (0 ∷ []) (n 1 ∷ [])
    ∷ impute_row 1 (inf false ∷ []) (1 ∷ []) (nan ∷ [])
    ∷ impute_row 1 [] [] (inf true ∷ [])
    ∷ []

pub rows : refusals ≡ 2 ∷ 4 ∷ 4 ∷ 10 ∷ 10 ∷ 10 ∷ 10 ∷ 21 ∷ 11 ∷ 11 ∷ 11 ∷ []
unfolding all refusals
rows = refl

pub unchanged : impute_of LINEAR 1 (n 1 ∷ nan ∷ []) (0 ∷ 2 ∷ []) (n 3 ∷ []) ≡ imputation 21 (n 1 ∷ nan ∷ [])
unfolding all
unchanged = refl

-- over 2,000 readings, and no more
pub most : impute_row 1 (replicate 2000 (n 1)) (replicate 2000 0) (n 1 ∷ []) ∷ impute_row 1 (replicate 2001 (n 1)) (replicate 2001 0) (nan ∷ []) ∷ [] ≡ 0 ∷ 21 ∷ []
unfolding all
most = refl

-- ---- an instance of each theorem

pub kept_60 : get_or (impute_of LINEAR 2 cells marks fixed).cells 9 nan ≡ n 60
kept_60 = present_kept LINEAR 2 cells marks fixed 9 (omega arith) refl

-- 5 where a not-a-number stood, in a cell that is missing
abbrev pub gap : List Float
gap = n 2 ∷ nan ∷ n 8 ∷ []

abbrev pub other : List Float
other = n 2 ∷ n 5 ∷ n 8 ∷ []

abbrev pub between : List ℕ
between = 0 ∷ 1 ∷ 0 ∷ []

agreeing : Agree between gap other
agreeing = record { long = refl; same = at }
  where
    at : (k : ℕ) → k < length gap → is_present (get_or between k 0) ≡ true → get_or gap k nan ≡ get_or other k nan
    at zero h e = refl
    at (suc zero) h e = absurd (let z : ◌≡◌ {A = ℕ} 0 1 = cc in omega arith)
    at (suc (suc zero)) h e = refl
    at (suc (suc (suc k))) h e = absurd (omega arith)

gap_row : (impute_of LINEAR 1 gap between (n 7 ∷ [])).row ≡ 0
unfolding all
gap_row = refl

pub unread : impute_of LINEAR 1 gap between (n 7 ∷ []) ≡ impute_of LINEAR 1 other between (n 7 ∷ [])
unread = (missing_unread LINEAR 1 between (n 7 ∷ []) gap other agreeing).1 gap_row

pub origin_40 : Origin 2 cells marks (n 9) 1 2 (get_or (imputed LINEAR 2 cells marks fixed) 5 nan)
origin_40 = origin LINEAR 2 cells marks fixed (omega arith) refl 5 (omega arith)
