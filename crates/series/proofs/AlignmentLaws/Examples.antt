-- Computed examples, each row once, and the theorem at one of them.
use mathlib.Core.Path.{◌≡◌, refl}
use mathlib.Core.Bool.{false}
use mathlib.Core.List.{[], ◌∷◌}
use lib.ListN.{replicate}
use lib.Ieee.{Float, nan, inf, binary32, of_bits, sub, lt}
use Rattle.refusal.specs.Lent.{over}
use Rattle.series.specs.Pairs.{pair, near, pair_step, pairs}
use Rattle.series.specs.Gaps.{zero32, absolute, difference_size, larger, largest, difference_sizes, gaps}
use Rattle.series.specs.Alignment.{unusable, readings_misshapen, align_row, Readings, readings, Outputs, outputs, AlignOutcome, align_outcome, outputs_written, align_of}
use Rattle.series.specs.Comparison.{Comparison}
use Rattle.series.proofs.AlignmentLaws.Theorem.{align_compares}

-- ---- pairs

first : pairs 1 (0 ∷ 10 ∷ 20 ∷ 30 ∷ []) (1 ∷ 12 ∷ 19 ∷ 40 ∷ []) ≡ pair 0 0 ∷ pair 2 2 ∷ []
unfolding pairs pair_step near
first = refl

-- equal times, and no tolerance
same : pairs 0 (5 ∷ 5 ∷ 5 ∷ []) (5 ∷ 5 ∷ []) ≡ pair 0 0 ∷ pair 1 1 ∷ []
unfolding pairs pair_step near
same = refl

-- no wrap
far : pairs 3 (0 ∷ []) (18446744073709551615 ∷ []) ≡ []
unfolding pairs pair_step near
far = refl

-- with a falling time a pair is missed, and the call is refused
falling : pairs 0 (10 ∷ 0 ∷ []) (0 ∷ []) ≡ []
unfolding pairs pair_step near
falling = refl

-- 4,096 readings are taken, 4,097 are not
long : unusable (replicate 4096 3) ≡ unusable []
unfolding unusable
long = refl

too_long : unusable (replicate 4097 3) ≡ unusable (1 ∷ 0 ∷ [])
unfolding unusable
too_long = refl

-- ---- sizes

one : Float
one = of_bits binary32 0x3f80_0000

two : Float
two = of_bits binary32 0x4000_0000

half : Float
half = of_bits binary32 0x3f00_0000

-- -0 - 0 is -0, and its size is +0
minus_zero : difference_size (of_bits binary32 0x8000_0000) zero32 ≡ zero32
unfolding difference_size absolute sub of_bits
minus_zero = refl

-- infinity less itself is not a number, and counts as infinity
infinite : difference_size (inf false) (inf false) ≡ inf false
unfolding difference_size absolute sub
infinite = refl

-- ---- calls

lefts : Readings
lefts = readings (one ∷ nan ∷ two ∷ two ∷ half ∷ half ∷ []) (0 ∷ 10 ∷ 20 ∷ [])

rights : Readings
rights = readings (two ∷ one ∷ half ∷ half ∷ []) (1 ∷ 19 ∷ [])

lent : Outputs
lent = outputs (7 ∷ 7 ∷ 7 ∷ []) (8 ∷ 8 ∷ []) (two ∷ two ∷ two ∷ [])

call : AlignOutcome
call = align_of 2 lefts rights 1 lent

-- positions, number and sizes; what lies past them is kept
compared : call ≡ align_outcome 0 2 (outputs (0 ∷ 2 ∷ 7 ∷ []) (0 ∷ 1 ∷ []) (one ∷ inf false ∷ two ∷ []))
unfolding one two half lefts rights lent call align_of align_row readings_misshapen unusable outputs_written over pairs pair_step near gaps difference_sizes largest larger difference_size absolute sub
    lt of_bits
compared = refl

-- the theorem at this call
compared_well : Comparison 2 lefts rights 1 call
unfolding lefts rights lent call align_of align_row readings_misshapen unusable outputs_written over pairs pair_step near
compared_well = align_compares 2 lefts rights 1 lent refl

-- no pairs give 0
unpaired : align_of 1 (readings (one ∷ []) (0 ∷ [])) (readings [] []) 9 (outputs [] [] (two ∷ [])) ≡ align_outcome 0 0 (outputs [] [] (zero32 ∷ []))
unfolding align_of align_row readings_misshapen unusable outputs_written over pairs pair_step near gaps difference_sizes largest
unpaired = refl

-- ---- rows, in their order

row_2 : align_of 0 (readings [] (1 ∷ 0 ∷ [])) rights 1 lent ≡ align_outcome 2 0 lent
unfolding rights lent align_of align_row
row_2 = refl

row_4 : align_of 18446744073709551615 (readings [] (1 ∷ 0 ∷ [])) rights 1 lent ≡ align_outcome 4 0 lent
unfolding rights lent align_of align_row
row_4 = refl

row_10 : align_of 2 (readings (one ∷ []) (1 ∷ 0 ∷ [])) rights 1 lent ≡ align_outcome 10 0 lent
unfolding rights lent align_of align_row readings_misshapen
row_10 = refl

row_24 : align_of 2 (readings (one ∷ one ∷ two ∷ two ∷ []) (1 ∷ 0 ∷ [])) rights 1 (outputs [] [] []) ≡ align_outcome 24 0 (outputs [] [] [])
unfolding rights align_of align_row readings_misshapen unusable
row_24 = refl

row_20 : align_of 2 lefts rights 1 (outputs (7 ∷ 7 ∷ []) (8 ∷ []) (two ∷ two ∷ [])) ≡ align_outcome 20 0 (outputs (7 ∷ 7 ∷ []) (8 ∷ []) (two ∷ two ∷ []))
unfolding lefts rights align_of align_row readings_misshapen unusable pairs pair_step near
row_20 = refl
