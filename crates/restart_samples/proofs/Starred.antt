-- Document 01's starred sample readings, "proved together, as a list covered by one fact": every number as bits, or as a whole number where the sample has one.
-- Assumes nothing.
use Prim.Native.Nat.{ℕ}
use mathlib.Core.Path.{◌≡◌, refl}
use mathlib.Core.List.{List, [], ◌∷◌, ◌++◌, map}
use lib.IntN.{pos, negsuc}
use lib.ListN.{replicate}
use lib.Ieee.{Float, Format, binary32, binary64, add, sub, mul, div, lt, le, eq, of_int, of_bits, to_bits, to_unsigned, sum, neg, round}
use Rattle.numeric.specs.Narrow.{narrowed}
use Rattle.numeric.specs.Root.{root_within, halves, rooted, root_of}
use Rattle.common.specs.declared.deviation.Deviation.{Deviation}
use Rattle.common.specs.Deviation.{zero64, empty_with, factor_of, step_of, is_empty, mean_of, root_above, deviation_of}
use Rattle.common.specs.WholeScores.{whole_float, statistic_after}
use Rattle.refusal.specs.Lent.{over}
use Rattle.ranges.specs.RangeVector.{Ranges, ranges, range_scale, range_cascaded_add, past_any, unequal, unblocked, cascade_to, shifted, scaled, settled, range_at, put_at}
use Rattle.trcf.specs.Transformer.{zero32, weight_at, transformed, unweighted, inverted, statistic_at, normalized_scale, basic_shift}
use Rattle.trcf.specs.TransformerCalls.{transformer_head, transformer_transform, transformer_invert, transform_row, not_long}
use Rattle.trcf.specs.declared.types.TransformMethod.TheVariants.{NONE, WEIGHTED}
use Rattle.trcf.specs.declared.types.ForestMode.TheVariants.{TIME_AUGMENTED}
use Rattle.trcf.specs.Preprocessor.{time_element, fresh, run}
use Rattle.restart.specs.History.{inputs_of, entries}
use Rattle.restart_samples.proofs.Samples.{computing, recording, sets, normalizing, four_six, one, two}

-- weight, sum, squares, mean and deviation
abbrev numbers : Deviation → List ℕ
numbers s = map (to_bits binary64) (s.weight ∷ s.sum ∷ s.sum_squared ∷ mean_of s ∷ deviation_of s ∷ [])

abbrev scored : ℕ → List ℕ → List ℕ
scored decay scores = numbers (statistic_after (empty_with (of_bits binary64 decay)) (map (λ (n : ℕ). whole_float (pos n)) scores))

abbrev integer : Format → ℕ → ℕ
integer f n = to_unsigned 64 (of_int f (pos n))

abbrev singles : List Float → List ℕ
singles l = map (to_bits binary32) l

abbrev single : ℕ → Float
single n = of_int binary32 (pos n)

abbrev alike : List Float → Ranges
alike l = ranges l l l

abbrev band : Ranges → List ℕ
band v = singles v.values ++ (singles v.upper ++ singles v.lower)

pub starred :
    scored 0 (3 ∷ 5 ∷ [])
    ∷ scored 0x3fe0_0000_0000_0000 (4 ∷ 1 ∷ [])
    ∷ (to_bits binary64 (root_of (of_bits binary64 1)) ∷ [])
    ∷ (integer binary64 9007199254740993 ∷ integer binary64 9007199254740995 ∷ [])
    ∷ (integer binary32 16777217 ∷ integer binary32 16777219 ∷ [])
    ∷ singles (range_cascaded_add binary32 (single 10 ∷ []) (alike (single 1 ∷ single 2 ∷ single 3 ∷ []))).left.values
    ∷ band (range_scale binary32 (ranges (single 2 ∷ []) (single 3 ∷ []) (single 1 ∷ [])) 0 (of_int binary32 (negsuc 0))).left
    ∷ singles (transformer_transform (transformer_head WEIGHTED 1 zero64 (over (replicate 16 zero32) (single 2 ∷ [])) 0) (replicate 15 zero64) (single 3 ∷ []) (zero32 ∷ []) (zero32 ∷ [])).output
    ∷ singles (transformer_invert (transformer_head WEIGHTED 1 zero64 (over (replicate 16 zero32) (single 2 ∷ [])) 0) (replicate 15 zero64) (single 6 ∷ []) (zero32 ∷ []) (zero32 ∷ [])).output
    ∷ singles (inputs_of (normalizing 4 2) (entries (normalizing 4 2) four_six))
    ∷ singles (map (λ (wt : Float). time_element (sets TIME_AUGMENTED NONE 1 0 9 wt) (replicate 30 zero64) 130 100) (one ∷ two ∷ []))
    ∷ []
    ≡ (0x4000_0000_0000_0000 ∷ 0x4020_0000_0000_0000 ∷ 0x4041_0000_0000_0000 ∷ 0x4010_0000_0000_0000 ∷ 0x3ff0_0000_0000_0000 ∷ [])
    ∷ (0x3ff8_0000_0000_0000 ∷ 0x4008_0000_0000_0000 ∷ 0x4022_0000_0000_0000 ∷ 0x4000_0000_0000_0000 ∷ 0x3ff6_a09e_667f_3bcd ∷ [])
    ∷ (0x1e60_0000_0000_0000 ∷ [])
    ∷ (9007199254740992 ∷ 9007199254740996 ∷ [])
    ∷ (16777216 ∷ 16777220 ∷ [])
    ∷ (0x4130_0000 ∷ 0x4150_0000 ∷ 0x4180_0000 ∷ [])
    ∷ (0xc000_0000 ∷ 0xc000_0000 ∷ 0xc000_0000 ∷ [])
    ∷ (0x40c0_0000 ∷ [])
    ∷ (0x3fc0_0000 ∷ [])
    ∷ (0 ∷ 0x4080_0000 ∷ 0x4080_0000 ∷ 0x40c0_0000 ∷ [])
    ∷ (0x41f0_0000 ∷ 0xc28c_0000 ∷ [])
    ∷ []
unfolding computing recording statistic_after range_scale range_cascaded_add past_any transformer_transform transformer_invert transform_row not_long to_unsigned
starred = refl
