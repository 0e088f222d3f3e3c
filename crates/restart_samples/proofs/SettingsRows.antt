-- Rows 1 to 9 of the settings by computation: each row with the values on both sides of its border, and which of two rows comes first where both hold. Assumes nothing.
use Prim.Native.Nat.{ℕ}
use mathlib.Core.Path.{◌≡◌, refl}
use mathlib.Core.List.{List, [], ◌∷◌, map}
use lib.ListN.{replicate}
use lib.Ieee.{Float, nan, binary32, binary64, of_bits, lt, le, eq}
use Rattle.trcf.specs.declared.types.TransformMethod.{TransformMethod}
use Rattle.trcf.specs.declared.types.TransformMethod.TheVariants.{NONE, WEIGHTED}
use Rattle.trcf.specs.declared.types.ForestMode.{ForestMode}
use Rattle.trcf.specs.declared.types.ForestMode.TheVariants.{STANDARD, TIME_AUGMENTED, STREAMING_IMPUTE}
use Rattle.common.specs.Deviation.{outside_unit}
use Rattle.trcf.specs.Settings.{Settings, all_one, settings_row}

abbrev one : Float
one = of_bits binary32 0x3f80_0000

abbrev two : Float
two = of_bits binary32 0x4000_0000

-- mode, method, d, k, the weights, the number of codes, the decay's bits, start and stop
abbrev sets : ForestMode → TransformMethod → ℕ → ℕ → List Float → ℕ → ℕ → ℕ → ℕ → Settings
sets mode method d k weights codes decay start stop =
    record {
      mode = mode;
      method = method;
      d = d;
      k = k;
      start = start;
      stop = stop;
      decay = of_bits binary64 decay;
      weight_time = one;
      weights = weights;
      codes = replicate codes 7;
    }

abbrev sized : ℕ → ℕ → Settings
sized d k = sets STANDARD WEIGHTED d k (replicate d two) d 0 0 9

abbrev decaying : ℕ → Settings
decaying b = sets STANDARD NONE 1 1 (one ∷ []) 1 b 0 9

abbrev between : ℕ → ℕ → Settings
between start stop = sets STANDARD NONE 1 1 (one ∷ []) 1 0 start stop

abbrev weighted : TransformMethod → Float → Settings
weighted m w = sets STANDARD m 1 1 (w ∷ []) 1 0 0 9

-- 1: that mode, and no other
pub row_1 : map settings_row (sets STREAMING_IMPUTE NONE 1 1 (one ∷ []) 1 0 0 9 ∷ sets TIME_AUGMENTED NONE 1 1 (one ∷ []) 1 0 0 9 ∷ []) ≡ 1 ∷ 0 ∷ []
unfolding settings_row outside_unit all_one lt le eq of_bits
row_1 = refl

-- 2, 3, 4: d 0, 1, 16, 17; k 0, 1, 64, 65
pub rows_2_to_4 : map settings_row (sized 0 1 ∷ sized 1 1 ∷ sized 16 1 ∷ sized 17 1 ∷ sized 1 0 ∷ sized 1 64 ∷ sized 1 65 ∷ sized 16 64 ∷ []) ≡ 2 ∷ 0 ∷ 0 ∷ 4 ∷ 3 ∷ 0 ∷ 4 ∷ 0 ∷ []
unfolding settings_row outside_unit all_one lt le eq of_bits
rows_2_to_4 = refl

-- 5: d 2 with one weight, two, three; with one code, three
pub row_5 : map settings_row
    (sets STANDARD WEIGHTED 2 1 (replicate 1 two) 2 0 0 9
    ∷ sets STANDARD WEIGHTED 2 1 (replicate 2 two) 2 0 0 9
    ∷ sets STANDARD WEIGHTED 2 1 (replicate 3 two) 2 0 0 9
    ∷ sets STANDARD WEIGHTED 2 1 (replicate 2 two) 1 0 0 9
    ∷ sets STANDARD WEIGHTED 2 1 (replicate 2 two) 3 0 0 9
    ∷ [])
    ≡ 5 ∷ 0 ∷ 5 ∷ 5 ∷ 5 ∷ []
unfolding settings_row outside_unit all_one lt le eq of_bits
row_5 = refl

-- 6: decay 0, −0, the last below 1, 1, the first below 0, infinity, not-a-number
pub row_6 : map (λ (b : ℕ). settings_row (decaying b))
    (0 ∷ 0x8000_0000_0000_0000 ∷ 0x3fef_ffff_ffff_ffff ∷ 0x3ff0_0000_0000_0000 ∷ 0x8000_0000_0000_0001 ∷ 0x7ff0_0000_0000_0000 ∷ 0x7ff8_0000_0000_0000 ∷ [])
    ≡ 0 ∷ 0 ∷ 0 ∷ 6 ∷ 6 ∷ 6 ∷ 6 ∷ []
unfolding settings_row outside_unit all_one lt le eq of_bits
row_6 = refl

-- 7 and 8: start 5 with stop 4, 5; start 501, 1,999, 2,000; 7 before 8
pub rows_7_and_8 : map settings_row (between 5 4 ∷ between 5 5 ∷ between 501 501 ∷ between 1999 1999 ∷ between 2000 2000 ∷ between 2000 1999 ∷ []) ≡ 7 ∷ 0 ∷ 0 ∷ 0 ∷ 8 ∷ 7 ∷ []
unfolding settings_row outside_unit all_one lt le eq of_bits
rows_7_and_8 = refl

-- 9: a weight 2 and a not-a-number under NONE; under another method any weight
pub row_9 : map settings_row (weighted NONE one ∷ weighted NONE two ∷ weighted NONE nan ∷ weighted WEIGHTED two ∷ weighted WEIGHTED nan ∷ []) ≡ 0 ∷ 9 ∷ 9 ∷ 0 ∷ 0 ∷ []
unfolding settings_row outside_unit all_one lt le eq of_bits
row_9 = refl

-- each before the next where both hold
pub order : map settings_row
    (sets STREAMING_IMPUTE NONE 0 0 [] 0 0 0 9
    ∷ sets STANDARD NONE 0 0 [] 0 0 0 9
    ∷ sets STANDARD NONE 17 0 [] 0 0 0 9
    ∷ sets STANDARD NONE 17 1 [] 0 0 0 9
    ∷ sets STANDARD NONE 1 1 [] 0 0x3ff0_0000_0000_0000 0 9
    ∷ sets STANDARD NONE 1 1 (two ∷ []) 1 0x3ff0_0000_0000_0000 2001 2000
    ∷ sets STANDARD NONE 1 1 (two ∷ []) 1 0 2001 2000
    ∷ sets STANDARD NONE 1 1 (two ∷ []) 1 0 2000 2000
    ∷ [])
    ≡ 1 ∷ 2 ∷ 3 ∷ 4 ∷ 5 ∷ 6 ∷ 7 ∷ 8 ∷ []
unfolding settings_row outside_unit all_one lt le eq of_bits
order = refl
