-- Heads in words, computed. Assumes nothing.
use Prim.Native.Nat.{ℕ}
use mathlib.Core.List.{List, [], ◌∷◌}
use mathlib.Core.Path.{◌≡◌, refl}
use lib.ListN.{take, set}
use lib.Ieee.{nan, binary64, of_bits, to_bits, le}
use Rattle.common.specs.Deviation.{outside_unit}
use Rattle.trcf.specs.Transformer.{one32}
use Rattle.trcf.specs.Settings.{settings_row, all_one, block, dimension, waiting}
use Rattle.trcf.specs.View.{head_from, head_row, counters_unfit, own_row, ready_of, outside_row}
use Rattle.trcf.specs.declared.types.TransformMethod.TheVariants.{NORMALIZE}
use Rattle.trcf.specs.declared.types.ForestMode.TheVariants.{TIME_AUGMENTED}
use Rattle.trcf.specs.declared.head.Preprocessor.{Preprocessor}
use Rattle.refusal.specs.Lent.{over}
use Rattle.access.specs.Access.{granted, every_right}
use Rattle.capi.specs.Head.{head_of, head_numbers, front_of, words_of, form_row, words_row, single}
use Rattle.capi.specs.Calls.{open_row, on_head, list_got, list_told, numbers_at, codes_at}

all : Unit {0}
unfolding words_of front_of head_numbers head_of form_row words_row outside_row counters_unfit own_row ready_of waiting open_row on_head list_told numbers_at codes_at granted head_row dimension block settings_row all_one outside_unit over to_bits of_bits le
all = tt

abbrev sample : Preprocessor
sample =
    head_from
    (record {
      mode = TIME_AUGMENTED;
      method = NORMALIZE;
      d = 2;
      k = 4;
      start = 10;
      stop = 20;
      decay = of_bits binary64 0x3fb9_9999_9999_999a;
      weight_time = one32;
      weights = one32 ∷ one32 ∷ [];
      codes = 12 ∷ 65535 ∷ [];
    })

abbrev words : List ℕ
words =
    1 ∷ 4 ∷ 2 ∷ 4 ∷ 10 ∷ 20 ∷ 0x3fb9_9999_9999_999a ∷ 0x3f80_0000 ∷ 0 ∷ 0 ∷ 0 ∷ 0
    ∷ 0x3f80_0000 ∷ 0x3f80_0000 ∷ 0 ∷ 0 ∷ 0 ∷ 0 ∷ 0 ∷ 0 ∷ 0 ∷ 0 ∷ 0 ∷ 0 ∷ 0 ∷ 0 ∷ 0 ∷ 0
    ∷ 12 ∷ 65535 ∷ 0 ∷ 0 ∷ 0 ∷ 0 ∷ 0 ∷ 0 ∷ 0 ∷ 0 ∷ 0 ∷ 0 ∷ 0 ∷ 0 ∷ 0 ∷ 0 ∷ []

example_words : words_of sample ≡ words
unfolding all
example_words = refl

example_row : words_row words ≡ 0
unfolding all
example_row = refl

-- counters that no preprocessor has: an internal time while readings wait, another number of waiting readings than were seen, a count past its limit
example_internal : words_row (set words 9 1) ≡ 20
unfolding all
example_internal = refl

example_waiting : words_row (set words 11 1) ≡ 20
unfolding all
example_waiting = refl

example_count : words_row (set words 10 0xffff_ffff_ffff_ffff) ≡ 20
unfolding all
example_count = refl

-- one word too few; a mode and a method that there is not; STREAMING_IMPUTE; d 0, k 65; a decay of 1.0; start above stop
example_few : words_row (take 43 words) ≡ 20
unfolding all
example_few = refl

example_mode : words_row (set words 0 4) ≡ 19
unfolding all
example_mode = refl

example_gap : words_row (set words 0 3) ≡ 0
unfolding all
example_gap = refl

example_method : words_row (set words 1 6) ≡ 19
unfolding all
example_method = refl

example_impute : words_row (set words 0 2) ≡ 1
unfolding all
example_impute = refl

example_none : words_row (set words 2 0) ≡ 2
unfolding all
example_none = refl

example_long : words_row (set words 3 65) ≡ 4
unfolding all
example_long = refl

example_decay : words_row (set words 6 0x3ff0_0000_0000_0000) ≡ 6
unfolding all
example_decay = refl

example_start : words_row (set words 4 21) ≡ 7
unfolding all
example_start = refl

-- a code of 17 bits, also after the d in use
example_code : words_row (set words 28 65536) ≡ 19
unfolding all
example_code = refl

example_code_behind : words_row (set words 43 65536) ≡ 19
unfolding all
example_code_behind = refl

-- the codes, told: in a list of just their number, in a longer one, which keeps what lies past them, and in one too short
example_codes : codes_at every_right 0 words (7 ∷ 7 ∷ []) ≡ list_got 0 (12 ∷ 65535 ∷ [])
unfolding all
example_codes = refl

example_codes_behind : codes_at every_right 0 words (7 ∷ 7 ∷ 7 ∷ []) ≡ list_got 0 (12 ∷ 65535 ∷ 7 ∷ [])
unfolding all
example_codes_behind = refl

example_codes_short : codes_at every_right 0 words (7 ∷ []) ≡ list_got 20 (7 ∷ [])
unfolding all
example_codes_short = refl

-- the ten numbers, told; one place too few
example_numbers : numbers_at every_right 0 words (7 ∷ 7 ∷ 7 ∷ 7 ∷ 7 ∷ 7 ∷ 7 ∷ 7 ∷ 7 ∷ 7 ∷ 7 ∷ []) ≡ list_got 0 (0 ∷ 0 ∷ 0 ∷ 2 ∷ 4 ∷ 12 ∷ 10 ∷ 4 ∷ 1 ∷ 0 ∷ 7 ∷ [])
unfolding all
example_numbers = refl

example_numbers_short : numbers_at every_right 0 words (7 ∷ 7 ∷ 7 ∷ 7 ∷ 7 ∷ 7 ∷ 7 ∷ 7 ∷ 7 ∷ []) ≡ list_got 20 (7 ∷ 7 ∷ 7 ∷ 7 ∷ 7 ∷ 7 ∷ 7 ∷ 7 ∷ 7 ∷ [])
unfolding all
example_numbers_short = refl

-- 22 before the row of the words, and before the room: role 4, words that hold no head, and no place
example_role : numbers_at every_right 4 [] [] ≡ list_got 22 []
unfolding all
example_role = refl

example_bad_head : numbers_at every_right 3 (set words 2 0) [] ≡ list_got 2 []
unfolding all
example_bad_head = refl

-- every pattern of a not-a-number, and bits above the 32
example_nan : single 0xffff_ffff ≡ nan
unfolding all
example_nan = refl

example_high : single 0x7_3f80_0000 ≡ one32
unfolding all
example_high = refl
