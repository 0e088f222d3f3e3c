-- The head of a preprocessor in lent words: C's boundary passes no struct of this kind by value. 44 words of 64 bits:
--   0 mode   1 method   2 d   3 k   4 start   5 stop   6 decay, the bits of an f64   7 weight_time, the bits of an f32
--   8 values_seen   9 internal   10 count   11 initial_len   12 to 27 the weights, the bits of an f32 each   28 to 43 the codes of the channels
-- Of a word that holds an f32 the low 32 bits count. Every pattern of a not-a-number is read as the one not-a-number, and that is written as
-- 7fc00000 or 7ff8000000000000, as in the text.
use Rattle.std.specs.Prelude.{ℕ, ◌%◌, ◌≤◌, cond, ◌||◌, List, [], ◌∷◌, ◌++◌, map, ◌≡◌, T, ltb, eqb, length, take, drop, get_or, set, Float}
use Rattle.std.specs.Float.{binary32, binary64}
use Rattle.std.specs.Float.Ieee.{fits, of_bits, to_bits}
use Rattle.trcf.specs.Fit.{All, Fits}
use Rattle.trcf.specs.Types.{method_number}
use Rattle.trcf.specs.Settings.{Settings, code_max}
use Rattle.trcf.specs.View.{outside_row, or_else}
use Rattle.trcf.specs.declared.types.TransformMethod.{TransformMethod}
use Rattle.trcf.specs.declared.types.TransformMethod.TheVariants.{NONE, WEIGHTED, DIFFERENCE, SUBTRACT_MA, NORMALIZE, NORMALIZE_DIFFERENCE}
use Rattle.trcf.specs.declared.types.ForestMode.{ForestMode}
use Rattle.trcf.specs.declared.types.ForestMode.TheVariants.{STANDARD, TIME_AUGMENTED, STREAMING_IMPUTE, GAP_AUGMENTED}
use Rattle.trcf.specs.declared.head.Preprocessor.{Preprocessor}
use Rattle.snapshot.specs.Read.{all_codes}

-- ---- numbers for the kinds: the source's order, and 3 for GAP_AUGMENTED

abbrev pub mode_number : ForestMode → ℕ
mode_number STANDARD = 0
mode_number TIME_AUGMENTED = 1
mode_number STREAMING_IMPUTE = 2
mode_number GAP_AUGMENTED = 3

abbrev pub mode_of : ℕ → ForestMode
mode_of n = cond (eqb n 1) TIME_AUGMENTED (cond (eqb n 2) STREAMING_IMPUTE (cond (eqb n 3) GAP_AUGMENTED STANDARD))

-- method_number's (document 01, 'Trace text')
abbrev pub method_of : ℕ → TransformMethod
method_of n =
    cond (eqb n 1) WEIGHTED
    (cond (eqb n 2) DIFFERENCE (cond (eqb n 3) SUBTRACT_MA (cond (eqb n 4) NORMALIZE (cond (eqb n 5) NORMALIZE_DIFFERENCE NONE))))

-- a number that names no mode or no method has the text reader's row, 19
abbrev pub kind_row : ℕ → ℕ → ℕ
kind_row mode method = cond (ltb 3 mode || ltb 5 method) 19 0

-- the settings that numbers give
abbrev pub settings_given : ℕ → ℕ → ℕ → ℕ → ℕ → ℕ → Float → Float → List Float → List ℕ → Settings
settings_given mode method d k start stop decay weight_time weights codes =
    record {
      mode = mode_of mode;
      method = method_of method;
      d = d;
      k = k;
      start = start;
      stop = stop;
      decay = decay;
      weight_time = weight_time;
      weights = weights;
      codes = codes;
    }

-- ---- words to a head and back

abbrev pub single : ℕ → Float
single n = of_bits binary32 (n % 4294967296)

-- the words that hold the codes
abbrev pub codes_in : List ℕ → List ℕ
codes_in w = take 16 (drop 28 w)

unfoldable pub head_of : List ℕ → Preprocessor
head_of w =
    record {
      transformer = record {
        transform_method = method_of (get_or w 1 0);
        input_length = get_or w 2 0;
        transform_decay = of_bits binary64 (get_or w 6 0);
        weights = map single (take 16 (drop 12 w));
        count = get_or w 10 0;
      };
      forest_mode = mode_of (get_or w 0 0);
      shingle_size = get_or w 3 0;
      start_normalization = get_or w 4 0;
      stop_normalization = get_or w 5 0;
      weight_time = single (get_or w 7 0);
      values_seen = get_or w 8 0;
      internal_timestamp = get_or w 9 0;
      initial_len = get_or w 11 0;
      codes = codes_in w;
    }

-- the words before the weights
unfoldable pub head_numbers : Preprocessor → List ℕ
head_numbers h =
    mode_number h.forest_mode
    ∷ method_number h.transformer.transform_method
    ∷ h.transformer.input_length
    ∷ h.shingle_size
    ∷ h.start_normalization
    ∷ h.stop_normalization
    ∷ to_bits binary64 h.transformer.transform_decay
    ∷ to_bits binary32 h.weight_time
    ∷ h.values_seen
    ∷ h.internal_timestamp
    ∷ h.transformer.count
    ∷ h.initial_len
    ∷ []

-- the words before the codes
unfoldable pub front_of : Preprocessor → List ℕ
front_of h = head_numbers h ++ map (to_bits binary32) h.transformer.weights

unfoldable pub words_of : Preprocessor → List ℕ
words_of h = front_of h ++ h.codes

-- a call changes the counters alone
unfoldable pub counts_over : List ℕ → Preprocessor → List ℕ
counts_over w h = set (set (set (set w 8 h.values_seen) 9 h.internal_timestamp) 10 h.transformer.count) 11 h.initial_len

-- ---- the row of words that hold no head that `build` gives: 20 for too few words, 19 for a number that names no mode, no method or no code of a channel,
-- then the row that `build` gives for the settings

abbrev pub words_short_row : List ℕ → ℕ
words_short_row w = cond (ltb (length w) 44) 20 0

-- a code has 16 bits: of a word above 65,535 the text reader's row, 19, and no bit of it is dropped
abbrev pub codes_row : List ℕ → ℕ
codes_row v = cond (all_codes v) 0 19

-- words of which no head can be made
unfoldable pub form_row : List ℕ → ℕ
form_row w = or_else (words_short_row w) (or_else (kind_row (get_or w 0 0) (get_or w 1 0)) (codes_row (codes_in w)))

unfoldable pub words_row : List ℕ → ℕ
words_row w = or_else (form_row w) (outside_row (head_of w))

-- ---- a head that the program can hold: an array of 16 weights and one of 16 codes, and numbers of their widths

pub record HeadFits (h : Preprocessor) : Type 0 where
  pub sixteen : length h.transformer.weights ≡ 16
  pub weights_fit : Fits binary32 h.transformer.weights
  pub decay_fits : T (fits binary64 h.transformer.transform_decay)
  pub time_fits : T (fits binary32 h.weight_time)
  pub sixteen_codes : length h.codes ≡ 16
  pub codes_fit : All (λ c. c ≤ code_max) h.codes
