-- The settings, and the rows that refuse them: document 01, 'Numbers the mechanic may see', rows 1 to 9.
use Rattle.std.specs.Prelude.{ℕ, ◌+◌, ◌*◌, ◌≤◌, ◌≡◌, Bool, true, false, cond, not, ◌&&◌, ◌||◌, List, [], ◌∷◌, T, ltb, leb, eqb, length, Float}
use Rattle.std.specs.Float.{binary32, binary64}
use Rattle.std.specs.Float.Ieee.{eq, fits}
use Rattle.refusal.specs.Refusal.{first_of}
use Rattle.common.specs.Deviation.{outside_unit}
unfoldable pub use Rattle.trcf.specs.Fit.{All, Fits}
use Rattle.trcf.specs.Types.{is_none, normalizes, augments}
use Rattle.trcf.specs.Transformer.{Transformer, one32}
use Rattle.trcf.specs.declared.types.TransformMethod.{TransformMethod}
use Rattle.trcf.specs.declared.types.ForestMode.{ForestMode}
use Rattle.trcf.specs.declared.types.ForestMode.TheVariants.{STANDARD, TIME_AUGMENTED, STREAMING_IMPUTE, GAP_AUGMENTED}

pub record Settings : Type 0 where
  pub mode : ForestMode
  pub method : TransformMethod
  pub d : ℕ  -- input_dimensions
  pub k : ℕ  -- shingle_size
  pub start : ℕ  -- start_normalization
  pub stop : ℕ  -- stop_normalization
  pub decay : Float  -- transform_decay
  pub weight_time : Float
  pub weights : List Float
  pub codes : List ℕ  -- of the channels

-- the settings and statistics that the transform reads
abbrev pub transformer : Settings → ℕ → List Float → Transformer
transformer s count st =
    record { method = s.method; d = s.d; decay = s.decay; weights = s.weights; count = count; statistics = st }

-- the numbers in one transformed reading: one more where the mode has a time element
unfoldable pub block : Settings → ℕ
block s = s.d + cond (augments s.mode) 1 0

-- `get_dimension`
unfoldable pub dimension : Settings → ℕ
dimension s = block s * s.k

-- "The watch waits while the method is NORMALIZE or NORMALIZE_DIFFERENCE and `values_seen` < start."
unfoldable pub waiting : Settings → ℕ → Bool
waiting s seen = normalizes s.method && ltb seen s.start

-- ---- rows 1 to 9

-- "d is `input_dimensions`, 1 to 16"
abbrev pub input_limit : ℕ
input_limit = 16

-- "k is `shingle_size`, 1 to 64"
abbrev pub shingle_limit : ℕ
shingle_limit = 64

-- "start ≥ 2000"
abbrev pub start_bound : ℕ
start_bound = 2000

abbrev pub imputes : ForestMode → Bool
imputes STANDARD = false
imputes TIME_AUGMENTED = false
imputes STREAMING_IMPUTE = true
imputes GAP_AUGMENTED = false

unfoldable pub all_one : List Float → Bool
all_one [] = true
all_one (x ∷ xs) = eq x one32 && all_one xs

abbrev pub settings_table : Settings → List (Bool × ℕ)
settings_table s =
    (imputes s.mode, 1)  -- STREAMING_IMPUTE
    ∷ (eqb s.d 0, 2)  -- d = 0
    ∷ (eqb s.k 0, 3)  -- k = 0
    ∷ (ltb input_limit s.d || ltb shingle_limit s.k, 4)  -- d or k over limit
    ∷ (not (eqb (length s.weights) s.d && eqb (length s.codes) s.d), 5)  -- weights or codes not d long
    ∷ (outside_unit s.decay, 6)  -- decay outside 0 ≤ it < 1
    ∷ (ltb s.stop s.start, 7)  -- start > stop
    ∷ (leb start_bound s.start, 8)  -- start ≥ 2000
    ∷ (is_none s.method && not (all_one s.weights), 9)  -- NONE, a weight not 1.0
    ∷ []

unfoldable pub settings_row : Settings → ℕ
settings_row s = first_of (settings_table s)

-- ---- machine values: what an f32, an f64 and a u64 can hold

abbrev pub whole_max : ℕ
whole_max = 18446744073709551615

abbrev pub Whole : List ℕ → Type 0
Whole l = All (λ t. t ≤ whole_max) l

-- the greatest code: 16 bits
abbrev pub code_max : ℕ
code_max = 65535

-- settings that the program can hold
pub record MachineSettings (s : Settings) : Type 0 where
  pub stop_fits : s.stop ≤ whole_max
  pub decay_fits : T (fits binary64 s.decay)
  pub weight_time_fits : T (fits binary32 s.weight_time)
  pub weights_fit : Fits binary32 s.weights
  pub codes_fit : All (λ c. c ≤ code_max) s.codes

-- settings that no row refuses
pub record Valid (s : Settings) : Type 0 where
  pub unrefused : settings_row s ≡ 0
  pub machine : MachineSettings s
