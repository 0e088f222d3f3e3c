-- `post_process` in the parts in which the code works it out. Only private contracts and proofs cite this.
use Rattle.std.specs.Prelude.{ℕ, suc, ◌-◌, ◌*◌, ◌≤◌, ◌<◌, Bool, true, cond, ◌&&◌, List, [], ◌∷◌, ◌≡◌, ltb, eqb, take, drop, get_or, Float, Option, Some, None}
use Rattle.std.specs.Float.Ieee.{lt}
use Rattle.common.specs.Deviation.{count_limit}
use Rattle.trcf.specs.Lists.{shift_in}
use Rattle.refusal.specs.Lent.{over}
use Rattle.trcf.specs.Transformer.{zero32, one32, inverted}
use Rattle.trcf.specs.Settings.{Settings, transformer, block, dimension}
use Rattle.trcf.specs.Calls.{seen_limit}
use Rattle.trcf.specs.Preprocessor.{State, Reading, reading, feed, previous, deviations, block_from, statistics_length}
use Rattle.trcf.specs.declared.head.Preprocessor.{Preprocessor}
use Rattle.trcf.specs.declared.head.Anomaly.{Anomaly}
use Rattle.trcf.specs.declared.head.PostProcessed.{PostProcessed}
use Rattle.trcf.specs.View.{settings_of, counting, holding}

-- the i-th waiting reading, out of the flat lists
abbrev pub reading_at : ℕ → List Float → List ℕ → ℕ → Reading
reading_at d v ts i = reading (take d (drop (i * d) v)) (get_or ts i 0)

-- the state in a drain: the waiting readings are handed beside it
abbrev pub shingling : Preprocessor → ℕ → List Float → List Float → List Float → List ℕ → ℕ → State
shingling h count st x p ts internal =
    record {
      settings = settings_of h;
      values_seen = h.values_seen;
      internal_timestamp = internal;
      count = count;
      statistics = st;
      last_shingled_input = x;
      last_shingled_point = p;
      previous_timestamps = ts;
      initial_values = [];
      initial_timestamps = [];
    }

-- lists of just the length in use
pub record Exact (s : Settings) (st x ts : ℕ) : Type 0 where
  pub all_statistics : st ≡ statistics_length s
  pub all_input : x ≡ s.d * s.k
  pub all_times : ts ≡ s.k

-- what an anomaly that is written needs of the lengths
pub record Findable (s : Settings) (e back past expected : ℕ) : Type 0 where
  pub all_expected : e ≡ dimension s
  pub inside : back < s.k
  pub past_room : s.d ≤ past
  pub expected_room : s.d ≤ expected

-- what the row 0 of a learn with y says
pub record Learnable (h : Preprocessor) (y e : ℕ) (expects : Bool) (grade : Float) (back deviations past expected : ℕ) : Type 0 where
  pub all_y : y ≡ dimension (settings_of h)
  pub count_room : h.values_seen < h.stop_normalization → h.transformer.count < count_limit
  pub seen_room : h.values_seen < seen_limit
  pub internal_room : h.internal_timestamp < seen_limit
  pub deviations_room : block (settings_of h) ≤ deviations
  pub found : (lt zero32 grade && expects) ≡ true → Findable (settings_of h) e back past expected

abbrev pub answering : Preprocessor → Bool → Option Anomaly → PostProcessed
answering h w a = record { head = h; written = w; anomaly = a }

-- an answer and four of the lent lists, the initial ones left out
pub record LearnParts : Type 0 where
  pub answer : PostProcessed
  pub statistics : List Float
  pub last_shingled_input : List Float
  pub last_shingled_point : List Float
  pub previous_timestamps : List ℕ
  pub deviations_out : List Float
  pub past_out : List Float
  pub expected_out : List Float

abbrev pub learn_parts : PostProcessed → List Float → List Float → List Float → List ℕ → List Float → List Float → List Float → LearnParts
learn_parts r st x y ts deviations past expected =
    record {
      answer = r;
      statistics = st;
      last_shingled_input = x;
      last_shingled_point = y;
      previous_timestamps = ts;
      deviations_out = deviations;
      past_out = past;
      expected_out = expected;
    }

-- the statistics after a learn
abbrev pub learned_statistics : Preprocessor → List Float → List Float → List ℕ → List Float → ℕ → List Float
learned_statistics h st x ts input t =
    cond (ltb h.values_seen h.stop_normalization) (feed (settings_of h) h.transformer.count st (previous (holding h st x ts)) (reading input t)) st

abbrev pub learned_parts : Preprocessor → List Float → List Float → List Float → List ℕ → List Float → ℕ → List Float → List Float → Bool → ℕ → List Float → List Float → List Float → LearnParts
learned_parts h st x p ts input t y e found back deviations_out past_out expected_out =
    let s = settings_of h in
    let d = s.d in
    let st₁ = take (statistics_length s) st in
    let x₁ = take (d * s.k) x in
    let ts₁ = take s.k ts in
    let b = s.k - 1 - back in
    learn_parts
    (answering
    (counting h (cond (ltb h.values_seen h.stop_normalization) (suc h.transformer.count) h.transformer.count) (suc h.values_seen) (suc h.internal_timestamp) h.initial_len)
    true (cond found (Some (record { past_timestamp = get_or ts₁ b 0; likelihood = one32 })) None))
    (over st (learned_statistics h st₁ x₁ ts₁ input t)) (over x (shift_in x₁ input)) (over p y) (over ts (shift_in ts₁ (t ∷ [])))
    (over deviations_out (deviations (holding h (learned_statistics h st₁ x₁ ts₁ input t) [] [])))
    (cond found (over past_out (cond (eqb back 0) input (block_from d (s.k - back) x₁))) past_out)
    (cond found (over expected_out (inverted (transformer s 0 st₁) (block_from d b e) (block_from d b x₁))) expected_out)
