-- The rows of a call in the parts in which the code tests them: over the lengths of the lists, whether all numbers of the input are finite, and the newest
-- time. Only private contracts and proofs cite this.
use Rattle.std.specs.Prelude.{ℕ, suc, ◌+◌, Bool, cond, not, ◌&&◌, ◌||◌, [], ◌∷◌, ◌≡◌, ltb, leb, eqb, Float}
use Rattle.std.specs.Float.Ieee.{lt}
use Rattle.common.specs.Deviation.{count_limit}
use Rattle.refusal.specs.Refusal.{first_of}
use Rattle.trcf.specs.Transformer.{zero32}
use Rattle.trcf.specs.Settings.{block, dimension, waiting}
use Rattle.trcf.specs.Calls.{seen_limit}
use Rattle.trcf.specs.View.{settings_of, lengths_short, counters_unfit}
use Rattle.trcf.specs.declared.head.Preprocessor.{Preprocessor}
use Rattle.trcf.specs.declared.head.LentLengths.{LentLengths}

-- row 20 of what is lent
unfoldable pub lengths_row : Preprocessor → LentLengths → ℕ
lengths_row h n = first_of ((counters_unfit h, 20) ∷ (lengths_short (settings_of h) n, 20) ∷ [])

-- one of the first n of m is there
unfoldable pub any_of : ℕ → ℕ → Bool
any_of n m = not (eqb n 0) && ltb 0 m

-- of m lent times none waits any more when a drain could begin
unfoldable pub spent : Preprocessor → ℕ → Bool
spent h m = eqb h.values_seen h.start_normalization && not (any_of h.initial_len m)

-- of m lent times some wait, and a drain of them would pass a limit
unfoldable pub overdue : Preprocessor → ℕ → Bool
overdue h m =
    (eqb h.values_seen h.start_normalization && any_of h.initial_len m)
    && (ltb count_limit (h.transformer.count + h.start_normalization)
    || ltb seen_limit (h.internal_timestamp + h.start_normalization))

-- rows 18 and 20 of a point: past waiting, a drain of m lent times inside it that would pass a limit, and an output of n that is too short
unfoldable pub past_row : Preprocessor → ℕ → ℕ → ℕ
past_row h m n =
    let past = not (waiting (settings_of h) h.values_seen) in
    first_of ((past && overdue h m, 18) ∷ (past && ltb n (dimension (settings_of h)), 20) ∷ [])

-- what the row 0 of a point says of m lent times, an input of x and an output of n
pub record Pointing (h : Preprocessor) (m x n : ℕ) : Type 0 where
  pub whole : x ≡ h.transformer.input_length
  pub past : past_row h m n ≡ 0

-- rows 10 to 12 of a learn
unfoldable pub input_row : Preprocessor → ℕ → Bool → ℕ → ℕ → ℕ
input_row h x finite newest t =
    first_of ((not (eqb x h.transformer.input_length), 10) ∷ (not finite, 11) ∷ (ltb t newest, 12) ∷ [])

-- rows 18 and 20 while waiting
unfoldable pub waiting_row : Preprocessor → ℕ → ℕ
waiting_row h deviations =
    first_of
    ((leb seen_limit h.values_seen, 18)
    ∷ (eqb (suc h.values_seen) h.start_normalization && ltb deviations (block (settings_of h)), 20)
    ∷ [])

-- rows 13, 14, 18 and 20 past waiting, over the lengths
unfoldable pub learn_row : Preprocessor → ℕ → Bool → ℕ → Bool → Float → ℕ → ℕ → ℕ → ℕ → ℕ
learn_row h y hasY e expects grade back deviations past expected =
    let n = dimension (settings_of h) in
    let d = h.transformer.input_length in
    let full =
    (ltb h.values_seen h.stop_normalization && leb count_limit h.transformer.count)
    || (leb seen_limit h.values_seen || leb seen_limit h.internal_timestamp) in
    let short =
    ltb deviations (block (settings_of h)) || ((lt zero32 grade && expects) && (ltb past d || ltb expected d)) in
    first_of
    (((hasY && not (eqb y n)) || (expects && not (eqb e n)), 13)
    ∷ (hasY && (lt zero32 grade && leb h.shingle_size back), 14)
    ∷ (hasY && full, 18)
    ∷ (hasY && short, 20)
    ∷ [])

unfoldable pub learning_row : Preprocessor → ℕ → Bool → ℕ → Bool → Float → ℕ → ℕ → ℕ → ℕ → ℕ
learning_row h y hasY e expects grade back deviations past expected =
    cond (waiting (settings_of h) h.values_seen) (waiting_row h deviations) (learn_row h y hasY e expects grade back deviations past expected)
