-- The run as the program makes it, over a head and six lent lists: what the program's own parts promise. proofs/Theorem.antt: it is the run of the definitions.
use Rattle.std.specs.Prelude.{ℕ, zero, suc, Bool, true, false, cond, List, [], ◌∷◌, ltb, pos, replicate, Float, Result, Ok, Err, Option as Held, Some, None}
use Rattle.std.proofs.Math.Option.{Option, none, some}
use Rattle.std.specs.Float.{nan}
use Rattle.refusal.specs.declared.Refusal.{Refusal}
use Rattle.refusal.specs.Refusal.{number_of}
use Rattle.common.specs.Deviation.{zero64}
use Rattle.trcf.specs.Lists.{last_or}
use Rattle.trcf.specs.Transformer.{zero32}
use Rattle.trcf.specs.Settings.{Settings, dimension}
use Rattle.trcf.specs.Calls.{Learn}
use Rattle.trcf.specs.Preprocessor.{accepted}
use Rattle.trcf.specs.View.{Lent, lent, settings_of, head_row, ready_of, build_of, learn_call, point_after, LearnOutcome, learn_after}
use Rattle.trcf.specs.declared.head.Preprocessor.{Preprocessor}
use Rattle.settling.specs.Settling.{Signal, signal, value_at, Noted, noted, note, Run, run_outcome}
use Rattle.settling.specs.declared.signal.Signal as held
use Rattle.settling.specs.declared.run.Settled.{Settled}

-- ---- the signal, and what may be held

abbrev pub signal_of : held.Signal → Signal
signal_of g = signal g.base g.ramp g.ripple g.jump g.place g.readings

module _ {A : Type 0} where
  abbrev pub option_of : Held A → Option A
  option_of (Some x) = some x
  option_of None = none

  -- a value beside whether it is given
  abbrev pub given_of : Bool → A → Option A
  given_of true x = some x
  given_of false x = none

-- ---- what is noted

abbrev pub noted_by : Settled → Noted
noted_by r = noted (option_of r.ready) (option_of r.largest)

-- what a run answers: refused, nothing is noted
abbrev pub settled_outcome : Result Settled Refusal → Run
settled_outcome (Ok s) = run_outcome 0 (noted_by s)
settled_outcome (Err r) = run_outcome (number_of r) (noted none none)

-- ---- one reading

-- the part of 128 numbers that a point takes
abbrev pub point_length : Preprocessor → ℕ
point_length h = let n = accepted (head_row (settings_of h)) (dimension (settings_of h)) 0 in cond (ltb n 128) n 128

abbrev pub learning : List Float → ℕ → Bool → List Float → Learn
learning x t given y = learn_call x t given y false [] zero32 (pos 0) (replicate 2 zero32) (replicate 1 zero32) (replicate 1 zero32)

-- what a reading leaves: the head, what is lent, and the last element of the point
pub record ReadingResult : Type 0 where
  pub head : Preprocessor
  pub lent : Lent
  pub last : Option Float

abbrev pub reading_result : Preprocessor → Lent → Option Float → ReadingResult
reading_result h l x = record { head = h; lent = l; last = x }

abbrev pub learned_result : LearnOutcome → ReadingResult
learned_result o = reading_result o.head o.lent none

-- the point goes to `out`
unfoldable pub reading_result_with : Preprocessor → Lent → List Float → ℕ → List Float → ReadingResult
reading_result_with h l x t out =
    let o = point_after h l x t out in
    let q = learn_after o.head o.lent (learning x t o.given o.out) in
    reading_result q.head q.lent (given_of o.given (last_or nan o.out))

abbrev pub reading_result_of : Preprocessor → Lent → Float → ℕ → ReadingResult
reading_result_of h l x t = reading_result_with h l (x ∷ []) t (replicate (point_length h) zero32)

-- ---- all readings

pub record Track : Type 0 where
  pub head : Preprocessor
  pub lent : Lent
  pub noted : Noted

abbrev pub track : Preprocessor → Lent → Noted → Track
track h l n = record { head = h; lent = l; noted = n }

-- room for d 1, k 64 and start 1,999
abbrev pub settling_memory : Lent
settling_memory = lent (replicate 30 zero64) (replicate 64 zero32) (replicate 128 zero32) (replicate 64 0) (replicate 1999 zero32) (replicate 1999 0)

abbrev pub track_with : Track → ReadingResult → ℕ → Track
track_with p u i = track u.head u.lent (note p.noted i (ready_of u.head) u.last)

unfoldable pub track_after : Float → ℕ → Track → Track
track_after x i p = track_with p (reading_result_of p.head p.lent x i) i

abbrev pub track_from : Signal → Track → ℕ → Track
track_from g p zero = p
track_from g p (suc i) = track_after (value_at g i) i (track_from g p i)

abbrev pub track_built : Settings → Track
track_built s = track (build_of s settling_memory).head (build_of s settling_memory).lent (noted none none)

abbrev pub track_at : Settings → Signal → ℕ → Track
track_at s g n = track_from g (track_built s) n
