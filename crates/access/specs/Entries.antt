-- Each entry behind the table (#105): "A withheld call changes nothing, and its answer depends on role, call and table alone". What the entry below gives, by the
-- definition that its own contract cites, or 22 with everything as it was given.
use Rattle.std.specs.Prelude.{ℕ, false, List, [], ◌∷◌, Float, Result, Ok, Err}
use Rattle.refusal.specs.declared.Refusal.{Refusal}
use Rattle.refusal.specs.declared.Refusal.TheVariants.{Withheld}
use Rattle.trcf.specs.Calls.{Call, Learn, Forecast, shingled_point, post_process, drain, invert_extrapolation, status}
use Rattle.trcf.specs.Preprocessor.{State}
use Rattle.trcf.specs.View.{Lent, no_head, Outcome, outcome, drain_of, PointOutcome, pointed, point_after, LearnOutcome, learn_nothing, learn_after}
use Rattle.trcf.specs.View.{Written, written, write_of, StatusOutcome, status_given, status_after}
use Rattle.trcf.specs.Extrapolation.{Extrapolation, extrapolation, extrapolation_of}
use Rattle.trcf.specs.declared.head.Preprocessor.{Preprocessor}
use Rattle.trcf.specs.declared.head.Status.{Status}
use Rattle.trcf_calls.specs.Getters.{status_of_head}
use Rattle.snapshot.specs.Save.{save_of, SaveOutcome as Saved, save_outcome as saved}
use Rattle.snapshot.specs.Restore.{restore_of, RestoreOutcome as Restored, restore_outcome as restored}
use Rattle.access.specs.declared.rights.Right.TheVariants.{SEE, SAVE, RESTORE}
use Rattle.access.specs.Access.{needs, guarded}

-- ---- the calls that may change the trace

abbrev pub point_by : List ℕ → ℕ → Preprocessor → Lent → List Float → ℕ → List Float → PointOutcome
point_by table role h l x t out = guarded table role (needs (shingled_point x t out)) (point_after h l x t out) (pointed 22 false h l out)

abbrev pub learn_by : List ℕ → ℕ → Preprocessor → Lent → Learn → LearnOutcome
learn_by table role h l c = guarded table role (needs (post_process c)) (learn_after h l c) (learn_nothing 22 h l c)

abbrev pub drain_by : List ℕ → ℕ → Preprocessor → Lent → Outcome
drain_by table role h l = guarded table role (needs drain) (drain_of h l) (outcome 22 h l)

-- ---- the calls that write lists: transform, scale, shift, the deviations of status; and turn-back

abbrev pub write_by : List ℕ → ℕ → Preprocessor → Lent → Call → (State → List Float) → List Float → Written
write_by table role h l c f out = guarded table role (needs c) (write_of h l c f out) (written 22 out)

abbrev pub extrapolation_by : List ℕ → ℕ → Preprocessor → List Float → List Float → List ℕ → Forecast → Extrapolation
extrapolation_by table role h st x ts c = guarded table role (needs (invert_extrapolation c)) (extrapolation_of h st x ts c) (extrapolation 22 c)

-- ---- status: why alone where it is withheld

abbrev pub withheld_status : Result Status Refusal
withheld_status = Err Withheld

abbrev pub status_by : List ℕ → ℕ → Preprocessor → Lent → List Float → StatusOutcome
status_by table role h l out = guarded table role (needs (status out)) (status_after h l out) (status_given withheld_status out)

-- ---- the getters, which status is made of: what each says, or why not

module _ {A : Type 0} where
  abbrev pub seen_by : List ℕ → ℕ → A → Result A Refusal
  seen_by table role x = guarded table role (SEE ∷ []) (Ok x) (Err Withheld)

abbrev pub status_numbers : Preprocessor → Status
status_numbers h = status_of_head h

-- ---- `save`, and `restore`, which does not look at the text where it is withheld

abbrev pub save_by : List ℕ → ℕ → Preprocessor → Lent → List ℕ → Saved
save_by table role h l out = guarded table role (SAVE ∷ []) (save_of h l out) (saved 22 0 out)

abbrev pub restore_by : List ℕ → ℕ → List ℕ → List ℕ → Lent → Restored
restore_by table role text codes l = guarded table role (RESTORE ∷ []) (restore_of text codes l) (restored 22 0 no_head l)
