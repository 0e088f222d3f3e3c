-- Isolation (#105): "its answer depends on role, call and table alone: two traces as different as you like give it equally". proofs/Isolation.antt proves it.
use Rattle.std.specs.Prelude.{ℕ, ◌≡◌, Bool, false, List, [], ◌∷◌, Float}
use Rattle.trcf.specs.Calls.{Call, Learn, Forecast, shingled_point, post_process, drain, invert_extrapolation, status}
use Rattle.trcf.specs.Preprocessor.{State}
use Rattle.trcf.specs.View.{Lent, lent, no_head, outcome, PointOutcome, pointed, LearnOutcome, learn_outcome, learn_nothing, written, status_given}
use Rattle.trcf.specs.Extrapolation.{extrapolation}
use Rattle.trcf.specs.declared.types.TransformMethod.{TransformMethod}
use Rattle.trcf.specs.declared.types.ForestMode.{ForestMode}
use Rattle.trcf.specs.declared.head.Preprocessor.{Preprocessor}
use Rattle.snapshot.specs.Save.{save_outcome as saved}
use Rattle.snapshot.specs.Restore.{restore_outcome as restored}
use Rattle.access.specs.declared.rights.Right.TheVariants.{SEE, SAVE, RESTORE}
use Rattle.access.specs.Access.{needs, granted}
use Rattle.access.specs.Entries.{point_by, learn_by, drain_by, write_by, extrapolation_by, status_by, withheld_status, seen_by, status_numbers, save_by, restore_by}

-- where a right is withheld: "changes nothing", 22, and what is lent for the answer as it was
pub record Withheld (table : List ℕ) (role : ℕ) : Type 0 where
  pub points : (h : Preprocessor) (l : Lent) (x : List Float) (t : ℕ) (out : List Float) → granted table role (needs (shingled_point x t out)) ≡ false
      → point_by table role h l x t out ≡ pointed 22 false h l out
  pub learns : (h : Preprocessor) (l : Lent) (c : Learn) → granted table role (needs (post_process c)) ≡ false → learn_by table role h l c ≡ learn_nothing 22 h l c
  pub drains : (h : Preprocessor) (l : Lent) → granted table role (needs drain) ≡ false → drain_by table role h l ≡ outcome 22 h l
  pub writes : (h : Preprocessor) (l : Lent) (c : Call) (f : State → List Float) (out : List Float) → granted table role (needs c) ≡ false
      → write_by table role h l c f out ≡ written 22 out
  pub extrapolates : (h : Preprocessor) (st x : List Float) (ts : List ℕ) (c : Forecast) → granted table role (needs (invert_extrapolation c)) ≡ false
      → extrapolation_by table role h st x ts c ≡ extrapolation 22 c
  pub tells : (h : Preprocessor) (l : Lent) (out : List Float) → granted table role (needs (status out)) ≡ false
      → status_by table role h l out ≡ status_given withheld_status out
  pub saves : (h : Preprocessor) (l : Lent) (out : List ℕ) → granted table role (SAVE ∷ []) ≡ false → save_by table role h l out ≡ saved 22 0 out
  pub restores : (text codes : List ℕ) (l : Lent) → granted table role (RESTORE ∷ []) ≡ false → restore_by table role text codes l ≡ restored 22 0 no_head l

-- what an answer shows beside the head and the lists, which are the caller's own and come back as they were given
abbrev pub no_lent : Lent
no_lent = lent [] [] [] [] [] []

abbrev pub point_shown : PointOutcome → PointOutcome
point_shown o = pointed o.row o.given no_head no_lent o.out

abbrev pub learn_shown : LearnOutcome → LearnOutcome
learn_shown o =
    learn_outcome o.row o.written o.has_anomaly o.past_timestamp o.likelihood no_head no_lent o.deviations_out o.past_out o.expected_out

-- two traces, h with l and g with m, and two texts, "as different as you like": the same answer to the same role, call and table
pub record Isolated (table : List ℕ) (role : ℕ) (h g : Preprocessor) (l m : Lent) : Type 0 where
  pub points : (x : List Float) (t : ℕ) (out : List Float) → granted table role (needs (shingled_point x t out)) ≡ false
      → point_shown (point_by table role h l x t out) ≡ point_shown (point_by table role g m x t out)
  pub learns : (c : Learn) → granted table role (needs (post_process c)) ≡ false → learn_shown (learn_by table role h l c) ≡ learn_shown (learn_by table role g m c)
  pub drains : granted table role (needs drain) ≡ false → (drain_by table role h l).row ≡ (drain_by table role g m).row
  pub writes : (c : Call) (f : State → List Float) (out : List Float) → granted table role (needs c) ≡ false
      → write_by table role h l c f out ≡ write_by table role g m c f out
  pub extrapolates : (st sy x y : List Float) (ts us : List ℕ) (c : Forecast) → granted table role (needs (invert_extrapolation c)) ≡ false
      → extrapolation_by table role h st x ts c ≡ extrapolation_by table role g sy y us c
  pub tells : (out : List Float) → granted table role (needs (status out)) ≡ false → status_by table role h l out ≡ status_by table role g m out
  pub numbers : granted table role (SEE ∷ []) ≡ false → seen_by table role (status_numbers h) ≡ seen_by table role (status_numbers g)
  pub counts : (a b : ℕ) → granted table role (SEE ∷ []) ≡ false → seen_by table role a ≡ seen_by table role b
  pub readies : (a b : Bool) → granted table role (SEE ∷ []) ≡ false → seen_by table role a ≡ seen_by table role b
  pub methods : (a b : TransformMethod) → granted table role (SEE ∷ []) ≡ false → seen_by table role a ≡ seen_by table role b
  pub modes : (a b : ForestMode) → granted table role (SEE ∷ []) ≡ false → seen_by table role a ≡ seen_by table role b
  pub saves : (out : List ℕ) → granted table role (SAVE ∷ []) ≡ false → save_by table role h l out ≡ save_by table role g m out
  pub restores : (x y codes : List ℕ) → granted table role (RESTORE ∷ []) ≡ false → restore_by table role x codes l ≡ restore_by table role y codes l

pub record Isolation : Type 0 where
  pub withheld : (table : List ℕ) (role : ℕ) → Withheld table role
  pub isolated : (table : List ℕ) (role : ℕ) (h g : Preprocessor) (l m : Lent) → Isolated table role h g l m
