-- What `save` accepts, `restore` takes up, of whatever head and lent memory a program holds: proofs/SaveForm.antt and proofs/RoundTrip.antt prove it.
use Rattle.std.specs.Prelude.{ℕ, ◌≡◌, false, List, take}
use Rattle.std.specs.Float.{binary32, binary64}
use Rattle.trcf.specs.Settings.{MachineSettings, Fits, Whole}
use Rattle.trcf.specs.View.{Lent, settings_of, view, lent_short}
use Rattle.trcf.specs.declared.head.Preprocessor.{Preprocessor}
use Rattle.snapshot.specs.Save as save
use Rattle.snapshot.specs.Restore as restore

-- whatever stands in a program's memory: floats of their width, whole numbers of 64 bits
pub record InMemory (h : Preprocessor) (l : Lent) : Type 0 where
  pub settings : MachineSettings (settings_of h)
  pub statistics : Fits binary64 l.statistics
  pub input : Fits binary32 l.last_shingled_input
  pub point : Fits binary32 l.last_shingled_point
  pub times : Whole l.previous_timestamps
  pub initial : Fits binary32 l.initial_values
  pub initial_times : Whole l.initial_timestamps

-- the text among the bytes that were lent
abbrev pub text_of : save.SaveOutcome → List ℕ
text_of o = take o.length o.bytes

-- the text of a head and its lent memory l, taken up over the memory m
abbrev pub taken_up : Preprocessor → Lent → List ℕ → Lent → restore.RestoreOutcome
taken_up h l out m = restore.restore_of (text_of (save.save_of h l out)) (settings_of h).codes m

pub record TakenUp (h : Preprocessor) (l : Lent) (out : List ℕ) (m : Lent) (again : List ℕ) : Type 0 where
  pub accepted : (taken_up h l out m).row ≡ 0
  pub same_state : view (taken_up h l out m).head (taken_up h l out m).lent ≡ view h l
  -- put away again, the same bytes
  pub same_text : save.save_of (taken_up h l out m).head (taken_up h l out m).lent again ≡ save.fitted (text_of (save.save_of h l out)) again

-- no premise on the state
abbrev pub SavedIsTakenUp : Type 0
SavedIsTakenUp =
    (h : Preprocessor) (l : Lent) → InMemory h l → (out : List ℕ) → (save.save_of h l out).row ≡ 0 → (m : Lent) → lent_short (settings_of h) m ≡ false
    → (again : List ℕ) → TakenUp h l out m again
