-- Demand 3 of what the program holds, settings and counters by value and six lent lists: the definitions are the ones that the promises of `build`,
-- of every call, of `save` and of `restore` state by equation. proofs/Held.antt proves it.
use Rattle.std.specs.Prelude.{ℕ, ◌≤◌, ◌≡◌, false, List, [], ◌∷◌, ◌++◌, map, length, take, Float}
use Rattle.std.proofs.Math.Option.{Option, some}
use Rattle.trcf.specs.Fit.{All}
use Rattle.trcf.specs.Settings.{Settings, Valid, block}
use Rattle.trcf.specs.Calls.{Call, Machine, status}
use Rattle.trcf.specs.Preprocessor.{Answer}
use Rattle.trcf.specs.View.{Lent, lent_short, Getters, getters_of, build_of, answer_of, head_after, lent_after}
use Rattle.trcf.specs.declared.head.Preprocessor.{Preprocessor}
use Rattle.snapshot.specs.Save as save
use Rattle.snapshot.specs.Restore as restore
use Rattle.restart.specs.History.{entries, history_text, history_answers, history_panels, history_shown}
use Rattle.restart.specs.Statement.{panel_told}

pub record Held : Type 0 where
  pub head : Preprocessor
  pub lent : Lent

abbrev pub held : Preprocessor → Lent → Held
held h l = record { head = h; lent = l }

-- what `build` leaves
abbrev pub built_on : Settings → Lent → Held
built_on s l = held (build_of s l).head (build_of s l).lent

-- what a call leaves
abbrev pub held_next : Held → Call → Held
held_next m c = held (head_after m.head m.lent c) (lent_after m.head m.lent c)

abbrev pub held_run : Held → List Call → Held
held_run m [] = m
held_run m (c ∷ cs) = held_run (held_next m c) cs

abbrev pub held_answers : Held → List Call → List Answer
held_answers m [] = []
held_answers m (c ∷ cs) = answer_of m.head m.lent c ∷ held_answers (held_next m c) cs

-- the panel at each place: what status tells, asked with the output `room`
abbrev pub held_panels : List Float → Held → List Call → List (Option ℕ)
held_panels room m [] = panel_told (answer_of m.head m.lent (status room)) ∷ []
held_panels room m (c ∷ cs) = panel_told (answer_of m.head m.lent (status room)) ∷ held_panels room (held_next m c) cs

-- what the getters answer at each place
abbrev pub held_shown : Held → List Call → List Getters
held_shown m [] = getters_of m.head ∷ []
held_shown m (c ∷ cs) = getters_of m.head ∷ held_shown (held_next m c) cs

-- "put away": what `save` gives of lent bytes, and the text among them
abbrev pub saved_to : Held → List ℕ → save.SaveOutcome
saved_to m out = save.save_of m.head m.lent out

abbrev pub text_in : Held → List ℕ → List ℕ
text_in m out = take (saved_to m out).length (saved_to m out).bytes

-- "taken up"
abbrev pub restored_on : List ℕ → List ℕ → Lent → Held
restored_on t codes l = held (restore.restore_of t codes l).head (restore.restore_of t codes l).lent

-- The first watch is built over `first` and makes the calls `before`; its text is written to `out`; another one takes it up over `second`, "whatever the
-- new memory held before", and both make the calls `after`.
pub record HeldRestart (s : Settings) (before after : List Call) (first second : Lent) (out last : List ℕ) : Type 0 where
  pub builds : (build_of s first).row ≡ 0
  pub saves : (saved_to (held_run (built_on s first) before) out).row ≡ 0
  pub text : text_in (held_run (built_on s first) before) out ≡ history_text s before
  pub restores : (restore.restore_of (text_in (held_run (built_on s first) before) out) s.codes second).row ≡ 0
  pub same_answers : held_answers (restored_on (text_in (held_run (built_on s first) before) out) s.codes second) after ≡ held_answers (held_run (built_on s first) before) after
  pub ruled_answers : held_answers (restored_on (text_in (held_run (built_on s first) before) out) s.codes second) after ≡ history_answers s (entries s before) after
  -- "After the last call both are put away as the same text, byte for byte": the same bytes, or row 20 of both
  pub same_text : saved_to (held_run (restored_on (text_in (held_run (built_on s first) before) out) s.codes second) after) last ≡ saved_to (held_run (built_on s first) (before ++ after)) last
  -- the panel at every place after the restart, and at every place where nothing is put away
  pub fed_panels : (room : List Float) → block s ≤ length room
      → held_panels room (restored_on (text_in (held_run (built_on s first) before) out) s.codes second) after ≡ map some (history_panels s (entries s before) after)
  pub first_panels : (room : List Float) → block s ≤ length room → held_panels room (built_on s first) (before ++ after) ≡ map some (history_panels s [] (before ++ after))
  -- and what every getter answers there
  pub fed_shown : held_shown (restored_on (text_in (held_run (built_on s first) before) out) s.codes second) after ≡ history_shown s (entries s before) after
  pub first_shown : held_shown (built_on s first) (before ++ after) ≡ history_shown s [] (before ++ after)

-- for all settings that no row refuses, all calls, all places, and all lent memory that is long enough
abbrev pub HeldDemand3 : Type 0
HeldDemand3 =
    (s : Settings) → Valid s → (before after : List Call) → All Machine before → All Machine after
    → (first second : Lent) → lent_short s first ≡ false → lent_short s second ≡ false
    → (out last : List ℕ) → length (history_text s before) ≤ length out
    → HeldRestart s before after first second out last
