-- Demand 3 as one statement over the definitions that the promises of the code cite: `next` and `answer` (every call), `render` (save), `read` (restore).
-- proofs/Restart.antt proves it. Equality of answers is `≡`: the definitions know one not-a-number, so that is "equal by demand 2's measure".
use Rattle.std.specs.Prelude.{ℕ, ◌≤◌, ◌≡◌, List, [], ◌∷◌, ◌++◌, map, length, Float}
use Rattle.std.proofs.Math.Option.{Option, none, some}
use Rattle.trcf.specs.Fit.{All}
use Rattle.trcf.specs.Settings.{Settings, Valid, block}
use Rattle.trcf.specs.Calls.{Call, Machine, status}
use Rattle.trcf.specs.Preprocessor.{State, fresh, next, run, Answer, refused, absent, done, wrote, learnt, turned, told, answer, answers}
use Rattle.snapshot.specs.Text.{render, TextOf}
use Rattle.snapshot.specs.Form.{Form}
use Rattle.snapshot.specs.Read.{Read, taken, bad, read}
use Rattle.restart.specs.History.{Entry, entries, enter, history_text, history_answers, history_panel, history_panels}

-- Taking up as a relation: w has the form, t is a text of it, and its codes are those expected. `restore` takes up t as w exactly then, where the lent
-- lists are long enough (crate snapshot: restored-as, restored-only).
pub record Restores (codes t : List ℕ) (w : State) : Type 0 where
  pub form : Form w
  pub text : TextOf w t
  pub agree : w.settings.codes ≡ codes

-- the panel that an answer tells: status alone tells one
abbrev pub panel_told : Answer → Option ℕ
panel_told (refused n) = none
panel_told absent = none
panel_told done = none
panel_told (wrote v) = none
panel_told (learnt a) = none
panel_told (turned a) = none
panel_told (told a) = some a.panel

-- what status tells where it is asked, with the output `out`, at each place of a list of calls; it changes nothing
abbrev pub panels : List Float → State → List Call → List (Option ℕ)
panels out w [] = panel_told (answer w (status out)) ∷ []
panels out w (c ∷ cs) = panel_told (answer w (status out)) ∷ panels out (next w c) cs

-- What is asked of a restored state w: the calls `before` were made before the restart, `after` are made after it.
pub record Outlives (s : Settings) (before after : List Call) (w : State) : Type 0 where
  -- "Every remaining call then gets the same answer from it as from the watch never put away, refusals included"
  pub same_answers : answers w after ≡ answers (run (fresh s) before) after
  -- "That answer is the one that 01's rows and, where none refuses, demand 2 decide."
  pub ruled_answers : answers w after ≡ history_answers s (entries s before) after
  -- "After the last call both are put away as the same text, byte for byte."
  pub same_text : render (run w after) ≡ render (run (fresh s) (before ++ after))
  pub history_ends : render (run w after) ≡ history_text s (before ++ after)
  -- "The sheet's "readings fed" defines the panel number at every place of a trace" (request 102): here after the restart
  pub fed_panels : (out : List Float) → block s ≤ length out → panels out w after ≡ map some (history_panels s (entries s before) after)

-- One restart, at the place between `before` and `after`: "before the first call and after the last included".
pub record Restart (s : Settings) (before after : List Call) : Type 0 where
  -- "At every place the text is the one that 01's history sheet works out from the settings and the arguments of the calls up to there, and from nothing else."
  pub text : render (run (fresh s) before) ≡ history_text s before
  -- "The watch is put away there, and another watch takes the text up, whatever the new memory held before": what is taken up depends on the text alone
  pub second : State
  pub taking : read (render (run (fresh s) before)) ≡ taken second
  -- "the expected codes are the settings'"
  pub agree : second.settings.codes ≡ s.codes
  pub outlives : Outlives s before after second
  -- and so does whatever restores that text
  pub every : (w : State) → Restores s.codes (render (run (fresh s) before)) w → Outlives s before after w
  -- the panel at every place of the list where nothing is put away
  pub fed_panels : (out : List Float) → block s ≤ length out → panels out (fresh s) (before ++ after) ≡ map some (history_panels s [] (before ++ after))

-- ---- restarts at any places

pub data Event : Type 0 where
  call_made : Call → Event
  restarted : Event

abbrev pub calls_of : List Event → List Call
calls_of [] = []
calls_of (call_made c ∷ es) = c ∷ calls_of es
calls_of (restarted ∷ es) = calls_of es

-- at a restart the state is put away, and what takes the text up goes on; a text that is refused ends it
abbrev pub run_events : Read → List Event → Read
run_events r [] = r
run_events (taken w) (call_made c ∷ es) = run_events (taken (next w c)) es
run_events (bad n) (call_made c ∷ es) = bad n
run_events (taken w) (restarted ∷ es) = run_events (read (render w)) es
run_events (bad n) (restarted ∷ es) = bad n

abbrev pub answers_events : Read → List Event → List Answer
answers_events r [] = []
answers_events (taken w) (call_made c ∷ es) = answer w c ∷ answers_events (taken (next w c)) es
answers_events (bad n) (call_made c ∷ es) = []
answers_events (taken w) (restarted ∷ es) = answers_events (read (render w)) es
answers_events (bad n) (restarted ∷ es) = []

-- the panel at each place, before and after every restart
abbrev pub last_panel : List Float → Read → List (Option ℕ)
last_panel out (taken w) = panel_told (answer w (status out)) ∷ []
last_panel out (bad n) = []

abbrev pub panels_events : List Float → Read → List Event → List (Option ℕ)
panels_events out r [] = last_panel out r
panels_events out (taken w) (call_made c ∷ es) = panel_told (answer w (status out)) ∷ panels_events out (taken (next w c)) es
panels_events out (bad n) (call_made c ∷ es) = []
panels_events out (taken w) (restarted ∷ es) = panel_told (answer w (status out)) ∷ panels_events out (read (render w)) es
panels_events out (bad n) (restarted ∷ es) = []

-- a restart enters nothing
abbrev pub history_panels_events : Settings → List Entry → List Event → List ℕ
history_panels_events s h [] = history_panel s h ∷ []
history_panels_events s h (call_made c ∷ es) = history_panel s h ∷ history_panels_events s (enter s h c) es
history_panels_events s h (restarted ∷ es) = history_panel s h ∷ history_panels_events s h es

-- no call sees a restart, and every text put away is taken up
pub record Restarts (s : Settings) (es : List Event) : Type 0 where
  pub ends : run_events (taken (fresh s)) es ≡ taken (run (fresh s) (calls_of es))
  pub same_answers : answers_events (taken (fresh s)) es ≡ answers (fresh s) (calls_of es)
  pub ruled_answers : answers_events (taken (fresh s)) es ≡ history_answers s [] (calls_of es)
  pub text : render (run (fresh s) (calls_of es)) ≡ history_text s (calls_of es)
  pub fed_panels : (out : List Float) → block s ≤ length out → panels_events out (taken (fresh s)) es ≡ map some (history_panels_events s [] es)

-- the same by the relation: w stands after the calls cs, with any restarts between them
pub data Reaches (s : Settings) : List Call → State → Type 0 where
  built : Reaches s [] (fresh s)
  calling : {cs : List Call} {w : State} (c : Call) → Machine c → Reaches s cs w → Reaches s (cs ++ (c ∷ [])) (next w c)
  restoring : {cs : List Call} {w : State} (u : State) → Restores s.codes (render w) u → Reaches s cs w → Reaches s cs u

-- ---- the statement

-- For all settings that no row refuses, all lists of calls whose arguments are machine values, and all places.
pub record Demand3 : Type 0 where
  pub once : (s : Settings) → Valid s → (before after : List Call) → All Machine before → Restart s before after
  pub often : (s : Settings) → Valid s → (es : List Event) → All Machine (calls_of es) → Restarts s es
  pub reached : (s : Settings) → Valid s → {cs : List Call} {w : State} → Reaches s cs w → w ≡ run (fresh s) cs
