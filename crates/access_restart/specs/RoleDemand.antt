-- Request #105: isolation, and demand 3 for lists of calls with their roles, under one table. proofs/RoleRestart.antt proves both, proofs/Plain.antt that demand 3
-- without roles is this one at role 0 of a table with every right.
use Rattle.std.specs.Prelude.{ℕ, ◌≤◌, ◌≡◌, true, false, List, [], ◌∷◌, ◌++◌, map, length, Float}
use Rattle.std.proofs.Math.Option.{Option, some}
use Rattle.trcf.specs.Fit.{All}
use Rattle.trcf.specs.Settings.{Settings, Valid, block}
use Rattle.trcf.specs.Calls.{Call, Machine, status}
use Rattle.trcf.specs.Preprocessor.{State, fresh, next, Answer, refused, answer}
use Rattle.snapshot.specs.Text.{render}
use Rattle.snapshot.specs.Read.{Read, taken, bad, read}
use Rattle.restart.specs.History.{Entry, enter, entries, history_text, history_answers, history_panel}
use Rattle.restart.specs.Statement.{Restores, panel_told}
use Rattle.access.specs.declared.rights.Right.TheVariants.{SEE, SAVE, RESTORE}
use Rattle.access.specs.Access.{granted, guarded}
use Rattle.access_restart.specs.Asked.{Asked, ask, allowed, granted_calls, with_withheld, guarded_step, guarded_run, guarded_places, guarded_say, guarded_answers}

-- ---- calls, `save` and `restore` by a role, on the preprocessor's state

-- "(22: right withheld, …; before row 1.)"
abbrev pub withheld_answer : Call → Answer
withheld_answer c = refused 22

abbrev pub role_next : List ℕ → State → Asked → State
role_next = guarded_step next

abbrev pub role_answer : List ℕ → State → Asked → Answer
role_answer = guarded_say next answer withheld_answer

abbrev pub role_run : List ℕ → State → List Asked → State
role_run = guarded_run next

abbrev pub role_answers : List ℕ → State → List Asked → List Answer
role_answers = guarded_answers next answer withheld_answer

-- what `save` and `restore` give, or 22
pub data Given (A : Type 0) : Type 0 where
  gave : A → Given A
  withheld : Given A

abbrev pub role_save : List ℕ → ℕ → State → Given (List ℕ)
role_save table role w = guarded table role (SAVE ∷ []) (gave (render w)) withheld

abbrev pub role_restore : List ℕ → ℕ → List ℕ → Given Read
role_restore table role text = guarded table role (RESTORE ∷ []) (gave (read text)) withheld

-- the panel that a role is told at each place of a list
abbrev pub role_panels : List ℕ → ℕ → List Float → State → List Asked → List (Option ℕ)
role_panels table role out = guarded_places next (λ (w : State). panel_told (role_answer table w (ask role (status out)))) table

-- and the history's readings fed there (request 102): a withheld call enters nothing
abbrev pub role_history_panels : List ℕ → Settings → List Entry → List Asked → List ℕ
role_history_panels table s = guarded_places (enter s) (history_panel s) table

-- ---- isolation

-- "A withheld call changes nothing, and its answer depends on role, call and table alone: two traces as different as you like give it equally."
pub record RoleIsolation : Type 0 where
  pub unchanged : (table : List ℕ) (a : Asked) → allowed table a ≡ false → (w : State) → role_next table w a ≡ w
  pub alike : (table : List ℕ) (a : Asked) → allowed table a ≡ false → (w v : State) → role_answer table w a ≡ role_answer table v a
  pub number : (table : List ℕ) (a : Asked) → allowed table a ≡ false → (w : State) → role_answer table w a ≡ refused 22
  -- `save` tells nothing of the trace, `restore` nothing of the text
  pub saves : (table : List ℕ) (role : ℕ) → granted table role (SAVE ∷ []) ≡ false → (w : State) → role_save table role w ≡ withheld
  pub restores : (table : List ℕ) (role : ℕ) → granted table role (RESTORE ∷ []) ≡ false → (text : List ℕ) → role_restore table role text ≡ withheld
  -- and a granted one is the call itself
  pub grants : (table : List ℕ) (a : Asked) → allowed table a ≡ true → (w : State) → (role_next table w a ≡ next w a.call) × (role_answer table w a ≡ answer w a.call)

-- ---- demand 3

-- what is asked of a restored state w, as `Outlives` asks it of calls without roles
pub record RoleOutlives (table : List ℕ) (s : Settings) (before after : List Asked) (w : State) : Type 0 where
  pub same_answers : role_answers table w after ≡ role_answers table (role_run table (fresh s) before) after
  pub ruled_answers : role_answers table w after ≡ with_withheld withheld_answer table after (history_answers s (entries s (granted_calls table before)) (granted_calls table after))
  -- saved at the end by any role: the same text, or 22 of both
  pub same_text : (role : ℕ) → role_save table role (role_run table w after) ≡ role_save table role (role_run table (fresh s) (before ++ after))
  pub history_ends : (role : ℕ) → granted table role (SAVE ∷ []) ≡ true
      → role_save table role (role_run table w after) ≡ gave (history_text s (granted_calls table (before ++ after)))
  pub fed_panels : (role : ℕ) → granted table role (SEE ∷ []) ≡ true → (out : List Float) → block s ≤ length out
      → role_panels table role out w after ≡ map some (role_history_panels table s (entries s (granted_calls table before)) after)

-- one restart: `saver` saves, `restorer` restores
pub record RoleRestart (table : List ℕ) (s : Settings) (saver restorer : ℕ) (before after : List Asked) : Type 0 where
  -- "key-off at any place is judged on that history"
  pub text : role_save table saver (role_run table (fresh s) before) ≡ gave (history_text s (granted_calls table before))
  pub second : State
  pub taking : role_restore table restorer (history_text s (granted_calls table before)) ≡ gave (taken second)
  pub agree : second.settings.codes ≡ s.codes
  pub outlives : RoleOutlives table s before after second
  -- and so does whatever restores that text
  pub every : (w : State) → Restores s.codes (history_text s (granted_calls table before)) w → RoleOutlives table s before after w
  -- the panel at every place of the list where nothing is saved
  pub fed_panels : (role : ℕ) → granted table role (SEE ∷ []) ≡ true → (out : List Float) → block s ≤ length out
      → role_panels table role out (fresh s) (before ++ after) ≡ map some (role_history_panels table s [] (before ++ after))

-- ---- restarts at any places, by anybody

pub data RoleEvent : Type 0 where
  asked : Asked → RoleEvent
  -- the first role saves, the second restores what was saved
  role_restarted : ℕ → ℕ → RoleEvent

abbrev pub asked_of : List RoleEvent → List Asked
asked_of [] = []
asked_of (asked a ∷ es) = a ∷ asked_of es
asked_of (role_restarted p q ∷ es) = asked_of es

-- with the right withheld from either, the preprocessor that stands goes on
abbrev pub resumed : State → Given Read → Read
resumed w (gave r) = r
resumed w withheld = taken w

abbrev pub restored_by : List ℕ → ℕ → State → Given (List ℕ) → Read
restored_by table restorer w (gave text) = resumed w (role_restore table restorer text)
restored_by table restorer w withheld = taken w

abbrev pub restarted_by : List ℕ → ℕ → ℕ → State → Read
restarted_by table saver restorer w = restored_by table restorer w (role_save table saver w)

abbrev pub role_events : List ℕ → Read → List RoleEvent → Read
role_events table r [] = r
role_events table (taken w) (asked a ∷ es) = role_events table (taken (role_next table w a)) es
role_events table (bad n) (asked a ∷ es) = bad n
role_events table (taken w) (role_restarted p q ∷ es) = role_events table (restarted_by table p q w) es
role_events table (bad n) (role_restarted p q ∷ es) = bad n

abbrev pub role_event_answers : List ℕ → Read → List RoleEvent → List Answer
role_event_answers table r [] = []
role_event_answers table (taken w) (asked a ∷ es) = role_answer table w a ∷ role_event_answers table (taken (role_next table w a)) es
role_event_answers table (bad n) (asked a ∷ es) = []
role_event_answers table (taken w) (role_restarted p q ∷ es) = role_event_answers table (restarted_by table p q w) es
role_event_answers table (bad n) (role_restarted p q ∷ es) = []

-- the panel at each place, before and after every restart
module _ (table : List ℕ) (role : ℕ) (out : List Float) where
  abbrev pub told_to : State → Option ℕ
  told_to w = panel_told (role_answer table w (ask role (status out)))

  abbrev pub last_told_to : Read → List (Option ℕ)
  last_told_to (taken w) = told_to w ∷ []
  last_told_to (bad n) = []

  abbrev pub role_event_panels : Read → List RoleEvent → List (Option ℕ)
  role_event_panels r [] = last_told_to r
  role_event_panels (taken w) (asked a ∷ es) = told_to w ∷ role_event_panels (taken (role_next table w a)) es
  role_event_panels (bad n) (asked a ∷ es) = []
  role_event_panels (taken w) (role_restarted p q ∷ es) = told_to w ∷ role_event_panels (restarted_by table p q w) es
  role_event_panels (bad n) (role_restarted p q ∷ es) = []

abbrev pub fed_at_events : List ℕ → Settings → List Entry → List RoleEvent → List ℕ
fed_at_events table s h [] = history_panel s h ∷ []
fed_at_events table s h (asked a ∷ es) = history_panel s h ∷ fed_at_events table s (guarded_step (enter s) table h a) es
fed_at_events table s h (role_restarted p q ∷ es) = history_panel s h ∷ fed_at_events table s h es

-- no call sees a restart, whoever tried one
pub record RoleRestarts (table : List ℕ) (s : Settings) (es : List RoleEvent) : Type 0 where
  pub ends : role_events table (taken (fresh s)) es ≡ taken (role_run table (fresh s) (asked_of es))
  pub same_answers : role_event_answers table (taken (fresh s)) es ≡ role_answers table (fresh s) (asked_of es)
  pub ruled_answers : role_event_answers table (taken (fresh s)) es ≡ with_withheld withheld_answer table (asked_of es) (history_answers s [] (granted_calls table (asked_of es)))
  pub text : render (role_run table (fresh s) (asked_of es)) ≡ history_text s (granted_calls table (asked_of es))
  pub fed_panels : (role : ℕ) → granted table role (SEE ∷ []) ≡ true → (out : List Float) → block s ≤ length out
      → role_event_panels table role out (taken (fresh s)) es ≡ map some (fed_at_events table s [] es)

-- the same by the relation: w stands after the calls l, with any restarts between them
pub data RoleReaches (table : List ℕ) (s : Settings) : List Asked → State → Type 0 where
  role_built : RoleReaches table s [] (fresh s)
  asking : {l : List Asked} {w : State} (a : Asked) → All Machine (granted_calls table (a ∷ [])) → RoleReaches table s l w
      → RoleReaches table s (l ++ (a ∷ [])) (role_next table w a)
  role_restoring : {l : List Asked} {w : State} (saver restorer : ℕ) → granted table saver (SAVE ∷ []) ≡ true → granted table restorer (RESTORE ∷ []) ≡ true
      → (u : State) → Restores s.codes (render w) u → RoleReaches table s l w → RoleReaches table s l u

-- ---- the statement: any table, "the same one is lent on both sides of the key"; the arguments of withheld calls may be anything

pub record RoleDemand3 : Type 0 where
  pub once : (table : List ℕ) (s : Settings) → Valid s → (saver restorer : ℕ) → granted table saver (SAVE ∷ []) ≡ true → granted table restorer (RESTORE ∷ []) ≡ true
      → (before after : List Asked) → All Machine (granted_calls table before) → RoleRestart table s saver restorer before after
  pub often : (table : List ℕ) (s : Settings) → Valid s → (es : List RoleEvent) → All Machine (granted_calls table (asked_of es)) → RoleRestarts table s es
  pub reached : (table : List ℕ) (s : Settings) → Valid s → {l : List Asked} {w : State} → RoleReaches table s l w → w ≡ role_run table (fresh s) l

-- "The history of a trace counts granted calls only": entered call by call with the withheld ones left out, or from the list of the granted ones
abbrev pub CountsGranted : Type 0
CountsGranted = (table : List ℕ) (s : Settings) (l : List Asked) → guarded_run (enter s) table [] l ≡ entries s (granted_calls table l)
