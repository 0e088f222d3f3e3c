-- Request #105 of what the program holds, settings and counters by value and six lent lists: demand 3 for lists of calls with their roles. `save` and `restore`
-- are those of crate access (`save_by`, `restore_by`, which its contracts cite). proofs/RoleHeld.antt proves it.
use Rattle.std.specs.Prelude.{ℕ, ◌≤◌, ◌≡◌, Bool, true, false, List, [], ◌∷◌, ◌++◌, map, length, take, Float}
use Rattle.std.specs.Result.{result_unwrap_or}
use Rattle.std.proofs.Math.Option.{Option, some}
use Rattle.trcf.specs.Fit.{All}
use Rattle.trcf.specs.Settings.{Settings, Valid, block}
use Rattle.trcf.specs.Calls.{Call, Machine, status}
use Rattle.trcf.specs.Types.{method_number, mode_letter}
use Rattle.trcf.specs.Preprocessor.{Answer}
use Rattle.trcf.specs.View.{Lent, lent_short, Getters, build_of, answer_of}
use Rattle.trcf.specs.declared.head.Preprocessor.{Preprocessor}
use Rattle.trcf.specs.declared.head.Status.{Status}
use Rattle.trcf.specs.declared.types.TransformMethod.{TransformMethod}
use Rattle.trcf.specs.declared.types.TransformMethod.TheVariants.{NONE}
use Rattle.trcf.specs.declared.types.ForestMode.{ForestMode}
use Rattle.trcf.specs.declared.types.ForestMode.TheVariants.{STANDARD}
use Rattle.refusal.specs.Refusal.{row_of}
use Rattle.snapshot.specs.Save as save
use Rattle.restart.specs.History.{Entry, enter, entries, history_text, history_answers, history_getters}
use Rattle.restart.specs.Statement.{panel_told}
use Rattle.restart.specs.Held.{Held, held, built_on, held_next}
use Rattle.access.specs.declared.rights.Right.TheVariants.{SEE, SAVE, RESTORE}
use Rattle.access.specs.Access.{granted}
use Rattle.access.specs.Entries.{seen_by, status_numbers, save_by, restore_by}
use Rattle.access_restart.specs.Asked.{Asked, ask, allowed, granted_calls, with_withheld, guarded_step, guarded_run, guarded_places, guarded_say, guarded_answers}
use Rattle.access_restart.specs.RoleDemand.{withheld_answer, role_history_panels}

abbrev pub held_answer : Held → Call → Answer
held_answer m c = answer_of m.head m.lent c

abbrev pub held_role_next : List ℕ → Held → Asked → Held
held_role_next = guarded_step held_next

abbrev pub held_role_answer : List ℕ → Held → Asked → Answer
held_role_answer = guarded_say held_next held_answer withheld_answer

abbrev pub held_role_run : List ℕ → Held → List Asked → Held
held_role_run = guarded_run held_next

abbrev pub held_role_answers : List ℕ → Held → List Asked → List Answer
held_role_answers = guarded_answers held_next held_answer withheld_answer

-- ---- `save` and `restore` by a role

abbrev pub role_saved_to : List ℕ → ℕ → Held → List ℕ → save.SaveOutcome
role_saved_to table role m out = save_by table role m.head m.lent out

abbrev pub role_text_in : List ℕ → ℕ → Held → List ℕ → List ℕ
role_text_in table role m out = take (role_saved_to table role m out).length (role_saved_to table role m out).bytes

abbrev pub role_restored_on : List ℕ → ℕ → List ℕ → List ℕ → Lent → Held
role_restored_on table role t codes l = held (restore_by table role t codes l).head (restore_by table role t codes l).lent

-- ---- the panel at each place: what status tells a role, asked with the output `room`

abbrev pub held_role_panels : List ℕ → ℕ → List Float → Held → List Asked → List (Option ℕ)
held_role_panels table role room = guarded_places held_next (λ (m : Held). panel_told (held_role_answer table m (ask role (status room)))) table

-- ---- what each getter answers a role, as its row and what it tells: 0, no, or the kind of number 0 where it is withheld

pub record Number : Type 0 where
  pub row : ℕ
  pub number : ℕ

abbrev pub number : ℕ → ℕ → Number
number n x = record { row = n; number = x }

abbrev pub number_by : List ℕ → ℕ → ℕ → Number
number_by table role x = number (row_of (seen_by table role x)) (result_unwrap_or (seen_by table role x) 0)

pub record Ready : Type 0 where
  pub row : ℕ
  pub ready : Bool

abbrev pub ready : ℕ → Bool → Ready
ready n b = record { row = n; ready = b }

abbrev pub ready_by : List ℕ → ℕ → Bool → Ready
ready_by table role b = ready (row_of (seen_by table role b)) (result_unwrap_or (seen_by table role b) false)

pub record Method : Type 0 where
  pub row : ℕ
  pub transform_method : TransformMethod

abbrev pub method_by : List ℕ → ℕ → TransformMethod → Method
method_by table role m = record { row = row_of (seen_by table role m); transform_method = result_unwrap_or (seen_by table role m) NONE }

pub record Mode : Type 0 where
  pub row : ℕ
  pub forest_mode : ForestMode

abbrev pub mode_by : List ℕ → ℕ → ForestMode → Mode
mode_by table role m = record { row = row_of (seen_by table role m); forest_mode = result_unwrap_or (seen_by table role m) STANDARD }

-- and all of them together
pub record Numbers : Type 0 where
  pub row : ℕ
  pub told : Status

abbrev pub nothing_told : Status
nothing_told =
    record {
      values_seen = 0;
      internal_timestamp = 0;
      ready = false;
      input_dimensions = 0;
      shingle_size = 0;
      dimensions = 0;
      transform_method = NONE;
      forest_mode = STANDARD;
      start_normalization = 0;
      panel = 0;
    }

abbrev pub numbers_by : List ℕ → ℕ → Preprocessor → Numbers
numbers_by table role h =
    let r = seen_by table role (status_numbers h) in record { row = row_of r; told = result_unwrap_or r nothing_told }

-- ---- what the getters answer a role: the row of access's `numbers`, and the rest of it as `Getters` has it (of the two kinds the number and the letter)

pub record GettersShown : Type 0 where
  pub row : ℕ
  pub getters : Getters

abbrev pub getters_shown : ℕ → Getters → GettersShown
getters_shown n g = record { row = n; getters = g }

abbrev pub getters_read : Status → Getters
getters_read a =
    record {
      values_seen = a.values_seen;
      internal_timestamp = a.internal_timestamp;
      ready = a.ready;
      input_dimensions = a.input_dimensions;
      shingle_size = a.shingle_size;
      dimensions = a.dimensions;
      method = method_number a.transform_method;
      mode = mode_letter a.forest_mode;
      start = a.start_normalization;
      panel = a.panel;
    }

abbrev pub shown_to : List ℕ → ℕ → Held → GettersShown
shown_to table role m = getters_shown (numbers_by table role m.head).row (getters_read (numbers_by table role m.head).told)

-- at each place
abbrev pub held_role_shown : List ℕ → ℕ → Held → List Asked → List GettersShown
held_role_shown table role = guarded_places held_next (shown_to table role) table

-- and what the history says there: a withheld call enters nothing
abbrev pub shown_at : List ℕ → Settings → List Entry → List Asked → List Getters
shown_at table s = guarded_places (enter s) (history_getters s) table

-- ---- isolation: any two heads and memories

pub record HeldIsolation : Type 0 where
  pub unchanged : (table : List ℕ) (a : Asked) → allowed table a ≡ false → (m : Held) → held_role_next table m a ≡ m
  pub alike : (table : List ℕ) (a : Asked) → allowed table a ≡ false → (m n : Held) → held_role_answer table m a ≡ held_role_answer table n a

-- ---- demand 3: `build` takes no role; M is the first preprocessor after `before`, N the one that took its text up

pub record RoleHeldRestart (table : List ℕ) (saver restorer : ℕ) (s : Settings) (before after : List Asked) (first second : Lent) (out last : List ℕ) (M N : Held) : Type 0 where
  pub builds : (build_of s first).row ≡ 0
  pub saves : (role_saved_to table saver M out).row ≡ 0
  pub text : role_text_in table saver M out ≡ history_text s (granted_calls table before)
  pub restores : (restore_by table restorer (role_text_in table saver M out) s.codes second).row ≡ 0
  pub same_answers : held_role_answers table N after ≡ held_role_answers table M after
  pub ruled_answers : held_role_answers table N after ≡ with_withheld withheld_answer table after (history_answers s (entries s (granted_calls table before)) (granted_calls table after))
  -- saved at the end by any role: the same bytes, or 20 of both, or 22 of both
  pub same_text : (role : ℕ) → role_saved_to table role (held_role_run table N after) last ≡ role_saved_to table role (held_role_run table (built_on s first) (before ++ after)) last
  -- the panel at every place after the restart, and at every place where nothing is saved
  pub fed_panels : (role : ℕ) → granted table role (SEE ∷ []) ≡ true → (room : List Float) → block s ≤ length room
      → held_role_panels table role room N after ≡ map some (role_history_panels table s (entries s (granted_calls table before)) after)
  pub first_panels : (role : ℕ) → granted table role (SEE ∷ []) ≡ true → (room : List Float) → block s ≤ length room
      → held_role_panels table role room (built_on s first) (before ++ after) ≡ map some (role_history_panels table s [] (before ++ after))
  -- and what every getter answers there
  pub fed_shown : (role : ℕ) → granted table role (SEE ∷ []) ≡ true → held_role_shown table role N after ≡ map (getters_shown 0) (shown_at table s (entries s (granted_calls table before)) after)
  pub first_shown : (role : ℕ) → granted table role (SEE ∷ []) ≡ true
      → held_role_shown table role (built_on s first) (before ++ after) ≡ map (getters_shown 0) (shown_at table s [] (before ++ after))

abbrev pub RoleHeldDemand3 : Type 0
RoleHeldDemand3 =
    (table : List ℕ) (saver restorer : ℕ) → granted table saver (SAVE ∷ []) ≡ true → granted table restorer (RESTORE ∷ []) ≡ true
    → (s : Settings) → Valid s → (before after : List Asked) → All Machine (granted_calls table before) → All Machine (granted_calls table after)
    → (first second : Lent) → lent_short s first ≡ false → lent_short s second ≡ false
    → (out last : List ℕ) → length (history_text s (granted_calls table before)) ≤ length out
    → RoleHeldRestart table saver restorer s before after first second out last (held_role_run table (built_on s first) before)
    (role_restored_on table restorer (role_text_in table saver (held_role_run table (built_on s first) before) out) s.codes second)
