-- Request #105 of the program, composed from what the contracts of crate access state by equation (`point_by`, `learn_by`, `drain_by`, `write_by`,
-- `extrapolation_by`, `status_by`, `numbers_by`, `number_by` and its kin, `save_by`, `restore_by`): isolation, and demand 3. proofs/RoleProgram.antt derives both.
use Rattle.std.specs.Prelude.{ℕ, ◌≤◌, ◌≡◌, Bool, true, false, List, [], ◌∷◌, ◌++◌, map, length, Float}
use Rattle.std.proofs.Math.Option.{Option, some}
use Rattle.trcf.specs.Fit.{All}
use Rattle.trcf.specs.Transformer.{zero32}
use Rattle.trcf.specs.Settings.{Settings, Valid, block}
use Rattle.trcf.specs.Calls.{Call, Machine, shingled_point, post_process, drain, transform, invert_extrapolation, scale, shift, status}
use Rattle.trcf.specs.Types.{method_number, mode_letter}
use Rattle.trcf.specs.Preprocessor.{refused, reading, transform_of, scale_of, shift_of, panel_of}
use Rattle.trcf.specs.View.{Lent, alone, no_head, ready_of, dimension_of, lent_short, build_of, written, status_given}
use Rattle.trcf.specs.Extrapolation.{extrapolation}
use Rattle.trcf.specs.declared.types.TransformMethod.{TransformMethod}
use Rattle.trcf.specs.declared.types.ForestMode.{ForestMode}
use Rattle.snapshot.specs.Save as save
use Rattle.snapshot.specs.Restore as restore
use Rattle.restart.specs.History.{entries, history_text, history_answers}
use Rattle.restart.specs.Statement.{panel_told}
use Rattle.restart.specs.Held.{Held, held, built_on, saved_to}
use Rattle.restart_program.specs.Program.{Return, point, learn, drains, writes, turns, tells, point_return, learn_return, answer_read, return_of, left_by}
use Rattle.access.specs.declared.rights.Right.TheVariants.{SEE, SAVE, RESTORE}
use Rattle.access.specs.Access.{granted}
use Rattle.access.specs.Entries.{point_by, learn_by, drain_by, write_by, extrapolation_by, status_by, withheld_status, restore_by}
use Rattle.access_restart.specs.Asked.{Asked, allowed, granted_calls, with_withheld}
use Rattle.access_restart.specs.RoleDemand.{withheld_answer, role_history_panels}
use Rattle.access_restart.specs.RoleHeld.{role_saved_to, role_text_in, role_restored_on, number, ready, numbers_by, number_by, ready_by, method_by, mode_by, GettersShown, getters_shown, shown_to, shown_at}

-- ---- each by the right side of its contract

abbrev pub role_return : List ℕ → Held → ℕ → Call → Return
role_return table m r (shingled_point x t out) = point_return (point_by table r m.head m.lent x t out)
role_return table m r (post_process q) = learn_return (learn_by table r m.head m.lent q)
role_return table m r drain = drains (drain_by table r m.head m.lent).row
role_return table m r (transform x t out) = writes (write_by table r m.head m.lent (transform x t out) (transform_of (reading x t)) out)
role_return table m r (invert_extrapolation c) =
    turns (extrapolation_by table r m.head m.lent.statistics m.lent.last_shingled_input m.lent.previous_timestamps c)
role_return table m r (scale out) = writes (write_by table r m.head m.lent (scale out) scale_of out)
role_return table m r (shift out) = writes (write_by table r m.head m.lent (shift out) shift_of out)
role_return table m r (status out) = tells (status_by table r m.head m.lent out)

-- what the next call is given: three entries hand back a head and have lists lent to be written, the others read
abbrev pub role_left : List ℕ → Held → ℕ → Call → Held
role_left table m r (shingled_point x t out) = held (point_by table r m.head m.lent x t out).head (point_by table r m.head m.lent x t out).lent
role_left table m r (post_process q) = held (learn_by table r m.head m.lent q).head (learn_by table r m.head m.lent q).lent
role_left table m r drain = held (drain_by table r m.head m.lent).head (drain_by table r m.head m.lent).lent
role_left table m r (transform x t out) = m
role_left table m r (invert_extrapolation c) = m
role_left table m r (scale out) = m
role_left table m r (shift out) = m
role_left table m r (status out) = m

abbrev pub role_ran : List ℕ → Held → List Asked → Held
role_ran table m [] = m
role_ran table m (a ∷ l) = role_ran table (role_left table m a.role a.call) l

abbrev pub role_returns : List ℕ → Held → List Asked → List Return
role_returns table m [] = []
role_returns table m (a ∷ l) = role_return table m a.role a.call ∷ role_returns table (role_left table m a.role a.call) l

-- ---- the panel at each place: what status returns to a role, asked with the output `room`; and what the getters return to it

abbrev pub role_panels_returned : List ℕ → ℕ → List Float → Held → List Asked → List (Option ℕ)
role_panels_returned table role room m [] = panel_told (answer_read (role_return table m role (status room))) ∷ []
role_panels_returned table role room m (a ∷ l) =
    panel_told (answer_read (role_return table m role (status room))) ∷ role_panels_returned table role room (role_left table m a.role a.call) l

abbrev pub role_getters_shown : List ℕ → ℕ → Held → List Asked → List GettersShown
role_getters_shown table role m [] = shown_to table role m ∷ []
role_getters_shown table role m (a ∷ l) = shown_to table role m ∷ role_getters_shown table role (role_left table m a.role a.call) l

-- `shown_to` reads access's `numbers`, which gives all of them: by its own contract each getter returns the same row and the same number, whatever the role
pub record EachGetter (table : List ℕ) (role : ℕ) (m : Held) : Type 0 where
  pub seen : number_by table role m.head.values_seen ≡ number (shown_to table role m).row (shown_to table role m).getters.values_seen
  pub internal : number_by table role m.head.internal_timestamp ≡ number (shown_to table role m).row (shown_to table role m).getters.internal_timestamp
  pub full : ready_by table role (ready_of m.head) ≡ ready (shown_to table role m).row (shown_to table role m).getters.ready
  pub inputs : number_by table role m.head.transformer.input_length ≡ number (shown_to table role m).row (shown_to table role m).getters.input_dimensions
  pub shingle : number_by table role m.head.shingle_size ≡ number (shown_to table role m).row (shown_to table role m).getters.shingle_size
  pub dimension : number_by table role (dimension_of m.head) ≡ number (shown_to table role m).row (shown_to table role m).getters.dimensions
  pub method_row : (method_by table role m.head.transformer.transform_method).row ≡ (shown_to table role m).row
  pub method_is : method_number (method_by table role m.head.transformer.transform_method).transform_method ≡ (shown_to table role m).getters.method
  pub mode_row : (mode_by table role m.head.forest_mode).row ≡ (shown_to table role m).row
  pub mode_is : mode_letter (mode_by table role m.head.forest_mode).forest_mode ≡ (shown_to table role m).getters.mode
  pub starts : number_by table role m.head.start_normalization ≡ number (shown_to table role m).row (shown_to table role m).getters.start
  pub fed : number_by table role (panel_of (alone m.head)) ≡ number (shown_to table role m).row (shown_to table role m).getters.panel

-- ---- isolation

-- what a withheld call returns: 22, nothing of the trace, and its outputs as they were lent
abbrev pub withheld_return : Call → Return
withheld_return (shingled_point x t out) = point 22 false out
withheld_return (post_process q) = learn 22 false false 0 zero32 q.deviations_out q.past_out q.expected_out
withheld_return drain = drains 22
withheld_return (transform x t out) = writes (written 22 out)
withheld_return (invert_extrapolation c) = turns (extrapolation 22 c)
withheld_return (scale out) = writes (written 22 out)
withheld_return (shift out) = writes (written 22 out)
withheld_return (status out) = tells (status_given withheld_status out)

-- "A withheld call changes nothing, and its answer depends on role, call and table alone: two traces as different as you like give it equally": m and n are any
-- two heads with any memories, x and y any two texts
pub record ProgramIsolation (table : List ℕ) : Type 0 where
  pub unchanged : (a : Asked) → allowed table a ≡ false → (m : Held) → role_left table m a.role a.call ≡ m
  pub withheld : (a : Asked) → allowed table a ≡ false → (m : Held) → role_return table m a.role a.call ≡ withheld_return a.call
  pub alike : (a : Asked) → allowed table a ≡ false → (m n : Held) → role_return table m a.role a.call ≡ role_return table n a.role a.call
  pub number : (a : Asked) → allowed table a ≡ false → (m : Held) → answer_read (role_return table m a.role a.call) ≡ refused 22
  pub saves : (role : ℕ) → granted table role (SAVE ∷ []) ≡ false → (m n : Held) (out : List ℕ) → role_saved_to table role m out ≡ role_saved_to table role n out
  pub saves_nothing : (role : ℕ) → granted table role (SAVE ∷ []) ≡ false → (m : Held) (out : List ℕ) → role_saved_to table role m out ≡ save.save_outcome 22 0 out
  pub restores : (role : ℕ) → granted table role (RESTORE ∷ []) ≡ false → (x y codes other : List ℕ) (l : Lent) → restore_by table role x codes l ≡ restore_by table role y other l
  pub restores_nothing : (role : ℕ) → granted table role (RESTORE ∷ []) ≡ false → (text codes : List ℕ) (l : Lent)
      → restore_by table role text codes l ≡ restore.restore_outcome 22 0 no_head l
  -- the getters: together, and one by one, of any two numbers of two heads
  pub together : (role : ℕ) → granted table role (SEE ∷ []) ≡ false → (m n : Held) → numbers_by table role m.head ≡ numbers_by table role n.head
  pub numbers : (role : ℕ) → granted table role (SEE ∷ []) ≡ false → (x y : ℕ) → number_by table role x ≡ number_by table role y
  pub readies : (role : ℕ) → granted table role (SEE ∷ []) ≡ false → (x y : Bool) → ready_by table role x ≡ ready_by table role y
  pub methods : (role : ℕ) → granted table role (SEE ∷ []) ≡ false → (x y : TransformMethod) → method_by table role x ≡ method_by table role y
  pub modes : (role : ℕ) → granted table role (SEE ∷ []) ≡ false → (x y : ForestMode) → mode_by table role x ≡ mode_by table role y

-- and with the right each entry is the one below it: so what demand 2 says of `save` and `restore` it says of a role that has the right
pub record ProgramGranted (table : List ℕ) : Type 0 where
  pub returns : (a : Asked) → allowed table a ≡ true → (m : Held) → role_return table m a.role a.call ≡ return_of m a.call
  pub leaves : (a : Asked) → allowed table a ≡ true → (m : Held) → role_left table m a.role a.call ≡ left_by m a.call
  pub saves : (role : ℕ) → granted table role (SAVE ∷ []) ≡ true → (m : Held) (out : List ℕ) → role_saved_to table role m out ≡ saved_to m out
  pub restores : (role : ℕ) → granted table role (RESTORE ∷ []) ≡ true → (text codes : List ℕ) (l : Lent) → restore_by table role text codes l ≡ restore.restore_of text codes l

-- ---- demand 3: M is the first preprocessor after `before`, N the one that took its text up

pub record RoleProgramRestart (table : List ℕ) (saver restorer : ℕ) (s : Settings) (before after : List Asked) (first second : Lent) (out last : List ℕ) (M N : Held) : Type 0 where
  pub builds : (build_of s first).row ≡ 0
  pub saves : (role_saved_to table saver M out).row ≡ 0
  pub text : role_text_in table saver M out ≡ history_text s (granted_calls table before)
  pub restores : (restore_by table restorer (role_text_in table saver M out) s.codes second).row ≡ 0
  -- every return and every output, refusals and 22 included
  pub same_returns : role_returns table N after ≡ role_returns table M after
  pub ruled_answers : map answer_read (role_returns table N after)
      ≡ with_withheld withheld_answer table after (history_answers s (entries s (granted_calls table before)) (granted_calls table after))
  pub same_text : (role : ℕ) → role_saved_to table role (role_ran table N after) last ≡ role_saved_to table role (role_ran table (built_on s first) (before ++ after)) last
  pub fed_panels : (role : ℕ) → granted table role (SEE ∷ []) ≡ true → (room : List Float) → block s ≤ length room
      → role_panels_returned table role room N after ≡ map some (role_history_panels table s (entries s (granted_calls table before)) after)
  pub first_panels : (role : ℕ) → granted table role (SEE ∷ []) ≡ true → (room : List Float) → block s ≤ length room
      → role_panels_returned table role room (built_on s first) (before ++ after) ≡ map some (role_history_panels table s [] (before ++ after))
  pub fed_shown : (role : ℕ) → granted table role (SEE ∷ []) ≡ true
      → role_getters_shown table role N after ≡ map (getters_shown 0) (shown_at table s (entries s (granted_calls table before)) after)
  pub first_shown : (role : ℕ) → granted table role (SEE ∷ []) ≡ true
      → role_getters_shown table role (built_on s first) (before ++ after) ≡ map (getters_shown 0) (shown_at table s [] (before ++ after))

-- for all tables, all settings that no row refuses, all calls by all roles, all places, and all lent memory that is long enough
abbrev pub RoleProgramDemand3 : Type 0
RoleProgramDemand3 =
    (table : List ℕ) (saver restorer : ℕ) → granted table saver (SAVE ∷ []) ≡ true → granted table restorer (RESTORE ∷ []) ≡ true
    → (s : Settings) → Valid s → (before after : List Asked) → All Machine (granted_calls table before) → All Machine (granted_calls table after)
    → (first second : Lent) → lent_short s first ≡ false → lent_short s second ≡ false
    → (out last : List ℕ) → length (history_text s (granted_calls table before)) ≤ length out
    → RoleProgramRestart table saver restorer s before after first second out last (role_ran table (built_on s first) before)
    (role_restored_on table restorer (role_text_in table saver (role_ran table (built_on s first) before) out) s.codes second)
