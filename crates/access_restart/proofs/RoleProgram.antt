-- Request #105 of the program: the entries of crate access, composed by their contracts, are the granted calls of `program_demand_3`. Assumes nothing.
use Prim.Native.Nat.{ℕ}
use mathlib.Core.Path.{◌≡◌, refl, sym, ap, ◌∙◌}
use mathlib.Core.Bool.{Bool, true, false}
use mathlib.Core.List.{List, [], ◌∷◌, map}
use mathlib.Core.Option.{Option, some}
use lib.Ieee.{Float}
use Rattle.trcf.specs.Calls.{Call, shingled_point, post_process, drain, transform, invert_extrapolation, scale, shift, status}
use Rattle.trcf.specs.Preprocessor.{Answer, refused, learned_nothing}
use Rattle.trcf.specs.View.{getters_of}
use Rattle.snapshot.specs.Save as save
use Rattle.snapshot.specs.Restore as restore
use Rattle.restart.specs.History.{Entry, history_panels, history_shown}
use Rattle.restart.specs.Statement.{panel_told}
use Rattle.restart.specs.Held.{Held}
use Rattle.restart_program.specs.Program.{Return, answer_read, return_of, left_by, left_by_all, returns, returned_panels, shown_getters, ProgramRestart}
use Rattle.restart_program.proofs.Program.{program_demand_3}
use Rattle.access.specs.declared.rights.Right.TheVariants.{SEE}
use Rattle.access.specs.Access.{granted}
use Rattle.access_restart.specs.Asked.{Asked, ask, allowed, granted_calls, with_withheld, guarded_step, guarded_run, guarded_places, guarded_say, guarded_answers}
use Rattle.access_restart.specs.RoleDemand.{withheld_answer, role_history_panels}
use Rattle.access_restart.specs.RoleHeld.{GettersShown, getters_shown, shown_to, shown_at}
use Rattle.access_restart.specs.RoleProgram.{role_return, role_left, role_ran, role_returns, role_panels_returned, role_getters_shown, EachGetter, withheld_return, ProgramIsolation, ProgramGranted}
use Rattle.access_restart.specs.RoleProgram.{RoleProgramDemand3}
use Rattle.access_restart.proofs.Granted.{stayed, run_granted, answers_granted, places_granted, places_same}
use Rattle.access_restart.proofs.RoleRestart.{fed_places}
use Rattle.access_restart.proofs.Composed.{shown_places, carried}

-- ---- an entry, by its contract: withheld, and granted

module _ (table : List ℕ) (m : Held) (r : ℕ) where
  pub return_withheld : (c : Call) → allowed table (ask r c) ≡ false → role_return table m r c ≡ withheld_return c
  unfolding learned_nothing
  return_withheld (shingled_point x t out) e = rw e
  return_withheld (post_process q) e = rw e
  return_withheld drain e = rw e
  return_withheld (transform x t out) e = rw e
  return_withheld (invert_extrapolation c) e = rw e
  return_withheld (scale out) e = rw e
  return_withheld (shift out) e = rw e
  return_withheld (status out) e = rw e

  return_granted : (c : Call) → allowed table (ask r c) ≡ true → role_return table m r c ≡ return_of m c
  return_granted (shingled_point x t out) e = rw e
  return_granted (post_process q) e = rw e
  return_granted drain e = rw e
  return_granted (transform x t out) e = rw e
  return_granted (invert_extrapolation c) e = rw e
  return_granted (scale out) e = rw e
  return_granted (shift out) e = rw e
  return_granted (status out) e = rw e

  pub left_withheld : (c : Call) → allowed table (ask r c) ≡ false → role_left table m r c ≡ m
  left_withheld (shingled_point x t out) e = rw e
  left_withheld (post_process q) e = rw e
  left_withheld drain e = rw e
  left_withheld (transform x t out) e = refl
  left_withheld (invert_extrapolation c) e = refl
  left_withheld (scale out) e = refl
  left_withheld (shift out) e = refl
  left_withheld (status out) e = refl

  left_granted : (c : Call) → allowed table (ask r c) ≡ true → role_left table m r c ≡ left_by m c
  left_granted (shingled_point x t out) e = rw e
  left_granted (post_process q) e = rw e
  left_granted drain e = rw e
  left_granted (transform x t out) e = refl
  left_granted (invert_extrapolation c) e = refl
  left_granted (scale out) e = refl
  left_granted (shift out) e = refl
  left_granted (status out) e = refl

module _ (table : List ℕ) (m : Held) (a : Asked) where
  return_is : role_return table m a.role a.call ≡ guarded_say left_by return_of withheld_return table m a
  return_is = by (allowed table a) refl
    where
      by : (b : Bool) → allowed table a ≡ b → role_return table m a.role a.call ≡ guarded_say left_by return_of withheld_return table m a
      by true e = return_granted table m a.role a.call e ∙ sym (rw e)
      by false e = return_withheld table m a.role a.call e ∙ sym (rw e)

  left_is_lem : role_left table m a.role a.call ≡ guarded_step left_by table m a
  left_is_lem = by (allowed table a) refl
    where
      by : (b : Bool) → allowed table a ≡ b → role_left table m a.role a.call ≡ guarded_step left_by table m a
      by true e = left_granted table m a.role a.call e ∙ sym (rw e)
      by false e = left_withheld table m a.role a.call e ∙ sym (rw e)

-- ---- isolation

read_withheld : (c : Call) → answer_read (withheld_return c) ≡ refused 22
read_withheld (shingled_point x t out) = refl
read_withheld (post_process q) = refl
read_withheld drain = refl
read_withheld (transform x t out) = refl
read_withheld (invert_extrapolation c) = refl
read_withheld (scale out) = refl
read_withheld (shift out) = refl
read_withheld (status out) = refl

pub program_isolation : (table : List ℕ) → ProgramIsolation table
program_isolation table = record {
  unchanged = λ a e m. left_withheld table m a.role a.call e;
  withheld = λ a e m. return_withheld table m a.role a.call e;
  alike = λ a e m n. return_withheld table m a.role a.call e ∙ sym (return_withheld table n a.role a.call e);
  number = λ a e m. ap answer_read (return_withheld table m a.role a.call e) ∙ read_withheld a.call;
  saves = λ role e m n out. rw e;
  saves_nothing = λ role e m out. rw e;
  restores = λ role e x y codes other l. rw e;
  restores_nothing = λ role e text codes l. rw e;
  together = λ role e m n. rw e;
  numbers = λ role e x y. rw e;
  readies = λ role e x y. rw e;
  methods = λ role e x y. rw e;
  modes = λ role e x y. rw e;
}

pub program_granted : (table : List ℕ) → ProgramGranted table
program_granted table = record {
  returns = λ a e m. return_granted table m a.role a.call e;
  leaves = λ a e m. left_granted table m a.role a.call e;
  saves = λ role e m out. rw e;
  restores = λ role e text codes l. rw e;
}

-- ---- the getters one by one

pub each_getter : (table : List ℕ) (role : ℕ) (m : Held) → EachGetter table role m
each_getter table role m = by (granted table role (SEE ∷ [])) refl
  where
    by : (b : Bool) → granted table role (SEE ∷ []) ≡ b → EachGetter table role m
    by true e = record {
      seen = rw e;
      internal = rw e;
      full = rw e;
      inputs = rw e;
      shingle = rw e;
      dimension = rw e;
      method_row = rw e;
      method_is = rw e;
      mode_row = rw e;
      mode_is = rw e;
      starts = rw e;
      fed = rw e;
    }
    by false e = record {
      seen = rw e;
      internal = rw e;
      full = rw e;
      inputs = rw e;
      shingle = rw e;
      dimension = rw e;
      method_row = rw e;
      method_is = rw e;
      mode_row = rw e;
      mode_is = rw e;
      starts = rw e;
      fed = rw e;
    }

-- ---- all calls

module _ (table : List ℕ) where
  ran_guarded : (m : Held) (l : List Asked) → role_ran table m l ≡ guarded_run left_by table m l
  ran_guarded m [] = refl
  ran_guarded m (a ∷ l) = ap (λ (n : Held). role_ran table n l) (left_is_lem table m a) ∙ ran_guarded (guarded_step left_by table m a) l

  ran_is : (m : Held) (l : List Asked) → role_ran table m l ≡ left_by_all m (granted_calls table l)
  ran_is m l = ran_guarded m l ∙ run_granted left_by table left_by_all (λ n. refl) (λ n c cs. refl) m l

  returns_guarded : (m : Held) (l : List Asked) → role_returns table m l ≡ guarded_answers left_by return_of withheld_return table m l
  returns_guarded m [] = refl
  returns_guarded m (a ∷ l) =
      λ j. return_is table m a j ∷ (ap (λ (n : Held). role_returns table n l) (left_is_lem table m a) ∙ returns_guarded (guarded_step left_by table m a) l) j

  returns_are : (m : Held) (l : List Asked) → role_returns table m l ≡ with_withheld withheld_return table l (returns m (granted_calls table l))
  returns_are m l = returns_guarded m l ∙ answers_granted left_by table return_of withheld_return returns (λ n c cs. refl) m l

  -- a return read as document 01's answer, in its place
  placed_read : (l : List Asked) (t : List Return) → map answer_read (with_withheld withheld_return table l t) ≡ with_withheld withheld_answer table l (map answer_read t)
  placed_read [] t = refl
  placed_read (a ∷ l) t = by (allowed table a) refl t (λ u. placed_read l u)
    where
      by : (b : Bool) → allowed table a ≡ b → (t : List Return) → ((u : List Return) → map answer_read (with_withheld withheld_return table l u) ≡ with_withheld withheld_answer table l (map answer_read u))
          → map answer_read (with_withheld withheld_return table (a ∷ l) t) ≡ with_withheld withheld_answer table (a ∷ l) (map answer_read t)
      by true e [] rest = rw e (rest [])
      by true e (x ∷ t) rest = rw e (ap (λ (q : List Answer). answer_read x ∷ q) (rest t))
      by false e t rest = rw (e, read_withheld a.call) (ap (λ (q : List Answer). refused 22 ∷ q) (rest t))

  module _ (role : ℕ) where
    panels_guarded : (room : List Float) (m : Held) (l : List Asked)
        → role_panels_returned table role room m l ≡ guarded_places left_by (λ (n : Held). panel_told (answer_read (role_return table n role (status room)))) table m l
    panels_guarded room m [] = refl
    panels_guarded room m (a ∷ l) =
        ap (λ (q : List (Option ℕ)). panel_told (answer_read (role_return table m role (status room))) ∷ q)
        (ap (λ (n : Held). role_panels_returned table role room n l) (left_is_lem table m a) ∙ panels_guarded room (guarded_step left_by table m a) l)

    shown_guarded : (m : Held) (l : List Asked) → role_getters_shown table role m l ≡ guarded_places left_by (shown_to table role) table m l
    shown_guarded m [] = refl
    shown_guarded m (a ∷ l) =
        ap (λ (q : List GettersShown). shown_to table role m ∷ q)
        (ap (λ (n : Held). role_getters_shown table role n l) (left_is_lem table m a) ∙ shown_guarded (guarded_step left_by table m a) l)

    module _ (g : granted table role (SEE ∷ []) ≡ true) where
      panels_are : (room : List Float) (m : Held) (l : List Asked) → role_panels_returned table role room m l ≡ stayed table l (returned_panels room m (granted_calls table l))
      panels_are room m l =
          let told : Held → Option ℕ = λ (n : Held). panel_told (answer_read (return_of n (status room))) in
          panels_guarded room m l
          ∙ places_same left_by table (λ (n : Held). panel_told (answer_read (role_return table n role (status room)))) told (λ n. rw g) m l
          ∙ places_granted left_by table told (returned_panels room) (λ n. refl) (λ n c cs. refl) m l

      shown_are : (m : Held) (l : List Asked) → role_getters_shown table role m l ≡ stayed table l (map (getters_shown 0) (shown_getters m (granted_calls table l)))
      shown_are m l =
          let told : Held → GettersShown = λ (n : Held). getters_shown 0 (getters_of n.head) in
          shown_guarded m l
          ∙ places_same left_by table (shown_to table role) told (λ n. rw g) m l
          ∙ places_granted left_by table told (λ (n : Held) (cs : List Call). map (getters_shown 0) (shown_getters n cs)) (λ n. refl) (λ n c cs. refl) m l

-- ---- the statement

pub role_program_demand_3 : RoleProgramDemand3
role_program_demand_3 table saver restorer p q s ok before after mb ma first second rf rs out last long =
    let B : List Call = granted_calls table before in
    let A : List Call = granted_calls table after in
    let r : ProgramRestart s B A first second out last = program_demand_3 s ok B A mb ma first second rf rs out last long in
    let k = carried table left_by_all (role_ran table) (ran_is table) saver restorer p q s before after first second out in
    let says : (m n : Held) → m ≡ n → role_returns table m after ≡ with_withheld withheld_return table after (returns n A) =
    λ m n e. returns_are table m after ∙ ap (λ (x : Held). with_withheld withheld_return table after (returns x A)) e in
    let panels : List Entry → List Call → List (Option ℕ) = λ es cs. map some (history_panels s es cs) in
    let fed : List Entry → List Asked → List (Option ℕ) = λ es l. map some (role_history_panels table s es l) in
    let panel-is = fed_places table s some in
    let getters : List Entry → List Call → List GettersShown = λ es cs. map (getters_shown 0) (history_shown s es cs) in
    let role_getters : List Entry → List Asked → List GettersShown = λ es l. map (getters_shown 0) (shown_at table s es l) in
    let getters-are = shown_places table s (getters_shown 0) in
    let answered : Held → List Call → List GettersShown = λ n cs. map (getters_shown 0) (shown_getters n cs) in
    record {
      builds = r.builds;
      saves = ap (λ (o : save.SaveOutcome). o.row) k.saves ∙ r.saves;
      text = k.text ∙ r.text;
      restores = ap (λ (o : restore.RestoreOutcome). o.row) k.restores ∙ r.restores;
      same_returns = says _ _ k.second_is ∙ ap (with_withheld withheld_return table after) r.same_returns ∙ sym (says _ _ k.first_is);
      ruled_answers = ap (map answer_read) (says _ _ k.second_is) ∙ placed_read table after _ ∙ ap (with_withheld withheld_answer table after) r.ruled_answers;
      same_text = k.same_text last r.same_text;
      fed_panels = λ role g room h. k.seen_after panels fed panel-is (returned_panels room) (role_panels_returned table role room) (panels_are table role g room) (r.fed_panels room h);
      first_panels = λ role g room h. k.seen_first panels fed panel-is (returned_panels room) (role_panels_returned table role room) (panels_are table role g room) (r.first_panels room h);
      fed_shown = λ role g. k.seen_after getters role_getters getters-are answered (role_getters_shown table role) (shown_are table role g) (ap (map (getters_shown 0)) r.fed_shown);
      first_shown = λ role g. k.seen_first getters role_getters getters-are answered (role_getters_shown table role) (shown_are table role g) (ap (map (getters_shown 0)) r.first_shown);
    }
