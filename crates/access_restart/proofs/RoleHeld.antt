-- Request #105 of what the program holds, from demand 3 of what it holds, over the granted calls. Assumes nothing.
use Prim.Native.Nat.{ℕ}
use mathlib.Core.Path.{◌≡◌, refl, sym, ap, ◌∙◌}
use mathlib.Core.Bool.{true}
use mathlib.Core.List.{List, [], ◌∷◌, map}
use mathlib.Core.Option.{Option, some}
use lib.Ieee.{Float}
use Rattle.trcf.specs.Calls.{Call, status}
use Rattle.trcf.specs.View.{answer_of, getters_of}
use Rattle.snapshot.specs.Save as save
use Rattle.snapshot.specs.Restore as restore
use Rattle.restart.specs.History.{Entry, history_panels, history_shown}
use Rattle.restart.specs.Statement.{panel_told}
use Rattle.restart.specs.Held.{Held, held_next, held_run, held_answers, held_panels, held_shown, HeldRestart}
use Rattle.restart.proofs.Held.{held_demand_3}
use Rattle.access.specs.declared.rights.Right.TheVariants.{SEE}
use Rattle.access.specs.Access.{granted}
use Rattle.access_restart.specs.Asked.{Asked, ask, granted_calls, with_withheld}
use Rattle.access_restart.specs.RoleDemand.{withheld_answer, role_history_panels}
use Rattle.access_restart.specs.RoleHeld.{held_answer, held_role_answer, held_role_run, held_role_answers, held_role_panels, HeldIsolation, RoleHeldDemand3}
use Rattle.access_restart.specs.RoleHeld.{GettersShown, getters_shown, shown_to, held_role_shown, shown_at}
use Rattle.access_restart.proofs.Granted.{stayed, run_granted, answers_granted, places_granted, places_same}
use Rattle.access_restart.proofs.RoleRestart.{fed_places}
use Rattle.access_restart.proofs.Composed.{shown_places, carried}

pub held_isolation : HeldIsolation
held_isolation = record { unchanged = λ table a e m. rw e; alike = λ table a e m n. rw e }

module _ (table : List ℕ) where
  held_run_lem : (m : Held) (l : List Asked) → held_role_run table m l ≡ held_run m (granted_calls table l)
  held_run_lem = run_granted held_next table held_run (λ m. refl) (λ m c cs. refl)

  held_answers_lem : (m : Held) (l : List Asked) → held_role_answers table m l ≡ with_withheld withheld_answer table l (held_answers m (granted_calls table l))
  held_answers_lem = answers_granted held_next table held_answer withheld_answer held_answers (λ m c cs. refl)

  module _ (role : ℕ) (g : granted table role (SEE ∷ []) ≡ true) where
    held_panels_lem : (room : List Float) (m : Held) (l : List Asked) → held_role_panels table role room m l ≡ stayed table l (held_panels room m (granted_calls table l))
    held_panels_lem room m l =
        let told : Held → Option ℕ = λ (n : Held). panel_told (answer_of n.head n.lent (status room)) in
        places_same held_next table (λ (n : Held). panel_told (held_role_answer table n (ask role (status room)))) told (λ n. rw g) m l
        ∙ places_granted held_next table told (held_panels room) (λ n. refl) (λ n c cs. refl) m l

    held_shown_lem : (m : Held) (l : List Asked) → held_role_shown table role m l ≡ stayed table l (map (getters_shown 0) (held_shown m (granted_calls table l)))
    held_shown_lem m l =
        let told : Held → GettersShown = λ (n : Held). getters_shown 0 (getters_of n.head) in
        places_same held_next table (shown_to table role) told (λ n. rw g) m l
        ∙ places_granted held_next table told (λ (n : Held) (cs : List Call). map (getters_shown 0) (held_shown n cs)) (λ n. refl) (λ n c cs. refl) m l

pub role_held_demand_3 : RoleHeldDemand3
role_held_demand_3 table saver restorer p q s ok before after mb ma first second rf rs out last long =
    let B : List Call = granted_calls table before in
    let A : List Call = granted_calls table after in
    let r : HeldRestart s B A first second out last = held_demand_3 s ok B A mb ma first second rf rs out last long in
    let k = carried table held_run (held_role_run table) (held_run_lem table) saver restorer p q s before after first second out in
    let says : (m n : Held) → m ≡ n → held_role_answers table m after ≡ with_withheld withheld_answer table after (held_answers n A) =
    λ m n e. held_answers_lem table m after ∙ ap (λ (x : Held). with_withheld withheld_answer table after (held_answers x A)) e in
    let panels : List Entry → List Call → List (Option ℕ) = λ es cs. map some (history_panels s es cs) in
    let fed : List Entry → List Asked → List (Option ℕ) = λ es l. map some (role_history_panels table s es l) in
    let panel-is = fed_places table s some in
    let getters : List Entry → List Call → List GettersShown = λ es cs. map (getters_shown 0) (history_shown s es cs) in
    let role_getters : List Entry → List Asked → List GettersShown = λ es l. map (getters_shown 0) (shown_at table s es l) in
    let getters-are = shown_places table s (getters_shown 0) in
    let answered : Held → List Call → List GettersShown = λ n cs. map (getters_shown 0) (held_shown n cs) in
    record {
      builds = r.builds;
      saves = ap (λ (o : save.SaveOutcome). o.row) k.saves ∙ r.saves;
      text = k.text ∙ r.text;
      restores = ap (λ (o : restore.RestoreOutcome). o.row) k.restores ∙ r.restores;
      same_answers = says _ _ k.second_is ∙ ap (with_withheld withheld_answer table after) r.same_answers ∙ sym (says _ _ k.first_is);
      ruled_answers = says _ _ k.second_is ∙ ap (with_withheld withheld_answer table after) r.ruled_answers;
      same_text = k.same_text last r.same_text;
      fed_panels = λ role g room h. k.seen_after panels fed panel-is (held_panels room) (held_role_panels table role room) (held_panels_lem table role g room) (r.fed_panels room h);
      first_panels = λ role g room h. k.seen_first panels fed panel-is (held_panels room) (held_role_panels table role room) (held_panels_lem table role g room) (r.first_panels room h);
      fed_shown = λ role g. k.seen_after getters role_getters getters-are answered (held_role_shown table role) (held_shown_lem table role g) (ap (map (getters_shown 0)) r.fed_shown);
      first_shown = λ role g. k.seen_first getters role_getters getters-are answered (held_role_shown table role) (held_shown_lem table role g) (ap (map (getters_shown 0)) r.first_shown);
    }
