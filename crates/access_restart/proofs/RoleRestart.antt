-- Request #105: a trace with roles is the trace of its granted calls, so demand 3 with roles is demand 3 over those. Assumes nothing.
use Prim.Native.Nat.{ℕ, ◌≤◌}
use mathlib.Core.Path.{◌≡◌, refl, sym, ap, ◌∙◌, subst}
use mathlib.Core.Bool.{Bool, true, false, cond}
use mathlib.Core.List.{List, [], ◌∷◌, ◌++◌, map, append-nil}
use mathlib.Core.Option.{some}
use lib.ListN.{length}
use lib.Ieee.{Float}
use Rattle.trcf.specs.Fit.{All}
use Rattle.trcf.specs.Settings.{Settings, Valid, block}
use Rattle.trcf.specs.Calls.{Call, Machine, status}
use Rattle.trcf.specs.Preprocessor.{State, fresh, next, run, Answer, answer, answers}
use Rattle.trcf.proofs.FitLaws.{all_append}
use Rattle.snapshot.specs.Text.{render, TextOf}
use Rattle.snapshot.specs.Read.{Read, taken, read}
use Rattle.restart.specs.History.{Entry, enter, entries_from, entries, history_state, history_text, history_panel, history_panels}
use Rattle.restart.specs.Statement.{Outlives, Restart, Reaches, calling, panel_told, panels, built as built₀, restoring as restoring₀}
use Rattle.restart.proofs.Step.{run_history, answers_history}
use Rattle.restart.proofs.Panel.{panel_at}
use Rattle.restart.proofs.Reachable.{k>0_of}
use Rattle.restart.proofs.Restart.{run_append, restored, text_history, demand_3}
use Rattle.access.specs.declared.rights.Right.TheVariants.{SEE, SAVE, RESTORE}
use Rattle.access.specs.Access.{granted}
use Rattle.access_restart.specs.Asked.{Asked, ask, allowed, granted_calls, with_withheld, guarded_step}
use Rattle.access_restart.specs.RoleDemand.{withheld_answer, role_next, role_answer, role_run, role_answers, gave, withheld, role_panels, role_history_panels, RoleIsolation, RoleOutlives, RoleRestart}
use Rattle.access_restart.specs.RoleDemand.{RoleEvent, asked, role_restarted, asked_of, restarted_by, role_events, role_event_answers, told_to, role_event_panels, fed_at_events, RoleRestarts}
use Rattle.access_restart.specs.RoleDemand.{RoleReaches, role_built, asking, role_restoring, RoleDemand3, CountsGranted}
use Rattle.access_restart.proofs.Granted.{stayed, granted_append, run_granted, answers_granted, places_granted, places_same, places_read}

-- ---- isolation

pub isolation : RoleIsolation
isolation = record {
  unchanged = λ table a e w. rw e;
  alike = λ table a e w v. rw e;
  number = λ table a e w. rw e;
  saves = λ table role e w. rw e;
  restores = λ table role e text. rw e;
  grants = λ table a e w. (rw e, rw e);
}

-- ---- the history counts granted calls

pub counts_granted : CountsGranted
unfolding entries
counts_granted table s l = run_granted (enter s) table (entries_from s) (λ es. refl) (λ es c cs. refl) [] l

module _ (table : List ℕ) where
  pub role_run_lem : (w : State) (l : List Asked) → role_run table w l ≡ run w (granted_calls table l)
  role_run_lem = run_granted next table run (λ w. refl) (λ w c cs. refl)

  pub role_answers_lem : (w : State) (l : List Asked) → role_answers table w l ≡ with_withheld withheld_answer table l (answers w (granted_calls table l))
  role_answers_lem = answers_granted next table answer withheld_answer answers (λ w c cs. refl)

  -- ---- the panel that a role is told

  -- where the status answers of the granted calls tell the history's readings fed, so do those of all calls
  module _ {P : Type 0} (s : Settings) (f : ℕ → P) where
    pub fed_places : (es : List Entry) (l : List Asked) → map f (role_history_panels table s es l) ≡ stayed table l (map f (history_panels s es (granted_calls table l)))
    fed_places = places_read (enter s) table f (history_panel s) (history_panels s) (λ h. refl) (λ h c cs. refl)

  module _ (role : ℕ) (g : granted table role (SEE ∷ []) ≡ true) (out : List Float) where
    told_is : (w : State) → panel_told (role_answer table w (ask role (status out))) ≡ panel_told (answer w (status out))
    told_is w = rw g

    role_panels_lem : (w : State) (l : List Asked) → role_panels table role out w l ≡ stayed table l (panels out w (granted_calls table l))
    role_panels_lem w l =
        places_same next table (λ (v : State). panel_told (role_answer table v (ask role (status out)))) (λ (v : State). panel_told (answer v (status out))) told_is w l
        ∙ places_granted next table (λ (v : State). panel_told (answer v (status out))) (panels out) (λ v. refl) (λ v c cs. refl) w l

  -- ---- one restart: each part is demand 3's of the granted calls

  module _ (s : Settings) (before after : List Asked) where
    abbrev B : List Call
    B = granted_calls table before

    abbrev A : List Call
    A = granted_calls table after

    outlives : (w : State) → Outlives s B A w → RoleOutlives table s before after w
    outlives w o = record {
      same_answers =
          role_answers_lem w after
          ∙ ap (with_withheld withheld_answer table after) (o.same_answers ∙ ap (λ (v : State). answers v A) (sym (role_run_lem (fresh s) before)))
          ∙ sym (role_answers_lem (role_run table (fresh s) before) after);
      ruled_answers = role_answers_lem w after ∙ ap (with_withheld withheld_answer table after) o.ruled_answers;
      same_text = λ role. ap (λ (x : List ℕ). cond (granted table role (SAVE ∷ [])) (gave x) withheld) texts;
      history_ends = λ role g. rw g (ap gave (ap render (role_run_lem w after) ∙ o.history_ends ∙ ap (history_text s) (sym (granted_append table before after))));
      fed_panels = λ role g out room.
          role_panels_lem role g out w after ∙ ap (stayed table after) (o.fed_panels out room) ∙ sym (fed_places s some (entries s B) after);
    }
      where
        texts : render (role_run table w after) ≡ render (role_run table (fresh s) (before ++ after))
        texts =
            ap render (role_run_lem w after)
            ∙ o.same_text
            ∙ ap (λ (cs : List Call). render (run (fresh s) cs)) (sym (granted_append table before after))
            ∙ ap render (sym (role_run_lem (fresh s) (before ++ after)))

    restart : (saver restorer : ℕ) → granted table saver (SAVE ∷ []) ≡ true → granted table restorer (RESTORE ∷ []) ≡ true → Restart s B A
        → RoleRestart table s saver restorer before after
    restart saver restorer p q r =
        let both : granted_calls table (before ++ after) ≡ B ++ A = granted_append table before after in
        record {
          text = rw p (ap gave (ap render (role_run_lem (fresh s) before) ∙ r.text));
          second = r.second;
          taking = rw q (ap gave (ap read (sym r.text) ∙ r.taking));
          agree = r.agree;
          outlives = outlives r.second r.outlives;
          every = λ w u. outlives w (r.every w (record { form = u.form; text = subst (TextOf w) (sym r.text) u.text; agree = u.agree }));
          fed_panels = λ role g out room.
              role_panels_lem role g out (fresh s) (before ++ after)
              ∙ ap (λ (cs : List Call). stayed table (before ++ after) (panels out (fresh s) cs)) both
              ∙ ap (stayed table (before ++ after)) (r.fed_panels out room)
              ∙ ap (λ (cs : List Call). stayed table (before ++ after) (map some (history_panels s [] cs))) (sym both)
              ∙ sym (fed_places s some [] (before ++ after));
        }

  -- ---- any number of them

  module _ (s : Settings) (ok : Valid s) where
    -- w stands after the granted calls, h are their entries
    record Stands (w : State) (h : List Entry) : Type 0 where
      calls : List Call
      machine : All Machine calls
      is : w ≡ run (fresh s) calls
      entered : h ≡ entries s calls

    -- whoever saves and restores
    restarted_same : (w : State) (h : List Entry) → Stands w h → (p q : ℕ) → restarted_by table p q w ≡ taken w
    restarted_same w h k p q = by (granted table p (SAVE ∷ [])) refl (granted table q (RESTORE ∷ [])) refl
      where
        by : (a : Bool) → granted table p (SAVE ∷ []) ≡ a → (b : Bool) → granted table q (RESTORE ∷ []) ≡ b → restarted_by table p q w ≡ taken w
        by true d true e = rw (d, e, k.is) (restored s ok k.calls k.machine)
        by true d false e = rw (d, e)
        by false d b e = rw d

    entries_more : (cs : List Call) (c : Call) → enter s (entries s cs) c ≡ entries s (cs ++ (c ∷ []))
    unfolding entries
    entries_more cs c = from [] cs
      where
        from : (es : List Entry) (cs : List Call) → enter s (entries_from s es cs) c ≡ entries_from s es (cs ++ (c ∷ []))
        from es [] = refl
        from es (d ∷ cs) = from (enter s es d) cs

    asks : (a : Asked) (cs : List Call) → All Machine (cond (allowed table a) (a.call ∷ []) [] ++ cs) → (w : State) (h : List Entry) → Stands w h
        → Stands (role_next table w a) (guarded_step (enter s) table h a) × All Machine cs
    asks a cs m w h k = by (allowed table a) refl
      where
        by : (b : Bool) → allowed table a ≡ b → Stands (role_next table w a) (guarded_step (enter s) table h a) × All Machine cs
        by true e =
            let n : All Machine (a.call ∷ cs) = subst (λ (x : Bool). All Machine (cond x (a.call ∷ []) [] ++ cs)) e m in
            rw e (
              record {
                calls = k.calls ++ (a.call ∷ []);
                machine = all_append _ k.calls (a.call ∷ []) k.machine (n.0, tt);
                is = ap (λ (v : State). next v a.call) k.is ∙ sym (run_append (fresh s) k.calls (a.call ∷ []));
                entered = ap (λ (x : List Entry). enter s x a.call) k.entered ∙ entries_more k.calls a.call;
              },
              n.1,
            )
        by false e = rw e (k, subst (λ (x : Bool). All Machine (cond x (a.call ∷ []) [] ++ cs)) e m)

    ends : (w : State) (h : List Entry) → Stands w h → (es : List RoleEvent) → All Machine (granted_calls table (asked_of es))
        → role_events table (taken w) es ≡ taken (role_run table w (asked_of es))
    ends w h k [] m = refl
    ends w h k (asked a ∷ es) m =
        let n = asks a (granted_calls table (asked_of es)) m w h k in
        ends (role_next table w a) (guarded_step (enter s) table h a) n.0 es n.1
    ends w h k (role_restarted p q ∷ es) m = ap (λ (x : Read). role_events table x es) (restarted_same w h k p q) ∙ ends w h k es m

    says : (w : State) (h : List Entry) → Stands w h → (es : List RoleEvent) → All Machine (granted_calls table (asked_of es))
        → role_event_answers table (taken w) es ≡ role_answers table w (asked_of es)
    says w h k [] m = refl
    says w h k (asked a ∷ es) m =
        let n = asks a (granted_calls table (asked_of es)) m w h k in
        ap (λ (l : List Answer). role_answer table w a ∷ l) (says (role_next table w a) (guarded_step (enter s) table h a) n.0 es n.1)
    says w h k (role_restarted p q ∷ es) m = ap (λ (x : Read). role_event_answers table x es) (restarted_same w h k p q) ∙ says w h k es m

    module _ (role : ℕ) (g : granted table role (SEE ∷ []) ≡ true) (out : List Float) (room : block s ≤ length out) where
      tells : (w : State) (h : List Entry) → Stands w h → told_to table role out w ≡ some (history_panel s h)
      tells w h k =
          let e : w ≡ history_state s h = k.is ∙ run_history s (k>0_of s ok) k.calls ∙ ap (history_state s) (sym k.entered) in
          told_is role g out w ∙ ap (λ (v : State). panel_told (answer v (status out))) e ∙ panel_at s h out room

      shows : (w : State) (h : List Entry) → Stands w h → (es : List RoleEvent) → All Machine (granted_calls table (asked_of es))
          → role_event_panels table role out (taken w) es ≡ map some (fed_at_events table s h es)
      shows w h k [] m = λ j. tells w h k j ∷ []
      shows w h k (asked a ∷ es) m =
          let n = asks a (granted_calls table (asked_of es)) m w h k in
          λ j. tells w h k j ∷ shows (role_next table w a) (guarded_step (enter s) table h a) n.0 es n.1 j
      shows w h k (role_restarted p q ∷ es) m =
          λ j. tells w h k j ∷ (ap (λ (x : Read). role_event_panels table role out x es) (restarted_same w h k p q) ∙ shows w h k es m) j

    begun : Stands (fresh s) []
    unfolding entries
    begun = record { calls = []; machine = tt; is = refl; entered = refl }

    restarts : (es : List RoleEvent) → All Machine (granted_calls table (asked_of es)) → RoleRestarts table s es
    restarts es m = record {
      ends = ends (fresh s) [] begun es m;
      same_answers = says (fresh s) [] begun es m;
      ruled_answers =
          says (fresh s) [] begun es m
          ∙ role_answers_lem (fresh s) (asked_of es)
          ∙ ap (with_withheld withheld_answer table (asked_of es)) (answers_history s (k>0_of s ok) (granted_calls table (asked_of es)));
      text = ap render (role_run_lem (fresh s) (asked_of es)) ∙ text_history s ok (granted_calls table (asked_of es)) m;
      fed_panels = λ role g out room. shows role g out room (fresh s) [] begun es m;
    }

    -- the calls that lead to w, with restarts by the relation, are granted ones
    granted_reach : {l : List Asked} {w : State} → RoleReaches table s l w → Reaches s (granted_calls table l) w
    granted_reach role_built = built₀
    granted_reach (asking {l = l} {w = w} a m r) =
        subst (λ (cs : List Call). Reaches s cs (role_next table w a)) (sym (granted_append table l (a ∷ []))) (by (allowed table a) refl m (granted_reach r))
      where
        by : (b : Bool) → allowed table a ≡ b → All Machine (granted_calls table (a ∷ [])) → Reaches s (granted_calls table l) w
            → Reaches s (granted_calls table l ++ granted_calls table (a ∷ [])) (role_next table w a)
        by true e m r =
            let n : All Machine (a.call ∷ []) = subst (λ (x : Bool). All Machine (cond x (a.call ∷ []) [] ++ [])) e m in
            rw e (calling a.call n.0 r)
        by false e m r = rw e (subst (λ (cs : List Call). Reaches s cs w) (sym (append-nil (granted_calls table l))) r)
    granted_reach (role_restoring saver restorer p q u k r) = restoring₀ u k (granted_reach r)

    reached : {l : List Asked} {w : State} → RoleReaches table s l w → w ≡ role_run table (fresh s) l
    reached {l = l} r = demand_3.reached s ok (granted_reach r) ∙ sym (role_run_lem (fresh s) l)

-- ---- the statement

pub role_demand_3 : RoleDemand3
role_demand_3 = record {
  once = λ table s ok saver restorer p q before after m.
      restart table s before after saver restorer p q (demand_3.once s ok (granted_calls table before) (granted_calls table after) m);
  often = λ table s ok es m. restarts table s ok es m;
  reached = λ table s ok r. reached table s ok r;
}
