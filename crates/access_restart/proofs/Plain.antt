-- Request #105: "programs run as one with every right". Demand 3 without roles is demand 3 with them, at role 0 of sixteen 1s: over states, and of the program.
-- Assumes nothing.
use Prim.Native.Nat.{ℕ, ◌≤◌}
use mathlib.Core.Path.{◌≡◌, refl, sym, ap, ◌∙◌, subst}
use mathlib.Core.Bool.{true}
use mathlib.Core.List.{List, [], ◌∷◌, ◌++◌, map}
use mathlib.Core.Option.{Option, some}
use lib.ListN.{length}
use lib.Ieee.{Float}
use Rattle.trcf.specs.Fit.{All}
use Rattle.trcf.specs.Settings.{Settings, Valid}
use Rattle.trcf.specs.Calls.{Call, Machine, shingled_point, post_process, drain, transform, invert_extrapolation, scale, shift, status}
use Rattle.trcf.specs.Preprocessor.{State, fresh, next, run, Answer, answer, answers}
use Rattle.trcf.specs.View.{Getters, getters_of}
use Rattle.snapshot.specs.Text.{render, TextOf}
use Rattle.snapshot.specs.Read.{Read, taken, bad, read}
use Rattle.snapshot.specs.Restore as restore
use Rattle.restart.specs.History.{Entry, enter, entries, history_text, history_answer, history_answers, history_panel, history_panels, history_getters, history_shown}
use Rattle.restart.specs.Statement.{Outlives, Restart, panel_told, panels, panels_events, history_panels_events, Event, call_made, restarted as restarted₀, calls_of, run_events, answers_events}
use Rattle.restart.specs.Statement.{Restarts, Reaches, built as built₀, calling, restoring as restoring₀, Demand3}
use Rattle.restart.specs.Held.{Held, built_on, saved_to, text_in, restored_on}
use Rattle.restart_program.specs.Program.{answer_read, return_of, left_by, left_by_all, returns, returned_panels, shown_getters, ProgramDemand3}
use Rattle.access.specs.Access.{granted, every_right}
use Rattle.access_restart.specs.Asked.{Asked, ask, allowed, granted_calls, with_withheld, guarded_run, guarded_places, guarded_answers, as_role0}
use Rattle.access_restart.specs.RoleDemand.{withheld_answer, role_next, role_run, role_answers, role_panels, gave, role_history_panels, RoleOutlives, RoleEvent, asked, role_restarted, asked_of}
use Rattle.access_restart.specs.RoleDemand.{role_events}
use Rattle.access_restart.specs.RoleDemand.{role_event_answers, role_event_panels, fed_at_events, RoleReaches, role_built, asking, role_restoring, RoleDemand3}
use Rattle.access_restart.specs.RoleHeld.{GettersShown, getters_shown, shown_at}
use Rattle.access_restart.specs.RoleProgram.{role_return, role_left, role_ran, role_returns, role_panels_returned, role_getters_shown, RoleProgramDemand3}
use Rattle.access_restart.proofs.Granted.{run_granted, answers_granted}

pub every_call : (c : Call) → allowed every_right (ask 0 c) ≡ true
unfolding granted
every_call (shingled_point x t out) = refl
every_call (post_process l) = refl
every_call drain = refl
every_call (transform x t out) = refl
every_call (invert_extrapolation c) = refl
every_call (scale out) = refl
every_call (shift out) = refl
every_call (status out) = refl

pub all_granted : (cs : List Call) → granted_calls every_right (as_role0 cs) ≡ cs
all_granted [] = refl
all_granted (c ∷ cs) = rw (every_call c) (ap (λ (l : List Call). c ∷ l) (all_granted cs))

role0_append : (a b : List Call) → as_role0 (a ++ b) ≡ as_role0 a ++ as_role0 b
role0_append [] b = refl
role0_append (c ∷ a) b = rw (role0_append a b)

-- ---- a run, its answers and what is seen at its places, of whatever is stepped

module _ {M : Type 0} (step : M → Call → M) where
  module _ (runs : M → List Call → M) (none : (m : M) → runs m [] ≡ m) (more : (m : M) (c : Call) (cs : List Call) → runs m (c ∷ cs) ≡ runs (step m c) cs) where
    all_run : (m : M) (cs : List Call) → guarded_run step every_right m (as_role0 cs) ≡ runs m cs
    all_run m cs = run_granted step every_right runs none more m (as_role0 cs) ∙ ap (runs m) (all_granted cs)

  module _ {B : Type 0} (say : M → Call → B) (withheld : Call → B) (says : M → List Call → List B) (none : (m : M) → says m [] ≡ [])
      (more : (m : M) (c : Call) (cs : List Call) → says m (c ∷ cs) ≡ say m c ∷ says (step m c) cs) where
    all_answers : (m : M) (cs : List Call) → guarded_answers step say withheld every_right m (as_role0 cs) ≡ says m cs
    all_answers m [] = sym (none m)
    all_answers m (c ∷ cs) = rw (every_call c) (ap (λ (l : List B). say m c ∷ l) (all_answers (step m c) cs) ∙ sym (more m c cs))

    -- and so the granted ones, each in its place
    all_placed : (m : M) (cs : List Call) → with_withheld withheld every_right (as_role0 cs) (says m cs) ≡ says m cs
    all_placed m cs =
        ap (λ (l : List Call). with_withheld withheld every_right (as_role0 cs) (says m l)) (sym (all_granted cs))
        ∙ sym (answers_granted step every_right say withheld says more m (as_role0 cs))
        ∙ all_answers m cs

  module _ {P : Type 0} (look : M → P) (sees : M → List Call → List P) (none : (m : M) → sees m [] ≡ look m ∷ [])
      (more : (m : M) (c : Call) (cs : List Call) → sees m (c ∷ cs) ≡ look m ∷ sees (step m c) cs) where
    all_places : (m : M) (cs : List Call) → guarded_places step look every_right m (as_role0 cs) ≡ sees m cs
    all_places m [] = sym (none m)
    all_places m (c ∷ cs) = rw (every_call c) (ap (λ (l : List P). look m ∷ l) (all_places (step m c) cs) ∙ sym (more m c cs))

pub state_run : (w : State) (cs : List Call) → role_run every_right w (as_role0 cs) ≡ run w cs
state_run = all_run next run (λ w. refl) (λ w c cs. refl)

state_answers : (w : State) (cs : List Call) → role_answers every_right w (as_role0 cs) ≡ answers w cs
state_answers = all_answers next answer withheld_answer answers (λ w. refl) (λ w c cs. refl)

state_panels : (out : List Float) (w : State) (cs : List Call) → role_panels every_right 0 out w (as_role0 cs) ≡ panels out w cs
unfolding granted
state_panels out = all_places next (λ (w : State). panel_told (answer w (status out))) (panels out) (λ w. refl) (λ w c cs. refl)

ruled_placed : (s : Settings) (es : List Entry) (cs : List Call) → with_withheld withheld_answer every_right (as_role0 cs) (history_answers s es cs) ≡ history_answers s es cs
ruled_placed s = all_placed (enter s) (history_answer s) withheld_answer (history_answers s) (λ es. refl) (λ es c cs. refl)

fed_all_lem : (s : Settings) (es : List Entry) (cs : List Call) → role_history_panels every_right s es (as_role0 cs) ≡ history_panels s es cs
fed_all_lem s = all_places (enter s) (history_panel s) (history_panels s) (λ es. refl) (λ es c cs. refl)

shown_all : (s : Settings) (es : List Entry) (cs : List Call) → shown_at every_right s es (as_role0 cs) ≡ history_shown s es cs
shown_all s = all_places (enter s) (history_getters s) (history_shown s) (λ es. refl) (λ es c cs. refl)

same_gave : {A : Type 0} {x y : A} → gave x ≡ gave y → x ≡ y
same_gave e = cc

-- ---- one restart, over states

module _ (s : Settings) (before after : List Call) where
  both : as_role0 before ++ as_role0 after ≡ as_role0 (before ++ after)
  both = sym (role0_append before after)

  outlives : (w : State) → RoleOutlives every_right s (as_role0 before) (as_role0 after) w → Outlives s before after w
  unfolding granted
  outlives w o = record {
    same_answers =
        sym (state_answers w after)
        ∙ o.same_answers
        ∙ state_answers (role_run every_right (fresh s) (as_role0 before)) after
        ∙ ap (λ (v : State). answers v after) (state_run (fresh s) before);
    ruled_answers =
        sym (state_answers w after)
        ∙ o.ruled_answers
        ∙ (λ j. with_withheld withheld_answer every_right (as_role0 after) (history_answers s (entries s (all_granted before j)) (all_granted after j)))
        ∙ ruled_placed s (entries s before) after;
    same_text =
        ap render (sym (state_run w after))
        ∙ same_gave (o.same_text 0)
        ∙ ap (λ (l : List Asked). render (role_run every_right (fresh s) l)) both
        ∙ ap render (state_run (fresh s) (before ++ after));
    history_ends =
        ap render (sym (state_run w after))
        ∙ same_gave (o.history_ends 0 refl)
        ∙ ap (λ (l : List Asked). history_text s (granted_calls every_right l)) both
        ∙ ap (history_text s) (all_granted (before ++ after));
    fed_panels = λ out room.
        sym (state_panels out w after)
        ∙ o.fed_panels 0 refl out room
        ∙ ap (λ (cs : List Call). map some (role_history_panels every_right s (entries s cs) (as_role0 after))) (all_granted before)
        ∙ ap (map some) (fed_all_lem s (entries s before) after);
  }

  once : RoleDemand3 → Valid s → All Machine before → Restart s before after
  unfolding granted
  once demand ok m =
      let r = demand.once every_right s ok 0 0 refl refl (as_role0 before) (as_role0 after) (subst (All Machine) (sym (all_granted before)) m) in
      let t : render (run (fresh s) before) ≡ history_text s before =
      ap render (sym (state_run (fresh s) before)) ∙ same_gave r.text ∙ ap (history_text s) (all_granted before) in
      let h : history_text s (granted_calls every_right (as_role0 before)) ≡ render (run (fresh s) before) = ap (history_text s) (all_granted before) ∙ sym t in
      record {
        text = t;
        second = r.second;
        taking = ap read (sym h) ∙ same_gave r.taking;
        agree = r.agree;
        outlives = outlives r.second r.outlives;
        every = λ w u. outlives w (r.every w (record { form = u.form; text = subst (TextOf w) (sym h) u.text; agree = u.agree }));
        fed_panels = λ out room.
            sym (state_panels out (fresh s) (before ++ after))
            ∙ ap (role_panels every_right 0 out (fresh s)) (sym both)
            ∙ r.fed_panels 0 refl out room
            ∙ ap (λ (l : List Asked). map some (role_history_panels every_right s [] l)) both
            ∙ ap (map some) (fed_all_lem s [] (before ++ after));
      }

-- ---- any number of restarts

abbrev as_events : List Event → List RoleEvent
as_events [] = []
as_events (call_made c ∷ es) = asked (ask 0 c) ∷ as_events es
as_events (restarted₀ ∷ es) = role_restarted 0 0 ∷ as_events es

same_calls : (es : List Event) → asked_of (as_events es) ≡ as_role0 (calls_of es)
same_calls [] = refl
same_calls (call_made c ∷ es) = rw (same_calls es)
same_calls (restarted₀ ∷ es) = same_calls es

role0_next : (w : State) (c : Call) → role_next every_right w (ask 0 c) ≡ next w c
role0_next w c = rw (every_call c)

same_events : (r : Read) (es : List Event) → role_events every_right r (as_events es) ≡ run_events r es
unfolding granted
same_events r [] = refl
same_events (taken w) (call_made c ∷ es) =
    ap (λ (v : State). role_events every_right (taken v) (as_events es)) (role0_next w c) ∙ same_events (taken (next w c)) es
same_events (bad n) (call_made c ∷ es) = refl
same_events (taken w) (restarted₀ ∷ es) = same_events (read (render w)) es
same_events (bad n) (restarted₀ ∷ es) = refl

same_answers_lem : (r : Read) (es : List Event) → role_event_answers every_right r (as_events es) ≡ answers_events r es
unfolding granted
same_answers_lem r [] = refl
same_answers_lem (taken w) (call_made c ∷ es) = rw (every_call c) (ap (λ (l : List Answer). answer w c ∷ l) (same_answers_lem (taken (next w c)) es))
same_answers_lem (bad n) (call_made c ∷ es) = refl
same_answers_lem (taken w) (restarted₀ ∷ es) = same_answers_lem (read (render w)) es
same_answers_lem (bad n) (restarted₀ ∷ es) = refl

same_panels : (out : List Float) (r : Read) (es : List Event) → role_event_panels every_right 0 out r (as_events es) ≡ panels_events out r es
unfolding granted
same_panels out (taken w) [] = refl
same_panels out (bad n) [] = refl
same_panels out (taken w) (call_made c ∷ es) =
    rw (every_call c) (ap (λ (l : List (Option ℕ)). panel_told (answer w (status out)) ∷ l) (same_panels out (taken (next w c)) es))
same_panels out (bad n) (call_made c ∷ es) = refl
same_panels out (taken w) (restarted₀ ∷ es) = ap (λ (l : List (Option ℕ)). panel_told (answer w (status out)) ∷ l) (same_panels out (read (render w)) es)
same_panels out (bad n) (restarted₀ ∷ es) = refl

same_fed : (s : Settings) (h : List Entry) (es : List Event) → fed_at_events every_right s h (as_events es) ≡ history_panels_events s h es
same_fed s h [] = refl
same_fed s h (call_made c ∷ es) = rw (every_call c) (ap (λ (l : List ℕ). history_panel s h ∷ l) (same_fed s (enter s h c) es))
same_fed s h (restarted₀ ∷ es) = ap (λ (l : List ℕ). history_panel s h ∷ l) (same_fed s h es)

module _ (demand : RoleDemand3) (s : Settings) (ok : Valid s) where
  often : (es : List Event) → All Machine (calls_of es) → Restarts s es
  unfolding granted
  often es m =
      let calls : granted_calls every_right (asked_of (as_events es)) ≡ calls_of es = ap (granted_calls every_right) (same_calls es) ∙ all_granted (calls_of es) in
      let r = demand.often every_right s ok (as_events es) (subst (All Machine) (sym calls) m) in
      let ran : role_run every_right (fresh s) (asked_of (as_events es)) ≡ run (fresh s) (calls_of es) =
      ap (role_run every_right (fresh s)) (same_calls es) ∙ state_run (fresh s) (calls_of es) in
      record {
        ends = sym (same_events (taken (fresh s)) es) ∙ r.ends ∙ ap taken ran;
        same_answers =
            sym (same_answers_lem (taken (fresh s)) es)
            ∙ r.same_answers
            ∙ ap (role_answers every_right (fresh s)) (same_calls es)
            ∙ state_answers (fresh s) (calls_of es);
        ruled_answers =
            sym (same_answers_lem (taken (fresh s)) es)
            ∙ r.ruled_answers
            ∙ (λ j. with_withheld withheld_answer every_right (same_calls es j) (history_answers s [] (calls j)))
            ∙ ruled_placed s [] (calls_of es);
        text = ap render (sym ran) ∙ r.text ∙ ap (history_text s) calls;
        fed_panels = λ out room. sym (same_panels out (taken (fresh s)) es) ∙ r.fed_panels 0 refl out room ∙ ap (map some) (same_fed s [] es);
      }

  role0_reaches : {cs : List Call} {w : State} → Reaches s cs w → RoleReaches every_right s (as_role0 cs) w
  unfolding granted
  role0_reaches built₀ = role_built
  role0_reaches (calling {cs = cs} {w = w} c m r) =
      let machine : All Machine (granted_calls every_right (as_role0 (c ∷ []))) = subst (All Machine) (sym (all_granted (c ∷ []))) (m, tt) in
      subst (RoleReaches every_right s (as_role0 (cs ++ (c ∷ [])))) (role0_next w c)
      (subst (λ (l : List Asked). RoleReaches every_right s l (role_next every_right w (ask 0 c))) (sym (role0_append cs (c ∷ []))) (asking (ask 0 c) machine (role0_reaches r)))
  role0_reaches (restoring₀ u k r) = role_restoring 0 0 refl refl u k (role0_reaches r)

  reached : {cs : List Call} {w : State} → Reaches s cs w → w ≡ run (fresh s) cs
  reached {cs = cs} r = demand.reached every_right s ok (role0_reaches r) ∙ state_run (fresh s) cs

-- ---- demand 3 as it stood, from demand 3 with roles

pub plain : RoleDemand3 → Demand3
plain demand = record {
  once = λ s ok before after m. once s before after demand ok m;
  often = λ s ok es m. often demand s ok es m;
  reached = λ s ok r. reached demand s ok r;
}

-- ---- the same of the program

entry_returns : (m : Held) (c : Call) → role_return every_right m 0 c ≡ return_of m c
unfolding granted
entry_returns m (shingled_point x t out) = refl
entry_returns m (post_process q) = refl
entry_returns m drain = refl
entry_returns m (transform x t out) = refl
entry_returns m (invert_extrapolation c) = refl
entry_returns m (scale out) = refl
entry_returns m (shift out) = refl
entry_returns m (status out) = refl

entry_leaves : (m : Held) (c : Call) → role_left every_right m 0 c ≡ left_by m c
unfolding granted
entry_leaves m (shingled_point x t out) = refl
entry_leaves m (post_process q) = refl
entry_leaves m drain = refl
entry_leaves m (transform x t out) = refl
entry_leaves m (invert_extrapolation c) = refl
entry_leaves m (scale out) = refl
entry_leaves m (shift out) = refl
entry_leaves m (status out) = refl

program_run : (m : Held) (cs : List Call) → role_ran every_right m (as_role0 cs) ≡ left_by_all m cs
program_run m [] = refl
program_run m (c ∷ cs) = ap (λ (n : Held). role_ran every_right n (as_role0 cs)) (entry_leaves m c) ∙ program_run (left_by m c) cs

program_returns : (m : Held) (cs : List Call) → role_returns every_right m (as_role0 cs) ≡ returns m cs
program_returns m [] = refl
program_returns m (c ∷ cs) =
    λ j. entry_returns m c j ∷ (ap (λ (n : Held). role_returns every_right n (as_role0 cs)) (entry_leaves m c) ∙ program_returns (left_by m c) cs) j

program_panels : (room : List Float) (m : Held) (cs : List Call) → role_panels_returned every_right 0 room m (as_role0 cs) ≡ returned_panels room m cs
program_panels room m [] = λ j. panel_told (answer_read (entry_returns m (status room) j)) ∷ []
program_panels room m (c ∷ cs) =
    λ j. panel_told (answer_read (entry_returns m (status room) j))
    ∷ (ap (λ (n : Held). role_panels_returned every_right 0 room n (as_role0 cs)) (entry_leaves m c) ∙ program_panels room (left_by m c) cs) j

shown_rows : (m : Held) (cs : List Call) → role_getters_shown every_right 0 m (as_role0 cs) ≡ map (getters_shown 0) (shown_getters m cs)
unfolding granted
shown_rows m [] = refl
shown_rows m (c ∷ cs) =
    ap (λ (l : List GettersShown). getters_shown 0 (getters_of m.head) ∷ l)
    (ap (λ (n : Held). role_getters_shown every_right 0 n (as_role0 cs)) (entry_leaves m c) ∙ shown_rows (left_by m c) cs)

abbrev getters_in : List GettersShown → List Getters
getters_in l = map (λ (n : GettersShown). n.getters) l

getters_back : (l : List Getters) → getters_in (map (getters_shown 0) l) ≡ l
getters_back [] = refl
getters_back (x ∷ l) = ap (λ (q : List Getters). x ∷ q) (getters_back l)

program_shown : (m : Held) (cs : List Call) → getters_in (role_getters_shown every_right 0 m (as_role0 cs)) ≡ shown_getters m cs
program_shown m cs = ap getters_in (shown_rows m cs) ∙ getters_back (shown_getters m cs)

pub plain_program : RoleProgramDemand3 → ProgramDemand3
unfolding granted
plain_program demand s ok before after mb ma first second rf rs out last long =
    let machine : (cs : List Call) → All Machine cs → All Machine (granted_calls every_right (as_role0 cs)) = λ cs a. subst (All Machine) (sym (all_granted cs)) a in
    let r = demand every_right 0 0 refl refl s ok (as_role0 before) (as_role0 after) (machine before mb) (machine after ma) first second rf rs out last
    (subst (λ (cs : List Call). length (history_text s cs) ≤ length out) (sym (all_granted before)) long) in
    let M : Held = role_ran every_right (built_on s first) (as_role0 before) in
    let N : Held = restored_on (text_in M out) s.codes second in
    let M₀ : Held = left_by_all (built_on s first) before in
    let m_is : M ≡ M₀ = program_run (built_on s first) before in
    let n_is : N ≡ restored_on (text_in M₀ out) s.codes second = ap (λ (m : Held). restored_on (text_in m out) s.codes second) m_is in
    let both : as_role0 before ++ as_role0 after ≡ as_role0 (before ++ after) = sym (role0_append before after) in
    let fed : role_history_panels every_right s (entries s (granted_calls every_right (as_role0 before))) (as_role0 after) ≡ history_panels s (entries s before) after =
    ap (λ (cs : List Call). role_history_panels every_right s (entries s cs) (as_role0 after)) (all_granted before) ∙ fed_all_lem s (entries s before) after in
    let shown_fed : shown_at every_right s (entries s (granted_calls every_right (as_role0 before))) (as_role0 after) ≡ history_shown s (entries s before) after =
    ap (λ (cs : List Call). shown_at every_right s (entries s cs) (as_role0 after)) (all_granted before) ∙ shown_all s (entries s before) after in
    let shown_whole : shown_at every_right s [] (as_role0 before ++ as_role0 after) ≡ history_shown s [] (before ++ after) =
    ap (shown_at every_right s []) both ∙ shown_all s [] (before ++ after) in
    let whole : role_history_panels every_right s [] (as_role0 before ++ as_role0 after) ≡ history_panels s [] (before ++ after) =
    ap (role_history_panels every_right s []) both ∙ fed_all_lem s [] (before ++ after) in
    record {
      builds = r.builds;
      saves = ap (λ (m : Held). (saved_to m out).row) (sym m_is) ∙ r.saves;
      text = ap (λ (m : Held). text_in m out) (sym m_is) ∙ r.text ∙ ap (history_text s) (all_granted before);
      restores = ap (λ (m : Held). (restore.restore_of (text_in m out) s.codes second).row) (sym m_is) ∙ r.restores;
      same_returns =
          ap (λ (n : Held). returns n after) (sym n_is)
          ∙ sym (program_returns N after)
          ∙ r.same_returns
          ∙ program_returns M after
          ∙ ap (λ (m : Held). returns m after) m_is;
      ruled_answers =
          ap (λ (n : Held). map answer_read (returns n after)) (sym n_is)
          ∙ ap (map answer_read) (sym (program_returns N after))
          ∙ r.ruled_answers
          ∙ (λ j. with_withheld withheld_answer every_right (as_role0 after) (history_answers s (entries s (all_granted before j)) (all_granted after j)))
          ∙ ruled_placed s (entries s before) after;
      same_text =
          ap (λ (n : Held). saved_to (left_by_all n after) last) (sym n_is)
          ∙ ap (λ (m : Held). saved_to m last) (sym (program_run N after))
          ∙ r.same_text 0
          ∙ ap (λ (l : List Asked). saved_to (role_ran every_right (built_on s first) l) last) both
          ∙ ap (λ (m : Held). saved_to m last) (program_run (built_on s first) (before ++ after));
      fed_panels = λ room h.
          ap (λ (n : Held). returned_panels room n after) (sym n_is) ∙ sym (program_panels room N after) ∙ r.fed_panels 0 refl room h ∙ ap (map some) fed;
      first_panels = λ room h.
          sym (program_panels room (built_on s first) (before ++ after))
          ∙ ap (role_panels_returned every_right 0 room (built_on s first)) (sym both)
          ∙ r.first_panels 0 refl room h
          ∙ ap (map some) whole;
      fed_shown =
          ap (λ (n : Held). shown_getters n after) (sym n_is)
          ∙ sym (program_shown N after)
          ∙ ap getters_in (r.fed_shown 0 refl)
          ∙ getters_back _
          ∙ shown_fed;
      first_shown =
          sym (program_shown (built_on s first) (before ++ after))
          ∙ ap (λ (l : List Asked). getters_in (role_getters_shown every_right 0 (built_on s first) l)) (sym both)
          ∙ ap getters_in (r.first_shown 0 refl)
          ∙ getters_back _
          ∙ shown_whole;
    }
