-- Demand 3: a preprocessor outlives any restart, at any place, any number of times.
use Prim.Native.Nat.{◌≤◌, ◌<◌}
use mathlib.Core.Path.{◌≡◌, refl, sym, ap, ◌∙◌, subst}
use mathlib.Core.List.{List, [], ◌∷◌, ◌++◌, map}
use mathlib.Core.Option.{some}
use lib.ListN.{length}
use lib.Ieee.{Float}
use Rattle.restart.specs.History.{Entry, entries, enter, history_state, history_text, history_panel}
use Rattle.restart.specs.Statement.{Restores, Outlives, Restart, Event, call_made, restarted, calls_of, run_events, answers_events, panel_told, panels, panels_events, history_panels_events, Restarts}
use Rattle.restart.specs.Statement.{Reaches, built, calling, restoring, Demand3}
use Rattle.trcf.specs.Fit.{All}
use Rattle.trcf.specs.Settings.{Settings, Valid, block}
use Rattle.trcf.specs.Calls.{Call, Machine, status}
use Rattle.trcf.specs.Preprocessor.{State, fresh, next, run, Answer, answer, answers}
use Rattle.snapshot.specs.Text.{render, TextOf}
use Rattle.snapshot.specs.Read.{Read, taken, read}
use Rattle.trcf.proofs.FitLaws.{all_append}
use Rattle.snapshot.proofs.ReadText.{read_complete, put_away_lem, text_injective}
use Rattle.restart.proofs.Step.{Inv, begins, step, fresh_history, runs, run_history, answers_from, answers_history}
use Rattle.restart.proofs.Panel.{panel_at, panels_from, panels_history}
use Rattle.restart.proofs.Reachable.{k>0_of, run_form}

pub run_append : (w : State) (a b : List Call) → run w (a ++ b) ≡ run (run w a) b
run_append w [] b = refl
run_append w (c ∷ a) b = run_append (next w c) a b

-- calls leave the settings as they are
pub settings_kept : (s : Settings) → Valid s → (cs : List Call) → (run (fresh s) cs).settings ≡ s
unfolding history_state
settings_kept s ok cs = ap (λ (w : State). w.settings) (run_history s (k>0_of s ok) cs)

-- ---- the text of a state that calls lead to

module _ (s : Settings) (ok : Valid s) (before : List Call) (m : All Machine before) where
  -- it is the history's
  pub text_history : render (run (fresh s) before) ≡ history_text s before
  unfolding history_text
  text_history = ap render (run_history s (k>0_of s ok) before)

  -- it is restored
  pub restorable : Restores s.codes (render (run (fresh s) before)) (run (fresh s) before)
  restorable = record { form = run_form s ok before m; text = put_away_lem (run (fresh s) before); agree = ap (λ (x : Settings). x.codes) (settings_kept s ok before) }

  pub restored : read (render (run (fresh s) before)) ≡ taken (run (fresh s) before)
  restored = read_complete (run (fresh s) before) (run_form s ok before m)

  -- as that state and as no other
  pub only : (w : State) → Restores s.codes (render (run (fresh s) before)) w → w ≡ run (fresh s) before
  only w u = text_injective (render (run (fresh s) before)) w (run (fresh s) before) u.form (run_form s ok before m) u.text (put_away_lem (run (fresh s) before))

-- ---- one restart

module _ (s : Settings) (ok : Valid s) (before after : List Call) where
  goes_on : Outlives s before after (run (fresh s) before)
  unfolding entries history_text
  goes_on = record {
    same_answers = refl;
    ruled_answers = ap (λ (w : State). answers w after) (run_history s k>0 before) ∙ answers_from s k>0 (entries s before) (runs s k>0 [] (begins s k>0) before).1 after;
    same_text = ap render (sym (run_append (fresh s) before after));
    history_ends = ap render (sym (run_append (fresh s) before after) ∙ run_history s k>0 (before ++ after));
    fed_panels =
        λ out room. ap (λ (w : State). panels out w after) (run_history s k>0 before)
        ∙ panels_from s k>0 out room (entries s before) (runs s k>0 [] (begins s k>0) before).1 after;
  }
    where
      k>0 : 0 < s.k
      k>0 = k>0_of s ok

  pub restart : All Machine before → Restart s before after
  restart m = record {
    text = text_history s ok before m;
    second = run (fresh s) before;
    taking = restored s ok before m;
    agree = ap (λ (x : Settings). x.codes) (settings_kept s ok before);
    outlives = goes_on;
    every = λ w u. rw (only s ok before m w u) goes_on;
    fed_panels = λ out room. panels_history s (k>0_of s ok) out room (before ++ after);
  }

-- ---- any number of restarts

module _ (s : Settings) (ok : Valid s) where
  -- w stands after the calls cs
  module _ (cs : List Call) (m : All Machine cs) (w : State) (e : w ≡ run (fresh s) cs) where
    taken_up_lem : read (render w) ≡ taken w
    taken_up_lem = read_complete w (rw e (run_form s ok cs m))

    one_more_lem : (c : Call) → next w c ≡ run (fresh s) (cs ++ (c ∷ []))
    one_more_lem c = ap (λ (v : State). next v c) e ∙ sym (run_append (fresh s) cs (c ∷ []))

    all_more : (c : Call) → Machine c → All Machine (cs ++ (c ∷ []))
    all_more c k = all_append _ cs (c ∷ []) m (k, tt)

  ends_from : (cs : List Call) → All Machine cs → (w : State) → w ≡ run (fresh s) cs → (es : List Event) → All Machine (calls_of es)
      → run_events (taken w) es ≡ taken (run w (calls_of es))
  ends_from cs m w e [] n = refl
  ends_from cs m w e (call_made c ∷ es) n = ends_from (cs ++ (c ∷ [])) (all_more cs m w e c n.0) (next w c) (one_more_lem cs m w e c) es n.1
  ends_from cs m w e (restarted ∷ es) n = ap (λ (r : Read). run_events r es) (taken_up_lem cs m w e) ∙ ends_from cs m w e es n

  answers_on : (cs : List Call) → All Machine cs → (w : State) → w ≡ run (fresh s) cs → (es : List Event) → All Machine (calls_of es)
      → answers_events (taken w) es ≡ answers w (calls_of es)
  answers_on cs m w e [] n = refl
  answers_on cs m w e (call_made c ∷ es) n =
      ap (λ (l : List Answer). answer w c ∷ l) (answers_on (cs ++ (c ∷ [])) (all_more cs m w e c n.0) (next w c) (one_more_lem cs m w e c) es n.1)
  answers_on cs m w e (restarted ∷ es) n = ap (λ (r : Read). answers_events r es) (taken_up_lem cs m w e) ∙ answers_on cs m w e es n

  -- the panel, where h are the entries of the calls cs
  module _ (out : List Float) (room : block s ≤ length out) where
    tells : (w : State) (h : List Entry) → w ≡ history_state s h → panel_told (answer w (status out)) ≡ some (history_panel s h)
    tells w h q = ap (λ (x : State). panel_told (answer x (status out))) q ∙ panel_at s h out room

    panels_on : (cs : List Call) → All Machine cs → (w : State) → w ≡ run (fresh s) cs → (h : List Entry) → w ≡ history_state s h → Inv s h
        → (es : List Event) → All Machine (calls_of es) → panels_events out (taken w) es ≡ map some (history_panels_events s h es)
    panels_on cs m w e h q v [] n = λ j. tells w h q j ∷ []
    panels_on cs m w e h q v (call_made c ∷ es) n =
        let k = step s (k>0_of s ok) h v c in
        let p : next w c ≡ history_state s (enter s h c) = ap (λ (x : State). next x c) q ∙ k.0 in
        λ j. tells w h q j ∷ panels_on (cs ++ (c ∷ [])) (all_more cs m w e c n.0) (next w c) (one_more_lem cs m w e c) (enter s h c) p k.1 es n.1 j
    panels_on cs m w e h q v (restarted ∷ es) n =
        λ j. tells w h q j ∷ (ap (λ (r : Read). panels_events out r es) (taken_up_lem cs m w e) ∙ panels_on cs m w e h q v es n) j

  pub restarts : (es : List Event) → All Machine (calls_of es) → Restarts s es
  restarts es m = record {
    ends = ends_from [] tt (fresh s) refl es m;
    same_answers = answers_on [] tt (fresh s) refl es m;
    ruled_answers = answers_on [] tt (fresh s) refl es m ∙ answers_history s (k>0_of s ok) (calls_of es);
    text = text_history s ok (calls_of es) m;
    fed_panels = λ out room. panels_on out room [] tt (fresh s) refl [] (fresh_history s (k>0_of s ok)) (begins s (k>0_of s ok)) es m;
  }

  reaches : {cs : List Call} {w : State} → Reaches s cs w → (w ≡ run (fresh s) cs) × All Machine cs
  reaches built = (refl, tt)
  reaches (calling {cs = cs} {w = w} c m t) =
      let h : (w ≡ run (fresh s) cs) × All Machine cs = reaches t in
      (ap (λ (v : State). next v c) h.0 ∙ sym (run_append (fresh s) cs (c ∷ [])), all_append _ cs (c ∷ []) h.1 (m, tt))
  reaches (restoring {cs = cs} {w = w} u k t) =
      let h : (w ≡ run (fresh s) cs) × All Machine cs = reaches t in
      (only s ok cs h.1 u (record { form = k.form; text = subst (TextOf u) (ap render h.0) k.text; agree = k.agree }), h.1)

-- ---- the statement

pub demand_3 : Demand3
demand_3 = record {
  once = λ s ok before after m. restart s ok before after m;
  often = λ s ok es m. restarts s ok es m;
  reached = λ s ok t. (reaches s ok t).0;
}
