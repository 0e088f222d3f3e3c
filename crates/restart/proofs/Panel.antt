-- The panel at every place of a list of calls is the history's number of readings fed, and what the getters answer there is the history's.
use Prim.Native.Nat.{◌≤◌, ◌<◌}
use mathlib.Core.Path.{◌≡◌, refl, ap, ◌∙◌}
use mathlib.Core.List.{List, [], ◌∷◌, map}
use mathlib.Core.Option.{some}
use lib.ListN.{length}
use lib.Ieee.{Float}
use borrow.Author.Tests.{le-ltb}
use Rattle.trcf.specs.Types.{method_number, mode_letter}
use Rattle.trcf.specs.Settings.{Settings, block, dimension}
use Rattle.trcf.specs.Calls.{Call, status, table, rows}
use Rattle.trcf.specs.Preprocessor.{State, fresh, facts, refusal, next, is_ready, panel_of, status_of, reply, answer}
use Rattle.trcf.specs.View.{Getters}
use Rattle.restart.specs.History.{Entry, enter, count_of, history_state, history_facts, history_refusal, history_answer, history_panel, history_panels, history_getters, history_shown}
use Rattle.restart.specs.Statement.{panel_told, panels}
use Rattle.restart.proofs.Step.{Inv, begins, step, fresh_history}

-- what the getters answer of a state, and at each place
abbrev pub getters_at : State → Getters
getters_at w =
    record {
      values_seen = w.values_seen;
      internal_timestamp = w.internal_timestamp;
      ready = is_ready w;
      input_dimensions = w.settings.d;
      shingle_size = w.settings.k;
      dimensions = dimension w.settings;
      method = method_number w.settings.method;
      mode = mode_letter w.settings.mode;
      start = w.settings.start;
      panel = panel_of w;
    }

abbrev pub shown : State → List Call → List Getters
shown w [] = getters_at w ∷ []
shown w (c ∷ cs) = getters_at w ∷ shown (next w c) cs

pub getters_told : (s : Settings) (es : List Entry) → getters_at (history_state s es) ≡ history_getters s es
unfolding history_state history_panel history_getters
getters_told s es = refl

-- the state that the history works out has the readings fed for its panel
pub panel_fed : (s : Settings) (es : List Entry) → panel_of (history_state s es) ≡ history_panel s es
unfolding history_state count_of history_panel
panel_fed s es = refl

-- where its output is long enough, status is not refused and tells what was fed
pub panel_ruled : (s : Settings) (es : List Entry) (out : List Float) → block s ≤ length out → panel_told (history_answer s es (status out)) ≡ some (history_panel s es)
unfolding history_answer history_refusal rows table reply status_of
panel_ruled s es out h = rw (le-ltb (length out) (block s) h) (ap some (panel_fed s es))

pub panel_at : (s : Settings) (es : List Entry) (out : List Float) → block s ≤ length out → panel_told (answer (history_state s es) (status out)) ≡ some (history_panel s es)
unfolding answer history_answer refusal history_refusal facts history_facts history_state
panel_at s es out h = panel_ruled s es out h

module _ (s : Settings) (k>0 : 0 < s.k) where
  pub shown_from : (es : List Entry) → Inv s es → (cs : List Call) → shown (history_state s es) cs ≡ history_shown s es cs
  shown_from es v [] = λ j. getters_told s es j ∷ []
  shown_from es v (c ∷ cs) =
      let k = step s k>0 es v c in
      λ j. getters_told s es j ∷ (ap (λ (w : State). shown w cs) k.0 ∙ shown_from (enter s es c) k.1 cs) j

  pub shown_history : (cs : List Call) → shown (fresh s) cs ≡ history_shown s [] cs
  shown_history cs = ap (λ (w : State). shown w cs) (fresh_history s k>0) ∙ shown_from [] (begins s k>0) cs

  module _ (out : List Float) (room : block s ≤ length out) where
    pub panels_from : (es : List Entry) → Inv s es → (cs : List Call) → panels out (history_state s es) cs ≡ map some (history_panels s es cs)
    panels_from es v [] = λ j. panel_at s es out room j ∷ []
    panels_from es v (c ∷ cs) =
        let k = step s k>0 es v c in
        λ j. panel_at s es out room j ∷ (ap (λ (w : State). panels out w cs) k.0 ∙ panels_from (enter s es c) k.1 cs) j

    pub panels_history : (cs : List Call) → panels out (fresh s) cs ≡ map some (history_panels s [] cs)
    panels_history cs = ap (λ (w : State). panels out w cs) (fresh_history s k>0) ∙ panels_from [] (begins s k>0) cs
