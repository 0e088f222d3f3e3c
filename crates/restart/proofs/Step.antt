-- The state after any list of calls is the one that the history works out, and refuses what the history refuses.
use Prim.Native.Nat.{ℕ, zero, suc, ◌+◌, ◌*◌, ◌≤◌, ◌<◌}
use native.Mathlib.Nat.{add-zero}
use native.Mathlib.Omega.{arith}
use mathlib.Core.Path.{◌≡◌, refl, sym, ap, ◌∙◌}
use mathlib.Core.Bool.{Bool, true, false, not, ◌&&◌, cond, true≢false, false≢true, and-false}
use mathlib.Core.List.{List, [], ◌∷◌, ◌++◌, append-nil}
use mathlib.Core.Option.{Option, none, some}
use lib.Dec.{ltb, eqb, eqb-zero-suc, eqb-suc-zero, leb-suc-suc, leb-zero}
use lib.ListN.{length, replicate, length-append, length-replicate}
use lib.Ieee.{Float}
use borrow.Author.Tests.{ltb-true, ltb-false, eqb-true, ne_eqb, not-false}
use Rattle.restart.specs.History.{Entry, initial_entry, learned_entry, drained_entry, initials, learns, is_drained, only_initials, values, timestamps, seen_of, internal_of, buffer_of, shingled}
use Rattle.restart.specs.History.{inputs_of, timestamps_of, count_of, statistics_of, history_state, history_facts, history_refusal, complete, adds, enter, entries_from, entries, history_answer}
use Rattle.restart.specs.History.{history_answers}
use Rattle.trcf.specs.Lists.{last_n, null}
use Rattle.trcf.specs.Types.{normalizes}
use Rattle.trcf.specs.Transformer.{zero32}
use Rattle.trcf.specs.Settings.{Settings, dimension, waiting}
use Rattle.trcf.specs.Calls.{Learn, Call, shingled_point, post_process, drain, transform, invert_extrapolation, scale, shift, status, due, table, rows}
use Rattle.trcf.specs.Preprocessor.{State, fresh, facts, refusal, Reading, reading, blocks, drain_all, drained as drainedState, buffered, learned_with, change, accepted, next, run, answer, answers}
use Rattle.trcf.proofs.FitLaws.{all_append}
use Rattle.snapshot.proofs.Accepted.{clear}
use Rattle.snapshot.proofs.Lists.{and_left, and_right, nil}
use Rattle.restart.proofs.Scores.{statistics_fed}
use Rattle.restart.proofs.Lists.{last_n_all, Each, null_timestamps, blocks_values}
use Rattle.restart.proofs.Entries.{Unmixed, unmixed, drained_state, initial_state, learned_state}

-- ---- the shape of the entries

pub data Phase (s : Settings) (es : List Entry) : Type 0 where
  filling : only_initials es ≡ true → length (initials es) ≤ s.start → (normalizes s.method ≡ false → length (initials es) ≡ 0) → Phase s es
  drained_by : is_drained es ≡ true → normalizes s.method ≡ true → length (initials es) ≡ s.start → 0 < s.start → Phase s es
  plainly : is_drained es ≡ false → normalizes s.method ≡ false → length (initials es) ≡ 0 → 0 < length (learns es) → Phase s es
  stranded : is_drained es ≡ false → normalizes s.method ≡ true → length (initials es) ≡ s.start → 0 < length (learns es) → Phase s es

pub record Inv (s : Settings) (es : List Entry) : Type 0 where
  pub phase : Phase s es
  pub wide : Each s.d (initials es)

-- still waiting: filling
pub still : (s : Settings) (es : List Entry) → Phase s es → waiting s (seen_of es) ≡ true → (only_initials es ≡ true) × (length (initials es) < s.start) × (normalizes s.method ≡ true)
unfolding waiting seen_of
still s es (filling o u z) h =
    let g : ltb (length (initials es) + length (learns es)) s.start ≡ true = and_right (normalizes s.method) _ h in
    (o, omega (arith, ltb-true), and_left (normalizes s.method) _ h)
still s es (drained_by f m n p) h =
    let g : ltb (length (initials es) + length (learns es)) s.start ≡ true = and_right (normalizes s.method) _ h in
    absurd (omega (arith, ltb-true))
still s es (plainly f m n p) h = absurd (false≢true (sym m ∙ and_left (normalizes s.method) _ h))
still s es (stranded f m n p) h =
    let g : ltb (length (initials es) + length (learns es)) s.start ≡ true = and_right (normalizes s.method) _ h in
    absurd (omega (arith, ltb-true))

-- ---- drain is due exactly when the entries are start W's

pub is_false : (b : Bool) → (b ≡ true → ⊥) → b ≡ false
is_false true h = absurd (h refl)
is_false false h = refl

count_test : (ws : List Reading) (n : ℕ) → eqb (length ws) n && not (null ws) ≡ eqb (length ws) n && ltb 0 n
count_test [] zero = refl
count_test [] (suc n) = rw (eqb-zero-suc n)
count_test (r ∷ rs) zero = rw (eqb-suc-zero (length rs))
count_test (r ∷ rs) (suc n) = rw (leb-suc-suc 0 n, leb-zero n)

mixed : (s : Settings) (es : List Entry) → (Unmixed s es → ⊥) → complete s es ≡ false
unfolding complete
mixed s es h = rw (is_false (only_initials es) (λ o. h (unmixed s es o)))

no_learns : (s : Settings) (es : List Entry) → Unmixed s es → 0 < length (learns es) → ⊥
no_learns s es q p = omega (arith, ap length q.no_l)

pub due_full : (s : Settings) (es : List Entry) → Phase s es → due s (history_facts s es) ≡ complete s es
unfolding due complete history_facts seen_of buffer_of
due_full s es (filling o u z) =
    let q : Unmixed s es = unmixed s es o in
    rw (q.no_f, q.no_l, o, q.long, null_timestamps (initials es), add-zero (length (initials es))) (count_test (initials es) s.start)
due_full s es (drained_by f m n p) = rw (f, and-false) (sym (mixed s es (λ q. true≢false (sym f ∙ q.no_f))))
due_full s es (plainly f m n p) =
    rw (f, nil (initials es) n, and-false) (sym (mixed s es (λ q. no_learns s es q p)))
due_full s es (stranded f m n p) =
    rw (ne_eqb (length (initials es) + length (learns es)) s.start (λ h. omega arith)) (sym (mixed s es (λ q. no_learns s es q p)))

-- ---- the invariant is kept

module _ (s : Settings) (es : List Entry) where
  keep_w : Inv s es → waiting s (seen_of es) ≡ true → (x : List Float) (t : ℕ) → length x ≡ s.d → Inv s (initial_entry x t ∷ es)
  keep_w v h x t e =
      let q : (only_initials es ≡ true) × (length (initials es) < s.start) × (normalizes s.method ≡ true) = still s es v.phase h in
      record {
        phase = filling q.0 (simp length-append (omega arith)) (λ z. absurd (false≢true (sym z ∙ q.2)));
        wide = all_append _ (initials es) _ v.wide (e, tt);
      }

  -- complete: only W's, as many as start
  pub is_full : complete s es ≡ true → (only_initials es ≡ true) × (length (initials es) ≡ s.start) × (0 < s.start)
  unfolding complete
  is_full h =
      let o : only_initials es ≡ true = and_left (only_initials es) _ h in
      let q : Unmixed s es = unmixed s es o in
      let a : eqb (length es) s.start && ltb 0 s.start ≡ true = and_right (only_initials es) _ h in
      let n : length es ≡ s.start = eqb-true _ _ (and_left (eqb (length es) s.start) _ a) in
      (o, sym q.long ∙ n, ltb-true _ _ (and_right (eqb (length es) s.start) _ a))

  waits_w : (b : Bool) → normalizes s.method ≡ b → Phase s es → 0 < length (initials es) → normalizes s.method ≡ true
  waits_w true e v h = e
  waits_w false e (filling o u z) h = absurd (omega (arith, z e))
  waits_w false e (drained_by f m n p) h = m
  waits_w false e (plainly f m n p) h = absurd (omega arith)
  waits_w false e (stranded f m n p) h = m

  keep_f : Inv s es → complete s es ≡ true → Inv s (drained_entry ∷ es)
  keep_f v h =
      let q : (only_initials es ≡ true) × (length (initials es) ≡ s.start) × (0 < s.start) = is_full h in
      record { phase = drained_by refl (waits_w (normalizes s.method) refl v.phase (omega arith)) q.1 q.2; wide = v.wide }

  more : (x : List Float) (t : ℕ) (y : List Float) → 0 < length (learns (learned_entry x t y ∷ es))
  more x t y = simp length-append (omega arith)

  past_l : (b : Bool) → normalizes s.method ≡ b → waiting s (seen_of es) ≡ false → only_initials es ≡ true → length (initials es) ≤ s.start →
      (normalizes s.method ≡ false → length (initials es) ≡ 0)
      → (x : List Float) (t : ℕ) (y : List Float) → Phase s (learned_entry x t y ∷ es)
  unfolding waiting seen_of
  past_l false e h o u z x t y = plainly (unmixed s es o).no_f e (z e) (more x t y)
  past_l true e h o u z x t y =
      let g : ltb (length (initials es) + length (learns es)) s.start ≡ false = rw e at h in
      let l : length (learns es) ≡ 0 = ap length (unmixed s es o).no_l in
      stranded (unmixed s es o).no_f e (omega (arith, ltb-false)) (more x t y)

  keep_l : Inv s es → waiting s (seen_of es) ≡ false → (x : List Float) (t : ℕ) (y : List Float) → Inv s (learned_entry x t y ∷ es)
  keep_l v h x t y = record { phase = go v.phase; wide = v.wide }
    where
      go : Phase s es → Phase s (learned_entry x t y ∷ es)
      go (filling o u z) = past_l (normalizes s.method) refl h o u z x t y
      go (drained_by f m n p) = drained_by f m n p
      go (plainly f m n p) = plainly f m n (more x t y)
      go (stranded f m n p) = stranded f m n (more x t y)

-- ---- one call

module _ (s : Settings) (k>0 : 0 < s.k) where
  -- the state that a call leaves, and the entries
  abbrev Kept : State → List Entry → Type 0
  Kept w es = (w ≡ history_state s es) × Inv s es

  drain_all_lem : (es : List Entry) (ws : List Reading) → initials es ≡ ws → Unmixed s es → 0 < length ws → Each s.d ws → drain_all (history_state s es) ws ≡ history_state s (drained_entry ∷ es)
  drain_all_lem es [] e q h v = absurd (omega arith)
  drain_all_lem es (r ∷ rs) e q h v = drained_state s k>0 es r rs e q v

  drain_at_lem : (es : List Entry) → Inv s es → (b : Bool) → complete s es ≡ b
      → Kept (cond b (drain_all (history_state s es) (blocks s.d (values (buffer_of es)) (timestamps (buffer_of es)))) (history_state s es)) (cond b (drained_entry ∷ es) es)
  unfolding buffer_of
  drain_at_lem es v true e =
      let f : (only_initials es ≡ true) × (length (initials es) ≡ s.start) × (0 < s.start) = is_full s es e in
      let q : Unmixed s es = unmixed s es f.0 in
      (rw (q.no_f, blocks_values s.d (initials es) v.wide) (drain_all_lem es (initials es) refl q (omega arith) v.wide), keep_f s es v e)
  drain_at_lem es v false e = (refl, v)

  drain_step : (es : List Entry) → Inv s es → Kept (drainedState (history_state s es)) (cond (complete s es) (drained_entry ∷ es) es)
  unfolding drainedState history_state facts history_facts
  drain_step es v = rw (due_full s es v.phase) (drain_at_lem es v (complete s es) refl)

  -- waiting: a point does nothing
  point_at_lem : (es : List Entry) → Inv s es → (b : Bool) → waiting s (seen_of es) ≡ b
      → Kept (cond b (history_state s es) (drainedState (history_state s es))) (cond (complete s es) (drained_entry ∷ es) es)
  point_at_lem es v true e =
      let h : (only_initials es ≡ true) × (length (initials es) < s.start) × (normalizes s.method ≡ true) = still s es v.phase e in
      rw (is_false (complete s es) (λ f. omega (arith, (is_full s es f).1))) (refl, v)
  point_at_lem es v false e = drain_step es v

  learn_at_lem : (es : List Entry) → Inv s es → (l : Learn) → length l.input ≡ s.d → (b : Bool) → waiting s (seen_of es) ≡ b → (y : Option (List Float)) → l.rcf_point ≡ y
      → Kept (cond (waiting s (seen_of es)) (buffered (history_state s es) l) (learned_with (history_state s es) (reading l.input l.timestamp) l.rcf_point)) (adds s es (post_process l))
  unfolding adds learned_with
  learn_at_lem es v l h true e y g = rw e (initial_state s es (unmixed s es (still s es v.phase e).0).no_f l, keep_w s es v e l.input l.timestamp h)
  learn_at_lem es v l h false e none g = rw (e, g) (refl, v)
  learn_at_lem es v l h false e (some y) g = rw (e, g) (learned_state s k>0 es l.input l.timestamp y h, keep_l s es v e l.input l.timestamp y)

  change_at : (es : List Entry) → Inv s es → (c : Call) → history_refusal s es c ≡ 0 → Kept (change (history_state s es) c) (adds s es c)
  unfolding change adds history_refusal rows table history_state
  change_at es v (shingled_point x t out) e = point_at_lem es v (waiting s (seen_of es)) refl
  change_at es v (post_process l) e = learn_at_lem es v l (eqb-true _ _ (not-false _ (clear (table s (history_facts s es) (post_process l)) refl e).0)) (waiting s (seen_of es)) refl l.rcf_point refl
  change_at es v drain e = drain_step es v
  change_at es v (transform x t out) e = (refl, v)
  change_at es v (invert_extrapolation f) e = (refl, v)
  change_at es v (scale out) e = (refl, v)
  change_at es v (shift out) e = (refl, v)
  change_at es v (status out) e = (refl, v)

  step_at_lem : (es : List Entry) → Inv s es → (c : Call) (n : ℕ) → history_refusal s es c ≡ n → Kept (accepted n (change (history_state s es) c) (history_state s es)) (accepted n (adds s es c) es)
  step_at_lem es v c zero e = change_at es v c e
  step_at_lem es v c (suc n) e = (refl, v)

  pub step : (es : List Entry) → Inv s es → (c : Call) → Kept (next (history_state s es) c) (enter s es c)
  unfolding next enter refusal history_refusal facts history_facts history_state
  step es v c = step_at_lem es v c (history_refusal s es c) refl

  -- ---- any list of calls

  pub begins : Inv s []
  begins = record { phase = filling refl (omega arith) (λ z. refl); wide = tt }

  pub fresh_history : fresh s ≡ history_state s []
  unfolding fresh history_state seen_of internal_of count_of statistics_of inputs_of timestamps_of shingled buffer_of
  fresh_history = λ j. record {
    settings = s;
    values_seen = 0;
    internal_timestamp = 0;
    count = 0;
    statistics = sym (statistics_fed s []) j;
    last_shingled_input = zeros (s.d * s.k) zero32 j;
    last_shingled_point = replicate (dimension s) zero32;
    previous_timestamps = zeros s.k 0 j;
    initial_values = [];
    initial_timestamps = [];
  }
    where
      zeros : {A : Type 0} (n : ℕ) (a : A) → replicate n a ≡ last_n n (replicate n a ++ [])
      zeros n a = sym (ap (last_n n) (append-nil (replicate n a)) ∙ last_n_all n (replicate n a) (length-replicate n a))

  pub runs : (es : List Entry) → Inv s es → (cs : List Call) → Kept (run (history_state s es) cs) (entries_from s es cs)
  runs es v [] = (refl, v)
  runs es v (c ∷ cs) =
      let k : Kept (next (history_state s es) c) (enter s es c) = step es v c in
      let h : Kept (run (history_state s (enter s es c)) cs) (entries_from s (enter s es c) cs) = runs (enter s es c) k.1 cs in
      (ap (λ (w : State). run w cs) k.0 ∙ h.0, h.1)

  -- after any list of calls the state is the history's
  pub run_history : (cs : List Call) → run (fresh s) cs ≡ history_state s (entries s cs)
  unfolding entries
  run_history cs = ap (λ (w : State). run w cs) fresh_history ∙ (runs [] begins cs).0

  -- every answer is the one of the history's rows
  pub answers_from : (es : List Entry) → Inv s es → (cs : List Call) → answers (history_state s es) cs ≡ history_answers s es cs
  unfolding answer history_answer refusal history_refusal facts history_facts history_state
  answers_from es v [] = refl
  answers_from es v (c ∷ cs) =
      let k : Kept (next (history_state s es) c) (enter s es c) = step es v c in
      λ j. answer (history_state s es) c ∷ (ap (λ (w : State). answers w cs) k.0 ∙ answers_from (enter s es c) k.1 cs) j

  pub answers_history : (cs : List Call) → answers (fresh s) cs ≡ history_answers s [] cs
  answers_history cs = ap (λ (w : State). answers w cs) fresh_history ∙ answers_from [] begins cs
