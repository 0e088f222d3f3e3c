-- What the entries show after any calls of an order is what the order leads to.
use Prim.Native.Nat.{ℕ, zero, suc, ◌+◌, ◌≤◌, ◌<◌}
use native.Mathlib.Nat.{add-zero}
use native.Mathlib.Numerals.{add-one}
use native.Mathlib.Omega.{arith}
use mathlib.Core.Path.{◌≡◌, refl, sym, ap, ◌∙◌}
use mathlib.Core.Bool.{Bool, true, false, cond, not, ◌&&◌, true≢false, and-false, and-true}
use mathlib.Core.List.{List, [], ◌∷◌}
use mathlib.Core.Option.{some}
use lib.Dec.{ltb, eqb}
use lib.ListN.{length, length-append}
use lib.Ieee.{Float}
use borrow.Author.Tests.{lt-ltb, le-ltb, eqb-true, not-true, ltb-false}
use Rattle.common.specs.Deviation.{count_limit}
use Rattle.trcf.specs.Lists.{null}
use Rattle.trcf.specs.Types.{normalizes}
use Rattle.trcf.specs.Settings.{Settings, waiting as waits}
use Rattle.trcf.specs.Calls.{Learn, Call, post_process, drain, seen_limit, due as isDue, drain_full, table, rows}
use Rattle.trcf.specs.Preprocessor.{accepted}
use Rattle.restart.specs.History.{Entry, initial_entry, learned_entry, drained_entry as F, initials, learns, is_drained, only_initials}
use Rattle.restart.specs.History.{seen_of, internal_of, count_of, history_facts, history_refusal, complete, adds, enter, entries_from, entries}
use Rattle.snapshot.proofs.Lists.{and_right}
use Rattle.restart.proofs.Entries.{Unmixed, unmixed}
use Rattle.restart.proofs.Step.{Phase, filling, drained_by, plainly, stranded as strandedBy, Inv, is_false, due_full, is_full, step as kept, begins}
use Rattle.stranding.specs.Orders.{Kind, point_kind, learn_kind, drain_kind}
use Rattle.stranding.specs.Standing.{Standing, still_waiting, now_drained, now_stranded, after_drain, after_learn, step, standing_after}
use Rattle.stranding_history.specs.CallOrders.{has_learned, standing_of, Of, a_point, a_learn, a_drain, is_counted, Calls, end, then}

-- ---- the standing by phase

stands_filling : (s : Settings) (es : List Entry) → only_initials es ≡ true → standing_of es ≡ still_waiting (length (initials es))
unfolding standing_of has_learned
stands_filling s es o = let u = unmixed s es o in rw (u.no_f, u.no_l)

stands_drained : (es : List Entry) → is_drained es ≡ true → standing_of es ≡ now_drained
unfolding standing_of
stands_drained es f = rw f

some_learned : (es : List Entry) → 0 < length (learns es) → has_learned es ≡ true
unfolding has_learned
some_learned es h = by (has_learned es) refl
  where
    by : (b : Bool) → has_learned es ≡ b → has_learned es ≡ true
    by true e = e
    by false e = absurd (omega (arith, ltb-false, e, h))

stands_stranded : (es : List Entry) → is_drained es ≡ false → 0 < length (learns es) → standing_of es ≡ now_stranded
unfolding standing_of
stands_stranded es f h = rw (f, some_learned es h)

module _ (s : Settings) (m : normalizes s.method ≡ true) (pos : 0 < s.start) (few : s.start ≤ 2000) where
  -- ---- drain is due exactly when start initial values wait

  complete_filling : (es : List Entry) → only_initials es ≡ true → complete s es ≡ eqb (length (initials es)) s.start
  unfolding complete
  complete_filling es o = let u = unmixed s es o in rw (o, lt-ltb 0 s.start pos, u.long) (and-true _)

  complete_drained : (es : List Entry) → is_drained es ≡ true → complete s es ≡ false
  complete_drained es f = is_false (complete s es) (λ h. true≢false (sym f ∙ (unmixed s es (is_full s es h).0).no_f))

  complete_stranded : (es : List Entry) → 0 < length (learns es) → complete s es ≡ false
  complete_stranded es g = is_false (complete s es) (λ h. omega (arith, ap length (unmixed s es (is_full s es h).0).no_l))

  -- ---- one call

  -- what a drain or an accepted point makes of the standing
  drains : (es : List Entry) → Phase s es → (x : Kind) → ((j : ℕ) → step s.start (still_waiting j) x ≡ after_drain s.start j)
      → standing_of (cond (complete s es) (F ∷ es) es) ≡ step s.start (standing_of es) x
  unfolding after_drain
  drains es (filling o u z) x d = rw (stands_filling s es o, d (length (initials es)), complete_filling es o) (go (eqb (length (initials es)) s.start) refl)
    where
      go : (b : Bool) → eqb (length (initials es)) s.start ≡ b → standing_of (cond b (F ∷ es) es) ≡ after_drain s.start (length (initials es))
      go true e = stands_drained (F ∷ es) refl ∙ rw e
      go false e = stands_filling s es o ∙ rw e
  drains es (drained_by f n k p) x d = rw (complete_drained es f, stands_drained es f)
  drains es (plainly f n k p) x d = absurd (true≢false (sym m ∙ n))
  drains es (strandedBy f n k p) x d = rw (complete_stranded es p, stands_stranded es f p)

  -- past the start's initial values nothing waits to be added
  past : (es : List Entry) → length (initials es) ≡ s.start → waits s (seen_of es) ≡ false
  unfolding waits seen_of
  past es k = rw (m, le-ltb (length (initials es) + length (learns es)) s.start (omega arith))

  waits_filling : (es : List Entry) → only_initials es ≡ true → waits s (seen_of es) ≡ ltb (length (initials es)) s.start
  unfolding waits seen_of
  waits_filling es o = rw (m, (unmixed s es o).no_l, add-zero (length (initials es)))

  -- what an accepted learn with a forest point makes of the standing
  learns_one : (es : List Entry) → Phase s es → (l : Learn) (y : List Float) → l.rcf_point ≡ some y
      → standing_of (adds s es (post_process l)) ≡ step s.start (standing_of es) learn_kind
  unfolding adds after_learn
  learns_one es (filling o u z) l y g = rw (stands_filling s es o, waits_filling es o, g) (go (ltb (length (initials es)) s.start) refl)
    where
      go : (b : Bool) → ltb (length (initials es)) s.start ≡ b
          → standing_of (cond b (initial_entry l.input l.timestamp ∷ es) (learned_entry l.input l.timestamp y ∷ es)) ≡ cond b (still_waiting (suc (length (initials es)))) now_stranded
      go true e = stands_filling s (initial_entry l.input l.timestamp ∷ es) o ∙ ap still_waiting (simp length-append (add-one (length (initials es))))
      go false e = stands_stranded (learned_entry l.input l.timestamp y ∷ es) (unmixed s es o).no_f (simp length-append (omega arith))
  learns_one es (drained_by f n k p) l y g = rw (past es k, g, stands_drained es f) (stands_drained (learned_entry l.input l.timestamp y ∷ es) f)
  learns_one es (plainly f n k p) l y g = absurd (true≢false (sym m ∙ n))
  learns_one es (strandedBy f n k p) l y g =
      rw (past es k, g, stands_stranded es f p) (stands_stranded (learned_entry l.input l.timestamp y ∷ es) f (simp length-append (omega arith)))

  -- a drain: no row meets one that is due, and one that is met adds nothing anyhow
  same : (n : ℕ) (es : List Entry) → accepted n es es ≡ es
  same zero es = refl
  same (suc n) es = refl

  room : (es : List Entry) → Unmixed s es → drain_full s (history_facts s es) ≡ false
  unfolding drain_full history_facts count_of internal_of
  room es u = rw (u.no_fed, u.no_l, u.no_f) (rw (le-ltb count_limit (0 + s.start) (omega arith), le-ltb seen_limit (0 + 0 + s.start) (omega arith)))

  -- row 18 of a drain never meets
  pub never_full : (es : List Entry) → Phase s es → isDue s (history_facts s es) && drain_full s (history_facts s es) ≡ false
  never_full es v = rw (due_full s es v) (go (complete s es) refl)
    where
      go : (b : Bool) → complete s es ≡ b → complete s es && drain_full s (history_facts s es) ≡ false
      go true h = rw (room es (unmixed s es (is_full s es h).0), and-false)
      go false h = rw h

  not_met : (es : List Entry) → Phase s es → complete s es ≡ true → history_refusal s es drain ≡ 0
  unfolding history_refusal rows table
  not_met es v h =
      let f = history_facts s es in
      let d : eqb f.values_seen s.start && not (null f.initial_timestamps) ≡ true = unfold isDue in (due_full s es v ∙ h) in
      let n : null f.initial_timestamps ≡ false = not-true _ (and_right (eqb f.values_seen s.start) _ d) in
      rw (n, and-false, never_full es v)

  drain_adds : (es : List Entry) → Phase s es → (b : Bool) → complete s es ≡ b → enter s es drain ≡ cond b (F ∷ es) es
  unfolding enter adds
  drain_adds es v true h = rw (not_met es v h, h)
  drain_adds es v false h = rw h (same (history_refusal s es drain) es)

  -- a drain is accepted or met by row 15, and by no other
  pub drain_counts : (es : List Entry) → Phase s es → is_counted drain_kind (history_refusal s es drain) ≡ true
  unfolding history_refusal rows table
  drain_counts es v =
      let f = history_facts s es in
      rw (never_full es v) (go (eqb f.values_seen s.start && null f.initial_timestamps))
    where
      go : (b : Bool) → is_counted drain_kind (cond b 15 0) ≡ true
      go true = refl
      go false = refl

  by_call : (es : List Entry) → Phase s es → (x : Kind) (c : Call) → Of x c → is_counted x (history_refusal s es c) ≡ true
      → standing_of (enter s es c) ≡ step s.start (standing_of es) x
  unfolding enter adds
  by_call es v x c (a_point a t out) e = rw (eqb-true (history_refusal s es c) 0 e) (drains es v point_kind (λ j. refl))
  by_call es v x c (a_learn l y g) e = rw (eqb-true (history_refusal s es c) 0 e) (learns_one es v l y g)
  by_call es v x c a_drain e = ap standing_of (drain_adds es v (complete s es) refl) ∙ drains es v drain_kind (λ j. refl)

  -- ---- any list of calls

  module _ (k>0 : 0 < s.k) where
    by_calls : {es : List Entry} {xs : List Kind} {cs : List Call} → Inv s es → Calls s es xs cs → standing_of (entries_from s es cs) ≡ standing_after s.start (standing_of es) xs
    by_calls v end = refl
    by_calls {es} v (then {x = x} {c = c} {xs = xs} {cs = cs} o h t) =
        by_calls (kept s k>0 es v c).1 t ∙ ap (λ (q : Standing). standing_after s.start q xs) (by_call es v.phase x c o h)

    -- THEOREM: the calls of an order leave what the order leads to
    pub calls_leave : (xs : List Kind) (cs : List Call) → Calls s [] xs cs → standing_of (entries s cs) ≡ standing_after s.start (still_waiting 0) xs
    unfolding entries standing_of has_learned
    calls_leave xs cs t = by_calls (begins s k>0) t
