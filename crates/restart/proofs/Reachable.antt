-- Every state that calls lead to has the form of a text, for settings that no row refuses and arguments that are machine values.
use Prim.Native.Nat.{ℕ, zero, suc, ◌+◌, ◌-◌, ◌*◌, ◌≤◌, ◌<◌}
use native.Mathlib.Nat.{suc-mul, zero-mul}
use native.Mathlib.Omega.{arith}
use mathlib.Core.Path.{◌≡◌, refl, sym, ap, ◌∙◌, subst}
use mathlib.Core.Bool.{Bool, true, false, ◌&&◌, ◌||◌, cond, true≢false}
use mathlib.Core.List.{List, [], ◌∷◌, ◌++◌, append_assoc, append-nil}
use mathlib.Core.Option.{Option, none, some}
use mathlib.Core.Logic.{◌⊎◌, inl, inr}
use lib.Dec.{leb, ltb, eqb}
use lib.ListN.{length, drop, replicate, length-append, length-replicate}
use lib.Ieee.{Float, binary32, binary64}
use lib.Ieee.Bits.{of_bits-fits}
use borrow.Author.Tests.{ltb-false, leb-false, eqb-true, eqb-false, not-false}
use Rattle.restart.specs.Statistics.{Fed}
use Rattle.restart.specs.History.{Entry, initial_entry, learned_entry, drained_entry, initials, learns, is_drained, only_initials, values, timestamps, seen_of, internal_of, buffer_of, first_and_all}
use Rattle.restart.specs.History.{shingled, inputs_of, timestamps_of, each_after, fed_pairs, fed_of, count_of, statistics_of, transforms, points_of, history_state, history_facts, history_refusal}
use Rattle.restart.specs.History.{complete, adds, enter, entries_from, entries}
use Rattle.restart.proofs.Scores.{statistics_fed}
use Rattle.restart.proofs.Lists.{feed_each}
use Rattle.common.specs.Deviation.{zero64, count_limit}
use Rattle.trcf.specs.Lists.{last_n, last_or}
use Rattle.trcf.specs.Fit.{All, Fits}
use Rattle.trcf.specs.Types.{normalizes}
use Rattle.trcf.specs.Transformer.{zero32}
use Rattle.trcf.specs.Settings.{Settings, dimension, waiting, settings_table, settings_row, whole_max, Whole, Valid}
use Rattle.trcf.specs.Calls.{Learn, Call, shingled_point, post_process, drain, transform, invert_extrapolation, scale, shift, status, Facts, seen_limit, finite, due, newest, wrong_length, drain_full}
use Rattle.trcf.specs.Calls.{learn_full, table, rows, Machine}
use Rattle.trcf.specs.Preprocessor.{statistics_length, fresh, Reading, feed, transformed_after, accepted, run}
use Rattle.snapshot.specs.Form.{Climbs, Form}
use Rattle.trcf.proofs.FitLaws.{all_append}
use Rattle.snapshot.proofs.Accepted.{clear}
use Rattle.snapshot.proofs.Lists.{nil, all_replicate, finite_append}
use Rattle.restart.proofs.FeedLaws.{feed_length, feed_fits_lem, transformed_after_fits}
use Rattle.restart.proofs.Lists.{last_n_length, last_n_all, all_last_n, Each, timestamps_append, values_snoc, length_timestamps, length_pairs}
use Rattle.restart.proofs.Entries.{Unmixed, unmixed}
use Rattle.restart.proofs.Step.{Phase, filling, drained_by, plainly, stranded, Inv, still, is_false, due_full, is_full, step, begins, run_history}

-- ---- times

last_or_append : (a : ℕ) (l m : List ℕ) → last_or a (l ++ m) ≡ last_or (last_or a l) m
last_or_append a [] m = refl
last_or_append a (x ∷ xs) m = last_or_append x xs m

last_or_replicate : (n a : ℕ) → last_or a (replicate n a) ≡ a
last_or_replicate zero a = refl
last_or_replicate (suc n) a = last_or_replicate n a

last_or_any : (a b : ℕ) (l : List ℕ) → 0 < length l → last_or a l ≡ last_or b l
last_or_any a b [] h = absurd (omega arith)
last_or_any a b (x ∷ xs) h = refl

last_or_drop : (a n : ℕ) (l : List ℕ) → n < length l → last_or a (drop n l) ≡ last_or a l
last_or_drop a zero l h = refl
last_or_drop a (suc n) [] h = absurd (omega arith)
last_or_drop a (suc n) (x ∷ xs) h = last_or_drop a n xs (omega arith) ∙ last_or_any a x xs (omega arith)

-- the newest of `tim` is the newest of what stands after the zeros
newest_time : (k : ℕ) (l : List ℕ) → 0 < k → last_or 0 (last_n k (replicate k 0 ++ l)) ≡ last_or 0 l
unfolding last_n
newest_time k l h =
    last_or_drop 0 (length (replicate k 0 ++ l) - k) (replicate k 0 ++ l) (simp (length-append, length-replicate) (omega arith))
    ∙ last_or_append 0 (replicate k 0) l ∙ ap (λ (a : ℕ). last_or a l) (last_or_replicate k 0)

climbs_snoc : (p : ℕ) (l : List ℕ) (t : ℕ) → Climbs p l → last_or p l ≤ t → Climbs p (l ++ (t ∷ []))
climbs_snoc p [] t c h = (h, tt)
climbs_snoc p (x ∷ xs) t c h = (c.0, climbs_snoc x xs t c.1 h)

climbs_weaken : (p q : ℕ) (l : List ℕ) → p ≤ q → Climbs q l → Climbs p l
climbs_weaken p q [] h c = tt
climbs_weaken p q (x ∷ xs) h c = (omega (arith, c.0), c.1)

climbs_drop : (p n : ℕ) (l : List ℕ) → Climbs p l → Climbs p (drop n l)
climbs_drop p zero l c = c
climbs_drop p (suc n) [] c = tt
climbs_drop p (suc n) (x ∷ xs) c = climbs_weaken p x (drop n xs) c.0 (climbs_drop x n xs c.1)

climbs_last_n : (n : ℕ) (l : List ℕ) → Climbs 0 l → Climbs 0 (last_n n l)
unfolding last_n
climbs_last_n n l c = climbs_drop 0 (length l - n) l c

climbs_zeros : (n : ℕ) (l : List ℕ) → Climbs 0 l → Climbs 0 (replicate n 0 ++ l)
climbs_zeros zero l c = c
climbs_zeros (suc n) l c = (omega arith, climbs_zeros n l c)

climbs_first : (ws : List Reading) → Climbs 0 (timestamps ws) → Climbs 0 (timestamps (first_and_all ws))
climbs_first [] c = tt
climbs_first (r ∷ rs) c = (omega arith, (omega arith, c.1))

-- ---- lengths, finite values

feed_each_length : (s : Settings) (c : ℕ) (st : List Float) (ps : List Fed) → length (feed_each s c st ps) ≡ length st
feed_each_length s c st [] = refl
feed_each_length s c st (p ∷ ps) = feed_each_length s (suc c) (feed s c st p.before p.now) ps ∙ feed_length s c st p.before p.now

values_length : (n : ℕ) (rs : List Reading) → Each n rs → length (values rs) ≡ length (timestamps rs) * n
values_length n [] e = sym (native.Mathlib.Nat.zero-mul n)
values_length n (r ∷ rs) e = simp (length-append, suc-mul) (omega (arith, e.0, values_length n rs e.1))

-- row 3, passed
pub k>0_of : (s : Settings) → Valid s → 0 < s.k
unfolding settings_row
k>0_of s ok =
    let e : eqb s.k 0 ≡ false = (clear (settings_table s) refl ok.unrefused).1.1.0 in
    omega (arith, eqb-false)

-- ---- what the form needs of the entries

-- machine numbers
abbrev Sane : Reading → Type 0
Sane r = Fits binary32 r.value × (r.time ≤ whole_max)

values_fit : (rs : List Reading) → All Sane rs → Fits binary32 (values rs)
values_fit [] h = tt
values_fit (r ∷ rs) h = all_append _ r.value (values rs) h.0.0 (values_fit rs h.1)

timestamps_fit : (rs : List Reading) → All Sane rs → Whole (timestamps rs)
timestamps_fit [] h = tt
timestamps_fit (r ∷ rs) h = (h.0.1, timestamps_fit rs h.1)

first_sane : (rs : List Reading) → All Sane rs → All Sane (first_and_all rs)
first_sane [] h = tt
first_sane (r ∷ rs) h = (h.0, h)

transforms_fit : (s : Settings) (st : List Float) (seen : ℕ) (p : Reading) (rs : List Reading) → All Sane rs → Fits binary32 (transforms s st seen (each_after p rs))
transforms_fit s st seen p [] h = tt
transforms_fit s st seen p (r ∷ rs) h =
    all_append _ (transformed_after s st seen p r) (transforms s st seen (each_after r rs))
    (transformed_after_fits s st seen p r h.0.0) (transforms_fit s st seen r rs h.1)

paired_fit : (s : Settings) (st : List Float) (seen : ℕ) (rs : List Reading) → All Sane rs → Fits binary32 (transforms s st seen (fed_pairs rs))
paired_fit s st seen [] h = tt
paired_fit s st seen (r ∷ rs) h = transforms_fit s st seen r (r ∷ rs) h

feed_each_fits : (s : Settings) (c : ℕ) (st : List Float) (ps : List Fed) → Fits binary64 st → Fits binary64 (feed_each s c st ps)
feed_each_fits s c st [] h = h
feed_each_fits s c st (p ∷ ps) h = feed_each_fits s (suc c) (feed s c st p.before p.now) ps (feed_fits_lem s c st p.before p.now h)

pub record Good (s : Settings) (es : List Entry) : Type 0 where
  pub sane_w : All Sane (initials es)
  pub sane_l : All Sane (learns es)
  pub points_fit : Fits binary32 (points_of s es)
  pub buf_up : Climbs 0 (timestamps (buffer_of es))
  pub line_up : Climbs 0 (timestamps (shingled es))
  pub finite_buf : finite (values (buffer_of es)) ≡ true
  pub points_wide : length (points_of s es) ≡ dimension s
  pub seen_small : seen_of es ≤ seen_limit
  pub internal_small : internal_of es ≤ seen_limit
  pub count_small : count_of s es ≤ count_limit

or_left : (a b : Bool) → a || b ≡ false → a ≡ false
or_left true b h = h
or_left false b h = refl

or_right : (a b : Bool) → a || b ≡ false → b ≡ false
or_right true b h = absurd (true≢false h)
or_right false b h = h

-- ---- what the rows say of an accepted learn

pub record Passed (s : Settings) (f : Facts) (l : Learn) : Type 0 where
  pub as_wide : length l.input ≡ s.d
  pub is_finite : finite l.input ≡ true
  pub not_before : newest f ≤ l.timestamp
  pub if_waiting : waiting s f.values_seen ≡ true → f.values_seen < seen_limit
  pub if_learnt : waiting s f.values_seen ≡ false → (y : List Float) → l.rcf_point ≡ some y
      → (length y ≡ dimension s) × (f.values_seen < seen_limit) × (f.internal_timestamp < seen_limit) × (ltb f.values_seen s.stop ≡ true → f.count < count_limit)

pub passed : (s : Settings) (f : Facts) (l : Learn) → rows s f (post_process l) ≡ 0 → Passed s f l
unfolding rows table learn_full wrong_length
passed s f l e =
    let c = clear (table s f (post_process l)) refl e in
    record {
      as_wide = eqb-true _ _ (not-false _ c.0);
      is_finite = not-false _ c.1.0;
      not_before = ltb-false _ _ c.1.1.0;
      if_waiting = λ w. leb-false _ _ (rw w at c.1.1.1.1.1.0);
      if_learnt = λ w y ey.
          let a : wrong_length s l.rcf_point || wrong_length s l.expected_point ≡ false = rw w at c.1.1.1.0 in
          let b : wrong_length s l.rcf_point ≡ false = or_left _ _ a in
          let n : learn_full s f ≡ false = rw (w, ey) at c.1.1.1.1.1.0 in
          let m : leb seen_limit f.values_seen || leb seen_limit f.internal_timestamp ≡ false = or_right (ltb f.values_seen s.stop && leb count_limit f.count) _ n in
          let o : ltb f.values_seen s.stop && leb count_limit f.count ≡ false = or_left _ _ n in (
            eqb-true _ _ (not-false _ (rw ey at b)),
            leb-false _ _ (or_left _ _ m),
            leb-false _ _ (or_right (leb seen_limit f.values_seen) _ m),
            λ st. leb-false _ _ (rw st at o),
          );
    }

-- the statistics are fed, or not
count_one : (b : Bool) (ps : List Fed) (p : Fed) → (b ≡ true → length ps < count_limit) → length ps ≤ count_limit → length (ps ++ cond b (p ∷ []) []) ≤ count_limit
count_one true ps p h k = simp length-append (omega (arith, h refl))
count_one false ps p h k = simp append-nil k

-- internal 0: nothing after the zeros
empty : (b : Bool) (ws ls : List Reading) → length ls + cond b (length ws) 0 ≡ 0 → cond b (first_and_all ws) [] ++ ls ≡ []
empty false ws [] h = refl
empty false ws (l ∷ ls) h = absurd (omega arith)
empty true [] [] h = refl
empty true [] (l ∷ ls) h = absurd (omega arith)
empty true (w ∷ ws) ls h = absurd (omega arith)

empty_line : (es : List Entry) → internal_of es ≡ 0 → shingled es ≡ []
unfolding internal_of shingled
empty_line es h = empty (is_drained es) (initials es) (learns es) h

module _ (s : Settings) (k>0 : 0 < s.k) (es : List Entry) (v : Inv s es) (g : Good s es) where
  -- row 12 for W and for L
  after_buf : internal_of es ≡ 0 → (t : ℕ) → newest (history_facts s es) ≤ t → last_or 0 (timestamps (buffer_of es)) ≤ t
  unfolding newest history_facts
  after_buf z t h = rw z at h

  after_line : (b : Bool) → eqb (internal_of es) 0 ≡ b → (t : ℕ) → newest (history_facts s es) ≤ t → last_or 0 (timestamps (shingled es)) ≤ t
  unfolding newest history_facts timestamps_of
  after_line true e t h = rw (empty_line es (eqb-true _ _ e)) (omega arith)
  after_line false e t h =
      let q : last_or 0 (timestamps_of s es) ≤ t = rw e at h in
      rw (← (newest_time s.k (timestamps (shingled es)) k>0)) q

  line_snoc : (x : List Float) (t : ℕ) (y : List Float) → timestamps (shingled (learned_entry x t y ∷ es)) ≡ timestamps (shingled es) ++ (t ∷ [])
  unfolding shingled
  line_snoc x t y = ap timestamps (sym (append_assoc (cond (is_drained es) (first_and_all (initials es)) []) (learns es) _)) ∙ timestamps_append (shingled es) _

  buf_is : Unmixed s es → buffer_of es ≡ initials es
  unfolding buffer_of
  buf_is q = rw q.no_f

  good_w : (l : Learn) → Machine (post_process l) → Passed s (history_facts s es) l → waiting s (seen_of es) ≡ true → Good s (initial_entry l.input l.timestamp ∷ es)
  unfolding buffer_of shingled seen_of internal_of count_of history_facts
  good_w l m a w =
      let q : Unmixed s es = unmixed s es (still s es v.phase w).0 in
      let z : internal_of es ≡ 0 = rw (q.no_f, q.no_l) in
      record {
        sane_w = all_append _ (initials es) _ g.sane_w ((m.0, m.1), tt);
        sane_l = g.sane_l;
        points_fit = g.points_fit;
        buf_up = rw (q.no_f, timestamps_append) (climbs_snoc 0 (timestamps (initials es)) l.timestamp (rw (buf_is q) at g.buf_up) (rw (buf_is q) at (after_buf z l.timestamp a.not_before)));
        line_up = rw q.no_f (rw q.no_f at g.line_up);
        finite_buf = rw (q.no_f, values_snoc) (finite_append (values (initials es)) l.input (rw (buf_is q) at g.finite_buf) a.is_finite);
        points_wide = g.points_wide;
        seen_small = simp length-append (omega (arith, a.if_waiting w));
        internal_small = rw (q.no_f, q.no_l) (omega arith);
        count_small = g.count_small;
      }

  good_l : (l : Learn) (y : List Float) → Fits binary32 y → Machine (post_process l) → Passed s (history_facts s es) l → waiting s (seen_of es) ≡ false → l.rcf_point ≡ some y → Good s
      (learned_entry l.input l.timestamp y ∷ es)
  unfolding buffer_of seen_of internal_of count_of history_facts
  good_l l y fy m a w e =
      let p : (length y ≡ dimension s) × (seen_of es < seen_limit) × (internal_of es < seen_limit) × (ltb (seen_of es) s.stop ≡ true → count_of s es < count_limit) = a.if_learnt w y e in
      record {
        sane_w = g.sane_w;
        sane_l = all_append _ (learns es) _ g.sane_l ((m.0, m.1), tt);
        points_fit = fy;
        buf_up = g.buf_up;
        line_up = rw (line_snoc l.input l.timestamp y) (climbs_snoc 0 (timestamps (shingled es)) l.timestamp g.line_up (after_line _ refl l.timestamp a.not_before));
        finite_buf = g.finite_buf;
        points_wide = p.0;
        seen_small = simp length-append (omega (arith, p.1));
        internal_small = simp length-append (omega (arith, p.2));
        count_small = count_one (ltb (seen_of es) s.stop) (fed_of s es) _ p.3 g.count_small;
      }

  good_f : complete s es ≡ true → drain_full s (history_facts s es) ≡ false → Good s (drained_entry ∷ es)
  unfolding buffer_of shingled seen_of internal_of count_of history_facts drain_full finite
  good_f h n =
      let f : (only_initials es ≡ true) × (length (initials es) ≡ s.start) × (0 < s.start) = is_full s es h in
      let q : Unmixed s es = unmixed s es f.0 in
      let a : count_of s es + s.start ≤ count_limit = ltb-false _ _ (or_left _ _ n) in
      let b : internal_of es + s.start ≤ seen_limit = ltb-false _ _ (or_right (ltb count_limit (count_of s es + s.start)) _ n) in
      record {
        sane_w = g.sane_w;
        sane_l = g.sane_l;
        points_fit = all_last_n _ (dimension s) (points_of s es ++ transforms s (statistics_of s (drained_entry ∷ es)) (seen_of es) (fed_pairs (initials es)))
            (all_append _ (points_of s es) _ g.points_fit (paired_fit s (statistics_of s (drained_entry ∷ es)) (seen_of es) (initials es) g.sane_w));
        buf_up = tt;
        line_up = rw (q.no_l, append-nil) (climbs_first (initials es) (rw (buf_is q) at g.buf_up));
        finite_buf = refl;
        points_wide = last_n_length (dimension s) _ (simp length-append (omega (arith, g.points_wide)));
        seen_small = g.seen_small;
        internal_small = omega arith;
        count_small = simp (length-append, length_pairs) (omega arith);
      }

  -- ---- one call

  drained_at : (b : Bool) → complete s es ≡ b → due s (history_facts s es) && drain_full s (history_facts s es) ≡ false → Good s (cond b (drained_entry ∷ es) es)
  drained_at true e h =
      let d : due s (history_facts s es) ≡ true = due_full s es v.phase ∙ e in
      good_f e (rw d at h)
  drained_at false e h = g

  point_at_lem : (b : Bool) → complete s es ≡ b → (x : List Float) (t : ℕ) (out : List Float) → history_refusal s es (shingled_point x t out) ≡ 0 → Good s (cond b (drained_entry ∷ es) es)
  unfolding history_refusal rows table history_facts
  point_at_lem true e x t out h =
      let f : (only_initials es ≡ true) × (length (initials es) ≡ s.start) × (0 < s.start) = is_full s es e in
      let w : waiting s (seen_of es) ≡ false = is_false (waiting s (seen_of es)) (λ u. omega (arith, (still s es v.phase u).1)) in
      drained_at true e (rw w at (clear (table s (history_facts s es) (shingled_point x t out)) refl h).1.1.1.0)
  point_at_lem false e x t out h = g

  drain_at_lem : history_refusal s es drain ≡ 0 → Good s (cond (complete s es) (drained_entry ∷ es) es)
  unfolding history_refusal rows table
  drain_at_lem h = drained_at (complete s es) refl (clear (table s (history_facts s es) drain) refl h).1.0

  learn_at_lem : (l : Learn) → Machine (post_process l) → Passed s (history_facts s es) l → (b : Bool) → waiting s (seen_of es) ≡ b → (y : Option (List Float)) → l.rcf_point ≡ y → Good s
      (adds s es (post_process l))
  unfolding adds
  learn_at_lem l m a true w y e = rw w (good_w l m a w)
  learn_at_lem l m a false w none e = rw (w, e) g
  learn_at_lem l m a false w (some y) e = rw (w, e) (good_l l y (rw e at m.2) m a w e)

  good_at : (c : Call) → Machine c → history_refusal s es c ≡ 0 → Good s (adds s es c)
  unfolding adds history_refusal
  good_at (shingled_point x t out) m e = point_at_lem (complete s es) refl x t out e
  good_at (post_process l) m e = learn_at_lem l m (passed s (history_facts s es) l e) (waiting s (seen_of es)) refl l.rcf_point refl
  good_at drain m e = drain_at_lem e
  good_at (transform x t out) m e = g
  good_at (invert_extrapolation f) m e = g
  good_at (scale out) m e = g
  good_at (shift out) m e = g
  good_at (status out) m e = g

  good_step : (c : Call) → Machine c → (n : ℕ) → history_refusal s es c ≡ n → Good s (accepted n (adds s es c) es)
  good_step c m zero e = good_at c m e
  good_step c m (suc n) e = g

-- ---- the form

module _ (s : Settings) (ok : Valid s) (es : List Entry) (v : Inv s es) (g : Good s es) where
  later_lines : Phase s es → waiting s (seen_of es) ≡ false
      → (timestamps (buffer_of es) ≡ []) ⊎ ((normalizes s.method ≡ true) × (length (timestamps (buffer_of es)) ≡ s.start) × (seen_of es ≡ s.start → internal_of es ≡ 0))
  unfolding buffer_of seen_of internal_of waiting
  later_lines (filling o u z) w = go (normalizes s.method) refl
    where
      q : Unmixed s es
      q = unmixed s es o

      go : (b : Bool) → normalizes s.method ≡ b → (timestamps (buffer_of es) ≡ []) ⊎
          ((normalizes s.method ≡ true) × (length (timestamps (buffer_of es)) ≡ s.start) × (seen_of es ≡ s.start → internal_of es ≡ 0))
      go false e = inl (rw (q.no_f, nil (initials es) (z e)))
      go true e =
          let h : ltb (length (initials es) + length (learns es)) s.start ≡ false = rw e at w in
          let l : length (learns es) ≡ 0 = ap length q.no_l in
          inr (e, rw (q.no_f, length_timestamps) (omega (arith, ltb-false)), λ _. rw q.no_f (omega arith))
  later_lines (drained_by f m n p) w = inl (rw f)
  later_lines (plainly f m n p) w = inl (rw (f, nil (initials es) n))
  later_lines (stranded f m n p) w = inr (m, rw (f, length_timestamps) n, λ e. absurd (omega arith))

  sane_line : (b : Bool) → is_drained es ≡ b → All Sane (shingled es)
  unfolding shingled
  sane_line true e = rw e (all_append _ (first_and_all (initials es)) (learns es) (first_sane (initials es) g.sane_w) g.sane_l)
  sane_line false e = rw e g.sane_l

  sane_buf : (b : Bool) → is_drained es ≡ b → All Sane (buffer_of es)
  unfolding buffer_of
  sane_buf true e = rw e tt
  sane_buf false e = rw e g.sane_w

  wide_buf : (b : Bool) → is_drained es ≡ b → Each s.d (buffer_of es)
  unfolding buffer_of
  wide_buf true e = rw e tt
  wide_buf false e = rw e v.wide

  while_waiting_lem : waiting s (seen_of es) ≡ true → (length (timestamps (buffer_of es)) ≡ seen_of es) × (internal_of es ≡ 0)
  unfolding buffer_of seen_of internal_of
  while_waiting_lem w =
      let q : Unmixed s es = unmixed s es (still s es v.phase w).0 in
      (rw (q.no_f, q.no_l, length_timestamps) (omega arith), rw (q.no_f, q.no_l))

  pub has_form : Form (history_state s es)
  unfolding history_state statistics_of inputs_of timestamps_of
  has_form = record {
    valid = ok;
    statistics_fit = subst (Fits binary64) (sym (statistics_fed s (fed_of s es)))
        (feed_each_fits s 0 (replicate (statistics_length s) zero64) (fed_of s es) (all_replicate _ (statistics_length s) zero64 (of_bits-fits binary64 0)));
    input_fits = all_last_n _ (s.d * s.k) (replicate (s.d * s.k) zero32 ++ values (shingled es))
        (all_append _ (replicate (s.d * s.k) zero32) _ (all_replicate _ (s.d * s.k) zero32 (of_bits-fits binary32 0)) (values_fit (shingled es) (sane_line (is_drained es) refl)));
    point_fits = g.points_fit;
    initial_fit = values_fit (buffer_of es) (sane_buf (is_drained es) refl);
    times_fit = all_last_n _ s.k (replicate s.k 0 ++ timestamps (shingled es))
        (all_append _ (replicate s.k 0) _ (all_replicate _ s.k 0 (omega arith)) (timestamps_fit (shingled es) (sane_line (is_drained es) refl)));
    initial_times_fit = timestamps_fit (buffer_of es) (sane_buf (is_drained es) refl);
    statistics_long = ap length (statistics_fed s (fed_of s es)) ∙ feed_each_length s 0 (replicate (statistics_length s) zero64) (fed_of s es) ∙ length-replicate (statistics_length s) zero64;
    input_long = last_n_length (s.d * s.k) (replicate (s.d * s.k) zero32 ++ values (shingled es)) (simp (length-append, length-replicate) (omega arith));
    point_long = g.points_wide;
    times_long = last_n_length s.k (replicate s.k 0 ++ timestamps (shingled es)) (simp (length-append, length-replicate) (omega arith));
    seen_fits = g.seen_small;
    internal_fits = g.internal_small;
    count_fits = g.count_small;
    times_climb = climbs_last_n s.k (replicate s.k 0 ++ timestamps (shingled es)) (climbs_zeros s.k (timestamps (shingled es)) g.line_up);
    times_zero = λ z. rw (empty_line es z, append-nil) (last_n_all s.k (replicate s.k 0) (length-replicate s.k 0));
    initial_long = values_length s.d (buffer_of es) (wide_buf (is_drained es) refl);
    initial_finite = g.finite_buf;
    initial_climb = g.buf_up;
    while_waiting = while_waiting_lem;
    later = later_lines v.phase;
  }

-- ---- every state that calls lead to

module _ (s : Settings) (ok : Valid s) where
  begins_good : Good s []
  unfolding buffer_of shingled seen_of internal_of count_of finite
  begins_good = record {
    sane_w = tt;
    sane_l = tt;
    points_fit = all_replicate _ (dimension s) zero32 (of_bits-fits binary32 0);
    buf_up = tt;
    line_up = tt;
    finite_buf = refl;
    points_wide = length-replicate (dimension s) zero32;
    seen_small = omega arith;
    internal_small = omega arith;
    count_small = omega arith;
  }

  keeps : (es : List Entry) → Inv s es → Good s es → (cs : List Call) → All Machine cs → Inv s (entries_from s es cs) × Good s (entries_from s es cs)
  unfolding enter
  keeps es v g [] m = (v, g)
  keeps es v g (c ∷ cs) m = keeps (enter s es c) (step s (k>0_of s ok) es v c).1 (good_step s (k>0_of s ok) es v g c m.0 (history_refusal s es c) refl) cs m.1

  pub run_form : (cs : List Call) → All Machine cs → Form (run (fresh s) cs)
  unfolding entries
  run_form cs m =
      let q : Inv s (entries_from s [] cs) × Good s (entries_from s [] cs) = keeps [] (begins s (k>0_of s ok)) begins_good cs m in
      rw (run_history s (k>0_of s ok) cs) (has_form s ok (entries s cs) q.0 q.1)
