-- States laid back over the lent lists: one that is left as it was, and one that was drained. Assumes nothing.
use Prim.Native.Nat.{ℕ, zero, suc, ◌+◌, ◌*◌, ◌≤◌, ◌<◌}
use mathlib.Core.Path.{◌≡◌, refl, sym, ap, ◌∙◌}
use mathlib.Core.Bool.{Bool, true, false, cond, not, ◌&&◌, ◌||◌}
use mathlib.Core.List.{List, [], ◌∷◌, ◌++◌}
use native.Mathlib.Omega.{arith}
use native.Mathlib.Nat.{mul-le-mul, le_refl, zero-mul}
use borrow.Author.Tests.{ltb-false}
use lib.Dec.{ltb, eqb}
use lib.ListN.{length, take, drop}
use lib.Seq.{length-take-le, take_at}
use lib.Ieee.{Float}
use Rattle.refusal.specs.Lent.{over}
use Rattle.common.specs.Deviation.{count_limit}
use Rattle.trcf.specs.Lists.{null}
use Rattle.trcf.specs.Settings.{dimension, block, waiting}
use Rattle.trcf.specs.Calls.{due, drain_full, seen_limit, drain, shingled_point}
use Rattle.trcf.specs.Preprocessor.{State, reading, facts, statistics_length, blocks, primed, drain_all, drained, point_of, change, accepted}
use Rattle.trcf.specs.View.{Lent, lent, settings_of, view, counted, written_over, outcome, Fitted, row_of, head_after, lent_after, drain_of, pointed}
use Rattle.trcf.specs.View.{point_after}
use Rattle.trcf.specs.Steps.Learning.{shingling}
use Rattle.trcf.specs.declared.head.Preprocessor.{Preprocessor}
use Rattle.trcf.proofs.ShingleLaws.{over_take, over_part}
use Rattle.trcf.proofs.DrainLaws.{first_of}
use Rattle.trcf.proofs.OutcomeLaws.{accepted_not}

module _ (h : Preprocessor) (l : Lent) (f : Fitted h l) where
  pub held_initial : h.initial_len ≤ length l.initial_timestamps
  held_initial = omega (arith, f.in_room, f.roomy.in_initial)

  pub held_values : h.initial_len * h.transformer.input_length ≤ length l.initial_values
  held_values = omega (arith, mul-le-mul f.in_room (le_refl h.transformer.input_length), f.roomy.in_values)

  pub same_head : h ≡ counted h (view h l)
  unfolding view
  same_head =
      λ j. record {
        transformer = h.transformer;
        forest_mode = h.forest_mode;
        shingle_size = h.shingle_size;
        start_normalization = h.start_normalization;
        stop_normalization = h.stop_normalization;
        weight_time = h.weight_time;
        values_seen = h.values_seen;
        internal_timestamp = h.internal_timestamp;
        initial_len = sym (length-take-le h.initial_len l.initial_timestamps held_initial) j;
        codes = h.codes;
      }

  pub same_lent : l ≡ written_over (view h l) l
  unfolding view written_over
  same_lent =
      let r = f.roomy in
      λ j. lent (sym (over_take l.statistics (statistics_length (settings_of h)) r.in_statistics) j)
      (sym (over_take l.last_shingled_input (h.transformer.input_length * h.shingle_size) r.in_input) j)
      (sym (over_take l.last_shingled_point (dimension (settings_of h)) r.in_point) j)
      (sym (over_take l.previous_timestamps h.shingle_size r.in_times) j)
      (sym (over_take l.initial_values (h.initial_len * h.transformer.input_length) held_values) j)
      (sym (over_take l.initial_timestamps h.initial_len held_initial) j)

  -- nothing to drain
  undrained_view : due (settings_of h) (facts (view h l)) ≡ false → view h l ≡ drained (view h l)
  unfolding drained view
  undrained_view e = rw e

  pub undrained : due (settings_of h) (facts (view h l)) ≡ false → outcome 0 h l ≡ outcome 0 (counted h (drained (view h l))) (written_over (drained (view h l)) l)
  undrained e =
      (λ j. outcome 0 (same_head j) (same_lent j))
      ∙ ap (λ (w : State). outcome 0 (counted h w) (written_over w l)) (undrained_view e)

  pub undrained_is : due (settings_of h) (facts (view h l)) ≡ false → view h l ≡ drained (view h l)
  undrained_is e = undrained_view e

-- the head after a drain
abbrev pub drained_head : Preprocessor → ℕ → Preprocessor
drained_head h n =
    record {
      transformer = record {
        transform_method = h.transformer.transform_method;
        input_length = h.transformer.input_length;
        transform_decay = h.transformer.transform_decay;
        weights = h.transformer.weights;
        count = h.transformer.count + n;
      };
      forest_mode = h.forest_mode;
      shingle_size = h.shingle_size;
      start_normalization = h.start_normalization;
      stop_normalization = h.stop_normalization;
      weight_time = h.weight_time;
      values_seen = h.values_seen;
      internal_timestamp = h.internal_timestamp + n;
      initial_len = 0;
      codes = h.codes;
    }

module _ (h : Preprocessor) (l : Lent) (f : Fitted h l) (d_pos : 0 < h.initial_len) (e : due (settings_of h) (facts (view h l)) ≡ true) where
  -- only the lists that a drain looks at count
  abbrev bare : State
  bare =
      shingling h h.transformer.count (take (statistics_length (settings_of h)) l.statistics)
      (take (h.transformer.input_length * h.shingle_size) l.last_shingled_input) (take (dimension (settings_of h)) l.last_shingled_point)
      (take h.shingle_size l.previous_timestamps) h.internal_timestamp

  abbrev values : List Float
  values = take (h.initial_len * h.transformer.input_length) l.initial_values

  abbrev stamps : List ℕ
  stamps = take h.initial_len l.initial_timestamps

  stamped : length stamps ≡ h.initial_len
  stamped = length-take-le h.initial_len l.initial_timestamps (held_initial h l f)

  drained_bare : drain_all bare (blocks h.transformer.input_length values stamps) ≡ drained (view h l)
  unfolding drained view primed drain_all
  drained_bare =
      let d = h.transformer.input_length in
      let p : 0 < length stamps = omega (arith, stamped) in
      let b = first_of d values stamps p in
      ap (drain_all bare) b ∙ ap (drain_all (view h l)) (sym b) ∙ (λ j. cond (sym e j) (drain_all (view h l) (blocks d values stamps)) (view h l))

  module _ (s x p : List Float) (ts : List ℕ)
      (ls : length s ≡ statistics_length (settings_of h)) (lx : length x ≡ h.transformer.input_length * h.shingle_size)
      (lp : length p ≡ dimension (settings_of h)) (lt : length ts ≡ h.shingle_size)
      (q : shingling h (h.transformer.count + length stamps) s x p ts (h.internal_timestamp + length stamps) ≡ drain_all bare (blocks h.transformer.input_length values stamps)) where
    abbrev back : Lent
    back =
        lent (s ++ drop (statistics_length (settings_of h)) l.statistics)
        (x ++ drop (h.transformer.input_length * h.shingle_size) l.last_shingled_input)
        (p ++ drop (dimension (settings_of h)) l.last_shingled_point) (ts ++ drop h.shingle_size l.previous_timestamps) l.initial_values
        l.initial_timestamps

    counted_drain : shingling h (h.transformer.count + h.initial_len) s x p ts (h.internal_timestamp + h.initial_len) ≡ drained (view h l)
    counted_drain =
        ap (λ (n : ℕ). shingling h (h.transformer.count + n) s x p ts (h.internal_timestamp + n)) (sym stamped) ∙ q ∙ drained_bare

    pub drained_out : outcome 0 (drained_head h h.initial_len) back ≡ outcome 0 (counted h (drained (view h l))) (written_over (drained (view h l)) l)
    unfolding written_over over
    drained_out =
        (λ j. outcome 0 (drained_head h h.initial_len)
        (lent (over_part l.statistics s _ ls j) (over_part l.last_shingled_input x _ lx j) (over_part l.last_shingled_point p _ lp j)
        (over_part l.previous_timestamps ts _ lt j) l.initial_values l.initial_timestamps))
        ∙ ap (λ (w : State). outcome 0 (counted h w) (written_over w l)) counted_drain

    pub drained_view : view (drained_head h h.initial_len) back ≡ drained (view h l)
    unfolding view dimension block
    drained_view =
        (λ j. record {
          settings = settings_of h;
          values_seen = h.values_seen;
          internal_timestamp = h.internal_timestamp + h.initial_len;
          count = h.transformer.count + h.initial_len;
          statistics = take_at s (drop (statistics_length (settings_of h)) l.statistics) (statistics_length (settings_of h)) ls j;
          last_shingled_input = take_at x (drop (h.transformer.input_length * h.shingle_size) l.last_shingled_input) (h.transformer.input_length * h.shingle_size) lx j;
          last_shingled_point = take_at p (drop (dimension (settings_of h)) l.last_shingled_point) (dimension (settings_of h)) lp j;
          previous_timestamps = take_at ts (drop h.shingle_size l.previous_timestamps) h.shingle_size lt j;
          initial_values = ap (λ (n : ℕ). take n l.initial_values) (zero-mul h.transformer.input_length) j;
          initial_timestamps = [];
        })
        ∙ counted_drain

-- the same where the dimension was computed
module _ (h : Preprocessor) (l : Lent) (f : Fitted h l) (n_pos : 0 < h.initial_len) (e : due (settings_of h) (facts (view h l)) ≡ true) (m : ℕ)
    (em : m ≡ dimension (settings_of h)) (s x p : List Float) (ts : List ℕ) (ls : length s ≡ statistics_length (settings_of h))
    (lx : length x ≡ h.transformer.input_length * h.shingle_size) (lp : length p ≡ m) (lt : length ts ≡ h.shingle_size)
    (q : shingling h (h.transformer.count + length (take h.initial_len l.initial_timestamps)) s x p ts (h.internal_timestamp + length (take h.initial_len l.initial_timestamps))
    ≡ drain_all
    (shingling h h.transformer.count (take (statistics_length (settings_of h)) l.statistics)
    (take (h.transformer.input_length * h.shingle_size) l.last_shingled_input) (take m l.last_shingled_point)
    (take h.shingle_size l.previous_timestamps) h.internal_timestamp)
    (blocks h.transformer.input_length (take (h.initial_len * h.transformer.input_length) l.initial_values) (take h.initial_len l.initial_timestamps))) where
  pub drained_out_at : outcome 0 (drained_head h h.initial_len)
      (lent (s ++ drop (statistics_length (settings_of h)) l.statistics)
      (x ++ drop (h.transformer.input_length * h.shingle_size) l.last_shingled_input)
      (p ++ drop m l.last_shingled_point) (ts ++ drop h.shingle_size l.previous_timestamps) l.initial_values
      l.initial_timestamps)
      ≡ outcome 0 (counted h (drained (view h l))) (written_over (drained (view h l)) l)
  drained_out_at = rw em (drained_out h l f n_pos e s x p ts ls lx (lp ∙ em) lt (rw em at q))

  pub drained_view_at : view (drained_head h h.initial_len)
      (lent (s ++ drop (statistics_length (settings_of h)) l.statistics)
      (x ++ drop (h.transformer.input_length * h.shingle_size) l.last_shingled_input)
      (p ++ drop m l.last_shingled_point) (ts ++ drop h.shingle_size l.previous_timestamps) l.initial_values
      l.initial_timestamps)
      ≡ drained (view h l)
  drained_view_at = rw em (drained_view h l f n_pos e s x p ts ls lx (lp ∙ em) lt (rw em at q))

-- ---- what the rows of a drain leave room for

and_falls : (a b : Bool) → (a && b) ≡ false → a ≡ true → b ≡ false
and_falls true b e t = e
and_falls false b e t = cc

or_falls : (a b : Bool) → (a || b) ≡ false → (a ≡ false) × (b ≡ false)
or_falls true b e = (e, (cc))
or_falls false b e = (refl, e)

module _ (h : Preprocessor) (l : Lent) (e : (due (settings_of h) (facts (view h l)) && drain_full (settings_of h) (facts (view h l))) ≡ false)
    (d : due (settings_of h) (facts (view h l)) ≡ true) where
  not_full : drain_full (settings_of h) (facts (view h l)) ≡ false
  not_full = and_falls (due (settings_of h) (facts (view h l))) (drain_full (settings_of h) (facts (view h l))) e d

  pub count_room : h.transformer.count + h.start_normalization ≤ count_limit
  unfolding drain_full facts view
  count_room =
      ltb-false count_limit (h.transformer.count + h.start_normalization)
      (or_falls (ltb count_limit (h.transformer.count + h.start_normalization)) (ltb seen_limit (h.internal_timestamp + h.start_normalization)) not_full).0

  pub internal_room : h.internal_timestamp + h.start_normalization ≤ seen_limit
  unfolding drain_full facts view
  internal_room =
      ltb-false seen_limit (h.internal_timestamp + h.start_normalization)
      (or_falls (ltb count_limit (h.transformer.count + h.start_normalization)) (ltb seen_limit (h.internal_timestamp + h.start_normalization)) not_full).1

not_null : (l : List ℕ) → not (null l) ≡ true → 0 < length l
not_null [] e = let z : ◌≡◌ {A = ℕ} 0 1 = cc in absurd (omega arith)
not_null (x ∷ l) e = omega arith

and_second : (a b : Bool) → (a && b) ≡ true → b ≡ true
and_second true b e = e
and_second false b e = cc

pub due_some : (h : Preprocessor) (l : Lent) → due (settings_of h) (facts (view h l)) ≡ true → 0 < length (take h.initial_len l.initial_timestamps)
unfolding due facts view
due_some h l e =
    not_null (take h.initial_len l.initial_timestamps)
    (and_second (eqb h.values_seen h.start_normalization) (not (null (take h.initial_len l.initial_timestamps))) e)

-- ---- `drain`

module _ (h : Preprocessor) (l : Lent) where
  pub drain_refused : (row_of h l drain ≡ 0 → ⊥) → outcome (row_of h l drain) h l ≡ drain_of h l
  unfolding drain_of head_after lent_after
  drain_refused n =
      let r = row_of h l drain in
      λ j. outcome r (sym (accepted_not r (counted h (change (view h l) drain)) h n) j) (sym (accepted_not r (written_over (change (view h l) drain) l) l n) j)

  pub drain_done : row_of h l drain ≡ 0 → outcome 0 (counted h (drained (view h l))) (written_over (drained (view h l)) l) ≡ drain_of h l
  unfolding drain_of head_after lent_after change
  drain_done e =
      ap (λ (r : ℕ). outcome r (accepted r (counted h (drained (view h l))) h) (accepted r (written_over (drained (view h l)) l) l)) (sym e)

-- ---- `shingled_point`

module _ (h : Preprocessor) (l : Lent) (x : List Float) (t : ℕ) (out : List Float) where
  -- whether a point is given
  abbrev gives : Bool
  gives = not (waiting (settings_of h) h.values_seen)

  abbrev point : List Float
  point = over out (point_of (drained (view h l)) (reading x t))

  point_at_lem : (r : ℕ) (a : Preprocessor) (b : Lent) → (r ≡ 0 → ⊥)
      → pointed r false h l out ≡ pointed r (accepted r gives false) (accepted r a h) (accepted r b l) (cond (accepted r gives false) point out)
  point_at_lem zero a b n = absurd (n refl)
  point_at_lem (suc r) a b n = refl

  pub point_refused : (row_of h l (shingled_point x t out) ≡ 0 → ⊥) → pointed (row_of h l (shingled_point x t out)) false h l out ≡ point_after h l x t out
  unfolding point_after head_after lent_after
  point_refused n = point_at_lem (row_of h l (shingled_point x t out)) _ _ n

  point_answered : row_of h l (shingled_point x t out) ≡ 0
      → pointed 0 gives (counted h (change (view h l) (shingled_point x t out))) (written_over (change (view h l) (shingled_point x t out)) l) (cond gives point out)
      ≡ point_after h l x t out
  unfolding point_after head_after lent_after
  point_answered e =
      let w = change (view h l) (shingled_point x t out) in
      ap (λ (r : ℕ). pointed r (accepted r gives false) (accepted r (counted h w) h) (accepted r (written_over w l) l) (cond (accepted r gives false) point out)) (sym e)

  pub point_waits : row_of h l (shingled_point x t out) ≡ 0 → waiting (settings_of h) h.values_seen ≡ true → Fitted h l
      → pointed 0 false h l out ≡ point_after h l x t out
  unfolding change view
  point_waits e w f =
      (λ j. pointed 0 false (same_head h l f j) (same_lent h l f j) out)
      ∙ (λ j. let s = cond (sym w j) (view h l) (drained (view h l)) in
      pointed 0 (not (sym w j)) (counted h s) (written_over s l) (cond (not (sym w j)) point out))
      ∙ point_answered e

  pub point_done : (a : Preprocessor) (b : Lent) (o : List Float) → row_of h l (shingled_point x t out) ≡ 0 → waiting (settings_of h) h.values_seen ≡ false
      → outcome 0 a b ≡ outcome 0 (counted h (drained (view h l))) (written_over (drained (view h l)) l)
      → o ≡ over out (point_of (drained (view h l)) (reading x t))
      → pointed 0 true a b o ≡ point_after h l x t out
  unfolding change view
  point_done a b o e w p q =
      (λ j. pointed 0 true (p j).head (p j).lent (q j))
      ∙ (λ j. let s = cond (sym w j) (view h l) (drained (view h l)) in
      pointed 0 (not (sym w j)) (counted h s) (written_over s l) (cond (not (sym w j)) point out))
      ∙ point_answered e
