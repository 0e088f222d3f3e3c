-- Facts of the entries, and the state that an entry makes out of the history's state.
use Prim.Native.Nat.{ℕ, suc, ◌+◌, ◌*◌, ◌<◌}
use native.Mathlib.Nat.{zero-add, le-mul_of_pos_right}
use native.Mathlib.Numerals.{add-one}
use native.Mathlib.Omega.{arith}
use mathlib.Core.Path.{◌≡◌, refl, sym, ap, ◌∙◌}
use mathlib.Core.Bool.{Bool, true, false, cond, false≢true}
use mathlib.Core.List.{List, [], ◌∷◌, ◌++◌, append_assoc, append-nil}
use lib.Dec.{ltb}
use lib.ListN.{length, replicate, length-append, length-replicate}
use lib.Ieee.{Float}
use Rattle.restart.specs.Statistics.{Fed, fed_after, statistics_from}
use Rattle.restart.specs.History.{Entry, initial_entry, learned_entry, drained_entry, initials, learns, is_drained, only_initials, values, timestamps, seen_of, internal_of, buffer_of, first_and_all}
use Rattle.restart.specs.History.{shingled, inputs_of, timestamps_of, newest_reading, each_after, fed_of, count_of, statistics_of, points_of, history_state}
use Rattle.restart.proofs.Lists.{feed_each}
use Rattle.common.specs.Deviation.{zero64}
use Rattle.trcf.specs.Lists.{last_n}
use Rattle.trcf.specs.Transformer.{zero32}
use Rattle.trcf.specs.Settings.{Settings, dimension}
use Rattle.trcf.specs.Calls.{Learn}
use Rattle.trcf.specs.Preprocessor.{State, statistics_length, Reading, reading, feed, feed_all, previous, primed, drain_each, drain_all, buffered, learned as learnedState}
use Rattle.restart.proofs.Lists.{last_n_shift, last_n_all, last_n_newest, last_or_newest, Each, timestamps_append, values_snoc, length_after, feed_all_after, feed_each_append, overwrite_fresh}
use Rattle.restart.proofs.Scores.{statistics_fed}
use Rattle.restart.proofs.Drain.{mid, pass}

-- ---- nothing but W's

pub record Unmixed (s : Settings) (es : List Entry) : Type 0 where
  pub no_f : is_drained es ≡ false
  pub no_l : learns es ≡ []
  pub no_fed : fed_of s es ≡ []
  pub zeros : points_of s es ≡ replicate (dimension s) zero32
  pub long : length es ≡ length (initials es)

pub unmixed : (s : Settings) (es : List Entry) → only_initials es ≡ true → Unmixed s es
unmixed s [] h = record { no_f = refl; no_l = refl; no_fed = refl; zeros = refl; long = refl }
unmixed s (initial_entry x t ∷ es) h =
    let q : Unmixed s es = unmixed s es h in
    record { no_f = q.no_f; no_l = q.no_l; no_fed = q.no_fed; zeros = q.zeros; long = simp length-append (ap suc q.long ∙ sym (add-one _)) }
unmixed s (learned_entry x t y ∷ es) h = absurd (false≢true h)
unmixed s (drained_entry ∷ es) h = absurd (false≢true h)

-- ---- F

module _ (s : Settings) (k>0 : 0 < s.k) (es : List Entry) (r : Reading) (rs : List Reading) (ew : initials es ≡ r ∷ rs) (q : Unmixed s es) (e : Each s.d (r ∷ rs)) where
  ready : (n : ℕ) → seen_of es ≡ n → primed (history_state s es) r (r ∷ rs)
      ≡ mid s n 0 (length (r ∷ rs)) (feed_each s 0 (replicate (statistics_length s) zero64) (each_after r (r ∷ rs)))
      (replicate (s.d * s.k) zero32 ++ r.value) (replicate (dimension s) zero32) (replicate s.k 0 ++ (r.time ∷ []))
  unfolding primed history_state internal_of count_of statistics_of inputs_of timestamps_of shingled
  ready n en = rw (q.no_f, q.no_l, q.no_fed, q.zeros) (λ j. record {
    settings = s;
    values_seen = en j;
    internal_timestamp = 0;
    count = zero-add (suc (length rs)) j;
    statistics = (ap (λ (st : List Float). feed_all s 0 st r (r ∷ rs)) (statistics_fed s []) ∙ feed_all_after s 0 (replicate (statistics_length s) zero64) r (r ∷ rs)) j;
    last_shingled_input = overwrite_fresh (s.d * s.k) zero32 r.value (omega (arith, e.0, le-mul_of_pos_right s.d k>0)) j;
    last_shingled_point = sym (last_n_all (dimension s) (replicate (dimension s) zero32) (length-replicate (dimension s) zero32)) j;
    previous_timestamps = overwrite_fresh s.k 0 (r.time ∷ []) k>0 j;
    initial_values = [];
    initial_timestamps = [];
  })

  -- drain makes the state of the history with F
  pub drained_state : drain_all (history_state s es) (r ∷ rs) ≡ history_state s (drained_entry ∷ es)
  unfolding drain_all history_state internal_of count_of statistics_of inputs_of timestamps_of shingled seen_of buffer_of
  drained_state = ap (λ (w : State). drain_each w (r ∷ rs)) (ready (length (r ∷ rs) + length {A = Reading} []) (rw (ew, q.no_l) refl))
      ∙ pass s k>0 (length (r ∷ rs) + length {A = Reading} []) (length (r ∷ rs)) _ (r ∷ rs) 0 _ _ _ r
      (simp (length-append, length-replicate) (omega arith)) (simp length-replicate (omega arith)) (simp (length-append, length-replicate) (omega arith))
      (last_n_newest s.d (s.d * s.k) (replicate (s.d * s.k) zero32) r.value (simp length-replicate (omega arith)) e.0 (le-mul_of_pos_right s.d k>0))
      (last_or_newest 0 s.k (replicate s.k 0) r.time (simp length-replicate (omega arith)) k>0) e
      ∙ rw (q.no_l, q.no_fed, q.zeros, ew) (cc (
        append-nil rs,
        statistics_fed s (each_after r (r ∷ rs)),
        length_after r rs,
        append_assoc (replicate (s.d * s.k) zero32) r.value (r.value ++ values rs),
        append_assoc (replicate s.k 0) (r.time ∷ []) (r.time ∷ timestamps rs),
      ))

-- ---- W, while there is no F

module _ (s : Settings) (es : List Entry) (no_f : is_drained es ≡ false) where
  pub initial_state : (l : Learn) → buffered (history_state s es) l ≡ history_state s (initial_entry l.input l.timestamp ∷ es)
  unfolding buffered history_state internal_of count_of statistics_of inputs_of timestamps_of shingled seen_of buffer_of
  initial_state l = rw no_f (λ j. record {
    settings = s;
    values_seen = e j;
    internal_timestamp = length (learns es) + 0;
    count = count_of s es;
    statistics = statistics_of s es;
    last_shingled_input = last_n (s.d * s.k) (replicate (s.d * s.k) zero32 ++ values (learns es));
    last_shingled_point = points_of s es;
    previous_timestamps = last_n s.k (replicate s.k 0 ++ timestamps (learns es));
    initial_values = sym (values_snoc (initials es) (reading l.input l.timestamp)) j;
    initial_timestamps = sym (timestamps_append (initials es) (reading l.input l.timestamp ∷ [])) j;
  })
    where
      e : suc (length (initials es) + length (learns es)) ≡ length (initials es ++ (reading l.input l.timestamp ∷ [])) + length (learns es)
      e = simp length-append (omega arith)

-- ---- L

-- a reading that is fed or not
fed_length : (b : Bool) (ps : List Fed) (p : Fed) → cond b (suc (length ps)) (length ps) ≡ length (ps ++ cond b (p ∷ []) [])
fed_length true ps p = simp length-append (omega arith)
fed_length false ps p = simp append-nil

fed_stats : (s : Settings) (b : Bool) (ps : List Fed) (p : Fed)
    → cond b (feed s (length ps) (statistics_from s ps) p.before p.now) (statistics_from s ps) ≡ statistics_from s (ps ++ cond b (p ∷ []) [])
fed_stats s true ps p =
    let st = replicate (statistics_length s) zero64 in
    let fed : feed s (length ps) (feed_each s 0 st ps) p.before p.now ≡ feed_each s 0 st (ps ++ (p ∷ [])) = sym (feed_each_append s 0 st ps (p ∷ []) ∙ rw zero-add) in
    ap (λ (l : List Float). feed s (length ps) l p.before p.now) (statistics_fed s ps) ∙ fed ∙ sym (statistics_fed s (ps ++ (p ∷ [])))
fed_stats s false ps p = simp append-nil

module _ (s : Settings) (k>0 : 0 < s.k) (es : List Entry) where
  pub learned_state : (x : List Float) (t : ℕ) (y : List Float) → length x ≡ s.d → learnedState (history_state s es) (reading x t) y ≡ history_state s (learned_entry x t y ∷ es)
  unfolding learnedState history_state internal_of count_of statistics_of inputs_of timestamps_of shingled seen_of buffer_of previous newest_reading
  learned_state x t y h = λ j. record {
    settings = s;
    values_seen = e₁ j;
    internal_timestamp = e₂ j;
    count = fed_length (ltb (seen_of es) s.stop) (fed_of s es) (fed_after (newest_reading s es) r) j;
    statistics = fed_stats s (ltb (seen_of es) s.stop) (fed_of s es) (fed_after (newest_reading s es) r) j;
    last_shingled_input = (sym (last_n_shift (s.d * s.k) Z x (simp (length-append, length-replicate) (omega arith)) (omega (arith, le-mul_of_pos_right s.d k>0)))
        ∙ ap (last_n (s.d * s.k)) (append_assoc (replicate (s.d * s.k) zero32) (values (shingled es)) x ∙ ap (λ (l : List Float). replicate (s.d * s.k) zero32 ++ l)
        (sym (values_snoc (shingled es) r) ∙ ap values g))) j;
    last_shingled_point = y;
    previous_timestamps = (sym (last_n_shift s.k T (t ∷ []) (simp (length-append, length-replicate) (omega arith)) k>0)
        ∙ ap (last_n s.k) (append_assoc (replicate s.k 0) (timestamps (shingled es)) (t ∷ []) ∙ ap (λ (l : List ℕ). replicate s.k 0 ++ l)
        (sym (timestamps_append (shingled es) (r ∷ [])) ∙ ap timestamps g))) j;
    initial_values = values (buffer_of es);
    initial_timestamps = timestamps (buffer_of es);
  }
    where
      r : Reading
      r = reading x t

      Z : List Float
      Z = replicate (s.d * s.k) zero32 ++ values (shingled es)

      T : List ℕ
      T = replicate s.k 0 ++ timestamps (shingled es)

      g : shingled es ++ (r ∷ []) ≡ cond (is_drained es) (first_and_all (initials es)) [] ++ (learns es ++ (r ∷ []))
      g = append_assoc (cond (is_drained es) (first_and_all (initials es)) []) (learns es) (r ∷ [])

      e₁ : suc (length (initials es) + length (learns es)) ≡ length (initials es) + length (learns es ++ (r ∷ []))
      e₁ = simp length-append (omega arith)

      e₂ : suc (length (learns es) + cond (is_drained es) (length (initials es)) 0) ≡ length (learns es ++ (r ∷ [])) + cond (is_drained es) (length (initials es)) 0
      e₂ = simp length-append (omega arith)
