-- The ways out of `drain`, `shingled_point` and `post_process`, from the promises of what they call, over plain lists: their proofs then only name them. Assumes nothing.
use Prim.Native.Nat.{ℕ, suc, ◌*◌, ◌≤◌, ◌<◌}
use mathlib.Core.Path.{◌≡◌, sym, ap, subst, ◌∙◌}
use mathlib.Core.Bool.{Bool, true, false, cond, ◌&&◌}
use mathlib.Core.List.{List, [], ◌∷◌, ◌++◌}
use lib.Dec.{eqb}
use lib.IntN.{ℤ}
use lib.Ieee.{Float, lt}
use lib.ListN.{length, take}
use Rattle.std.specs.Prelude.{Result, Ok, None}
use Rattle.std.specs.Result.{IsErrAnd}
use Rattle.refusal.specs.declared.Refusal.{Refusal}
use Rattle.refusal.specs.Refusal.{number_of}
use Rattle.refusal.specs.Lent.{over}
use Rattle.trcf.specs.Transformer.{zero32}
use Rattle.trcf.specs.Settings.{waiting, block, dimension}
use Rattle.trcf.specs.Calls.{drain, shingled_point, post_process}
use Rattle.trcf.specs.Preprocessor.{State, statistics_length, deviations, drained, reading, point_of, learned_nothing}
use Rattle.trcf.specs.View.{Lent, lent, settings_of, initial_room, row_of, optional, learn_call, back_of, processed_outcome, learn_nothing, learn_after, counting, holding, Bounded}
use Rattle.trcf.specs.View.{Ready, Fitted, Outcome, outcome, drain_of, pointed, point_after, counted, written_over, view}
use Rattle.trcf.specs.Steps.Rows.{learning_row}
use Rattle.trcf.specs.Steps.Learning.{LearnParts, learned_parts, answering, Learnable}
use Rattle.trcf.specs.declared.head.Preprocessor.{Preprocessor}
use Rattle.trcf.specs.declared.head.PostProcessed.{PostProcessed}
use Rattle.trcf.proofs.NumberLaws.{number_zero, processed_err}
use Rattle.trcf.proofs.BoundLaws.{kept_room}
use Rattle.trcf.proofs.RefusalLaws.{room_waiting}
use Rattle.trcf.proofs.StateLaws.{drain_refused, drain_done, point_refused, point_waits, point_done}
use Rattle.trcf.proofs.LearnLaws.{post_learns, post_whole, learn_refused, learn_held, learn_none, learn_whole, learnable, waiting_below, waiting_completes, outcome_of}

-- ---- `drain`

module _ (h : Preprocessor) (l : Lent) (n : ℕ) (row : n ≡ row_of h l drain) where
  pub drain_stays : (n ≡ 0 → ⊥) → outcome n h l ≡ drain_of h l
  drain_stays z = ap (λ (r : ℕ). outcome r h l) row ∙ drain_refused h l (λ w. z (row ∙ w))

  pub drain_goes : n ≡ 0 → (o : Outcome) → o ≡ outcome 0 (counted h (drained (view h l))) (written_over (drained (view h l)) l) → o ≡ drain_of h l
  drain_goes z o e = e ∙ drain_done h l (sym row ∙ z)

-- ---- `shingled_point`

module _ (h : Preprocessor) (l : Lent) (x : List Float) (t : ℕ) (out : List Float) (n : ℕ) (row : n ≡ row_of h l (shingled_point x t out)) where
  pub point_stays : (n ≡ 0 → ⊥) → pointed n false h l out ≡ point_after h l x t out
  point_stays z = ap (λ (r : ℕ). pointed r false h l out) row ∙ point_refused h l x t out (λ w. z (row ∙ w))

  module _ (zero : n ≡ 0) (b : Bool) (w : b ≡ waiting (settings_of h) h.values_seen) where
    pub point_holds : b ≡ true → Fitted h l → pointed 0 false h l out ≡ point_after h l x t out
    point_holds g f = point_waits h l x t out (sym row ∙ zero) (sym w ∙ g) f

    pub point_goes : b ≡ false → (a : Preprocessor) (m : Lent) (o : List Float) (s : State) → outcome 0 a m ≡ outcome 0 (counted h (drained (view h l))) (written_over (drained (view h l)) l)
        → s ≡ drained (view h l) → o ≡ over out (point_of s (reading x t)) → pointed 0 true a m o ≡ point_after h l x t out
    point_goes g a m o s p q e =
        point_done h l x t out a m o (sym row ∙ zero) (sym w ∙ g) p (e ∙ ap (λ (v : State). over out (point_of v (reading x t))) q)

-- the drained head asks no more room than the one before it
module _ (h : Preprocessor) (l : Lent) (x out : ℕ) where
  abbrev Room : ℕ → ℕ → ℕ → ℕ → Preprocessor → Type 0
  Room st xs ps ts a =
      Bounded (settings_of a) × ((statistics_length (settings_of a) ≤ st) × ((a.transformer.input_length * a.shingle_size ≤ xs) × ((dimension (settings_of a) ≤ ps) × ((a.shingle_size ≤ ts)
      × ((x ≡ a.transformer.input_length) × (dimension (settings_of a) ≤ out))))))

  pub room_point : (st xs ps ts : ℕ) (s : State) (a : Preprocessor) → a ≡ counted h s → Ready h l → st ≡ length l.statistics → xs ≡ length l.last_shingled_input
      → ps ≡ length l.last_shingled_point → ts ≡ length l.previous_timestamps → x ≡ h.transformer.input_length → dimension (settings_of h) ≤ out
      → Room st xs ps ts a
  room_point st xs ps ts s a e r k₁ k₂ k₃ k₄ q g =
      let f = r.fitted.roomy in
      subst (Room st xs ps ts) (sym e)
      (r.bounded, (kept_room k₁ f.in_statistics, (kept_room k₂ f.in_input, (kept_room k₃ f.in_point, (kept_room k₄ f.in_times, (q, g))))))

-- ---- `post_process`

module _ (h : Preprocessor) (st xs ps : List Float) (ts : List ℕ) (vs : List Float) (vt : List ℕ) (x : List Float) (t : ℕ) (hasY : Bool) (y : List Float) (expects : Bool) (e : List Float)
    (grade : Float) (i i' : ℤ)
    (deviations_out past_out expected_out : List Float) (u : i' ≡ i) (n : ℕ)
    (row : n ≡ row_of h (lent st xs ps ts vs vt) (post_process (learn_call x t hasY y expects e grade i' deviations_out past_out expected_out))) where
  row_is : n ≡ row_of h (lent st xs ps ts vs vt) (post_process (learn_call x t hasY y expects e grade i deviations_out past_out expected_out))
  row_is = row ∙ ap (λ (z : ℤ). row_of h (lent st xs ps ts vs vt) (post_process (learn_call x t hasY y expects e grade z deviations_out past_out expected_out))) u

  pub way_refused : (e' : Refusal) (r : Result PostProcessed Refusal) → IsErrAnd r (λ d. d ≡ e') → number_of e' ≡ n
      → processed_outcome r h (lent st xs ps ts vs vt) deviations_out past_out expected_out
      ≡ learn_after h (lent st xs ps ts vs vt) (learn_call x t hasY y expects e grade i deviations_out past_out expected_out)
  unfolding learned_nothing
  way_refused e' r p m =
      let l = lent st xs ps ts vs vt in
      let q = learn_call x t hasY y expects e grade i deviations_out past_out expected_out in
      processed_err e' h l r deviations_out past_out expected_out p
      ∙ ap (λ (k : ℕ). learn_nothing k h l q) (m ∙ row_is)
      ∙ learn_refused h l q (λ w. number_zero e' (m ∙ row_is ∙ w))

  module _ (ready : n ≡ 0 → Ready h (lent st xs ps ts vs vt)) (zero : n ≡ 0) where
    accepted : row_of h (lent st xs ps ts vs vt) (post_process (learn_call x t hasY y expects e grade i deviations_out past_out expected_out)) ≡ 0
    accepted = sym row_is ∙ zero

    pub way_held : (b : Bool) → b ≡ waiting (settings_of h) h.values_seen → b ≡ true → (r : PostProcessed) (vs' : List Float) (vt' : List ℕ) (deviationsOut' : List Float)
        → r ≡ answering (counting h h.transformer.count (suc h.values_seen) h.internal_timestamp (suc h.initial_len))
        (eqb (suc h.values_seen) h.start_normalization) None
        → vs' ≡ over vs (take (h.initial_len * h.transformer.input_length) vs ++ x)
        → vt' ≡ over vt (take h.initial_len vt ++ (t ∷ []))
        → deviationsOut' ≡ cond (eqb (suc h.values_seen) h.start_normalization) (over deviations_out (deviations (holding h (take (statistics_length (settings_of h)) st) [] []))) deviations_out
        → processed_outcome (Ok r) h (lent st xs ps ts vs' vt') deviationsOut' past_out expected_out
        ≡ learn_after h (lent st xs ps ts vs vt) (learn_call x t hasY y expects e grade i deviations_out past_out expected_out)
    way_held b w g r vs' vt' deviationsOut' p₀ p₁ p₂ p₃ =
        (λ j. processed_outcome (Ok (p₀ j)) h (lent st xs ps ts (p₁ j) (p₂ j)) (p₃ j) past_out expected_out)
        ∙ learn_held h (lent st xs ps ts vs vt) (learn_call x t hasY y expects e grade i deviations_out past_out expected_out) accepted (sym w ∙ g) (ready zero).fitted

    pub way_none : (b : Bool) → b ≡ waiting (settings_of h) h.values_seen → b ≡ false → hasY ≡ false
        → processed_outcome (Ok (answering h false None)) h (lent st xs ps ts vs vt) deviations_out past_out expected_out
        ≡ learn_after h (lent st xs ps ts vs vt) (learn_call x t hasY y expects e grade i deviations_out past_out expected_out)
    unfolding learned_nothing
    way_none b w g k =
        learn_none h (lent st xs ps ts vs vt) (learn_call x t hasY y expects e grade i deviations_out past_out expected_out) accepted (sym w ∙ g)
        (ap (λ (z : Bool). optional z y) k) (ready zero).fitted

    learns_is : learning_row h (length y) hasY (length e) expects grade (back_of i) (length deviations_out) (length past_out) (length expected_out) ≡ 0
    learns_is = post_learns h (lent st xs ps ts vs vt) x t hasY y expects e grade i deviations_out past_out expected_out (ready zero).bounded accepted

    whole_is : length x ≡ h.transformer.input_length
    whole_is = post_whole h (lent st xs ps ts vs vt) x t hasY y expects e grade i deviations_out past_out expected_out (ready zero).bounded accepted

    pub room_held : (b : Bool) → b ≡ waiting (settings_of h) h.values_seen → b ≡ true
        → Bounded (settings_of h) × ((statistics_length (settings_of h) ≤ length st) ×
        ((length x ≡ h.transformer.input_length) × ((h.initial_len ≡ h.values_seen) × ((h.values_seen < h.start_normalization)
        × ((h.start_normalization * h.transformer.input_length ≤ length vs) ×
        ((h.start_normalization ≤ length vt) × (eqb (suc h.values_seen) h.start_normalization ≡ true → block (settings_of h) ≤ length deviations_out)))))))
    room_held b w g =
        let r = ready zero in
        let f = r.fitted.roomy in
        let v = sym w ∙ g in (
          r.bounded,
          (
            f.in_statistics,
            (
              whole_is,
              (
                r.fitted.counted v,
                (
                  waiting_below (settings_of h) h.values_seen v,
                  (
                    values v f.in_values,
                    (
                      times v f.in_initial,
                      waiting_completes h (length y) hasY (length e) expects grade (back_of i) (length deviations_out) (length past_out)
                          (length expected_out) learns_is v,
                    ),
                  ),
                ),
              ),
            ),
          ),
        )
      where
        values : waiting (settings_of h) h.values_seen ≡ true → initial_room (settings_of h) * h.transformer.input_length ≤ length vs → h.start_normalization *
            h.transformer.input_length ≤ length vs
        values v = subst (λ (r : ℕ). r * h.transformer.input_length ≤ length vs) (room_waiting (settings_of h) h.values_seen v)

        times : waiting (settings_of h) h.values_seen ≡ true → initial_room (settings_of h) ≤ length vt → h.start_normalization ≤ length vt
        times v = subst (λ (r : ℕ). r ≤ length vt) (room_waiting (settings_of h) h.values_seen v)

    module _ (b : Bool) (w : b ≡ waiting (settings_of h) h.values_seen) (g : b ≡ false) (has : hasY ≡ true) (back : ℕ) (placed : back ≡ back_of i') where
      can_learn : Learnable h (length y) (length e) expects grade (back_of i) (length deviations_out) (length past_out) (length expected_out)
      can_learn = learnable h (length y) hasY (length e) expects grade (back_of i) (length deviations_out) (length past_out) (length expected_out) learns_is (sym w ∙ g) has

      back_is : back ≡ back_of i
      back_is = placed ∙ ap back_of u

      pub room_learnt : Bounded (settings_of h) × ((statistics_length (settings_of h) ≤ length st) ×
          ((h.transformer.input_length * h.shingle_size ≤ length xs) × ((dimension (settings_of h) ≤ length ps) × ((h.shingle_size ≤ length ts)
          × ((length x ≡ h.transformer.input_length) × Learnable h (length y) (length e) expects grade back (length deviations_out) (length past_out) (length expected_out))))))
      room_learnt =
          let r = ready zero in
          let f = r.fitted.roomy in (
            r.bounded,
            (
              f.in_statistics,
              (
                f.in_input,
                (
                  f.in_point,
                  (
                    f.in_times,
                    (
                      whole_is,
                      subst (λ (m : ℕ). Learnable h (length y) (length e) expects grade m (length deviations_out) (length past_out) (length expected_out)) (sym back_is)
                          can_learn,
                    ),
                  ),
                ),
              ),
            ),
          )

      pub way_learnt : (p : LearnParts) → p ≡ learned_parts h st xs ps ts x t y e (lt zero32 grade && expects) back deviations_out past_out expected_out
          → outcome_of p vs vt ≡ learn_after h (lent st xs ps ts vs vt) (learn_call x t hasY y expects e grade i deviations_out past_out expected_out)
      way_learnt p q =
          ap (λ (p : LearnParts). outcome_of p vs vt) q
          ∙ ap (λ (m : ℕ). outcome_of (learned_parts h st xs ps ts x t y e (lt zero32 grade && expects) m deviations_out past_out expected_out) vs vt) back_is
          ∙ learn_whole h (lent st xs ps ts vs vt) x t hasY y expects e grade i deviations_out past_out expected_out (ready zero).bounded.k_few (ready zero).fitted has
          (λ z. (can_learn.found z).inside) accepted (sym w ∙ g)
