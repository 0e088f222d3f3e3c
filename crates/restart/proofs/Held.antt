-- What the program holds is the state that the definitions speak of, after every call and every restart.
use Prim.Native.Nat.{ℕ, zero, suc, ◌*◌, ◌≤◌}
use native.Mathlib.Omega.{arith}
use mathlib.Core.Path.{◌≡◌, refl, sym, ap, ◌∙◌, subst}
use mathlib.Core.Bool.{Bool, true, false, cond}
use mathlib.Core.List.{List, [], ◌∷◌, ◌++◌}
use lib.ListN.{length, take, drop}
use lib.Seq.{take-append_seam}
use Rattle.refusal.specs.Lent.{over}
use lib.Ieee.{Float}
use borrow.Author.Tests.{le-ltb}
use Rattle.refusal.specs.Refusal.{first_of}
use Rattle.trcf.specs.Fit.{All}
use Rattle.trcf.proofs.FitLaws.{all_append}
use Rattle.trcf.specs.Types.{augments}
use Rattle.trcf.specs.Settings.{Settings, Valid, waiting, dimension}
use Rattle.trcf.specs.Calls.{Call, Machine, status}
use Rattle.trcf.specs.Preprocessor.{State, statistics_length, fresh, refusal, change, next, run, answer, answers}
use Rattle.trcf.specs.View.{Lent, lent, settings_of, view, written_over, counted, head_from, head_table, head_row, initial_room, lent_short, counters_unfit, own_row, ready_of, getters_of, short_row}
use Rattle.trcf.specs.View.{lent_row, row_of, answer_of, head_after, lent_after, build_row, build_of, Outcome, outcome}
use Rattle.trcf.proofs.RefusalLaws.{room_start}
use Rattle.trcf.proofs.ViewLaws.{row_is, answer_is, Shaped, view_laid}
use Rattle.snapshot.specs.Text.{render, TextOf}
use Rattle.snapshot.specs.Form.{Form}
use Rattle.snapshot.proofs.Accepted.{rows_of, none_refuses}
use Rattle.snapshot.specs.Save.{in_use_short, fitted}
use Rattle.snapshot.specs.Save as save
use Rattle.snapshot.specs.Restore as restore
use Rattle.snapshot.specs.Steps.Runs.{Few, HeadFew}
use Rattle.snapshot.proofs.BodyLaws.{room_of, dimension_is}
use Rattle.snapshot.proofs.ReadText.{put_away_lem}
use Rattle.snapshot.proofs.SaveForm.{Savable, saved_fitted, form_savable}
use Rattle.snapshot.proofs.RoundTrip.{settings_are, few_of, initial_room_lem, past_not, laid_short, restored_as, restored_view}
use Rattle.restart.specs.History.{history_state, entries, history_text, history_shown}
use Rattle.restart.specs.Statement.{panel_told, panels}
use Rattle.restart.specs.Held.{Held, held, built_on, held_next, held_run, held_answers, held_panels, held_shown, saved_to, text_in, restored_on, HeldDemand3}
use Rattle.restart.proofs.Step.{begins, runs, run_history}
use Rattle.restart.proofs.Panel.{getters_at, shown, shown_from, shown_history, panels_history}
use Rattle.restart.proofs.Restart.{run_append, text_history, restorable, restart}
use Rattle.restart.proofs.Reachable.{k>0_of, run_form}

-- ---- what holds a state of the form

pub record Holds (s : Settings) (m : Held) (w : State) : Type 0 where
  pub viewed : view m.head m.lent ≡ w
  pub settled : settings_of m.head ≡ s
  pub room : lent_short s m.lent ≡ false
  pub counts : m.head.initial_len ≡ length w.initial_timestamps

module _ (s : Settings) (ok : Valid s) where
  sane : (m : Held) (w : State) → Holds s m w → head_row (settings_of m.head) ≡ 0
  unfolding head_row
  sane m w k =
      let c = rows_of s ok.unrefused in
      ap (λ (x : Settings). head_row x) k.settled ∙ none_refuses (head_table s) (c.1.0, (c.1.1.0, (c.1.1.1.0, (c.1.1.1.1.1.1.1.0, tt))))

  module _ (m : Held) (w : State) (k : Holds s m w) (f : Form w) (e : w.settings ≡ s) where
    unheld_not : in_use_short m.head m.lent ≡ false
    unfolding in_use_short
    unheld_not =
        let h = m.head in
        let n : h.initial_len ≤ initial_room (settings_of h) =
        (let a = initial_room_lem w f in let b : initial_room w.settings ≡ initial_room (settings_of h) = ap initial_room (e ∙ sym k.settled) in omega (arith, a, b, k.counts)) in
        let F : HeadFew h = subst (λ (x : Settings). Few x.d x.k x.start) (sym k.settled) (few_of s ok) in
        let r = room_of h m.lent h.initial_len F (subst (λ (x : Settings). lent_short x m.lent ≡ false) (sym k.settled) k.room) n in
        let wide : ℕ = cond (augments h.forest_mode) 1 0 in
        past_not h.transformer.input_length h.shingle_size wide h.initial_len _ _ _ _ _ _
        (record {
          d_few = r.d_few;
          k_few = r.k_few;
          n_few = omega (arith, n, room_start (settings_of h), F.start_few);
          in_statistics = r.in_statistics;
          in_input = r.in_input;
          in_point = subst (λ (x : ℕ). x ≤ length m.lent.last_shingled_point) (sym (dimension_is (settings_of h) wide refl)) r.in_point;
          in_times = r.in_times;
          in_values = r.in_values;
          in_initial = r.in_initial;
        })

    savable : Savable m.head m.lent
    savable = form_savable m.head m.lent (subst Form (sym k.viewed) f) unheld_not

    long : lent_row m.head m.lent ≡ 0
    unfolding lent_row short_row
    long = rw savable.counted (ap (λ (b : Bool). first_of ((b, 20) ∷ [])) (ap (λ (x : Settings). lent_short x m.lent) k.settled ∙ k.room))

    held_answer_lem : (c : Call) → answer_of m.head m.lent c ≡ answer w c
    held_answer_lem c = answer_is m.head m.lent c (sane m w k) long ∙ ap (λ (x : State). answer x c) k.viewed

    held_panel : (room : List Float) → panel_told (answer_of m.head m.lent (status room)) ≡ panel_told (answer w (status room))
    held_panel room = ap panel_told (held_answer_lem (status room))

    held_shown_lem : getters_of m.head ≡ getters_at w
    unfolding view ready_of own_row
    held_shown_lem = rw (sane m w k, savable.counted) (ap getters_at k.viewed)

    -- the state that an accepted call leaves is laid back
    laid_back : (v : State) → Form v → v.settings ≡ s → Holds s (held (counted m.head v) (written_over v m.lent)) v
    laid_back v g d =
        let q : v.settings ≡ settings_of m.head = d ∙ sym k.settled in
        let S : Shaped m.head v = record {
          settled = q;
          statistics_length_lem = g.statistics_long ∙ ap statistics_length q;
          input_length = g.input_long ∙ ap (λ (x : Settings). x.d * x.k) q;
          point_length_lem = g.point_long ∙ ap dimension q;
          times_length = g.times_long ∙ ap (λ (x : Settings). x.k) q;
          values_length = g.initial_long ∙ ap (λ (x : Settings). length v.initial_timestamps * x.d) q;
        } in
        record {
          viewed = view_laid m.head m.lent v S;
          settled = k.settled;
          room = subst (λ (x : Settings). lent_short x (written_over v m.lent) ≡ false) d (laid_short v g m.lent (subst (λ (x : Settings). lent_short x m.lent ≡ false) (sym d) k.room));
          counts = refl;
        }

    held_row : (c : Call) → row_of m.head m.lent c ≡ refusal w c
    held_row c = row_is m.head m.lent c (sane m w k) long ∙ ap (λ (x : State). refusal x c) k.viewed

    held_next_lem : (c : Call) → Form (next w c) → (next w c).settings ≡ s → Holds s (held_next m c) (next w c)
    unfolding next head_after lent_after
    held_next_lem c g d = go (refusal w c) refl
      where
        go : (r : ℕ) → refusal w c ≡ r → Holds s (held_next m c) (next w c)
        go zero q =
            let p : row_of m.head m.lent c ≡ 0 = held_row c ∙ q in
            let n : next w c ≡ change (view m.head m.lent) c = rw q (ap (λ (x : State). change x c) (sym k.viewed)) in
            subst (λ (x : Held). Holds s x (next w c)) (ap (λ (v : State). held (counted m.head v) (written_over v m.lent)) n ∙ sym (rw p)) (laid_back (next w c) g d)
        go (suc r) q =
            let p : row_of m.head m.lent c ≡ suc r = held_row c ∙ q in
            let n : w ≡ next w c = rw q in
            subst (λ (x : Held). Holds s x (next w c)) (sym (rw p)) (subst (λ (v : State). Holds s m v) n k)

    saved_by : (out : List ℕ) → saved_to m out ≡ fitted (render w) out
    saved_by out = saved_fitted m.head m.lent savable out ∙ ap (λ (x : State). fitted (render x) out) k.viewed

  -- ---- any list of calls

  pub settings_kept : (cs : List Call) → (run (fresh s) cs).settings ≡ s
  unfolding history_state
  settings_kept cs = ap (λ (w : State). w.settings) (run_history s (k>0_of s ok) cs)

  pub record Runs (m : Held) (w : State) (cs : List Call) : Type 0 where
    pub holds : Holds s (held_run m cs) (run w cs)
    pub says : held_answers m cs ≡ answers w cs
    pub tells : (room : List Float) → held_panels room m cs ≡ panels room w cs
    pub shows : held_shown m cs ≡ shown w cs

  pub runs_held : (m : Held) (done cs : List Call) → All Machine done → All Machine cs → Holds s m (run (fresh s) done) → Runs m (run (fresh s) done) cs
  runs_held m done [] md mc k =
      let w = run (fresh s) done in
      record {
        holds = k;
        says = refl;
        tells = λ room. λ i. held_panel m w k (run_form s ok done md) (settings_kept done) room i ∷ [];
        shows = λ i. held_shown_lem m w k (run_form s ok done md) (settings_kept done) i ∷ [];
      }
  runs_held m done (c ∷ cs) md mc k =
      let w = run (fresh s) done in
      let n : run (fresh s) (done ++ (c ∷ [])) ≡ next w c = run_append (fresh s) done (c ∷ []) in
      let ma : All Machine (done ++ (c ∷ [])) = all_append _ done (c ∷ []) md (mc.0, tt) in
      let g : Form (next w c) = subst Form n (run_form s ok (done ++ (c ∷ [])) ma) in
      let d : (next w c).settings ≡ s = ap (λ (x : State). x.settings) (sym n) ∙ settings_kept (done ++ (c ∷ [])) in
      let j : Holds s (held_next m c) (next w c) = held_next_lem m w k (run_form s ok done md) (settings_kept done) c g d in
      let r : Runs (held_next m c) (run (fresh s) (done ++ (c ∷ []))) cs = runs_held (held_next m c) (done ++ (c ∷ [])) cs ma mc.1 (subst (λ (x : State). Holds s (held_next m c) x) (sym n) j) in
      record {
        holds = subst (λ (x : State). Holds s (held_run (held_next m c) cs) (run x cs)) n r.holds;
        says = λ i. held_answer_lem m w k (run_form s ok done md) (settings_kept done) c i ∷ (r.says ∙ ap (λ (x : State). answers x cs) n) i;
        tells = λ room. λ i. held_panel m w k (run_form s ok done md) (settings_kept done) room i ∷ (r.tells room ∙ ap (λ (x : State). panels room x cs) n) i;
        shows = λ i. held_shown_lem m w k (run_form s ok done md) (settings_kept done) i ∷ (r.shows ∙ ap (λ (x : State). shown x cs) n) i;
      }

  -- what the getters answer after the calls `before`
  shown_since : (before after : List Call) → shown (run (fresh s) before) after ≡ history_shown s (entries s before) after
  unfolding entries
  shown_since before after =
      let k>0 = k>0_of s ok in
      ap (λ (w : State). shown w after) (run_history s k>0 before) ∙ shown_from s k>0 (entries s before) (runs s k>0 [] (begins s k>0) before).1 after

  -- ---- built, and taken up

  module _ (l : Lent) (room : lent_short s l ≡ false) where
    new_row : lent_row (head_from s) l ≡ 0
    unfolding lent_row short_row counters_unfit
    new_row = rw (none (waiting (settings_of (head_from s)) 0)) (ap (λ (b : Bool). first_of ((b, 20) ∷ [])) (ap (λ (x : Settings). lent_short x l) (settings_are s ok) ∙ room))
      where
        -- nothing is counted yet, so that nothing is counted wrong
        none : (b : Bool) → cond b false false ≡ false
        none true = refl
        none false = refl

    built_as : build_of s l ≡ outcome 0 (head_from s) (written_over (fresh s) l)
    unfolding build_of build_row
    built_as = rw (ok.unrefused, new_row)

    pub built_holds : Holds s (built_on s l) (fresh s)
    unfolding fresh
    built_holds =
        let f : Form (fresh s) = run_form s ok [] tt in
        subst (λ (x : Outcome). Holds s (held x.head x.lent) (fresh s)) (sym built_as)
        (record { viewed = restored_view [] [] l (fresh s) f; settled = settings_are s ok; room = laid_short (fresh s) f l room; counts = refl })

    pub restored_holds : (w : State) → Form w → w.settings ≡ s → (t : List ℕ) → render w ≡ t → Holds s (restored_on t s.codes l) w
    restored_holds w f e t h =
        let room' : lent_short w.settings l ≡ false = subst (λ (x : Settings). lent_short x l ≡ false) (sym e) room in
        let o = restored_as t s.codes l w f (subst (TextOf w) h (put_away_lem w)) (ap (λ (x : Settings). x.codes) e) room' in
        subst (λ (x : restore.RestoreOutcome). Holds s (held x.head x.lent) w) (sym o)
        (record {
          viewed = restored_view t s.codes l w f;
          settled = settings_are w.settings f.valid ∙ e;
          room = subst (λ (x : Settings). lent_short x (written_over w l) ≡ false) e (laid_short w f l room');
          counts = refl;
        })

-- ---- the statement

held_append : (m : Held) (a b : List Call) → held_run m (a ++ b) ≡ held_run (held_run m a) b
held_append m [] b = refl
held_append m (c ∷ a) b = held_append (held_next m c) a b

fits_in : (t out : List ℕ) → length t ≤ length out → fitted t out ≡ save.save_outcome 0 (length t) (over out t)
unfolding fitted
fits_in t out h = rw (le-ltb (length out) (length t) h)

text_over : (t out : List ℕ) → take (length t) (over out t) ≡ t
unfolding over
text_over t out = take-append_seam t (drop (length t) out)

pub held_demand_3 : HeldDemand3
held_demand_3 s ok before after mb ma first second r₁ r₂ out last long =
    let w : State = run (fresh s) before in
    let f : Form w = run_form s ok before mb in
    let e : w.settings ≡ s = settings_kept s ok before in
    let M : Held = held_run (built_on s first) before in
    let k : Holds s M w = (runs_held s ok (built_on s first) [] before tt mb (built_holds s ok first r₁)).holds in
    let v : saved_to M out ≡ fitted (render w) out = saved_by s ok M w k f e out in
    let x : render w ≡ history_text s before = text_history s ok before mb in
    let o : fitted (render w) out ≡ save.save_outcome 0 (length (render w)) (over out (render w)) = fits_in (render w) out (subst (λ (t : List ℕ). length t ≤ length out) (sym x) long) in
    let t : text_in M out ≡ render w = ap (λ (y : save.SaveOutcome). take y.length y.bytes) (v ∙ o) ∙ text_over (render w) out in
    let N : Held = restored_on (text_in M out) s.codes second in
    let j : Holds s N w = restored_holds s ok second r₂ w f e (text_in M out) (sym t) in
    let p : Runs s ok M w after = runs_held s ok M before after mb ma k in
    let q : Runs s ok N w after = runs_held s ok N before after mb ma j in
    let all : All Machine (before ++ after) = all_append _ before after mb ma in
    let whole : Runs s ok (built_on s first) (fresh s) (before ++ after) = runs_held s ok (built_on s first) [] (before ++ after) tt all (built_holds s ok first r₁) in
    let g : Form (run w after) = subst Form (run_append (fresh s) before after) (run_form s ok (before ++ after) all) in
    let d : (run w after).settings ≡ s = ap (λ (y : State). y.settings) (sym (run_append (fresh s) before after)) ∙ settings_kept s ok (before ++ after) in
    record {
      builds = ap (λ (y : Outcome). y.row) (built_as s ok first r₁);
      saves = ap (λ (y : save.SaveOutcome). y.row) (v ∙ o);
      text = t ∙ x;
      restores = ap (λ (y : restore.RestoreOutcome). y.row) (restored_as (text_in M out) s.codes second w f (subst (TextOf w) (sym t) (put_away_lem w)) (ap (λ (y : Settings). y.codes) e)
          (subst (λ (y : Settings). lent_short y second ≡ false) (sym e) r₂));
      same_answers = q.says ∙ sym p.says;
      ruled_answers = q.says ∙ ((restart s ok before after mb).every w (restorable s ok before mb)).ruled_answers;
      same_text = saved_by s ok (held_run N after) (run w after) q.holds g d last
          ∙ sym (ap (λ (y : Held). saved_to y last) (held_append (built_on s first) before after) ∙ saved_by s ok (held_run M after) (run w after) p.holds g d last);
      fed_panels = λ room h. q.tells room ∙ ((restart s ok before after mb).every w (restorable s ok before mb)).fed_panels room h;
      first_panels = λ room h. whole.tells room ∙ panels_history s (k>0_of s ok) room h (before ++ after);
      fed_shown = q.shows ∙ shown_since s ok before after;
      first_shown = whole.shows ∙ shown_history s (k>0_of s ok) (before ++ after);
    }
