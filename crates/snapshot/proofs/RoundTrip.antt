-- What the promises of `save` and `restore` say together: demand 2's "exactly when", and both ways round.
use Prim.Native.Nat.{ℕ, ◌+◌, ◌*◌, ◌≤◌}
use native.Mathlib.Omega.{arith}
use mathlib.Core.Path.{◌≡◌, refl, sym, ap, ◌∙◌, subst}
use mathlib.Core.Bool.{Bool, true, false, not, ◌||◌, cond, false≢true}
use mathlib.Core.List.{List, []}
use mathlib.Core.Logic.{◌⊎◌, inl, inr}
use lib.ListN.{length, take, replicate}
use Rattle.trcf.specs.Transformer.{zero32}
use lib.Dec.{ltb, eqb}
use borrow.Author.Tests.{eqb-true, ltb-true, ltb-false, le-ltb, lt-leb, leb-false}
use Rattle.trcf.specs.Settings.{Settings, Valid, waiting, dimension}
use Rattle.trcf.specs.Preprocessor.{State, statistics_length}
use Rattle.trcf.specs.Types.{augments, normalizes}
use Rattle.trcf.specs.View.{Lent, settings_of, view, head_from, counted, written_over, initial_room, lent_short}
use Rattle.trcf.specs.declared.head.Preprocessor.{Preprocessor}
use Rattle.trcf.proofs.DrainLaws.{front_over}
use Rattle.trcf.proofs.ShingleLaws.{length_over}
use Rattle.trcf.proofs.ViewLaws.{Shaped, view_laid}
use Rattle.refusal.specs.Lent.{over}
use Rattle.snapshot.specs.Text.{render, TextOf}
use Rattle.snapshot.specs.Form.{Form}
use Rattle.snapshot.specs.Read.{Read, taken, bad, same, with_lists, read, carries, with_channel_line, FirstBad}
use Rattle.snapshot.specs.Save.{past, in_use_short, save_of}
use Rattle.snapshot.specs.Save as saving
use Rattle.snapshot.specs.Restore.{RestoreOutcome, restore_outcome, restored, restore_of}
use Rattle.snapshot.specs.Steps.Runs.{Few, Room}
use Rattle.trcf.proofs.RefusalLaws.{room_start, room_normalizing}
use Rattle.snapshot.proofs.Lists.{and_left, and_right}
use Rattle.snapshot.proofs.Accepted.{rows_of}
use Rattle.snapshot.proofs.ReadLine.{same_refl, same_eq}
use Rattle.snapshot.proofs.Kept.{text_kept}
use Rattle.snapshot.proofs.ReadText.{read_sound, read_exactly, read_first_bad}
use Rattle.snapshot.proofs.SaveLaws.{Held}
use Rattle.snapshot.proofs.BodyLaws.{dimension_is, room_of}
use Rattle.snapshot.specs.Savable.{taken_up, SavedIsTakenUp}
use Rattle.snapshot.proofs.SaveForm.{Savable, saved_fitted, savable_of, saved_form, form_savable}
use Rattle.snapshot.proofs.SaveRead.{saved, saved_text, saved_read}

-- ---- a state of the form, and a head for it

not_true : (b : Bool) → not b ≡ false → b ≡ true
not_true true e = refl
not_true false e = absurd (false≢true (sym e))

pub weights_are : (s : Settings) → Valid s → length s.weights ≡ s.d
weights_are s v = eqb-true (length s.weights) s.d (and_left _ _ (not_true _ (rows_of s v.unrefused).1.1.1.1.0))

pub codes_are : (s : Settings) → Valid s → length s.codes ≡ s.d
codes_are s v = eqb-true (length s.codes) s.d (and_right (eqb (length s.weights) s.d) _ (not_true _ (rows_of s v.unrefused).1.1.1.1.0))

pub settings_are : (s : Settings) → Valid s → settings_of (head_from s) ≡ s
settings_are s v = λ i. with_lists s (front_over (replicate 16 zero32) s.weights s.d (weights_are s v) i) (front_over (replicate 16 0) s.codes s.d (codes_are s v) i)

pub shaped_of : (w : State) → Form w → Shaped (head_from w.settings) w
shaped_of w f =
    record {
      settled = sym (settings_are w.settings f.valid);
      statistics_length_lem = f.statistics_long;
      input_length = f.input_long;
      point_length_lem = f.point_long ∙ ap dimension (sym (settings_are w.settings f.valid));
      times_length = f.times_long;
      values_length = f.initial_long;
    }

-- ---- taking up

module _ (t cs : List ℕ) (l : Lent) where
  -- "taken up with w exactly when the text is one of w", the codes are those expected, and the lent lists are long enough
  pub restored_as : (w : State) → Form w → TextOf w t → w.settings.codes ≡ cs → lent_short w.settings l ≡ false
      → restore_of t cs l ≡ restore_outcome 0 0 (counted (head_from w.settings) w) (written_over w l)
  unfolding restore_of restored
  restored_as w f x e h = rw (read_exactly t w f x, sym e, same_refl w.settings.codes, h)

  pub restored_view : (w : State) → Form w → view (counted (head_from w.settings) w) (written_over w l) ≡ w
  restored_view w f = view_laid (head_from w.settings) l w (shaped_of w f)

  pub record Taken (o : RestoreOutcome) : Type 0 where
    pub state : State
    pub form : Form state
    pub text : TextOf state t
    pub agree : state.settings.codes ≡ cs
    pub room : lent_short state.settings l ≡ false
    pub held : view o.head o.lent ≡ state

  pub restored_only : (restore_of t cs l).row ≡ 0 → Taken (restore_of t cs l)
  unfolding restore_of restored
  restored_only h = go (read t) refl h
    where
      go : (r : Read) → read t ≡ r → (restored r cs l).row ≡ 0 → Taken (restored (read t) cs l)
      go (bad n) e k = absurd (omega (arith, k))
      go (taken w) e k = fit (same w.settings.codes cs) (lent_short w.settings l) refl refl
        where
          fit : (a b : Bool) → same w.settings.codes cs ≡ a → lent_short w.settings l ≡ b → Taken (restored (read t) cs l)
          fit false b u i = absurd (let q : ◌≡◌ {A = ℕ} 27 0 = (rw u at k) in omega (arith, q))
          fit true true u i = absurd (let q : ◌≡◌ {A = ℕ} 20 0 = (rw (u, i) at k) in omega (arith, q))
          fit true false u i =
              let f = read_sound t w e in
              record {
                state = w;
                form = f.0;
                text = f.1;
                agree = same_eq w.settings.codes cs u;
                room = i;
                held = rw (e, u, i) (restored_view w f.0);
              }

  -- 19 tells the first line after which no text of the form could begin with what was read, and leaves all as it was
  pub refused_line : (restore_of t cs l).row ≡ 19 → FirstBad (restore_of t cs l).line t × ((restore_of t cs l).lent ≡ l)
  unfolding restore_of restored
  refused_line h = go (read t) refl h
    where
      go : (r : Read) → read t ≡ r → (restored r cs l).row ≡ 19 → FirstBad (restored (read t) cs l).line t × ((restored (read t) cs l).lent ≡ l)
      go (bad n) e k = rw e (read_first_bad t n e, refl)
      go (taken w) e k = fit (same w.settings.codes cs) (lent_short w.settings l) refl refl
        where
          fit : (a b : Bool) → same w.settings.codes cs ≡ a → lent_short w.settings l ≡ b → FirstBad (restored (read t) cs l).line t × ((restored (read t) cs l).lent ≡ l)
          fit false b u i = absurd (let q : ◌≡◌ {A = ℕ} 27 19 = (rw u at k) in omega (arith, q))
          fit true true u i = absurd (let q : ◌≡◌ {A = ℕ} 20 19 = (rw (u, i) at k) in omega (arith, q))
          fit true false u i = absurd (let q : ◌≡◌ {A = ℕ} 0 19 = (rw (u, i) at k) in omega (arith, q))

  -- 27 says that a text of the form has other codes, and leaves all as it was
  pub refused_codes : (restore_of t cs l).row ≡ 27 → ((w : State) × Form w × TextOf w t × (w.settings.codes ≡ cs → ⊥)) × ((restore_of t cs l).lent ≡ l)
  unfolding restore_of restored
  refused_codes h = go (read t) refl h
    where
      go : (r : Read) → read t ≡ r → (restored r cs l).row ≡ 27 → ((w : State) × Form w × TextOf w t × (w.settings.codes ≡ cs → ⊥)) × ((restored (read t) cs l).lent ≡ l)
      go (bad n) e k = absurd (let q : ◌≡◌ {A = ℕ} 19 27 = k in omega (arith, q))
      go (taken w) e k = fit (same w.settings.codes cs) (lent_short w.settings l) refl refl
        where
          fit : (a b : Bool) → same w.settings.codes cs ≡ a → lent_short w.settings l ≡ b → ((w : State) × Form w × TextOf w t × (w.settings.codes ≡ cs → ⊥)) ×
              ((restored (read t) cs l).lent ≡ l)
          fit false b u i =
              let f = read_sound t w e in
              ((w, f.0, f.1, λ q. false≢true (sym u ∙ subst (λ (x : List ℕ). same w.settings.codes x ≡ true) q (same_refl w.settings.codes))), rw (e, u))
          fit true true u i = absurd (let q : ◌≡◌ {A = ℕ} 20 27 = (rw (u, i) at k) in omega (arith, q))
          fit true false u i = absurd (let q : ◌≡◌ {A = ℕ} 0 27 = (rw (u, i) at k) in omega (arith, q))

-- ---- restoring what was saved gives the same state, whatever the second memory held

module _ (h : Preprocessor) (l : Lent) (out : List ℕ) (held : in_use_short h l ≡ false) (room : length (render (view h l)) ≤ length out) (f : Form (view h l)) (l₂ : Lent)
    (room₂ : lent_short (view h l).settings l₂ ≡ false) where
  abbrev pub Again : RestoreOutcome
  Again = restore_of (take (save_of h l out).length (save_of h l out).bytes) (view h l).settings.codes l₂

  pub again_is : Again ≡ restore_outcome 0 0 (counted (head_from (view h l).settings) (view h l)) (written_over (view h l) l₂)
  unfolding restore_of restored
  again_is = rw (saved_read h l out (form_savable h l f held) room f, same_refl (view h l).settings.codes, room₂)

  pub saved_restored : (Again.row ≡ 0) × (view Again.head Again.lent ≡ view h l)
  saved_restored = rw again_is (refl, restored_view (render (view h l)) (view h l).settings.codes l₂ (view h l) f)

-- ---- saving what was restored gives the same bytes

pub few_of : (s : Settings) → Valid s → Few s.d s.k s.start
few_of s v =
    let c = rows_of s v.unrefused in
    let w = neither (ltb 16 s.d) (ltb 64 s.k) c.1.1.1.0 in
    record {
      d_few = ltb-false 16 s.d w.0;
      k_few = ltb-false 64 s.k w.1;
      start_few = leb-false 2000 s.start c.1.1.1.1.1.1.1.0;
    }
  where
    neither : (a b : Bool) → a || b ≡ false → (a ≡ false) × (b ≡ false)
    neither true b e = absurd (false≢true (sym e))
    neither false b e = (refl, e)

-- never more than can wait
pub initial_room_lem : (w : State) → Form w → length w.initial_timestamps ≤ initial_room w.settings
unfolding waiting
initial_room_lem w f = go (waiting w.settings w.values_seen) refl
  where
    some_few : (w.initial_timestamps ≡ []) ⊎ ((normalizes w.settings.method ≡ true) × (length w.initial_timestamps ≡ w.settings.start) ×
        (w.values_seen ≡ w.settings.start → w.internal_timestamp ≡ 0))
        → length w.initial_timestamps ≤ initial_room w.settings
    some_few (inl e) = rw e (omega arith)
    some_few (inr e) = omega (arith, e.1, room_normalizing w.settings e.0)

    go : (b : Bool) → waiting w.settings w.values_seen ≡ b → length w.initial_timestamps ≤ initial_room w.settings
    go true e =
        let k = ltb-true w.values_seen w.settings.start (and_right (normalizes w.settings.method) _ e) in
        omega (arith, (f.while_waiting e).0, k, room_normalizing w.settings (and_left (normalizes w.settings.method) _ e))
    go false e = some_few (f.later e)

pub initial_few : (w : State) → Form w → length w.initial_timestamps ≤ w.settings.start
initial_few w f = omega (arith, initial_room_lem w f, room_start w.settings)

pub past_not : (d k wide n a b c e f g : ℕ) → Held d k wide n a b c e f g → past d k wide n a b c e f g ≡ false
past_not d k wide n a b c e f g h =
    rw (
      le-ltb 16 d h.d_few,
      le-ltb 64 k h.k_few,
      lt-leb 2000 n (omega (arith, h.n_few)),
      le-ltb a (3 * (5 * d + 5)) h.in_statistics,
      le-ltb b (d * k) h.in_input,
      le-ltb c
          ((d + wide) * k) h.in_point,
      le-ltb e k h.in_times,
      le-ltb f (n * d) h.in_values,
      le-ltb g n h.in_initial,
    )

module _ (w : State) (f : Form w) (l : Lent) (room : lent_short w.settings l ≡ false) where
  laid_room : Room (head_from w.settings) (length w.initial_timestamps) (length l.statistics) (length l.last_shingled_input) (length l.last_shingled_point) (length l.previous_timestamps)
      (length l.initial_values) (length l.initial_timestamps)
  laid_room =
      room_of (head_from w.settings) l (length w.initial_timestamps) (few_of w.settings f.valid)
      (ap (λ (s : Settings). lent_short s l) (settings_are w.settings f.valid) ∙ room) (initial_room_lem w f)

  -- no list is shorter afterwards
  pub laid_short : lent_short w.settings (written_over w l) ≡ false
  unfolding written_over lent_short
  laid_short =
      let r = laid_room in
      let s = w.settings in
      let p = subst (λ (t : Settings). dimension t ≤ length l.last_shingled_point) (settings_are s f.valid) r.in_point in
      (λ i.
      ltb (length_over l.statistics w.statistics (omega (arith, f.statistics_long, r.in_statistics)) i) (statistics_length s)
      || (ltb (length_over l.last_shingled_input w.last_shingled_input (fits f.input_long r.in_input) i) (s.d * s.k)
      || (ltb (length_over l.last_shingled_point w.last_shingled_point (fits f.point_long p) i) (dimension s)
      || (ltb (length_over l.previous_timestamps w.previous_timestamps (fits f.times_long r.in_times) i) s.k
      || (ltb (length_over l.initial_values w.initial_values (fits f.initial_long r.in_values) i) (initial_room s * s.d)
      || ltb (length_over l.initial_timestamps w.initial_timestamps r.in_initial i) (initial_room s))))))
      ∙ room
    where
      fits : {a n m : ℕ} → a ≡ n → n ≤ m → a ≤ m
      fits e h = omega (arith, e, h)

  pub laid_held : in_use_short (counted (head_from w.settings) w) (written_over w l) ≡ false
  unfolding in_use_short written_over
  laid_held =
      let r = laid_room in
      let s = w.settings in
      let d = s.d in
      let wide : ℕ = cond (augments s.mode) 1 0 in
      let p = subst (λ (x : ℕ). x ≤ length l.last_shingled_point) (sym (dimension_is (settings_of (head_from s)) wide refl)) r.in_point in
      let q = subst (λ (x : ℕ). x ≤ length l.initial_values) (sym f.initial_long) r.in_values in
      let y = f.point_long ∙ ap dimension (sym (settings_are s f.valid)) ∙ sym (dimension_is (settings_of (head_from s)) wide refl) in
      past_not d s.k wide (length w.initial_timestamps) _ _ _ _ _ _
      (record {
        d_few = r.d_few;
        k_few = r.k_few;
        n_few = omega (arith, initial_few w f, (few_of s f.valid).start_few);
        in_statistics = stays l.statistics w.statistics (3 * (5 * d + 5)) f.statistics_long r.in_statistics;
        in_input = stays l.last_shingled_input w.last_shingled_input (d * s.k) f.input_long r.in_input;
        in_point = stays l.last_shingled_point w.last_shingled_point ((d + wide) * s.k) y p;
        in_times = stays l.previous_timestamps w.previous_timestamps s.k f.times_long r.in_times;
        in_values = stays l.initial_values w.initial_values (length w.initial_timestamps * d) f.initial_long r.in_values;
        in_initial = stays l.initial_timestamps w.initial_timestamps (length w.initial_timestamps) refl r.in_initial;
      })
    where
      stays : {A : Type 0} (l v : List A) (n : ℕ) → length v ≡ n → n ≤ length l → n ≤ length (over l v)
      stays l v n e h = subst (λ (m : ℕ). n ≤ m) (sym (length_over l v (omega (arith, e, h)))) h

-- the same bytes; or, of a text that lacks the codes' line, the text with a line of as many zeros as there are channels
module _ (t cs : List ℕ) (l : Lent) (h : (restore_of t cs l).row ≡ 0) (out : List ℕ) (long : length (with_channel_line (length cs) t) ≤ length out) where
  pub restored_saved : save_of (restore_of t cs l).head (restore_of t cs l).lent out ≡ saving.save_outcome 0 (length (with_channel_line (length cs) t)) (over out (with_channel_line (length cs) t))
  restored_saved =
      let k = restored_only t cs l h in
      let w = k.state in
      let o : restore_of t cs l ≡ restore_outcome 0 0 (counted (head_from w.settings) w) (written_over w l) = restored_as t cs l w k.form k.text k.agree k.room in
      let u : in_use_short (restore_of t cs l).head (restore_of t cs l).lent ≡ false = ap (λ (x : RestoreOutcome). in_use_short x.head x.lent) o ∙ laid_held w k.form l k.room in
      let n : w.settings.d ≡ length cs = sym (codes_are w.settings k.form.valid) ∙ ap length k.agree in
      let e : render (view (restore_of t cs l).head (restore_of t cs l).lent) ≡ with_channel_line (length cs) t = ap render k.held ∙ text_kept t w k.text ∙ ap (λ (d : ℕ). with_channel_line d t) n in
      saved (restore_of t cs l).head (restore_of t cs l).lent out (form_savable _ _ (subst Form (sym k.held) k.form) u) (subst (λ (x : List ℕ). length x ≤ length out) (sym e) long)
      ∙ ap (λ (x : List ℕ). saving.save_outcome 0 (length x) (over out x)) e

  -- "Every other accepted text still returns its bytes."
  pub restored_same : carries t ≡ true → save_of (restore_of t cs l).head (restore_of t cs l).lent out ≡ saving.save_outcome 0 (length t) (over out t)
  unfolding with_channel_line
  restored_same c = let e : with_channel_line (length cs) t ≡ t = rw c in restored_saved ∙ ap (λ (x : List ℕ). saving.save_outcome 0 (length x) (over out x)) e

-- ---- what was put away is taken up, of any head and any memory

-- a text that was not refused for want of room had it
room_for : (t out : List ℕ) → (saving.fitted t out).row ≡ 0 → length t ≤ length out
unfolding saving.fitted
room_for t out e = go (ltb (length out) (length t)) refl
  where
    go : (b : Bool) → ltb (length out) (length t) ≡ b → length t ≤ length out
    go true q = absurd (let z : ◌≡◌ {A = ℕ} 20 0 = (rw q at e) in omega (arith, z))
    go false q = ltb-false (length out) (length t) q

short : (h : Preprocessor) (l m : Lent) → lent_short (settings_of h) m ≡ false → lent_short (view h l).settings m ≡ false
unfolding view
short h l m q = q

pub saved_is_taken_up : SavedIsTakenUp
unfolding view
saved_is_taken_up h l m out e l₂ r again =
    let k : Savable h l = savable_of h l out e in
    let f : Form (view h l) = saved_form h l m k in
    let room : length (render (view h l)) ≤ length out = room_for (render (view h l)) out (ap (λ (o : saving.SaveOutcome). o.row) (sym (saved_fitted h l k out)) ∙ e) in
    let p = saved_restored h l out k.held room f l₂ (short h l l₂ r) in
    let o = again_is h l out k.held room f l₂ (short h l l₂ r) in
    let u : in_use_short (taken_up h l out l₂).head (taken_up h l out l₂).lent ≡ false = ap (λ (x : RestoreOutcome). in_use_short x.head x.lent) o ∙ laid_held (view h l) f l₂ (short h l l₂ r) in
    let k₂ : Savable (taken_up h l out l₂).head (taken_up h l out l₂).lent = form_savable _ _ (subst Form (sym p.1) f) u in
    record {
      accepted = p.0;
      same_state = p.1;
      same_text =
          saved_fitted (taken_up h l out l₂).head (taken_up h l out l₂).lent k₂ again
          ∙ ap (λ (x : State). saving.fitted (render x) again) p.1
          ∙ ap (λ (t : List ℕ). saving.fitted t again) (sym (saved_text h l out k room));
    }
