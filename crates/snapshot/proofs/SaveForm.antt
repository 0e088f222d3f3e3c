-- What `save` accepts has the form of a text, and whatever has that form is accepted. Assumes nothing.
use Prim.Native.Nat.{ℕ, zero, suc, ◌*◌, ◌≤◌}
use native.Mathlib.Omega.{arith}
use mathlib.Core.Path.{◌≡◌, refl, sym, ap, ◌∙◌, subst}
use mathlib.Core.Bool.{Bool, true, false, cond, not, ◌&&◌, ◌||◌}
use mathlib.Core.List.{List, []}
use mathlib.Core.Logic.{◌⊎◌, inl, inr}
use lib.Dec.{eqb}
use lib.ListN.{length, take, replicate}
use lib.Seq.{length-take-le}
use borrow.Author.Tests.{eq-eqb, eqb-true}
use Rattle.trcf.specs.Types.{augments, normalizes}
use Rattle.trcf.specs.Settings.{settings_row, dimension}
use Rattle.trcf.specs.Calls.{finite}
use Rattle.trcf.specs.Preprocessor.{statistics_length}
use Rattle.trcf.specs.View.{Lent, settings_of, view, counters_unfit}
use Rattle.trcf.specs.declared.head.Preprocessor.{Preprocessor}
use Rattle.trcf.proofs.FitLaws.{all_take}
use Rattle.trcf.proofs.RefusalLaws.{Counted, counted_of, miscounted_not}
use Rattle.snapshot.specs.Text.{render}
use Rattle.snapshot.specs.Form.{Form}
use Rattle.snapshot.specs.Read.{climbs, zeros}
use Rattle.snapshot.specs.Save.{in_use_short, unformed, fitted, held_save, save_of}
use Rattle.snapshot.specs.Savable.{InMemory}
use Rattle.snapshot.proofs.ReadKinds.{climbs_of, to_climbs, zeros_of, to_zeros}
use Rattle.snapshot.proofs.SaveLaws.{Held, held_of}
use Rattle.snapshot.proofs.BodyLaws.{dimension_is}

or_left : (a b : Bool) → (a || b) ≡ false → a ≡ false
or_left true b e = e
or_left false b e = refl

or_right : (a b : Bool) → (a || b) ≡ false → b ≡ false
or_right true b e = cc
or_right false b e = e

not_not : (b : Bool) → not b ≡ false → b ≡ true
not_not true e = refl
not_not false e = sym e

and_second : (a b : Bool) → (a && b) ≡ false → a ≡ true → b ≡ false
and_second true b e t = e
and_second false b e t = cc

and_none : (b : Bool) → (b && false) ≡ false
and_none true = refl
and_none false = refl

module _ (h : Preprocessor) (l : Lent) where
  -- nothing refuses, but for room
  pub record Savable : Type 0 where
    pub settled : settings_row (settings_of h) ≡ 0
    pub counted : counters_unfit h ≡ false
    pub held : in_use_short h l ≡ false
    pub formed : unformed (view h l) ≡ false

  pub saved_fitted : Savable → (out : List ℕ) → save_of h l out ≡ fitted (render (view h l)) out
  unfolding save_of held_save
  saved_fitted k out = rw (k.settled, k.counted, k.held, k.formed)

  pub savable_of : (out : List ℕ) → (save_of h l out).row ≡ 0 → Savable
  unfolding save_of held_save
  savable_of out e = go (settings_row (settings_of h)) (counters_unfit h) (in_use_short h l) (unformed (view h l)) refl refl refl refl
    where
      go : (r : ℕ) (a b c : Bool) → settings_row (settings_of h) ≡ r → counters_unfit h ≡ a → in_use_short h l ≡ b → unformed (view h l) ≡ c → Savable
      go (suc r) a b c p q u v = absurd (let z : ◌≡◌ {A = ℕ} (suc r) 0 = (rw p at e) in omega (arith, z))
      go zero true b c p q u v = absurd (let z : ◌≡◌ {A = ℕ} 19 0 = (rw (p, q) at e) in omega (arith, z))
      go zero false true c p q u v = absurd (let z : ◌≡◌ {A = ℕ} 20 0 = (rw (p, q, u) at e) in omega (arith, z))
      go zero false false true p q u v = absurd (let z : ◌≡◌ {A = ℕ} 19 0 = (rw (p, q, u, v) at e) in omega (arith, z))
      go zero false false false p q u v = record { settled = p; counted = q; held = u; formed = v }

  -- ---- what the lent lists hold

  abbrev wide : ℕ
  wide = cond (augments h.forest_mode) 1 0

  holds : in_use_short h l ≡ false
      → Held h.transformer.input_length h.shingle_size wide h.initial_len (length l.statistics) (length l.last_shingled_input)
      (length l.last_shingled_point) (length l.previous_timestamps) (length l.initial_values) (length l.initial_timestamps)
  unfolding in_use_short
  holds e = held_of h.transformer.input_length h.shingle_size wide h.initial_len _ _ _ _ _ _ e

  module _ (e : in_use_short h l ≡ false) where
    pub initial_is : length (view h l).initial_timestamps ≡ h.initial_len
    unfolding view
    initial_is = length-take-le h.initial_len l.initial_timestamps (holds e).in_initial

    times_are : length (view h l).previous_timestamps ≡ h.shingle_size
    unfolding view
    times_are = length-take-le h.shingle_size l.previous_timestamps (holds e).in_times

    values_are : length (view h l).initial_values ≡ length (view h l).initial_timestamps * h.transformer.input_length
    unfolding view
    values_are =
        length-take-le (h.initial_len * h.transformer.input_length) l.initial_values (holds e).in_values
        ∙ ap (λ (n : ℕ). n * h.transformer.input_length) (sym initial_is)

    point_is : length (view h l).last_shingled_point ≡ dimension (settings_of h)
    unfolding view
    point_is =
        length-take-le (dimension (settings_of h)) l.last_shingled_point
        (subst (λ (x : ℕ). x ≤ length l.last_shingled_point) (dimension_is (settings_of h) wide refl) (holds e).in_point)

  -- ---- what is accepted has the form

  counts : counters_unfit h ≡ false → Counted (settings_of h) h.values_seen h.internal_timestamp h.transformer.count h.initial_len
  unfolding counters_unfit
  counts e = counted_of (settings_of h) h.values_seen h.internal_timestamp h.transformer.count h.initial_len e

  module _ (m : InMemory h l) (k : Savable) where
    climbing : climbs 0 (view h l).previous_timestamps ≡ true
    unfolding unformed
    climbing = not_not (climbs 0 (view h l).previous_timestamps) (or_left _ _ k.formed)

    resting : eqb (view h l).internal_timestamp 0 ≡ true → zeros (view h l).previous_timestamps ≡ true
    unfolding unformed
    resting z =
        let r = or_right (not (climbs 0 (view h l).previous_timestamps)) _ k.formed in
        not_not (zeros (view h l).previous_timestamps) (and_second (eqb (view h l).internal_timestamp 0) _ (or_left _ _ r) z)

    initials : (finite (view h l).initial_values ≡ true) × (climbs 0 (view h l).initial_timestamps ≡ true)
    unfolding unformed
    initials =
        let r = or_right (not (climbs 0 (view h l).previous_timestamps)) _ k.formed in
        let s = or_right (eqb (view h l).internal_timestamp 0 && not (zeros (view h l).previous_timestamps)) _ r in
        (not_not (finite (view h l).initial_values) (or_left _ _ s), not_not (climbs 0 (view h l).initial_timestamps) (or_right (not (finite (view h l).initial_values)) _ s))

    pub saved_form : Form (view h l)
    unfolding view
    saved_form =
        let s = settings_of h in
        let H = holds k.held in
        let c = counts k.counted in
        record {
          valid = record { unrefused = k.settled; machine = m.settings };
          statistics_fit = all_take _ (statistics_length s) l.statistics m.statistics;
          input_fits = all_take _ (s.d * s.k) l.last_shingled_input m.input;
          point_fits = all_take _ (dimension s) l.last_shingled_point m.point;
          initial_fit = all_take _ (h.initial_len * s.d) l.initial_values m.initial;
          times_fit = all_take _ s.k l.previous_timestamps m.times;
          initial_times_fit = all_take _ h.initial_len l.initial_timestamps m.initial_times;
          statistics_long = length-take-le (statistics_length s) l.statistics H.in_statistics;
          input_long = length-take-le (s.d * s.k) l.last_shingled_input H.in_input;
          point_long = point_is k.held;
          times_long = times_are k.held;
          seen_fits = c.seen_few;
          internal_fits = c.internal_few;
          count_fits = c.count_few;
          times_climb = climbs_of 0 (view h l).previous_timestamps climbing;
          times_zero = λ z. zeros_of _ (resting (eq-eqb _ 0 z)) ∙ ap (λ (n : ℕ). replicate n 0) (times_are k.held);
          initial_long = values_are k.held;
          initial_finite = initials.0;
          initial_climb = climbs_of 0 (view h l).initial_timestamps initials.1;
          while_waiting = λ z. (initial_is k.held ∙ (c.while_waiting_lem z).0, (c.while_waiting_lem z).1);
          later = λ z. left (c.later z);
        }
      where
        left : (h.initial_len ≡ 0) ⊎ ((normalizes (settings_of h).method ≡ true) × (h.initial_len ≡ h.start_normalization) ×
            (h.values_seen ≡ h.start_normalization → h.internal_timestamp ≡ 0))
            → (take h.initial_len l.initial_timestamps ≡ [])
            ⊎ ((normalizes (settings_of h).method ≡ true) × (length (take h.initial_len l.initial_timestamps) ≡ h.start_normalization) ×
            (h.values_seen ≡ h.start_normalization → h.internal_timestamp ≡ 0))
        left (inl e) = inl (ap (λ (n : ℕ). take n l.initial_timestamps) e)
        left (inr e) = inr (e.0, length-take-le h.initial_len l.initial_timestamps (holds k.held).in_initial ∙ e.1, e.2)

  -- ---- and what has the form is accepted

  module _ (f : Form (view h l)) (e : in_use_short h l ≡ false) where
    counted_form : counters_unfit h ≡ false
    unfolding counters_unfit view
    counted_form =
        miscounted_not (settings_of h) h.values_seen h.internal_timestamp h.transformer.count h.initial_len
        (record {
          seen_few = f.seen_fits;
          internal_few = f.internal_fits;
          count_few = f.count_fits;
          while_waiting_lem = λ z. (sym (initial_is e) ∙ (f.while_waiting z).0, (f.while_waiting z).1);
          later = λ z. left (f.later z);
        })
      where
        left : ((view h l).initial_timestamps ≡ [])
            ⊎ ((normalizes (settings_of h).method ≡ true) × (length (view h l).initial_timestamps ≡ h.start_normalization) ×
            (h.values_seen ≡ h.start_normalization → h.internal_timestamp ≡ 0))
            → (h.initial_len ≡ 0) ⊎ ((normalizes (settings_of h).method ≡ true) × (h.initial_len ≡ h.start_normalization) ×
            (h.values_seen ≡ h.start_normalization → h.internal_timestamp ≡ 0))
        left (inl q) = inl (sym (initial_is e) ∙ ap length q)
        left (inr q) = inr (q.0, sym (initial_is e) ∙ q.1, q.2)

    formed_form : unformed (view h l) ≡ false
    unfolding unformed
    formed_form =
        rw (to_climbs 0 (view h l).previous_timestamps f.times_climb, f.initial_finite, to_climbs 0 (view h l).initial_timestamps f.initial_climb) (go (eqb (view h l).internal_timestamp 0) refl)
      where
        go : (b : Bool) → eqb (view h l).internal_timestamp 0 ≡ b → ((eqb (view h l).internal_timestamp 0 && not (zeros (view h l).previous_timestamps)) || false) ≡ false
        go false q = rw q
        go true q = rw (q, f.times_zero (eqb-true _ 0 q), to_zeros (view h l).settings.k)

    pub form_savable : Savable
    unfolding view
    form_savable = record { settled = f.valid.unrefused; counted = counted_form; held = e; formed = formed_form }
