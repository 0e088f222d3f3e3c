-- What the rows of a head and of what is lent say. Assumes nothing.
use Prim.Native.Nat.{ℕ, zero, suc, ◌≤◌}
use mathlib.Core.Path.{◌≡◌, refl, sym, ap, ◌∙◌}
use mathlib.Core.Bool.{Bool, true, false, cond, not, ◌&&◌, ◌||◌}
use mathlib.Core.List.{List, [], ◌∷◌, map}
use mathlib.Core.Logic.{◌⊎◌, inl, inr}
use borrow.Author.Tests.{ltb-true, ltb-false, eqb-true, eq-eqb, lt-ltb, le-ltb}
use native.Mathlib.Omega.{arith}
use lib.Dec.{ltb, eqb}
use lib.ListN.{length, take}
use Rattle.trcf.specs.Lists.{null}
use lib.Ieee.{Float}
use Rattle.common.specs.Deviation.{count_limit}
use Rattle.trcf.specs.Types.{normalizes}
use Rattle.trcf.specs.Settings.{Settings, waiting}
use Rattle.trcf.specs.Calls.{seen_limit}
use Rattle.trcf.specs.View.{settings_of, initial_room, left_over, miscounted, counters_unfit, or_else}
use Rattle.trcf.specs.declared.head.Preprocessor.{Preprocessor}

pub or_else_not : (r m : ℕ) → (r ≡ 0 → ⊥) → r ≡ or_else r m
or_else_not zero m n = absurd (n refl)
or_else_not (suc r) m n = refl

not_not : (a : Bool) → not a ≡ false → a ≡ true
not_not true e = refl
not_not false e = sym e

or_both : (a b : Bool) → (a || b) ≡ false → (a ≡ false) × (b ≡ false)
or_both true b e = (e, (cc))
or_both false b e = (refl, e)

and_second : (a b : Bool) → (a && b) ≡ false → a ≡ true → b ≡ false
and_second true b e t = e
and_second false b e t = cc

and_left : (a b : Bool) → (a && b) ≡ true → a ≡ true
and_left true b e = refl
and_left false b e = e

and_right : (a b : Bool) → (a && b) ≡ true → b ≡ true
and_right true b e = e
and_right false b e = cc

-- what counters that are none of these say
pub record Counted (s : Settings) (seen internal count initial : ℕ) : Type 0 where
  pub seen_few : seen ≤ seen_limit
  pub internal_few : internal ≤ seen_limit
  pub count_few : count ≤ count_limit
  pub while_waiting_lem : waiting s seen ≡ true → (initial ≡ seen) × (internal ≡ 0)
  pub later : waiting s seen ≡ false → (initial ≡ 0) ⊎ ((normalizes s.method ≡ true) × (initial ≡ s.start) × (seen ≡ s.start → internal ≡ 0))

module _ (s : Settings) (seen internal count initial : ℕ) where
  abbrev some_left : Bool
  some_left = not (normalizes s.method) || (not (eqb initial s.start) || (eqb seen s.start && not (eqb internal 0)))

  later_of : left_over s seen internal initial ≡ false → (initial ≡ 0) ⊎ ((normalizes s.method ≡ true) × (initial ≡ s.start) × (seen ≡ s.start → internal ≡ 0))
  later_of e = go (eqb initial 0) refl
    where
      go : (b : Bool) → eqb initial 0 ≡ b → (initial ≡ 0) ⊎ ((normalizes s.method ≡ true) × (initial ≡ s.start) × (seen ≡ s.start → internal ≡ 0))
      go true q = inl (eqb-true initial 0 q)
      go false q =
          let f : some_left ≡ false = and_second (not (eqb initial 0)) some_left e (ap not q) in
          let g = or_both (not (normalizes s.method)) _ f in
          let h = or_both (not (eqb initial s.start)) _ g.1 in
          inr (
            not_not (normalizes s.method) g.0,
            eqb-true initial s.start (not_not (eqb initial s.start) h.0),
            λ z. eqb-true internal 0 (not_not (eqb internal 0) (and_second (eqb seen s.start) _ h.1 (eq-eqb seen s.start z))),
          )

  pub counted_of : miscounted s seen internal count initial ≡ false → Counted s seen internal count initial
  counted_of e =
      let a = or_both (ltb seen_limit seen) _ e in
      let b = or_both (ltb seen_limit internal) _ a.1 in
      let c = or_both (ltb count_limit count) _ b.1 in
      record {
        seen_few = ltb-false seen_limit seen a.0;
        internal_few = ltb-false seen_limit internal b.0;
        count_few = ltb-false count_limit count c.0;
        while_waiting_lem = λ w.
            let d : (not (eqb initial seen) || not (eqb internal 0)) ≡ false = (rw w at c).1 in
            let g = or_both (not (eqb initial seen)) (not (eqb internal 0)) d in
            (eqb-true initial seen (not_not (eqb initial seen) g.0), eqb-true internal 0 (not_not (eqb internal 0) g.1));
        later = λ w. later_of (rw w at c).1;
      }

  pub miscounted_not : Counted s seen internal count initial → miscounted s seen internal count initial ≡ false
  miscounted_not k =
      rw (le-ltb seen_limit seen k.seen_few, le-ltb seen_limit internal k.internal_few, le-ltb count_limit count k.count_few) (go (waiting s seen) refl)
    where
      left : (initial ≡ 0) ⊎ ((normalizes s.method ≡ true) × (initial ≡ s.start) × (seen ≡ s.start → internal ≡ 0)) → (not (eqb initial 0) && some_left) ≡ false
      left (inl e) = rw (eq-eqb initial 0 e)
      left (inr e) = rw (e.0, eq-eqb initial s.start e.1) (ends (eqb seen s.start) refl)
        where
          none : (b : Bool) → (b && false) ≡ false
          none true = refl
          none false = refl

          ends : (b : Bool) → eqb seen s.start ≡ b → (not (eqb initial 0) && (eqb seen s.start && not (eqb internal 0))) ≡ false
          ends true q = rw (q, eq-eqb internal 0 (e.2 (eqb-true seen s.start q))) (none (not (eqb initial 0)))
          ends false q = rw q (none (not (eqb initial 0)))

      go : (b : Bool) → waiting s seen ≡ b → cond (waiting s seen) (not (eqb initial seen) || not (eqb internal 0)) (not (eqb initial 0) && some_left) ≡ false
      go true q = let w = k.while_waiting_lem q in rw (q, eq-eqb initial seen w.0, eq-eqb internal 0 w.1)
      go false q = rw q (left (k.later q))

-- what must be lent for readings that wait: start of them where the method waits, else none
module _ (s : Settings) where
  pub room_start : initial_room s ≤ s.start
  room_start = go (normalizes s.method)
    where
      go : (b : Bool) → cond b s.start 0 ≤ s.start
      go true = omega arith
      go false = omega arith

  pub room_normalizing : normalizes s.method ≡ true → initial_room s ≡ s.start
  room_normalizing e = rw e

  pub room_waiting : (seen : ℕ) → waiting s seen ≡ true → initial_room s ≡ s.start
  unfolding waiting
  room_waiting seen e = room_normalizing (and_left (normalizes s.method) _ e)

pub misfit_room : (h : Preprocessor) → counters_unfit h ≡ false → h.initial_len ≤ initial_room (settings_of h)
unfolding counters_unfit waiting
misfit_room h e = go (waiting (settings_of h) h.values_seen) refl
  where
    k : Counted (settings_of h) h.values_seen h.internal_timestamp h.transformer.count h.initial_len
    k = counted_of (settings_of h) h.values_seen h.internal_timestamp h.transformer.count h.initial_len e

    few : (h.initial_len ≡ 0) ⊎ ((normalizes (settings_of h).method ≡ true) × (h.initial_len ≡ h.start_normalization) ×
        (h.values_seen ≡ h.start_normalization → h.internal_timestamp ≡ 0))
        → h.initial_len ≤ initial_room (settings_of h)
    few (inl q) = omega (arith, q)
    few (inr q) = omega (arith, q.1, room_normalizing (settings_of h) q.0)

    go : (b : Bool) → waiting (settings_of h) h.values_seen ≡ b → h.initial_len ≤ initial_room (settings_of h)
    go true q =
        let l = ltb-true h.values_seen h.start_normalization (and_right (normalizes (settings_of h).method) _ q) in
        omega (arith, (k.while_waiting_lem q).0, l, room_waiting (settings_of h) h.values_seen q)
    go false q = few (k.later q)

pub misfit_few : (h : Preprocessor) → counters_unfit h ≡ false → h.initial_len ≤ h.start_normalization
misfit_few h e = omega (arith, misfit_room h e, room_start (settings_of h))

pub misfit_counted : (h : Preprocessor) → counters_unfit h ≡ false → waiting (settings_of h) h.values_seen ≡ true → h.initial_len ≡ h.values_seen
unfolding counters_unfit
misfit_counted h e t = ((counted_of (settings_of h) h.values_seen h.internal_timestamp h.transformer.count h.initial_len e).while_waiting_lem t).0

-- whether any time is lent
pub any_initial : (l : List ℕ) (n : ℕ) → (n ≡ 0 → ⊥) → ltb 0 (length l) ≡ not (null (take n l))
any_initial l zero h = absurd (h refl)
any_initial [] (suc n) h = refl
any_initial (x ∷ l) (suc n) h = lt-ltb 0 (suc (length l)) (omega arith)

-- ---- the sixteen weights and codes of a head

-- what owning a head tells of them
pub sixteen : {A : Type 0} (w : List A) → length (map (λ v. v) w) ≡ 16 → length w ≡ 16
sixteen w h = sym (same w) ∙ h
  where
    same : {A : Type 0} (l : List A) → length (map (λ v. v) l) ≡ length l
    same [] = refl
    same (x ∷ xs) = ap suc (same xs)

-- the settings of a head with its weights and codes handed beside it
abbrev pub settings_by : Preprocessor → List Float → List ℕ → Settings
settings_by h v cs =
    record {
      mode = h.forest_mode;
      method = h.transformer.transform_method;
      d = h.transformer.input_length;
      k = h.shingle_size;
      start = h.start_normalization;
      stop = h.stop_normalization;
      decay = h.transformer.transform_decay;
      weight_time = h.weight_time;
      weights = v;
      codes = cs;
    }
