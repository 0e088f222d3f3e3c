-- The lines after `cnt`: how many `buf` lines are to come, where the text breaks off, and what it gives.
use Prim.Native.Nat.{ℕ, zero, suc, ◌+◌, ◌*◌, ◌≤◌, ◌<◌}
use native.Mathlib.Omega.{arith}
use native.Mathlib.Nat.{mul-le-mul_right}
use mathlib.Core.Path.{◌≡◌, refl, sym, ap, ◌∙◌, subst}
use mathlib.Core.Bool.{Bool, true, false, not, ◌&&◌, ◌||◌, cond}
use mathlib.Core.List.{List, [], ◌∷◌, ◌++◌}
use mathlib.Core.Option.{Option, none, some}
use lib.ListN.{length, take, drop}
use lib.Seq.{length-take-le}
use lib.Ieee.{Float}
use lib.Dec.{ltb, eqb}
use borrow.Author.Tests.{ltb-true, le-ltb, lt-leb, eq-eqb, ne_eqb}
use Rattle.trcf.specs.Types.{normalizes, augments}
use Rattle.trcf.specs.Lists.{null}
use Rattle.trcf.specs.Settings.{Settings, waiting, block, dimension}
use Rattle.trcf.specs.Preprocessor.{Reading}
use Rattle.snapshot.specs.Steps.Judge.{buf_by}
use Rattle.snapshot.specs.Read.{Counts, may_stand}
use Rattle.snapshot.specs.Steps.Runs.{Ran, ran, broke, ran_by, after_lines, map_ran, unkept, front, many, bufs, Initial, initial_of, reading_times, time_of}
use Rattle.snapshot.specs.Steps.Runs.{Parts, expected, ending, Body, body, parts_by, parts_of, body_by, filled_by, Fills, HeadFew, Room, state_from}
use Rattle.refusal.specs.Lent.{over}
use Rattle.trcf.specs.View.{Lent, lent, settings_of, written_over, initial_room, lent_short}
use Rattle.trcf.specs.declared.head.Preprocessor.{Preprocessor}
use Rattle.std.specs.Prelude.{Result, Ok, Err}
use Rattle.snapshot.specs.declared.head.BadLine.{BadLine}
use Rattle.trcf.proofs.ShingleLaws.{over_part}
use Rattle.trcf.proofs.RefusalLaws.{room_start, room_normalizing}
use Rattle.snapshot.specs.Save.{past}
use Rattle.snapshot.proofs.Lists.{and_left, and_right}
use Rattle.snapshot.proofs.SaveLaws.{held_of}

-- ---- a run that breaks off is no other

-- what is left of the text, and 0, or the bad line
abbrev rest : {A : Type 0} → Ran A → List ℕ
rest (ran a z) = z
rest (broke m) = []

abbrev is_ran : {A : Type 0} → Ran A → ℕ
is_ran (ran a z) = 0
is_ran (broke m) = 1

pub ran_not_broke : {A : Type 0} (a : A) (z : List ℕ) (m : ℕ) → ran a z ≡ broke m → ⊥
ran_not_broke a z m e = let q : ◌≡◌ {A = ℕ} 0 1 = ap is_ran e in absurd (omega (arith, q))

-- a run of which nothing was kept
pub kept_of_lem : {A : Type 0} (r : Ran A) (z : List ℕ) → ran tt z ≡ unkept r → (a : A) × (ran a z ≡ r)
kept_of_lem (ran a y) z e = (a, ap (λ (l : List ℕ). ran a l) (ap rest e))
kept_of_lem (broke m) z e = absurd (ran_not_broke tt z m e)

pub broke_of : {A : Type 0} (r : Ran A) (m : ℕ) → broke m ≡ unkept r → broke m ≡ r
broke_of (ran a y) m e = absurd (ran_not_broke tt y m (sym e))
broke_of (broke n) m e = ap broke (ap number e)
  where
    number : Ran (Unit {0}) → ℕ
    number (ran a z) = 0
    number (broke k) = k

-- ---- how many there are

module _ {A : Type 0} (p : ℕ → List ℕ → Option (A × List ℕ)) (f : A → ℕ) where
  pub many_length : (q n : ℕ) (l : List ℕ) (u : List A) (z : List ℕ) → many p f q n l ≡ ran u z → length u ≡ n
  many_length q zero l u z e = ap (λ (r : Ran (List A)). length (values r)) (sym e)
    where
      values : Ran (List A) → List A
      values (ran v y) = v
      values (broke m) = []
  many_length q (suc n) l u z e = by_line (λ a y v x h. many_length (f a) n y v x h) (p q l) refl
    where
      values : Ran (List A) → List A
      values (ran v y) = v
      values (broke m) = []

      by_rest : (a : A) (r : Ran (List A)) (y : List ℕ) → ((v : List A) (x : List ℕ) → many p f (f a) n y ≡ ran v x → length v ≡ n) → many p f (f a) n y ≡ r
          → after_lines 1 (front a r) ≡ ran u z → length u ≡ suc n
      by_rest a (ran v x) y g h k = ap (λ (r : Ran (List A)). length (values r)) (sym k) ∙ ap suc (g v x h)
      by_rest a (broke m) y g h k = absurd (ran_not_broke u z (1 + m) (sym k))

      by_line : ((a : A) (y : List ℕ) (v : List A) (x : List ℕ) → many p f (f a) n y ≡ ran v x → length v ≡ n) → (o : Option (A × List ℕ)) → p q l ≡ o → length u ≡ suc n
      by_line g none h = absurd (ran_not_broke u z 1 (sym (rw h at e)))
      by_line g (some r) h = by_rest r.0 (many p f (f r.0) n r.1) r.1 (g r.0 r.1) refl (rw h at e)

times_length : (u : List Reading) → length (reading_times u) ≡ length u
times_length [] = refl
times_length (r ∷ u) = ap suc (times_length u)

pub bufs_length : (d n : ℕ) (l : List ℕ) (i : Initial) (z : List ℕ) → ran i z ≡ bufs d n l → length i.times ≡ n
unfolding bufs
bufs_length d n l i z e = go (many (buf_by d) time_of 0 n l) refl e
  where
    kept : Ran Initial → List ℕ
    kept (ran a y) = a.times
    kept (broke m) = []

    go : (r : Ran (List Reading)) → many (buf_by d) time_of 0 n l ≡ r → ran i z ≡ map_ran initial_of r → length i.times ≡ n
    go (ran u y) h k = ap (λ (w : Ran Initial). length (kept w)) k ∙ times_length u ∙ many_length (buf_by d) time_of 0 n l u y h
    go (broke m) h k = absurd (ran_not_broke i z m k)

-- ---- how many are to come

pub waiting_is : (s : Settings) (seen : ℕ) (r b : Bool) → r ≡ normalizes s.method && ltb seen s.start → r ≡ b → waiting s seen ≡ b
unfolding waiting
waiting_is s seen r b e h = sym e ∙ h

module _ (s : Settings) (c : Counts) (l : List ℕ) where
  pub expected_waiting : waiting s c.values_seen ≡ true → c.values_seen ≡ expected s c l
  unfolding expected
  expected_waiting h = rw h

  module _ (h : waiting s c.values_seen ≡ false) where
    pub expected_plain : normalizes s.method ≡ false → 0 ≡ expected s c l
    unfolding expected may_stand
    expected_plain k = rw (h, k)

    pub expected_end : length l ≡ 0 → 0 ≡ expected s c l
    unfolding expected
    expected_end e = go l e
      where
        off : (b : Bool) → 0 ≡ cond (b && false) s.start 0
        off true = refl
        off false = refl

        go : (x : List ℕ) → length x ≡ 0 → 0 ≡ cond (waiting s c.values_seen) c.values_seen (cond (may_stand s c && not (null x)) s.start 0)
        go [] e = rw h (off (may_stand s c))
        go (b ∷ x) e = absurd (omega (arith, e))

    module _ (k : normalizes s.method ≡ true) where
      pub expected_none : c.values_seen ≡ s.start → (c.internal_timestamp ≡ 0 → ⊥) → 0 ≡ expected s c l
      unfolding expected may_stand
      expected_none e f = rw (h, k, eq-eqb c.values_seen s.start e, ne_eqb c.internal_timestamp 0 f)

      standing : (x : List ℕ) → may_stand s c ≡ true → 0 < length x → s.start ≡ expected s c x
      unfolding expected
      standing [] e f = absurd (omega (arith, f))
      standing (b ∷ x) e f = rw (h, e)

      pub expected_seen : 0 < length l → (c.values_seen ≡ s.start → ⊥) → s.start ≡ expected s c l
      unfolding may_stand
      expected_seen e f = standing l may e
        where
          may : may_stand s c ≡ true
          may = rw (k, ne_eqb c.values_seen s.start f)

      pub expected_internal : 0 < length l → c.internal_timestamp ≡ 0 → s.start ≡ expected s c l
      unfolding may_stand
      expected_internal e f = standing l may e
        where
          or_true : (b : Bool) → b || true ≡ true
          or_true true = refl
          or_true false = refl

          may : may_stand s c ≡ true
          may = rw (k, eq-eqb c.internal_timestamp 0 f) (or_true (not (eqb c.values_seen s.start)))

  pub expected_room : expected s c l ≤ initial_room s
  unfolding expected waiting may_stand
  expected_room = go (normalizes s.method && ltb c.values_seen s.start) refl (may_stand s c && not (null l)) refl
    where
      go : (b : Bool) → normalizes s.method && ltb c.values_seen s.start ≡ b → (a : Bool) → may_stand s c && not (null l) ≡ a
          → cond b c.values_seen (cond a s.start 0) ≤ initial_room s
      go true e a f =
          let k = ltb-true c.values_seen s.start (and_right (normalizes s.method) _ e) in
          omega (arith, k, room_normalizing s (and_left (normalizes s.method) _ e))
      go false e true f = omega (arith, room_normalizing s (and_left (normalizes s.method) _ (and_left (may_stand s c) _ f)))
      go false e false f = omega arith

  pub expected_few : s.start < 2000 → expected s c l ≤ s.start
  expected_few h = omega (arith, expected_room, room_start s)

-- ---- the body

pub ending_more : {A : Type 0} (a : A) (l : List ℕ) → 0 < length l → ending a l ≡ broke 1
ending_more a [] h = absurd (omega (arith, h))
ending_more a (x ∷ l) h = refl

pub ending_end : {A : Type 0} (a : A) (l : List ℕ) → length l ≡ 0 → ending a l ≡ ran a []
ending_end a [] h = refl
ending_end a (x ∷ l) h = absurd (omega (arith, h))

module _ (s : Settings) (c : Counts) (l : List ℕ) where
  pub body_parts : (m : ℕ) → broke m ≡ parts_of s c l → broke m ≡ body_by s c l
  unfolding body_by
  body_parts m e = rw (sym e)

  module _ (p : Parts) (l₁ : List ℕ) (e : ran p l₁ ≡ parts_of s c l) where
    pub body_bufs : (m : ℕ) → broke m ≡ bufs s.d (expected s c l₁) l₁ → broke (5 * s.d + 8 + m) ≡ body_by s c l
    unfolding body_by
    body_bufs m f = rw (sym e, sym f)

    module _ (i : Initial) (l₂ : List ℕ) (f : ran i l₂ ≡ bufs s.d (expected s c l₁) l₁) where
      pub body_behind : 0 < length l₂ → broke (5 * s.d + 8 + (expected s c l₁ + 1)) ≡ body_by s c l
      unfolding body_by
      body_behind h = rw (sym e, sym f, ending_more (body p i) l₂ h)

      pub body_all : length l₂ ≡ 0 → ran (body p i) [] ≡ body_by s c l
      unfolding body_by
      body_all h = rw (sym e, sym f, ending_end (body p i) l₂ h)

-- ---- by the places that are lent

pub unkept_of : {A : Type 0} (r : Result ℕ BadLine) (a : A) (t : List ℕ) (q : Ran A) → ran_by r a t ≡ q → ran_by r tt t ≡ unkept q
unkept_of (Ok n) a t q e = ap unkept e
unkept_of (Err b) a t q e = ap unkept e

pub dimension_is : (s : Settings) (w : ℕ) → w ≡ cond (augments s.mode) 1 0 → (s.d + w) * s.k ≡ dimension s
unfolding dimension block
dimension_is s w e = ap (λ (v : ℕ). (s.d + v) * s.k) e

pub parts_of_lem : (s : Settings) (c : Counts) (l : List ℕ) (x y k : ℕ) (r : Ran Parts) → x ≡ s.d * s.k → y ≡ dimension s → k ≡ s.k
    → r ≡ parts_by c.internal_timestamp (5 * s.d + 5) x y k l → r ≡ parts_of s c l
unfolding parts_of
parts_of_lem s c l x y k r e f g h =
    h
    ∙ ap (λ (v : ℕ). parts_by c.internal_timestamp (5 * s.d + 5) v y k l) e
    ∙ ap (λ (v : ℕ). parts_by c.internal_timestamp (5 * s.d + 5) (s.d * s.k) v k l) f
    ∙ ap (λ (v : ℕ). parts_by c.internal_timestamp (5 * s.d + 5) (s.d * s.k) (dimension s) v l) g

-- ---- filled

held : {A : Type 0} → A → Ran A → A
held x (ran a z) = a
held x (broke m) = x

pub ran_value : {A : Type 0} (a b : A) (y z : List ℕ) → ran a y ≡ ran b z → a ≡ b
unfolding held
ran_value a b y z e = ap (held a) e

module _ (s : Settings) (c : Counts) (n : ℕ) (l : List ℕ) (p : Parts) (i : Initial) where
  pub fills_broke : (m : ℕ) → broke m ≡ parts_of s c l → Fills (filled_by s c n l) (body p i)
  unfolding filled_by
  fills_broke m e b x h = absurd (ran_not_broke b x m (rw (sym e) at h))

  pub fills_not : (r : Result ℕ BadLine) (t : List ℕ) → ran_by r p t ≡ parts_of s c l → ((m : ℕ) → r ≡ Ok m → ⊥) → Fills (filled_by s c n l) (body p i)
  fills_not (Ok m) t e h = absurd (h m refl)
  fills_not (Err k) t e h = fills_broke k.line e

  pub fills_of : (r : Result ℕ BadLine) (y t : List ℕ) → ran p y ≡ parts_of s c l → ran_by r i t ≡ bufs s.d n y → Fills (filled_by s c n l) (body p i)
  unfolding filled_by
  fills_of (Ok m) y t e f b x h = sym (ran_value b (body p i) x (drop m t) (rw (sym e, sym f) at h))
  fills_of (Err k) y t e f b x h = absurd (ran_not_broke b x (5 * s.d + 8 + k.line) (rw (sym e, sym f) at h))

-- a part that came back
pub over_back : {A : Type 0} (l v : List A) (n : ℕ) → n ≤ length l → length v ≡ length (take n l) → v ++ drop n l ≡ over l v
over_back l v n h e = over_part l v n (e ∙ length-take-le n l h)

pub laid_is : (s : Settings) (c : Counts) (b : Body) (l : Lent) (st x y : List Float) (ts : List ℕ) (v : List Float) (us : List ℕ)
    → st ≡ over l.statistics b.parts.statistics → x ≡ over l.last_shingled_input b.parts.input → y ≡ over l.last_shingled_point b.parts.point
    → ts ≡ over l.previous_timestamps b.parts.times → v ≡ over l.initial_values b.initial.values → us ≡ over l.initial_timestamps b.initial.times
    → lent st x y ts v us ≡ written_over (state_from s c b) l
unfolding written_over
laid_is s c b l st x y ts v us e₁ e₂ e₃ e₄ e₅ e₆ = λ i. lent (e₁ i) (e₂ i) (e₃ i) (e₄ i) (e₅ i) (e₆ i)

-- ---- lent lists that are long enough

module _ (h : Preprocessor) (l : Lent) (w : ℕ) (f : HeadFew h) (e : w ≡ cond (augments h.forest_mode) 1 0) where
  pub short_is : past h.transformer.input_length h.shingle_size w (initial_room (settings_of h)) (length l.statistics) (length l.last_shingled_input)
      (length l.last_shingled_point) (length l.previous_timestamps) (length l.initial_values) (length l.initial_timestamps)
      ≡ lent_short (settings_of h) l
  unfolding lent_short
  short_is =
      rw (
        le-ltb 16 h.transformer.input_length f.d_few,
        le-ltb 64 h.shingle_size f.k_few,
        lt-leb 2000 (initial_room (settings_of h))
            (few_le (initial_room (settings_of h)) (room_start (settings_of h))),
        dimension_is (settings_of h) w e,
      )
    where
      few_le : (n : ℕ) → n ≤ h.start_normalization → n < 2000
      few_le n k = omega (arith, k, f.start_few)

pub room_of : (h : Preprocessor) (l : Lent) (n : ℕ) → HeadFew h → lent_short (settings_of h) l ≡ false → n ≤ initial_room (settings_of h)
    → Room h n (length l.statistics) (length l.last_shingled_input) (length l.last_shingled_point) (length l.previous_timestamps) (length l.initial_values) (length l.initial_timestamps)
room_of h l n f e k =
    let w : ℕ = cond (augments h.forest_mode) 1 0 in
    let r = held_of h.transformer.input_length h.shingle_size w (initial_room (settings_of h)) (length l.statistics) (length l.last_shingled_input)
    (length l.last_shingled_point) (length l.previous_timestamps) (length l.initial_values) (length l.initial_timestamps) (short_is h l w f refl ∙ e) in
    let m = mul-le-mul_right h.transformer.input_length k in
    record {
      d_few = f.d_few;
      k_few = f.k_few;
      n_few = omega (arith, k, room_start (settings_of h), f.start_few);
      in_statistics = r.in_statistics;
      in_input = r.in_input;
      in_point = subst (λ (x : ℕ). x ≤ length l.last_shingled_point) (dimension_is (settings_of h) w refl) r.in_point;
      in_times = r.in_times;
      in_values = omega (arith, m, r.in_values);
      in_initial = omega (arith, k, r.in_initial);
    }
