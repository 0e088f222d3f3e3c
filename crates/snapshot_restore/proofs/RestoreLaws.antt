-- `restore` in the order of its code: where it refuses, and what it gives.
use Prim.Native.Nat.{ℕ, ◌+◌, ◌*◌, ◌≤◌}
use native.Mathlib.Omega.{arith}
use mathlib.Core.Path.{◌≡◌, refl, sym, ap, ◌∙◌, subst}
use mathlib.Core.Bool.{Bool, true, false, ◌||◌, cond}
use mathlib.Core.List.{List, [], ◌∷◌}
use mathlib.Core.Option.{Option, none, some}
use lib.ListN.{length, replicate, length-replicate}
use Rattle.trcf.specs.Transformer.{zero32}
use lib.Dec.{T, ltb}
use lib.Ieee.{Float, binary32, fits}
use Rattle.trcf.specs.Settings.{Settings, whole_max}
use Rattle.trcf.specs.View.{Lent, settings_of, head_from, no_head, counting, lent_short}
use Rattle.trcf.specs.declared.head.Preprocessor.{Preprocessor}
use Rattle.trcf.proofs.DrainLaws.{front_over}
use Rattle.snapshot.specs.Text.{whole, float}
use Rattle.snapshot.specs.Read.{as_whole, as_float, all_codes, same, Counts, with_lists, Read, taken, read}
use Rattle.snapshot.specs.Steps.Judge.{list_line, wgt_test, Codes, chn_or, chn_by, set_by, wgt_by, cnt_by}
use Rattle.snapshot.specs.Save.{past}
use Rattle.snapshot.specs.Restore.{restore_outcome, restored, restore_of}
use Rattle.snapshot.specs.Steps.Runs.{Ran, ran, broke, one_line, after_lines, then_lines, map_ran, Head, head_read, third_by, head_by, head_with_counts, headed_of, counts_in}
use Rattle.snapshot.specs.Steps.Runs.{Parts, Initial, Body, body_by, expected, parts_of, bufs, body, filled_by, FillsOver, state_from, Good, read_by, as_read}
use Rattle.snapshot_restore.specs.Steps.{summed}
use Rattle.snapshot.specs.declared.head.BadLine.{BadLine}
use Rattle.std.specs.Prelude.{Result, Ok, Err, IsErrAnd}
use Rattle.snapshot_restore.specs.Told.{restore_told}
use Rattle.snapshot_restore.specs.declared.restore.RestoreError.{RestoreError}
use Rattle.snapshot_restore.specs.declared.restore.RestoreError.TheVariants.{Form}
use Rattle.snapshot.proofs.JudgeLines.{float_codec, whole_codec, line_is}
use Rattle.snapshot.proofs.JudgeKinds.{checked_some}
use Rattle.snapshot.proofs.BodyLaws.{ran_not_broke, ran_value, bufs_length}
use Rattle.snapshot.proofs.ReadRuns.{read_runs}

-- ---- the head

pub wgt_long : (m : ℕ) (l : List ℕ) (v : List Float) (z : List ℕ) (s : Settings) → wgt_by s.method m l ≡ some (v, z) → length v ≡ m
unfolding wgt_by
wgt_long m l v z s e =
    (line_is (as_float binary32) (float binary32) (λ x. T (fits binary32 x)) (float_codec binary32) 119 103 116 m l (v, z)
    (checked_some (wgt_test s.method) (list_line (as_float binary32) 119 103 116 m l) (v, z) e).0).1

pub chn_long : (d : ℕ) (l : List ℕ) → length (chn_or d (chn_by d l) l).codes ≡ d
unfolding chn_by
chn_long d l = go (chn_by d l) refl
  where
    go : (o : Option (List ℕ × List ℕ)) → chn_by d l ≡ o → length (chn_or d o l).codes ≡ d
    go none e = length-replicate d 0
    go (some r) e =
        (line_is as_whole whole (λ n. n ≤ whole_max) whole_codec 99 104 110 d l r (checked_some all_codes (list_line as_whole 99 104 110 d l) r e).0).1

head_of : (r : Ran Head) (h : Preprocessor) (n : ℕ) (z : List ℕ) → ran (h, n) z ≡ map_ran headed_of r → (k : Head) × (ran k z ≡ r) × (h ≡ head_with_counts k) × (n ≡ k.extra)
head_of (ran k y) h n z e =
    let v = ran_value (h, n) (headed_of k) z y e in
    (k, ap (λ (x : List ℕ). ran k x) (ap rest e), ap (λ (p : Preprocessor × ℕ). p.0) v, ap (λ (p : Preprocessor × ℕ). p.1) v)
  where
    rest : Ran (Preprocessor × ℕ) → List ℕ
    rest (ran a x) = x
    rest (broke m) = []
head_of (broke m) h n z e = absurd (ran_not_broke (h, n) z m e)

broken_of : (r : Ran Head) (m : ℕ) → broke m ≡ map_ran headed_of r → broke m ≡ r
broken_of (ran k y) m e = absurd (ran_not_broke (headed_of k) y m (sym e))
broken_of (broke n) m e = ap broke (ap number e)
  where
    number : Ran (Preprocessor × ℕ) → ℕ
    number (ran a x) = 0
    number (broke k) = k

abbrev pub Listed : Settings → Type 0
Listed s = (length s.weights ≡ s.d) × (length s.codes ≡ s.d)

pub lists_long : (t : List ℕ) (k : Head) (z : List ℕ) → ran k z ≡ head_by t → Listed k.settings
unfolding head_by
lists_long t k z e = by_set (set_by t) e
  where
    Long : Ran Head → Type 0
    Long r = ran k z ≡ r → Listed k.settings

    behind : (n : ℕ) (r : Ran Head) → Long r → Long (after_lines n r)
    behind n (ran a y) g f = g f
    behind n (broke m) g f = absurd (ran_not_broke k z (n + m) f)

    by_cnt : (s : Settings) (v : List Float) (q : Codes) → Listed (with_lists s v q.codes) → (o : Option (Counts × List ℕ)) → Long
        (then_lines 1 (one_line o) (λ c l₃. ran (head_read (with_lists s v q.codes) c q.extra) l₃))
    by_cnt s v q h none f = absurd (ran_not_broke k z 1 f)
    by_cnt s v q h (some r) f = subst (λ (x : Head). Listed x.settings) (sym (ran_value k (head_read (with_lists s v q.codes) r.0 q.extra) z r.1 f)) h

    by_third : (s : Settings) (v : List Float) (q : Codes) → Listed (with_lists s v q.codes) → Long (third_by s v q)
    by_third s v q h =
        behind q.extra (then_lines 1 (one_line (cnt_by s.method s.start q.rest)) (λ c l₃. ran (head_read (with_lists s v q.codes) c q.extra) l₃))
        (by_cnt s v q h (cnt_by s.method s.start q.rest))

    by_wgt : (s : Settings) (l₁ : List ℕ) (o : Option (List Float × List ℕ)) → wgt_by s.method s.d l₁ ≡ o
        → Long (then_lines 1 (one_line o) (λ v l₂. third_by s v (chn_or s.d (chn_by s.d l₂) l₂)))
    by_wgt s l₁ none h f = absurd (ran_not_broke k z 1 f)
    by_wgt s l₁ (some r) h f =
        let q = chn_or s.d (chn_by s.d r.1) r.1 in
        behind 1 (third_by s r.0 q) (by_third s r.0 q (wgt_long s.d l₁ r.0 r.1 s h, chn_long s.d r.1)) f

    by_set : (o : Option (Settings × List ℕ))
        → Long (then_lines 1 (one_line o) (λ s l₁. then_lines 1 (one_line (wgt_by s.method s.d l₁)) (λ v l₂. third_by s v (chn_or s.d (chn_by s.d l₂) l₂))))
    by_set none f = absurd (ran_not_broke k z 1 f)
    by_set (some r) f =
        behind 1 (then_lines 1 (one_line (wgt_by r.0.method r.0.d r.1)) (λ v l₂. third_by r.0 v (chn_or r.0.d (chn_by r.0.d l₂) l₂)))
        (by_wgt r.0 r.1 (wgt_by r.0.method r.0.d r.1) refl) f

pub settings_back : (k : Head) → Listed k.settings → settings_of (head_with_counts k) ≡ k.settings
settings_back k e = λ i. with_lists k.settings (front_over (replicate 16 zero32) k.settings.weights k.settings.d e.0 i)
    (front_over (replicate 16 0) k.settings.codes k.settings.d e.1 i)

head_again : (k : Head) → Listed k.settings → (a b c n : ℕ) → counting (head_with_counts k) a b c n ≡ counting (head_from (settings_of (head_with_counts k))) a b c n
head_again k e a b c n = ap (λ (s : Settings). counting (head_from s) a b c n) (sym (settings_back k e))

-- what was judged is filled
filled_of : (s : Settings) (c : Counts) (l : List ℕ) (b : Body) (y : List ℕ) (n : ℕ) → body_by s c l ≡ ran b y → n ≡ length b.initial.times → (x : List ℕ) × (ran b x ≡ filled_by s c n l)
unfolding body_by filled_by
filled_of s c l b y n e h = by_parts (parts_of s c l) refl
  where
    by_end : (p : Parts) (l₁ : List ℕ) → parts_of s c l ≡ ran p l₁ → (i : Initial) (l₂ : List ℕ) → bufs s.d (expected s c l₁) l₁ ≡ ran i l₂ → (x : List ℕ) × (ran b x ≡ filled_by s c n l)
    by_end p l₁ f i (x ∷ l₂) g = absurd (ran_not_broke b y (5 * s.d + 8 + (expected s c l₁ + 1)) (sym (rw (f, g) at e)))
    by_end p l₁ f i [] g =
        let q : b ≡ body p i = ran_value b (body p i) y [] (sym (rw (f, g) at e)) in
        let m : n ≡ expected s c l₁ = h ∙ ap (λ (w : Body). length w.initial.times) q ∙ bufs_length s.d (expected s c l₁) l₁ i [] (sym g) in
        ([], ap (λ (w : Body). ran w []) q ∙ rw (f, m, g))

    by_bufs : (p : Parts) (l₁ : List ℕ) → parts_of s c l ≡ ran p l₁ → (r : Ran Initial) → bufs s.d (expected s c l₁) l₁ ≡ r → (x : List ℕ) × (ran b x ≡ filled_by s c n l)
    by_bufs p l₁ f (ran i l₂) g = by_end p l₁ f i l₂ g
    by_bufs p l₁ f (broke m) g = absurd (ran_not_broke b y (5 * s.d + 8 + m) (sym (rw (f, g) at e)))

    by_parts : (r : Ran Parts) → parts_of s c l ≡ r → (x : List ℕ) × (ran b x ≡ filled_by s c n l)
    by_parts (ran p l₁) f = by_bufs p l₁ f (bufs s.d (expected s c l₁) l₁) refl
    by_parts (broke m) f = absurd (ran_not_broke b y m (sym (rw f at e)))

-- ---- what is lent, by its lengths

pub short_past : (b : Bool) (w n m d k s x y t v i : ℕ) → w ≡ cond b 1 0 → n ≡ m → ltb 1 w || past d k w n s x y t v i ≡ past d k (cond b 1 0) m s x y t v i
short_past b w n m d k s x y t v i e f =
    ap (λ (a : ℕ). ltb 1 a || past d k a n s x y t v i) e
    ∙ ap (λ (a : ℕ). ltb 1 (cond b 1 0) || past d k (cond b 1 0) a s x y t v i) f
    ∙ narrow b
  where
    narrow : (a : Bool) → ltb 1 (cond a 1 0) || past d k (cond a 1 0) m s x y t v i ≡ past d k (cond a 1 0) m s x y t v i
    narrow true = refl
    narrow false = refl

-- ---- the text

abbrev line_in : Result ℕ BadLine → ℕ
line_in (Ok n) = 0
line_in (Err b) = b.line

abbrev count_in : Result ℕ BadLine → ℕ
count_in (Ok n) = n
count_in (Err b) = 0

-- what `?` hands on of a head that broke
pub told_head : (r : Result Preprocessor RestoreError) (b : BadLine) (l : Lent) → IsErrAnd r (λ d. d ≡ Form b) → restore_told r l ≡ restore_outcome 19 b.line no_head l
told_head (Ok h) b l e = absurd e
told_head (Err d) b l e = ap (λ (x : RestoreError). restore_told (Err x) l) e

module _ (t cs : List ℕ) (l : Lent) where
  read_broke : (m : ℕ) → read_by t ≡ broke m → restore_outcome 19 m no_head l ≡ restore_of t cs l
  unfolding restore_of restored
  read_broke m e = sym (ap (λ (r : Read). restored r cs l) (read_runs t ∙ ap as_read e))

  pub restore_head : (m : ℕ) → broke m ≡ map_ran headed_of (head_by t) → restore_outcome 19 m no_head l ≡ restore_of t cs l
  unfolding read_by
  restore_head m e = read_broke m (rw (sym (broken_of (head_by t) m e)))

  module _ (h : Preprocessor) (n : ℕ) (z : List ℕ) (e : ran (h, n) z ≡ map_ran headed_of (head_by t)) where
    read_of : (k : Head) → ran k z ≡ head_by t → h ≡ head_with_counts k → n ≡ k.extra → read_by t ≡ after_lines 3
        (after_lines n (map_ran (state_from (settings_of h) (counts_in h)) (body_by (settings_of h) (counts_in h) z)))
    unfolding read_by
    read_of k f g u =
        rw (sym f, sym u)
        (ap (λ (s : Settings). after_lines 3 (after_lines n (map_ran (state_from s k.counts) (body_by s k.counts z)))) (sym (settings_back k (lists_long t k z f)))
        ∙ ap (λ (x : Preprocessor). after_lines 3 (after_lines n (map_ran (state_from (settings_of x) (counts_in x)) (body_by (settings_of x) (counts_in x) z)))) (sym g))

    read_is : read_by t ≡ after_lines 3 (after_lines n (map_ran (state_from (settings_of h) (counts_in h)) (body_by (settings_of h) (counts_in h) z)))
    read_is = let k = head_of (head_by t) h n z e in read_of k.0 k.1 k.2 k.3

    pub restore_body : (m : ℕ) → Err (record { line = m }) ≡ summed (body_by (settings_of h) (counts_in h) z) → restore_outcome 19 (3 + n + m) no_head l ≡ restore_of t cs l
    restore_body m f = go (body_by (settings_of h) (counts_in h) z) refl
      where
        go : (q : Ran Body) → body_by (settings_of h) (counts_in h) z ≡ q → restore_outcome 19 (3 + n + m) no_head l ≡ restore_of t cs l
        go (ran b y) i = let e : ◌≡◌ {A = Result ℕ BadLine} (Err (record { line = m })) (Ok (length b.initial.times)) = f ∙ ap summed i in absurd (cc)
        go (broke k) i =
            let e : ◌≡◌ {A = Result ℕ BadLine} (Err (record { line = m })) (Err (record { line = k })) = f ∙ ap summed i in
            let u : m ≡ k = ap line_in e in
            let v : 3 + (n + k) ≡ 3 + n + m = omega (arith, u) in
            read_broke (3 + n + m) (read_is ∙ ap (λ (q : Ran Body). after_lines 3 (after_lines n (map_ran (state_from (settings_of h) (counts_in h)) q))) i ∙ ap broke v)

    module _ (m : ℕ) (f : Ok m ≡ summed (body_by (settings_of h) (counts_in h) z)) (g : Good (body_by (settings_of h) (counts_in h) z)) where
      good : (b : Body) × (y : List ℕ) × (body_by (settings_of h) (counts_in h) z ≡ ran b y)
      good = go (body_by (settings_of h) (counts_in h) z) refl
        where
          go : (q : Ran Body) → body_by (settings_of h) (counts_in h) z ≡ q → (b : Body) × (y : List ℕ) × (body_by (settings_of h) (counts_in h) z ≡ ran b y)
          go (ran b y) i = (b, y, i)
          go (broke m) i = absurd (subst Good i g)

      read_taken : read t ≡ taken (state_from (settings_of h) (counts_in h) good.0)
      read_taken = read_runs t ∙ ap as_read (read_is ∙ ap (λ (q : Ran Body). after_lines 3 (after_lines n (map_ran (state_from (settings_of h) (counts_in h)) q))) good.2)

      count_is : m ≡ length good.0.initial.times
      count_is = ap count_in (f ∙ ap summed good.2)

      pub restore_other : same (settings_of h).codes cs ≡ false → restore_outcome 27 0 no_head l ≡ restore_of t cs l
      unfolding restore_of restored
      restore_other i = rw (read_taken, i)

      pub restore_short : same (settings_of h).codes cs ≡ true → lent_short (settings_of h) l ≡ true → restore_outcome 20 0 no_head l ≡ restore_of t cs l
      unfolding restore_of restored
      restore_short u i = rw (read_taken, u, i)

      pub restore_all : same (settings_of h).codes cs ≡ true → lent_short (settings_of h) l ≡ false → (new : Lent) → FillsOver (settings_of h) (counts_in h)
          (filled_by (settings_of h) (counts_in h) m z) l new
          → restore_outcome 0 0 (counting h h.transformer.count h.values_seen h.internal_timestamp m) new ≡ restore_of t cs l
      unfolding restore_of restored
      restore_all u i new o =
          let b = good.0 in
          let w = filled_of (settings_of h) (counts_in h) z b good.1 m good.2 count_is in
          let k = head_of (head_by t) h n z e in
          let a : counting h h.transformer.count h.values_seen h.internal_timestamp m
          ≡ counting (head_from (settings_of h)) h.transformer.count h.values_seen h.internal_timestamp m =
          subst (λ (x : Preprocessor). counting x h.transformer.count h.values_seen h.internal_timestamp m ≡ counting (head_from (settings_of x)) h.transformer.count
          h.values_seen h.internal_timestamp m)
          (sym k.2) (head_again k.0 (lists_long t k.0 z k.1) h.transformer.count h.values_seen h.internal_timestamp m) in
          ap (λ (x : Preprocessor). restore_outcome 0 0 x new) a
          ∙ ap (λ (n : ℕ). restore_outcome 0 0 (counting (head_from (settings_of h)) h.transformer.count h.values_seen h.internal_timestamp n) new) count_is
          ∙ ap (λ (x : Lent). restore_outcome 0 0 (counting (head_from (settings_of h)) h.transformer.count h.values_seen h.internal_timestamp (length b.initial.times)) x)
          (o b w.0 w.1)
          ∙ sym (rw (read_taken, u, i))
