-- Reading a text run of lines by run of lines, as the code does it, is reading it by the plan: `read`.
use Prim.Native.Nat.{ℕ, zero, suc, ◌+◌, ◌*◌}
use native.Mathlib.Omega.{arith}
use mathlib.Core.Path.{◌≡◌, refl, sym, ap, ◌∙◌}
use mathlib.Core.Bool.{Bool, true, false, not, ◌&&◌, cond}
use mathlib.Core.List.{List, [], ◌∷◌, ◌++◌}
use mathlib.Core.Option.{Option, none, some}
use mathlib.Core.Logic.{◌⊎◌}
use lib.ListN.{length}
use lib.Dec.{T, eqb}
use lib.Ieee.{Float, binary32, binary64, fits}
use Rattle.trcf.specs.Lists.{null}
use Rattle.trcf.specs.Settings.{Settings, dimension, waiting}
use Rattle.trcf.specs.Preprocessor.{State, Reading}
use Rattle.snapshot.specs.Text.{float}
use Rattle.snapshot.specs.Read.{lines, push, as_float, Counts, Plan, plan_end, bufs_plan, buf_plan, devs_plan, may_stand, state_of, with_lists, bare, after_set}
use Rattle.snapshot.specs.Read.{after_wgt, after_third, after_cnt, after_dev, after_inp, after_pnt, after_tim, Read, taken, bad, later, follow, read}
use Rattle.snapshot.specs.Steps.Judge.{list_line, via, either_of, chn_or, chn_by, set_by, wgt_by, cnt_by, tim_by, buf_by, threed, three_of, dev_by}
use Rattle.snapshot.specs.Steps.Runs.{Ran, ran, broke, one_line, after_lines, then_lines, front, many, dev_fields, no_carry, flat, map_ran, devs, time_of}
use Rattle.snapshot.specs.Steps.Runs.{reading_values, reading_times, initial_of, bufs, Parts, parts, parts_by, parts_of, Head, head_read, third_by, head_by}
use Rattle.snapshot.specs.Steps.Runs.{expected, ending, body, body_by, state_from, read_by, as_read}
use Rattle.snapshot.proofs.JudgeLines.{float_codec, line_is}
use Rattle.snapshot.proofs.JudgeSteps.{step_set, step_wgt, step_third, step_cnt, step_inp, step_pnt, step_tim, step_dev, step_buf}

-- ---- n lines further on

skips : ℕ → Read → Read
skips zero r = r
skips (suc n) r = later (skips n r)

skips_bad : (n m : ℕ) → skips n (bad m) ≡ bad (n + m)
unfolding skips
skips_bad zero m = let e : m ≡ 0 + m = omega arith in ap bad e
skips_bad (suc n) m = let e : suc (n + m) ≡ suc n + m = omega arith in ap later (skips_bad n m) ∙ ap bad e

skips_taken : (n : ℕ) (w : State) → skips n (taken w) ≡ taken w
unfolding skips
skips_taken zero w = refl
skips_taken (suc n) w = ap later (skips_taken n w)

skips_more : (n m : ℕ) (r : Read) → skips n (skips m r) ≡ skips (n + m) r
unfolding skips
skips_more zero m r = let e : m ≡ 0 + m = omega arith in ap (λ (k : ℕ). skips k r) e
skips_more (suc n) m r = let e : suc (n + m) ≡ suc n + m = omega arith in ap later (skips_more n m r) ∙ ap (λ (k : ℕ). skips k r) e

-- ---- n lines, and what is read after them

go_on : {A : Type 0} → ℕ → Ran A → (A → List ℕ → Read) → Read
go_on n (ran a z) g = skips n (g a z)
go_on n (broke m) g = bad m

map_behind : {A B : Type 0} (n : ℕ) (f : A → B) (r : Ran A) → map_ran f (after_lines n r) ≡ after_lines n (map_ran f r)
map_behind n f (ran a z) = refl
map_behind n f (broke m) = refl

module _ {A : Type 0} where
  go_on_same : (n : ℕ) (r : Ran A) (g h : A → List ℕ → Read) → ((a : A) (z : List ℕ) → g a z ≡ h a z) → go_on n r g ≡ go_on n r h
  unfolding go_on
  go_on_same n (ran a z) g h e = ap (skips n) (e a z)
  go_on_same n (broke m) g h e = refl

  one_line_lem : (o : Option (A × List ℕ)) (g : A → List ℕ → Read) → via o (λ a z. later (g a z)) ≡ go_on 1 (one_line o) g
  unfolding go_on skips
  one_line_lem none g = refl
  one_line_lem (some r) g = refl

  go_on_after : {B : Type 0} (n m : ℕ) (r : Ran A) (f : A → List ℕ → Ran B) (g : B → List ℕ → Read)
      → go_on n r (λ a z. go_on m (f a z) g) ≡ go_on (n + m) (then_lines n r f) g
  unfolding go_on
  go_on_after n m (broke k) f g = refl
  go_on_after {B = B} n m (ran a z) f g = go (f a z)
    where
      go : (q : Ran B) → skips n (go_on m q g) ≡ go_on (n + m) (after_lines n q) g
      go (ran b y) = skips_more n m (g b y)
      go (broke k) = skips_bad n k

  -- where only numbers are kept
  go_on_map : {B : Type 0} (n : ℕ) (r : Ran A) (f : A → B) (g : B → List ℕ → Read) → go_on n r (λ a z. g (f a) z) ≡ go_on n (map_ran f r) g
  unfolding go_on
  go_on_map n (ran a z) f g = refl
  go_on_map n (broke m) f g = refl

  go_on_read : (n : ℕ) (r : Ran A) (f : A → List ℕ → Ran State) → go_on n r (λ a z. as_read (f a z)) ≡ as_read (then_lines n r f)
  unfolding go_on
  go_on_read n (broke k) f = refl
  go_on_read n (ran a z) f = go (f a z)
    where
      go : (q : Ran State) → skips n (as_read q) ≡ as_read (after_lines n q)
      go (ran w y) = skips_taken n w
      go (broke k) = skips_bad n k

  -- one line more in front
  go_on_front : (n : ℕ) (a : A) (r : Ran (List A)) (g : List A → List ℕ → Read) → later (go_on n r (λ u z. g (a ∷ u) z)) ≡ go_on (suc n) (after_lines 1 (front a r)) g
  unfolding go_on skips
  go_on_front n a (ran u z) g = refl
  go_on_front n a (broke m) g = let e : suc m ≡ 1 + m = omega arith in ap bad e

  -- the last of some lines
  go_on_one : {B : Type 0} (r : Ran A) (f : A → B) (g : B → List ℕ → Read) → go_on 1 r (λ a z. g (f a) z) ≡ go_on 1 (then_lines 1 r (λ a z. ran (f a) z)) g
  unfolding go_on
  go_on_one (ran a z) f g = refl
  go_on_one (broke m) f g = refl

  map_after : {B C : Type 0} (n : ℕ) (r : Ran A) (f : B → C) (g : A → List ℕ → Ran B) (h : A → List ℕ → Ran C) → ((a : A) (z : List ℕ) → map_ran f (g a z) ≡ h a z)
      → map_ran f (then_lines n r g) ≡ then_lines n r h
  map_after n (ran a z) f g h e = map_behind n f (g a z) ∙ ap (after_lines n) (e a z)
  map_after n (broke m) f g h e = refl

  map_ending : {B : Type 0} (f : A → B) (a : A) (l : List ℕ) → map_ran f (ending a l) ≡ ending (f a) l
  map_ending f a [] = refl
  map_ending f a (x ∷ l) = refl

Next : Head → List ℕ → Read
Next h z = skips h.extra (follow (after_cnt h.settings h.counts) (lines z))

-- ---- the `dev` lines

three_are : (v w : List Float) → length v ≡ 3 → (three_of v).weight ∷ (three_of v).sum ∷ (three_of v).squares ∷ w ≡ v ++ w
three_are [] w e = absurd (omega (arith, e))
three_are (x ∷ []) w e = absurd (omega (arith, e))
three_are (x ∷ y ∷ []) w e = absurd (omega (arith, e))
three_are (x ∷ y ∷ z ∷ []) w e = refl
three_are (x ∷ y ∷ z ∷ u ∷ v) w e = absurd (omega (arith, e))

devs_follow : (q n : ℕ) (k : List Float → Plan) (l : List ℕ)
    → follow (devs_plan n k) (lines l) ≡ go_on n (many dev_fields no_carry q n l) (λ u z. follow (k (flat u)) (lines z))
unfolding go_on skips dev_by
devs_follow q zero k l = refl
devs_follow q (suc n) k l = step_dev n k l ∙ go (dev_fields q l) refl (λ v y. devs_follow 0 n (λ st. k ((three_of v).weight ∷ (three_of v).sum ∷ (three_of v).squares ∷ st)) y)
  where
    go : (o : Option (List Float × List ℕ)) → dev_fields q l ≡ o
        → ((v : List Float) (y : List ℕ) → follow (devs_plan n (λ st. k ((three_of v).weight ∷ (three_of v).sum ∷ (three_of v).squares ∷ st))) (lines y) ≡ go_on n (many dev_fields no_carry 0 n y)
        (λ u z. follow (k ((three_of v).weight ∷ (three_of v).sum ∷ (three_of v).squares ∷ flat u)) (lines z)))
        → via (threed o) (λ a z. later (follow (devs_plan n (λ st. k (a.weight ∷ a.sum ∷ a.squares ∷ st))) (lines z)))
        ≡ go_on (suc n) (then_lines 1 (one_line o) (λ a z. front a (many dev_fields no_carry (no_carry a) n z))) (λ u z. follow (k (flat u)) (lines z))
    go none e h = refl
    go (some r) e h =
        let f = line_is (as_float binary64) (float binary64) (λ x. T (fits binary64 x)) (float_codec binary64) 100 101 118 3 l r e in
        ap later (h r.0 r.1 ∙ go_on_same n (many dev_fields no_carry 0 n r.1) _ _ (λ u z. ap (λ (st : List Float). follow (k st) (lines z)) (three_are r.0 (flat u) f.1)))
        ∙ go_on_front n r.0 (many dev_fields no_carry 0 n r.1) (λ u z. follow (k (flat u)) (lines z))

-- ---- the `buf` lines

bufs_follow : (d q n : ℕ) (k : List Float → List ℕ → State) (l : List ℕ)
    → follow (bufs_plan none d q n k) (lines l) ≡ go_on n (many (buf_by d) time_of q n l) (λ u z. follow (plan_end (k (reading_values u) (reading_times u))) (lines z))
unfolding go_on skips
bufs_follow d q zero k l = refl
bufs_follow d q (suc n) k l = step_buf d q n k l ∙ go (buf_by d q l) (λ r y. bufs_follow d r.time n (λ v ts. k (r.value ++ v) (r.time ∷ ts)) y)
  where
    go : (o : Option (Reading × List ℕ))
        → ((r : Reading) (y : List ℕ) → follow (bufs_plan none d r.time n (λ v ts. k (r.value ++ v) (r.time ∷ ts))) (lines y) ≡ go_on n (many (buf_by d) time_of r.time n y)
        (λ u z. follow (plan_end (k (r.value ++ reading_values u) (r.time ∷ reading_times u))) (lines z)))
        → via o (λ r z. later (follow (bufs_plan none d r.time n (λ v ts. k (r.value ++ v) (r.time ∷ ts))) (lines z)))
        ≡ go_on (suc n) (then_lines 1 (one_line o) (λ a z. front a (many (buf_by d) time_of (time_of a) n z))) (λ u z. follow (plan_end (k (reading_values u) (reading_times u))) (lines z))
    go none h = refl
    go (some r) h =
        ap later (h r.0 r.1) ∙ go_on_front n r.0 (many (buf_by d) time_of (time_of r.0) n r.1) (λ u z. follow (plan_end (k (reading_values u) (reading_times u))) (lines z))

-- a text that goes on has a line
some_line : (x : ℕ) (l : List ℕ) → (a : List ℕ) × (b : List (List ℕ)) × (lines (x ∷ l) ≡ a ∷ b)
some_line x l = go (eqb x 10) refl (lines l) refl
  where
    pushed : (r : List (List ℕ)) → (a : List ℕ) × (b : List (List ℕ)) × (push x r ≡ a ∷ b)
    pushed [] = (x ∷ [], [], refl)
    pushed (m ∷ r) = (x ∷ m, r, refl)

    go : (b : Bool) → eqb x 10 ≡ b → (r : List (List ℕ)) → lines l ≡ r → (a : List ℕ) × (b : List (List ℕ)) × (lines (x ∷ l) ≡ a ∷ b)
    go true e r h = (10 ∷ [], lines l, rw e)
    go false e r h = let p = pushed (lines l) in (p.0, p.1, rw e p.2)

ends_read : (w : State) (l : List ℕ) → follow (plan_end w) (lines l) ≡ as_read (ending w l)
ends_read w [] = refl
ends_read w (x ∷ l) = let p = some_line x l in ap (follow (plan_end w)) p.2

-- lines that may be missing altogether, and are not
begun : (e : Option State) (d n : ℕ) (k : List Float → List ℕ → State) (x : ℕ) (l : List ℕ) → follow (bufs_plan e d 0 n k) (lines (x ∷ l)) ≡ follow (bufs_plan none d 0 n k) (lines (x ∷ l))
begun e d zero k x l = refl
begun e d (suc n) k x l = let p = some_line x l in ap (follow (bufs_plan e d 0 (suc n) k)) p.2 ∙ sym (ap (follow (bufs_plan none d 0 (suc n) k)) p.2)

missing : (d n : ℕ) (k : List Float → List ℕ → State) → follow (bufs_plan (some (k [] [])) d 0 n k) (lines []) ≡ taken (k [] [])
missing d zero k = refl
missing d (suc n) k = refl

module _ (s : Settings) (c : Counts) (k : List Float → List ℕ → State) where
  -- as many as are expected
  expected_follow : (l : List ℕ)
      → follow (buf_plan (waiting s c.values_seen) (may_stand s c) s c k) (lines l)
      ≡ go_on (expected s c l) (many (buf_by s.d) time_of 0 (expected s c l) l) (λ u z. follow (plan_end (k (reading_values u) (reading_times u))) (lines z))
  unfolding expected
  expected_follow l = go (waiting s c.values_seen) (may_stand s c) l
    where
      go : (w m : Bool) (l : List ℕ)
          → follow (buf_plan w m s c k) (lines l)
          ≡ go_on (cond w c.values_seen (cond (m && not (null l)) s.start 0)) (many (buf_by s.d) time_of 0 (cond w c.values_seen (cond (m && not (null l)) s.start 0)) l)
          (λ u z. follow (plan_end (k (reading_values u) (reading_times u))) (lines z))
      go true m l = bufs_follow s.d 0 c.values_seen k l
      go false true [] = missing s.d s.start k ∙ bufs_follow s.d 0 0 k []
      go false true (x ∷ l) = begun (some (k [] [])) s.d s.start k x l ∙ bufs_follow s.d 0 s.start k (x ∷ l)
      go false false l = bufs_follow s.d 0 0 k l

  initial_follow : (l : List ℕ)
      → follow (buf_plan (waiting s c.values_seen) (may_stand s c) s c k) (lines l)
      ≡ go_on (expected s c l) (bufs s.d (expected s c l) l) (λ i z. as_read (ending (k i.values i.times) z))
  unfolding bufs
  initial_follow l =
      expected_follow l
      ∙ go_on_same (expected s c l) (many (buf_by s.d) time_of 0 (expected s c l) l) _ _ (λ u z. ends_read (k (reading_values u) (reading_times u)) z)
      ∙ go_on_map (expected s c l) (many (buf_by s.d) time_of 0 (expected s c l) l) initial_of (λ i z. as_read (ending (k i.values i.times) z))

-- ---- the lines from `dev` to `tim`

module _ (s : Settings) (c : Counts) where
  Rest : Parts → List ℕ → Read
  Rest p z = follow (after_tim s c p.statistics p.input p.point p.times) (lines z)

  after_pnt_lem : (st x y : List Float) (l : List ℕ) → follow (after_pnt s c st x y) (lines l)
      ≡ go_on 1 (then_lines 1 (one_line (tim_by c.internal_timestamp s.k l)) (λ ts z. ran (parts st x y ts) z)) Rest
  unfolding Rest go_on skips
  after_pnt_lem st x y l =
      step_tim s l c st x y ∙ one_line_lem (tim_by c.internal_timestamp s.k l) (λ ts z. Rest (parts st x y ts) z)
      ∙ go_on_one (one_line (tim_by c.internal_timestamp s.k l)) (λ ts. parts st x y ts) Rest

  after_inp_lem : (st x : List Float) (l : List ℕ) → follow (after_inp s c st x) (lines l)
      ≡ go_on 2 (then_lines 1 (one_line (list_line (as_float binary32) 112 110 116 (dimension s) l))
      (λ y l₃. then_lines 1 (one_line (tim_by c.internal_timestamp s.k l₃)) (λ ts z. ran (parts st x y ts) z))) Rest
  after_inp_lem st x l =
      step_pnt s l c st x ∙ one_line_lem (list_line (as_float binary32) 112 110 116 (dimension s) l) (λ y z. follow (after_pnt s c st x y) (lines z))
      ∙ go_on_same 1 (one_line (list_line (as_float binary32) 112 110 116 (dimension s) l)) _ _ (λ y z. after_pnt_lem st x y z)
      ∙ go_on_after 1 1 (one_line (list_line (as_float binary32) 112 110 116 (dimension s) l))
      (λ y l₃. then_lines 1 (one_line (tim_by c.internal_timestamp s.k l₃)) (λ ts z. ran (parts st x y ts) z)) Rest

  after_dev_lem : (st : List Float) (l : List ℕ) → follow (after_dev s c st) (lines l)
      ≡ go_on 3 (then_lines 1 (one_line (list_line (as_float binary32) 105 110 112 (s.d * s.k) l))
      (λ x l₂. then_lines 1 (one_line (list_line (as_float binary32) 112 110 116 (dimension s) l₂))
      (λ y l₃. then_lines 1 (one_line (tim_by c.internal_timestamp s.k l₃)) (λ ts z. ran (parts st x y ts) z)))) Rest
  after_dev_lem st l =
      step_inp s l c st ∙ one_line_lem (list_line (as_float binary32) 105 110 112 (s.d * s.k) l) (λ x z. follow (after_inp s c st x) (lines z))
      ∙ go_on_same 1 (one_line (list_line (as_float binary32) 105 110 112 (s.d * s.k) l)) _ _ (λ x z. after_inp_lem st x z)
      ∙ go_on_after 1 2 (one_line (list_line (as_float binary32) 105 110 112 (s.d * s.k) l))
      (λ x l₂. then_lines 1 (one_line (list_line (as_float binary32) 112 110 116 (dimension s) l₂))
      (λ y l₃. then_lines 1 (one_line (tim_by c.internal_timestamp s.k l₃)) (λ ts z. ran (parts st x y ts) z))) Rest

  parts_follow : (l : List ℕ) → follow (after_cnt s c) (lines l) ≡ go_on (5 * s.d + 8) (parts_of s c l) Rest
  unfolding parts_of parts_by devs
  parts_follow l =
      let n : ℕ = 5 * s.d + 5 in
      let e : n + 3 ≡ 5 * s.d + 8 = omega arith in
      devs_follow 0 n (after_dev s c) l
      ∙ go_on_same n (many dev_fields no_carry 0 n l) _ _ (λ u z. after_dev_lem (flat u) z)
      ∙ go_on_map n (many dev_fields no_carry 0 n l) flat (λ st l₁. go_on 3 (then_lines 1 (one_line (list_line (as_float binary32) 105 110 112 (s.d * s.k) l₁))
      (λ x l₂. then_lines 1 (one_line (list_line (as_float binary32) 112 110 116 (dimension s) l₂))
      (λ y l₃. then_lines 1 (one_line (tim_by c.internal_timestamp s.k l₃)) (λ ts z. ran (parts st x y ts) z)))) Rest)
      ∙ go_on_after n 3 (map_ran flat (many dev_fields no_carry 0 n l)) _ Rest
      ∙ ap (λ (m : ℕ). go_on m (parts_of s c l) Rest) e

  body_follow : (l : List ℕ) → follow (after_cnt s c) (lines l) ≡ as_read (map_ran (state_from s c) (body_by s c l))
  unfolding body_by Rest
  body_follow l =
      parts_follow l
      ∙ go_on_same (5 * s.d + 8) (parts_of s c l) _ _ (λ p l₁. initial_follow s c (state_of s c p.statistics p.input p.point p.times) l₁ ∙ go_on_read (expected s c l₁)
      (bufs s.d (expected s c l₁) l₁) (λ i l₂. ending (state_from s c (body p i)) l₂))
      ∙ go_on_read (5 * s.d + 8) (parts_of s c l) (λ p l₁. then_lines (expected s c l₁) (bufs s.d (expected s c l₁) l₁) (λ i l₂. ending (state_from s c (body p i)) l₂))
      ∙ ap as_read (sym (map_after (5 * s.d + 8) (parts_of s c l) (state_from s c) _ _
      (λ p l₁. map_after (expected s c l₁) (bufs s.d (expected s c l₁) l₁) (state_from s c) _ _ (λ i l₂. map_ending (state_from s c) (body p i) l₂))))

-- ---- line 3 and what it leads to

module _ (s : Settings) (v : List Float) where
  Then : List ℕ ⊎ Counts → List ℕ → Read
  Then o z = later (follow (after_third s v o) (lines z))

  -- the counters after the codes
  cnt_follow : (cs : List ℕ) (o : Option (Counts × List ℕ)) → later (via o (λ c z. later (follow (after_cnt (with_lists s v cs) c) (lines z))))
      ≡ go_on 1 (after_lines 1 (then_lines 1 (one_line o) (λ c z. ran (head_read (with_lists s v cs) c 1) z))) Next
  unfolding go_on skips Next
  cnt_follow cs none = refl
  cnt_follow cs (some r) = refl

  -- the counters of a text that lacks them
  bare_follow : (o : Option (Counts × List ℕ)) → via (either_of none o) Then ≡ go_on 1 (after_lines 0 (then_lines 1 (one_line o) (λ c z. ran (head_read (bare s v) c 0) z))) Next
  unfolding go_on skips Next Then
  bare_follow none = refl
  bare_follow (some r) = refl

  third_follow : (l : List ℕ) → follow (after_wgt s v) (lines l) ≡ go_on 1 (third_by s v (chn_or s.d (chn_by s.d l) l)) Next
  unfolding Then
  third_follow l = step_third s l v ∙ go (chn_by s.d l)
    where
      go : (o : Option (List ℕ × List ℕ)) → via (either_of o (cnt_by s.method s.start l)) Then ≡ go_on 1 (third_by s v (chn_or s.d o l)) Next
      go (some r) = ap later (step_cnt (with_lists s v r.0) r.1) ∙ cnt_follow r.0 (cnt_by s.method s.start r.1)
      go none = bare_follow (cnt_by s.method s.start l)

-- ---- the whole text

next_read : (h : Head) (z : List ℕ) → Next h z ≡ as_read (after_lines h.extra (map_ran (state_from h.settings h.counts) (body_by h.settings h.counts z)))
unfolding Next go_on
next_read h z =
    let one : Ran (Unit {0}) = ran tt [] in
    ap (skips h.extra) (body_follow h.settings h.counts z)
    ∙ go_on_read h.extra one (λ _ _. map_ran (state_from h.settings h.counts) (body_by h.settings h.counts z))

pub read_runs : (t : List ℕ) → read t ≡ as_read (read_by t)
unfolding read_by head_by
read_runs t =
    step_set t ∙ one_line_lem (set_by t) (λ s z. follow (after_set s) (lines z))
    ∙ go_on_same 1 (one_line (set_by t)) _ _ (λ s l₁. step_wgt s l₁ ∙ one_line_lem (wgt_by s.method s.d l₁) (λ v z. follow (after_wgt s v) (lines z))
    ∙ go_on_same 1 (one_line (wgt_by s.method s.d l₁)) _ _ (λ v l₂. third_follow s v l₂)
    ∙ go_on_after 1 1 (one_line (wgt_by s.method s.d l₁)) (λ v l₂. third_by s v (chn_or s.d (chn_by s.d l₂) l₂)) Next)
    ∙ go_on_after 1 2 (one_line (set_by t)) (λ s l₁. then_lines 1 (one_line (wgt_by s.method s.d l₁)) (λ v l₂. third_by s v (chn_or s.d (chn_by s.d l₂) l₂))) Next
    ∙ go_on_same 3 (head_by t) Next _ next_read
    ∙ go_on_read 3 (head_by t) (λ h l. after_lines h.extra (map_ran (state_from h.settings h.counts) (body_by h.settings h.counts l)))
