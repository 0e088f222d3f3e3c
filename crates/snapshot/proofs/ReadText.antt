-- The theorems of the reader: what is taken is of the form and is that text, a text of the form is taken, and where it refuses, its line is the first bad one.
use Prim.Native.Nat.{ℕ, zero, suc, ◌+◌, ◌*◌, ◌≤◌}
use native.Mathlib.Nat.{suc-mul, zero-mul}
use native.Mathlib.Omega.{arith}
use mathlib.Core.Path.{◌≡◌, refl, sym, ap, ◌∙◌, subst}
use mathlib.Core.Logic.{◌⊎◌, inl, inr}
use mathlib.Core.Bool.{Bool, true, false, not, ◌&&◌, false≢true}
use mathlib.Core.List.{List, [], ◌∷◌, ◌++◌, map}
use mathlib.Core.Option.{Option, none, some}
use lib.ListN.{length, take, drop, replicate, length-append, length-drop, length-replicate, take-append-drop}
use lib.Seq.{take_at, drop_at, length-take-le}
use lib.Dec.{ltb, eqb}
use lib.Ieee.{Float, binary32, binary64, fits, of_bits, of_fields, odd, le, lt, eq}
use borrow.Author.Tests.{ltb-true, leb-true, eqb-true, ltb-false, eq-eqb}
use Rattle.common.specs.Deviation.{zero64, outside_unit}
use Rattle.trcf.specs.declared.types.TransformMethod.TheVariants.{NONE}
use Rattle.trcf.specs.declared.types.ForestMode.TheVariants.{STANDARD}
use Rattle.trcf.specs.Types.{is_none, normalizes}
use Rattle.trcf.specs.Transformer.{zero32, one32}
use Rattle.trcf.specs.Settings.{Settings, Valid, Fits, Whole, dimension, waiting, all_one, whole_max, settings_row}
use Rattle.trcf.specs.Calls.{finite}
use Rattle.trcf.specs.Preprocessor.{State, Reading, statistics_length}
use Rattle.snapshot.specs.Form.{Form, Climbs}
use Rattle.snapshot.specs.Text.{Line, wgt, inp, pnt, chn, set_line, singles, chn_line, cnt_line, dev_line, dev_lines, tim_line, buf_line, buf_lines, body_lines, lines_by, bytes_of, render, TextOf}
use Rattle.snapshot.specs.Read.{lines, join, bytes_of_line, set_kind, wgt_kind, inp_kind, pnt_kind, singles_kind, cnt_kind, Counts, dev_kind, Three, tim_kind}
use Rattle.snapshot.specs.Read.{buf_kind, Plan, plan_end, bufs_plan, may_stand, buf_plan, devs_plan, state_of, with_lists, bare, chn_kind, third_kind}
use Rattle.snapshot.specs.Read.{after_third, after_tim, after_pnt, after_inp, after_dev, after_cnt, after_wgt, after_set, plan, Read, taken, bad, follow, read}
use Rattle.snapshot.specs.Read.{FirstBad}
use Rattle.snapshot.proofs.Lists.{and_left, and_right, clash, if_of, to_if, nil, all_append, all_take, all_drop, all_replicate, finite_append, finite_split}
use Rattle.snapshot.proofs.Fields.{Clean}
use Rattle.snapshot.proofs.Clean.{lines_clean}
use Rattle.snapshot.proofs.ReadLine.{Hold, Writes, join_lines, bytes_join, lines_bytes}
use Rattle.snapshot.proofs.ReadPlan.{Took, took, took_cons, give, taken_inj, not_both, same_bad, Live, good_before}
use Rattle.snapshot.proofs.ReadKinds.{fit_of, fits_of, whole_of, climbs_of, zeros_of, set_writes, wgt_tests, wgt_long, valid_of, zero_codes_lem, chn_long}
use Rattle.snapshot.proofs.ReadKinds.{chn_writes, either_left, either_right, singles_write, cnt_writes, dev_writes, tim_writes, buf_writes}

abbrev pub shown : List Line → List (List ℕ)
shown ls = map bytes_of_line ls

shown_append : (a b : List Line) → shown (a ++ b) ≡ shown a ++ shown b
shown_append [] b = refl
shown_append (x ∷ xs) b = ap (λ (t : List (List ℕ)). bytes_of_line x ∷ t) (shown_append xs b)

-- ---- the statistics' lines

record Devs (n : ℕ) (X : List Float → List (List ℕ) → Type 0) (ls : List (List ℕ)) : Type 0 where
  st : List Float
  rest : List (List ℕ)
  is : shown (dev_lines st) ++ rest ≡ ls
  long : length st ≡ 3 * n
  fit : Fits binary64 st
  more : X st rest

abbrev onto : {B : Type 1} → Three → (List Float → B) → List Float → B
onto a k st = k (a.weight ∷ a.sum ∷ a.squares ∷ st)

devs_put : (n : ℕ) (X : List Float → List (List ℕ) → Type 0) (ls : List (List ℕ)) → Took dev_kind (λ a. Devs n (onto a X)) ls → Devs (suc n) X ls
unfolding dev_line
devs_put n X ls t = record {
  st = t.a.weight ∷ t.a.sum ∷ t.a.squares ∷ t.more.st;
  rest = t.more.rest;
  is = (λ i. bytes_of_line (dev_kind.write t.a) ∷ t.more.is i) ∙ t.is;
  long = omega (arith, t.more.long);
  fit = (fit_of _ _ t.holds.0, (fit_of _ _ t.holds.1.0, (fit_of _ _ t.holds.1.1.0, t.more.fit)));
  more = t.more.more;
}

devs_took : (n : ℕ) (k : List Float → Plan) (w : State) (X : List Float → List (List ℕ) → Type 0) → ((st : List Float) (r : List (List ℕ)) → follow (k st) r ≡ taken w → X st r)
    → (ls : List (List ℕ)) → follow (devs_plan n k) ls ≡ taken w → Devs n X ls
devs_took zero k w X f ls e = record { st = []; rest = ls; is = refl; long = refl; fit = tt; more = f [] ls e }
devs_took (suc n) k w X f ls e = devs_put n X ls (took Three dev_kind (λ a. devs_plan n (onto a k)) w (λ a. Devs n (onto a X))
    (λ a. devs_took n (onto a k) w (onto a X) (λ st. f (a.weight ∷ a.sum ∷ a.squares ∷ st))) ls e)

devs_give : (n : ℕ) (k : List Float → Plan) (st : List Float) (ls : List (List ℕ)) (w : State) → length st ≡ 3 * n → Fits binary64 st → follow (k st) ls ≡ taken w → follow (devs_plan n k)
    (shown (dev_lines st) ++ ls) ≡ taken w
devs_give zero k [] ls w l f e = e
devs_give zero k (a ∷ st) ls w l f e = absurd (omega arith)
devs_give (suc n) k [] ls w l f e = absurd (omega arith)
devs_give (suc n) k (a ∷ []) ls w l f e = absurd (omega arith)
devs_give (suc n) k (a ∷ b ∷ []) ls w l f e = absurd (omega arith)
devs_give (suc n) k (a ∷ b ∷ c ∷ st) ls w l f e =
    give none Three dev_kind (λ a. devs_plan n (onto a k)) w (record { weight = a; sum = b; squares = c }) (shown (dev_lines st) ++ ls)
    (dev_writes (record { weight = a; sum = b; squares = c }) f.0 f.1.0 f.1.1.0)
    (devs_give n (λ st. k (a ∷ b ∷ c ∷ st)) st ls w (omega arith) f.1.1.1 e)

-- ---- the waiting readings' lines

record Waited (d p n : ℕ) (v : List Float) (ts : List ℕ) : Type 0 where
  long : length ts ≡ n
  wide : length v ≡ length ts * d
  fit : Fits binary32 v
  is_finite : finite v ≡ true
  whole : Whole ts
  climb : Climbs p ts

record Bufs (d p n : ℕ) (k : List Float → List ℕ → State) (w : State) (ls : List (List ℕ)) : Type 0 where
  v : List Float
  ts : List ℕ
  is : shown (buf_lines d v ts) ≡ ls
  it : k v ts ≡ w
  waited : Waited d p n v ts

abbrev with_reading : Reading → (List Float → List ℕ → State) → List Float → List ℕ → State
with_reading r k v ts = k (r.value ++ v) (r.time ∷ ts)

bufs_put : (d p n : ℕ) (k : List Float → List ℕ → State) (w : State) (ls : List (List ℕ)) → Took (buf_kind d p) (λ r. Bufs d r.time n (with_reading r k) w) ls → Bufs d p (suc n) k w ls
unfolding buf_line
bufs_put d p n k w ls t =
    let l : length t.a.value ≡ d = eqb-true _ _ t.holds.1.1.0 in
    record {
      v = t.a.value ++ t.more.v;
      ts = t.a.time ∷ t.more.ts;
      is = rw (take_at t.a.value t.more.v d l, drop_at t.a.value t.more.v d l) (λ i. bytes_of_line (buf_line t.a.time t.a.value) ∷ t.more.is i) ∙ t.is;
      it = t.more.it;
      waited = record {
        long = ap suc t.more.waited.long;
        wide = length-append t.a.value t.more.v ∙ rw (t.more.waited.wide, l, suc-mul) (omega arith);
        fit = all_append _ t.a.value t.more.v (fits_of binary32 t.a.value t.holds.1.1.1.0) t.more.waited.fit;
        is_finite = finite_append t.a.value t.more.v t.holds.1.1.1.1.0 t.more.waited.is_finite;
        whole = (leb-true _ _ t.holds.1.0, t.more.waited.whole);
        climb = (leb-true _ _ t.holds.0, t.more.waited.climb);
      };
    }

bufs_none : (d p : ℕ) (k : List Float → List ℕ → State) (w : State) → k [] [] ≡ w → Bufs d p 0 k w []
unfolding finite
bufs_none d p k w e = record { v = []; ts = []; is = refl; it = e; waited = record { long = refl; wide = omega arith; fit = tt; is_finite = refl; whole = tt; climb = tt } }

bufs_took : (d p n : ℕ) (k : List Float → List ℕ → State) (w : State) (ls : List (List ℕ)) → follow (bufs_plan none d p n k) ls ≡ taken w → Bufs d p n k w ls
bufs_took d p zero k w [] e = bufs_none d p k w (taken_inj (k [] []) w e)
bufs_took d p zero k w (l ∷ ls) e = absurd (not_both (bad 1) refl e)
bufs_took d p (suc n) k w ls e =
    bufs_put d p n k w ls (took Reading (buf_kind d p) (λ r. bufs_plan none d r.time n (with_reading r k)) w (λ r. Bufs d r.time n (with_reading r k) w)
    (λ r. bufs_took d r.time n (with_reading r k) w) ls e)

-- where the text may end at once
bufs_may : (d p n : ℕ) (k : List Float → List ℕ → State) (w : State) (ls : List (List ℕ)) → follow (bufs_plan (some (k [] [])) d p n k) ls ≡ taken w → (Bufs d p 0 k w ls) ⊎ (Bufs d p n k w ls)
bufs_may d p zero k w ls e = inr (bufs_took d p zero k w ls e)
bufs_may d p (suc n) k w [] e = inl (bufs_none d p k w (taken_inj (k [] []) w e))
bufs_may d p (suc n) k w (l ∷ ls) e =
    inr (bufs_put d p n k w (l ∷ ls) (took_cons (some (k [] [])) Reading (buf_kind d p) (λ r. bufs_plan none d r.time n (with_reading r k)) w (λ r. Bufs d r.time n (with_reading r k) w)
    (λ r. bufs_took d r.time n (with_reading r k) w) l ls e))

bufs_give : (e : Option State) (d p n : ℕ) (k : List Float → List ℕ → State) (v : List Float) (ts : List ℕ) → Waited d p n v ts → follow (bufs_plan e d p n k) (shown
    (buf_lines d v ts)) ≡ taken (k v ts)
unfolding buf_line
bufs_give e d p zero k v [] h = rw (nil v (h.wide ∙ zero-mul d))
bufs_give e d p zero k v (t ∷ ts) h = absurd (omega (arith, h.long))
bufs_give e d p (suc n) k v [] h = absurd (omega (arith, h.long))
bufs_give e d p (suc n) k v (t ∷ ts) h =
    let w' : length v ≡ length ts * d + d = h.wide ∙ suc-mul (length ts) d in
    let s : (finite (take d v) ≡ true) × (finite (drop d v) ≡ true) = finite_split (take d v) (drop d v) (rw take-append-drop h.is_finite) in
    let r : Reading = record { value = take d v; time = t } in
    let i : follow (bufs_plan none d t n (with_reading r k)) (shown (buf_lines d (drop d v) ts)) ≡ taken (k (take d v ++ drop d v) (t ∷ ts)) =
    bufs_give none d t n (with_reading r k) (drop d v) ts (record {
      long = omega (arith, h.long);
      wide = simp length-drop (omega arith);
      fit = all_drop _ d v h.fit;
      is_finite = s.1;
      whole = h.whole.1;
      climb = h.climb.1;
    }) in
    give e Reading (buf_kind d p) (λ r. bufs_plan none d r.time n (with_reading r k)) (k v (t ∷ ts)) r (shown (buf_lines d (drop d v) ts))
    (buf_writes d p r h.climb.0 h.whole.0 (length-take-le d v (omega arith)) (all_take _ d v h.fit) s.0)
    (rw take-append-drop at i)

-- ---- how many waiting readings stand there

abbrev Counted : Settings → Counts → ℕ → Type 0
Counted s c n = (waiting s c.values_seen ≡ true → n ≡ c.values_seen)
    × (waiting s c.values_seen ≡ false → (n ≡ 0) ⊎ ((normalizes s.method ≡ true) × (n ≡ s.start) × (c.values_seen ≡ s.start → c.internal_timestamp ≡ 0)))

record Tail (s : Settings) (c : Counts) (k : List Float → List ℕ → State) (w : State) (ls : List (List ℕ)) : Type 0 where
  n : ℕ
  bufs : Bufs s.d 0 n k w ls
  counted : Counted s c n

tail_took : (s : Settings) (c : Counts) (k : List Float → List ℕ → State) (w : State) (ls : List (List ℕ)) (b m : Bool) → waiting s c.values_seen ≡ b → may_stand s c ≡ m
    → follow (buf_plan b m s c k) ls ≡ taken w → Tail s c k w ls
unfolding may_stand
tail_took s c k w ls true m x y e = record { n = c.values_seen; bufs = bufs_took s.d 0 c.values_seen k w ls e; counted = (λ _. refl, λ q. clash _ x q) }
tail_took s c k w ls false false x y e = record { n = 0; bufs = bufs_took s.d 0 0 k w ls e; counted = (λ q. clash _ q x, λ _. inl refl) }
tail_took s c k w ls false true x y e = go (bufs_may s.d 0 s.start k w ls e)
  where
    go : (Bufs s.d 0 0 k w ls) ⊎ (Bufs s.d 0 s.start k w ls) → Tail s c k w ls
    go (inl r) = record { n = 0; bufs = r; counted = (λ q. clash _ q x, λ _. inl refl) }
    go (inr r) = record {
      n = s.start;
      bufs = r;
      counted = (λ q. clash _ q x, λ _. inr (and_left _ _ y, refl, λ z. eqb-true _ _ (if_of (eqb c.values_seen s.start) _ (and_right (normalizes s.method) _ y) (eq-eqb _ _ z))));
    }

-- ---- all of a text that was taken, as one value

abbrev Ends : Settings → Counts → State → List Float → List (List ℕ) → Type 0
Ends s c w st = Took (inp_kind s) λ x. Took (pnt_kind s) λ y. Took (tim_kind s c) λ ts. Tail s c (state_of s c st x y ts) w

abbrev Middle : Settings → State → List (List ℕ) → Type 0
Middle s w = Took (cnt_kind s) λ c. Devs (5 * s.d + 5) (Ends s c w)

-- from line 3 on: the codes, or the counts of a text that lacks them
abbrev Third : Settings → List Float → State → List ℕ ⊎ Counts → List (List ℕ) → Type 0
Third s v w (inl cs) = Middle (with_lists s v cs) w
Third s v w (inr c) = Devs (5 * s.d + 5) (Ends (bare s v) c w)

abbrev Entire : State → List (List ℕ) → Type 0
Entire w = Took set_kind λ s. Took (wgt_kind s) λ v. Took (third_kind s v) (Third s v w)

ends_took : (s : Settings) (c : Counts) (w : State) (st : List Float) (ls : List (List ℕ)) → follow (after_dev s c st) ls ≡ taken w → Ends s c w st ls
ends_took s c w st =
    took (List Float) (inp_kind s) (after_inp s c st) w _ λ x.
    took (List Float) (pnt_kind s) (after_pnt s c st x) w _ λ y.
    took (List ℕ) (tim_kind s c) (after_tim s c st x y) w _ λ ts r.
    tail_took s c (state_of s c st x y ts) w r (waiting s c.values_seen) (may_stand s c) refl refl

third_took : (s : Settings) (v : List Float) (w : State) (o : List ℕ ⊎ Counts) (ls : List (List ℕ)) → follow (after_third s v o) ls ≡ taken w → Third s v w o ls
third_took s v w (inl cs) =
    took Counts (cnt_kind (with_lists s v cs)) (after_cnt (with_lists s v cs)) w _ λ c.
    devs_took (5 * s.d + 5) (after_dev (with_lists s v cs) c) w _ (ends_took (with_lists s v cs) c w)
third_took s v w (inr c) = devs_took (5 * s.d + 5) (after_dev (bare s v) c) w _ (ends_took (bare s v) c w)

whole_took : (w : State) (ls : List (List ℕ)) → follow plan ls ≡ taken w → Entire w ls
whole_took w =
    took Settings set_kind after_set w _ λ s.
    took (List Float) (wgt_kind s) (after_wgt s) w _ λ v.
    took (List ℕ ⊎ Counts) (third_kind s v) (after_third s v) w _ (third_took s v w)

-- ---- it is of the form, and it is that text

ends_form : (s : Settings) (ok : Valid s) (c : Counts) (hc : Hold ((cnt_kind s).tests c)) (st : List Float) (long : length st ≡ statistics_length s) (fit : Fits binary64 st)
    (x y : List Float) (ts : List ℕ) (hx : Hold ((inp_kind s).tests x)) (hy : Hold ((pnt_kind s).tests y)) (ht : Hold ((tim_kind s c).tests ts))
    (n : ℕ) (v : List Float) (us : List ℕ) → Waited s.d 0 n v us → Counted s c n → Form (state_of s c st x y ts v us)
ends_form s ok c hc st long fit x y ts hx hy ht n v us q m = record {
  valid = ok;
  statistics_fit = fit;
  input_fits = fits_of binary32 x hx.1.0;
  point_fits = fits_of binary32 y hy.1.0;
  initial_fit = q.fit;
  times_fit = whole_of ts ht.1.0;
  initial_times_fit = q.whole;
  statistics_long = long;
  input_long = eqb-true _ _ hx.0;
  point_long = eqb-true _ _ hy.0;
  times_long = eqb-true _ _ ht.0;
  seen_fits = leb-true _ _ hc.0;
  internal_fits = leb-true _ _ hc.1.0;
  count_fits = leb-true _ _ hc.1.1.0;
  times_climb = climbs_of 0 ts ht.1.1.0;
  times_zero = λ z. zeros_of ts (if_of (eqb c.internal_timestamp 0) _ ht.1.1.1.0 (eq-eqb _ _ z)) ∙ ap (λ (n : ℕ). replicate n 0) (eqb-true (length ts) s.k ht.0);
  initial_long = q.wide;
  initial_finite = q.is_finite;
  initial_climb = q.climb;
  while_waiting = λ e. (q.long ∙ m.0 e, eqb-true _ _ (if_of (waiting s c.values_seen) _ hc.1.1.1.0 e));
  later = λ e. later (m.1 e);
}
  where
    later : (n ≡ 0) ⊎ ((normalizes s.method ≡ true) × (n ≡ s.start) × (c.values_seen ≡ s.start → c.internal_timestamp ≡ 0)) → (us ≡ []) ⊎
        ((normalizes s.method ≡ true) × (length us ≡ s.start) × (c.values_seen ≡ s.start → c.internal_timestamp ≡ 0))
    later (inl z) = inl (nil us (q.long ∙ z))
    later (inr z) = inr (z.0, q.long ∙ z.1, z.2)

then : {x : List ℕ} {r t ls : List (List ℕ)} → r ≡ t → x ∷ t ≡ ls → x ∷ r ≡ ls
then {x} p q = (λ i. x ∷ p i) ∙ q

-- from `dev` on
body_form : (s : Settings) → Valid s → (c : Counts) → Hold ((cnt_kind s).tests c) → (w : State) (ls : List (List ℕ)) → Devs (5 * s.d + 5) (Ends s c w) ls
    → Form w × (w.settings ≡ s) × (shown (body_lines w) ≡ bytes_of_line ((cnt_kind s).write c) ∷ ls)
unfolding body_lines
body_form s ok c hc w ls t = subst (λ (u : State). Form u × (u.settings ≡ s) × (shown (body_lines u) ≡ bytes_of_line ((cnt_kind s).write c) ∷ ls)) t.more.more.more.more.bufs.it (
  ends_form s ok c hc _ t.long t.fit _ _ _ t.more.holds t.more.more.holds t.more.more.more.holds _ _ _ t.more.more.more.more.bufs.waited
      t.more.more.more.more.counted,
  refl,
  then (shown_append (dev_lines t.st) _ ∙ ap (λ (r : List (List ℕ)). shown (dev_lines t.st) ++ r)
      (then (then (then t.more.more.more.more.bufs.is t.more.more.more.is) t.more.more.is) t.more.is)
      ∙ t.is) refl,
)

-- the lines of a text of w
record Shows (w : State) (ls : List (List ℕ)) : Type 0 where
  coded : Bool
  all_zero : coded ≡ false → w.settings.codes ≡ replicate w.settings.d 0
  is : shown (lines_by coded w) ≡ ls

third_form : (s : Settings) (v : List Float) → Hold (set_kind.tests s) → Hold ((wgt_kind s).tests v) → (w : State) (o : List ℕ ⊎ Counts) (ls : List (List ℕ)) → Hold ((third_kind s v).tests o) →
    Third s v w o ls
    → Form w × Shows w (bytes_of_line (set_line s) ∷ bytes_of_line (singles wgt v) ∷ bytes_of_line ((third_kind s v).write o) ∷ ls)
unfolding lines_by set_line
third_form s v h g w (inl cs) ls q t =
    let r = body_form (with_lists s v cs) (valid_of s v cs h g q) t.a t.holds w t.rest t.more in (
      r.0,
      record {
        coded = true;
        all_zero = λ e. absurd (false≢true (sym e));
        is = λ i. bytes_of_line (set_line (r.1 i)) ∷ bytes_of_line (singles wgt (r.1 i).weights) ∷ bytes_of_line (chn_line (r.1 i).codes) ∷ (r.2 ∙ t.is) i;
      },
    )
third_form s v h g w (inr c) ls q t =
    let r = body_form (bare s v) (valid_of s v (replicate s.d 0) h g (zero_codes_lem s)) c q w ls t in (
      r.0,
      record {
        coded = false;
        all_zero = λ _. subst (λ (z : Settings). z.codes ≡ replicate z.d 0) (sym r.1) refl;
        is = λ i. bytes_of_line (set_line (r.1 i)) ∷ bytes_of_line (singles wgt (r.1 i).weights) ∷ r.2 i;
      },
    )

whole_form : (w : State) (ls : List (List ℕ)) → Entire w ls → Form w × Shows w ls
whole_form w ls t =
    let r = third_form t.a t.more.a t.holds t.more.holds w t.more.more.a t.more.more.rest t.more.more.holds t.more.more.more in
    (r.0, record { coded = r.1.coded; all_zero = r.1.all_zero; is = r.1.is ∙ then (then t.more.more.is t.more.is) t.is })

-- ---- a text of the form is taken

abbrev counts_of : State → Counts
counts_of w = record { values_seen = w.values_seen; internal_timestamp = w.internal_timestamp; count = w.count }

bufs_empty : (d p n : ℕ) (k : List Float → List ℕ → State) → follow (bufs_plan (some (k [] [])) d p n k) [] ≡ taken (k [] [])
bufs_empty d p zero k = refl
bufs_empty d p (suc n) k = refl

module _ (w : State) (g : Form w) where
  abbrev s : Settings
  s = w.settings

  abbrev c : Counts
  c = counts_of w

  abbrev k : List Float → List ℕ → State
  k = state_of s c w.statistics w.last_shingled_input w.last_shingled_point w.previous_timestamps

  waited : (n : ℕ) → length w.initial_timestamps ≡ n → Waited s.d 0 n w.initial_values w.initial_timestamps
  waited n e = record { long = e; wide = g.initial_long; fit = g.initial_fit; is_finite = g.initial_finite; whole = g.initial_times_fit; climb = g.initial_climb }

  no_values : w.initial_timestamps ≡ [] → w.initial_values ≡ []
  no_values e = nil w.initial_values (g.initial_long ∙ ap (λ (l : List ℕ). length l * s.d) e ∙ zero-mul s.d)

  none_give : (p : Plan) → w.initial_timestamps ≡ [] → follow p [] ≡ taken (k [] []) → follow p (shown (buf_lines s.d w.initial_values w.initial_timestamps)) ≡ taken
      (k w.initial_values w.initial_timestamps)
  none_give p e h = rw (no_values e, e) h

  tail_give : (b m : Bool) → waiting s w.values_seen ≡ b → may_stand s c ≡ m → follow (buf_plan b m s c k) (shown (buf_lines s.d w.initial_values w.initial_timestamps)) ≡ taken w
  unfolding may_stand
  tail_give true m x y = bufs_give none s.d 0 w.values_seen k w.initial_values w.initial_timestamps (waited w.values_seen (g.while_waiting x).0)
  tail_give false m x y = go m y (g.later x)
    where
      go : (m : Bool) → may_stand s c ≡ m → (w.initial_timestamps ≡ []) ⊎
          ((normalizes s.method ≡ true) × (length w.initial_timestamps ≡ s.start) × (w.values_seen ≡ s.start → w.internal_timestamp ≡ 0))
          → follow (buf_plan false m s c k) (shown (buf_lines s.d w.initial_values w.initial_timestamps)) ≡ taken w
      go false y (inl e) = none_give (plan_end (k [] [])) e refl
      go true y (inl e) = none_give (bufs_plan (some (k [] [])) s.d 0 s.start k) e (bufs_empty s.d 0 s.start k)
      go false y (inr e) = clash (may_stand s c) (rw e.0 (to_if (eqb w.values_seen s.start) _ (λ q. eq-eqb _ _ (e.2 (eqb-true _ _ q))))) y
      go true y (inr e) = bufs_give (some (k [] [])) s.d 0 s.start k w.initial_values w.initial_timestamps (waited s.start e.1)

  abbrev tim_lines : List Line
  tim_lines = tim_line w.previous_timestamps ∷ buf_lines s.d w.initial_values w.initial_timestamps

  abbrev pnt_lines : List Line
  pnt_lines = singles pnt w.last_shingled_point ∷ tim_lines

  abbrev end_lines : List Line
  end_lines = singles inp w.last_shingled_input ∷ pnt_lines

  ends_give : follow (after_dev s c w.statistics) (shown end_lines) ≡ taken w
  ends_give =
      give none (List Float) (inp_kind s) (after_inp s c w.statistics) w w.last_shingled_input (shown pnt_lines)
      (singles_write _ _ _ w.last_shingled_input (omega arith) g.input_long g.input_fits tt)
      (give none (List Float) (pnt_kind s) (after_pnt s c w.statistics w.last_shingled_input) w w.last_shingled_point (shown tim_lines)
      (singles_write _ _ _ w.last_shingled_point (omega arith) g.point_long g.point_fits tt)
      (give none (List ℕ) (tim_kind s c) (after_tim s c w.statistics w.last_shingled_input w.last_shingled_point) w w.previous_timestamps
      (shown (buf_lines s.d w.initial_values w.initial_timestamps))
      (tim_writes s c w.previous_timestamps g.times_long g.times_fit g.times_climb g.times_zero) (tail_give (waiting s w.values_seen) (may_stand s c) refl refl)))

  abbrev mid_lines : List Line
  mid_lines = dev_lines w.statistics ++ end_lines

  abbrev cnt_lines : List Line
  cnt_lines = cnt_line w.values_seen w.internal_timestamp w.count ∷ mid_lines

  middle_give : follow (after_cnt s c) (shown mid_lines) ≡ taken w
  middle_give = rw (shown_append (dev_lines w.statistics) end_lines) (devs_give (5 * s.d + 5) (after_dev s c) w.statistics (shown end_lines) w g.statistics_long g.statistics_fit ends_give)

  cnt_given : Writes (cnt_kind s) c
  cnt_given = cnt_writes s c g.seen_fits g.internal_fits g.count_fits (λ e. (g.while_waiting e).1)

  abbrev third_lines : Bool → List Line
  third_lines true = chn_line s.codes ∷ cnt_lines
  third_lines false = cnt_lines

  -- what line 1 tells of the settings
  abbrev set : Settings
  set = with_lists s [] []

  third_give : (b : Bool) → (b ≡ false → s.codes ≡ replicate s.d 0) → follow (after_wgt set s.weights) (shown (third_lines b)) ≡ taken w
  unfolding chn_line cnt_line
  third_give true z =
      give none (List ℕ ⊎ Counts) (third_kind set s.weights) (after_third set s.weights) w (inl s.codes) (shown cnt_lines)
      (either_left chn (chn_kind s) (cnt_kind (bare set s.weights)) s.codes refl (chn_writes s s.codes (chn_long s g.valid) g.valid.machine.codes_fit))
      (give none Counts (cnt_kind s) (after_cnt s) w c (shown mid_lines) cnt_given middle_give)
  third_give false z =
      give none (List ℕ ⊎ Counts) (third_kind set s.weights) (after_third set s.weights) w (inr c) (shown mid_lines)
      (either_right chn (chn_kind s) (cnt_kind (bare set s.weights)) c refl (subst (λ (cs : List ℕ). Writes (cnt_kind (with_lists s s.weights cs)) c) (z refl) cnt_given))
      (subst (λ (cs : List ℕ). follow (after_cnt (with_lists s s.weights cs) c) (shown mid_lines) ≡ taken w) (z refl) middle_give)

  lines_are : (b : Bool) → lines_by b w ≡ set_line s ∷ singles wgt s.weights ∷ third_lines b
  unfolding lines_by body_lines
  lines_are true = refl
  lines_are false = refl

  pub complete : (b : Bool) → (b ≡ false → s.codes ≡ replicate s.d 0) → follow plan (shown (lines_by b w)) ≡ taken w
  unfolding set_line
  complete b z =
      rw (lines_are b)
      (give none Settings set_kind after_set w set (shown (singles wgt s.weights ∷ third_lines b)) (set_writes s g.valid)
      (give none (List Float) (wgt_kind set) (after_wgt set) w s.weights (shown (third_lines b))
      (singles_write _ _ _ s.weights (omega arith) (wgt_long s g.valid) g.valid.machine.weights_fit (wgt_tests s g.valid))
      (third_give b z)))

-- ---- the plan can always be gone on with

zeros_fit : (n : ℕ) → Fits binary32 (replicate n zero32)
unfolding fits of_bits of_fields odd
zeros_fit n = all_replicate _ n zero32 tt

zeros_write : (name : List ℕ) (n : ℕ) → Clean name → Writes (singles_kind name n (λ v. [])) (replicate n zero32)
zeros_write name n h = singles_write name n (λ v. []) (replicate n zero32) h (length-replicate n zero32) (zeros_fit n) tt

zeros_finite : (n : ℕ) → finite (replicate n zero32) ≡ true
unfolding finite of_bits of_fields odd
zeros_finite zero = refl
zeros_finite (suc n) = zeros_finite n

zeros_climb : (n : ℕ) → Climbs 0 (replicate n 0)
zeros_climb zero = tt
zeros_climb (suc n) = (omega arith, zeros_climb n)

ones_one : (n : ℕ) → all_one (replicate n one32) ≡ true
unfolding all_one eq of_bits of_fields odd
ones_one zero = refl
ones_one (suc n) = ones_one n

pub ones_pass : (b : Bool) (n : ℕ) → not (b && not (all_one (replicate n one32))) ≡ true
ones_pass true n = rw (ones_one n) refl
ones_pass false n = refl

pub ones_fit : (n : ℕ) → Fits binary32 (replicate n one32)
unfolding fits of_bits of_fields odd
ones_fit n = all_replicate _ n one32 tt

bufs_live : (e : Option State) (d p n : ℕ) (k : List Float → List ℕ → State) → p ≤ whole_max → Live (bufs_plan e d p n k)
bufs_live e d p zero k h = tt
bufs_live e d p (suc n) k h = (
  record { value = replicate d zero32; time = p },
  buf_writes d p _ (omega arith) h (length-replicate d zero32) (zeros_fit d) (zeros_finite d),
  λ r q. bufs_live none d r.time n (with_reading r k) (leb-true _ _ q.1.0),
)

tail_live : (b m : Bool) (s : Settings) (c : Counts) (k : List Float → List ℕ → State) → Live (buf_plan b m s c k)
tail_live true m s c k = bufs_live none s.d 0 c.values_seen k (omega arith)
tail_live false true s c k = bufs_live (some (k [] [])) s.d 0 s.start k (omega arith)
tail_live false false s c k = tt

ends_live : (s : Settings) (c : Counts) (st : List Float) → Live (after_dev s c st)
ends_live s c st = (
  replicate (s.d * s.k) zero32,
  zeros_write _ _ (omega arith),
  λ x _. (
    replicate (dimension s) zero32,
    zeros_write _ _ (omega arith),
    λ y _. (
      replicate s.k 0,
      tim_writes s c (replicate s.k 0) (length-replicate s.k 0) (all_replicate _ s.k 0 (omega arith)) (zeros_climb s.k) (λ _. refl),
      λ ts _.
          tail_live (waiting s c.values_seen) (may_stand s c) s c (state_of s c st x y ts),
    ),
  ),
)

devs_live : (n : ℕ) (k : List Float → Plan) → ((st : List Float) → Live (k st)) → Live (devs_plan n k)
unfolding fits of_bits of_fields odd
devs_live zero k h = h []
devs_live (suc n) k h = (record { weight = zero64; sum = zero64; squares = zero64 }, dev_writes _ tt tt tt, λ a _. devs_live n (onto a k) (λ st. h (a.weight ∷ a.sum ∷ a.squares ∷ st)))

-- the settings of document 01's sample of the bench
abbrev pub sample : Settings
sample =
    record { mode = STANDARD; method = NONE; d = 1; k = 1; start = 10; stop = 20; decay = zero64; weight_time = one32; weights = one32 ∷ []; codes = 0 ∷ [] }

pub sample_valid : Valid sample
unfolding settings_row outside_unit all_one le lt eq fits of_bits of_fields odd
sample_valid = record { unrefused = refl; machine = record { stop_fits = omega arith; decay_fits = tt; weight_time_fits = tt; weights_fit = (tt, tt); codes_fit = (omega arith, tt) } }

third_live : (s : Settings) (v : List Float) (o : List ℕ ⊎ Counts) → Live (after_third s v o)
third_live s v (inl cs) = (
  record { values_seen = 0; internal_timestamp = 0; count = 0 },
  cnt_writes (with_lists s v cs) _ (omega arith) (omega arith) (omega arith) (λ _. refl),
  λ c _.
      devs_live (5 * s.d + 5) (after_dev (with_lists s v cs) c) (ends_live (with_lists s v cs) c),
)
third_live s v (inr c) = devs_live (5 * s.d + 5) (after_dev (bare s v) c) (ends_live (bare s v) c)

plan_live : Live plan
unfolding chn_line
plan_live = (
  with_lists sample [] [],
  set_writes sample sample_valid,
  λ s _. (
    replicate s.d one32,
    singles_write _ _ _ (replicate s.d one32) (omega arith) (length-replicate s.d one32) (ones_fit s.d) (ones_pass (is_none s.method) s.d, tt),
    λ v _. (
      inl (replicate s.d 0),
      either_left chn (chn_kind s) (cnt_kind (bare s v)) (replicate s.d 0) refl (chn_writes s _ (length-replicate s.d 0) (all_replicate {A = ℕ} _ s.d 0 (omega arith))),
      λ o _.
          third_live s v o,
    ),
  ),
)

-- ---- the theorems

pub lines_text : (b : Bool) (w : State) → lines (bytes_of (lines_by b w)) ≡ shown (lines_by b w)
lines_text b w = lines_bytes (lines_by b w) (lines_clean b w)

-- lines that show w make a text of w
shown_text : (w : State) (ls : List (List ℕ)) → Shows w ls → TextOf w (join ls)
shown_text w ls t = record { coded = t.coded; all_zero = t.all_zero; is = bytes_join (lines_by t.coded w) ∙ ap join t.is }

-- a text that is taken is one of a state of the form
pub read_sound : (t : List ℕ) (w : State) → read t ≡ taken w → Form w × TextOf w t
unfolding read
read_sound t w e =
    let r = whole_form w (lines t) (whole_took w (lines t) e) in
    (r.0, subst (TextOf w) (join_lines t) (shown_text w (lines t) r.1))

-- a text of a state of the form is taken as this state
pub read_exactly : (t : List ℕ) (w : State) → Form w → TextOf w t → read t ≡ taken w
unfolding read
read_exactly t w g x = ap read (sym x.is) ∙ rw (lines_text x.coded w) (complete w g x.coded x.all_zero)

-- what is put away is a text
pub put_away_lem : (w : State) → TextOf w (render w)
unfolding render
put_away_lem w = record { coded = true; all_zero = λ e. absurd (false≢true (sym e)); is = refl }

pub read_complete : (w : State) → Form w → read (render w) ≡ taken w
read_complete w g = read_exactly (render w) w g (put_away_lem w)

-- what a text is read as is unique: no text is one of two states of the form
pub text_injective : (t : List ℕ) (w u : State) → Form w → Form u → TextOf w t → TextOf u t → w ≡ u
text_injective t w u f g x y = taken_inj w u (sym (read_exactly t w f x) ∙ read_exactly t u g y)

pub render_injective : (w u : State) → Form w → Form u → render w ≡ render u → w ≡ u
render_injective w u f g e = text_injective (render w) w u f g (put_away_lem w) (subst (TextOf u) (sym e) (put_away_lem u))

-- where it refuses, its line is the first after which no text of the form begins with what was read
pub read_first_bad : (t : List ℕ) (n : ℕ) → read t ≡ bad n → FirstBad n t
unfolding read
read_first_bad t n e = record {
  none_here = λ a. not_both (read a.1) (same_bad plan n (lines t) (lines a.1) e a.4) (read_exactly a.1 a.0 a.2 a.3);
  one_before = λ m h.
      let r = good_before plan plan_live m n (lines t) e h in
      let f = whole_form r.0 r.1 (whole_took r.0 r.1 r.2) in
      let b = f.1.coded in
      (r.0, bytes_of (lines_by b r.0), f.0, record { coded = b; all_zero = f.1.all_zero; is = refl }, ap (take m) (lines_text b r.0 ∙ f.1.is) ∙ r.3);
}

-- the other way round: the first bad line is what is answered
pub first_bad_read : (t : List ℕ) (n : ℕ) → FirstBad n t → read t ≡ bad n
unfolding read
first_bad_read t n h = go (read t) refl
  where
    go : (r : Read) → read t ≡ r → read t ≡ bad n
    go (taken w) e = absurd (h.none_here (w, t, (read_sound t w e).0, (read_sound t w e).1, refl))
    go (bad m) e = e ∙ ap bad (least (ltb m n) (ltb n m) refl refl)
      where
        l : FirstBad m t
        l = read_first_bad t m e

        least : (a b : Bool) → ltb m n ≡ a → ltb n m ≡ b → m ≡ n
        least true b x y = absurd (l.none_here (h.one_before m (ltb-true _ _ x)))
        least false true x y = absurd (h.none_here (l.one_before n (ltb-true _ _ y)))
        least false false x y = omega (arith, ltb-false m n x, ltb-false n m y)
