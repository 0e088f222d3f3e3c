-- Each kind of line is read as the code reads it.
use Prim.Native.Nat.{ℕ, ◌*◌, ◌≤◌}
use native.Mathlib.Omega.{arith}
use mathlib.Core.Path.{◌≡◌, refl, sym, ap, ◌∙◌, subst}
use mathlib.Core.Bool.{Bool, true, false, not, ◌&&◌}
use mathlib.Core.List.{List, [], ◌∷◌, ◌++◌, map, append_assoc}
use mathlib.Core.Option.{Option, none, some, some-injective, none-ne-some}
use lib.ListN.{length, replicate}
use lib.Dec.{T, eqb, leb, ltb}
use lib.Ieee.{Float, binary32, binary64, fits}
use borrow.Author.Tests.{eqb-true, eq-eqb, leb-true}
use Rattle.common.specs.Deviation.{count_limit}
use Rattle.trcf.specs.Types.{is_none, normalizes}
use Rattle.trcf.specs.Settings.{Settings, All, Fits, Whole, dimension, waiting, whole_max, code_max, all_one}
use Rattle.trcf.specs.Calls.{finite, seen_limit}
use Rattle.trcf.specs.Preprocessor.{Reading, reading}
use mathlib.Core.Logic.{◌⊎◌, inl, inr}
use Rattle.snapshot.specs.Text.{tabbed_fields, whole, float, singles, chn_line, cnt_line, dev_line, tim_line, buf_line}
use Rattle.snapshot.specs.Read.{bytes_of_line, every, as_whole, as_float, climbs, zeros, all_codes, same, LineKind, chn_kind, either_kind, singles_kind}
use Rattle.snapshot.specs.Read.{wgt_kind, inp_kind, pnt_kind, cnt_kind, Counts, dev_kind, Three, tim_kind, buf_kind}
use Rattle.snapshot.specs.Steps.Write.{tabbed}
use Rattle.snapshot.specs.Steps.Judge.{onto, with_rest, byte, name, one, fields, closing, list_line, checked, wgt_test, wgt_by, chn_by, either_of, counts_of}
use Rattle.snapshot.specs.Steps.Judge.{counts_if_read, cnt_test, cnt_by, tim_test, tim_by, timed, buf_test, buf_raw, buf_by, three_of, threed, dev_by}
use Rattle.snapshot.proofs.Lists.{and_left, and_right, if_of}
use Rattle.snapshot.proofs.Fields.{Clean}
use Rattle.snapshot.proofs.ReadLine.{Hold, every_hold, hold_every, Writes}
use Rattle.snapshot.proofs.ReadKinds.{fit_of, fits_of, whole_of, climbs_of, zeros_of, codes_of, chn_writes, either_left, either_right, singles_write, cnt_writes, dev_writes, tim_writes, buf_writes}
use Rattle.snapshot.proofs.LineBytes.{buf_bytes}
use Rattle.snapshot.proofs.JudgeLines.{Reads, float_codec, whole_codec, line_is, line_back, byte_is, name_is, name_back, onto_some, one_is, one_back, tabbed_stop, fields_are, fields_back}

pub checked_some : {A : Type 0} (q : A → Bool) (o : Option (A × List ℕ)) (r : A × List ℕ) → checked q o ≡ some r → (o ≡ some r) × (q r.0 ≡ true)
checked_some q none r e = absurd (none-ne-some r e)
checked_some {A} q (some s) r e = go (q s.0) refl
  where
    go : (b : Bool) → q s.0 ≡ b → (some s ≡ some r) × (q r.0 ≡ true)
    go true h = let k : s ≡ r = some-injective s r (rw h at e) in (ap some k, ap (λ (x : A × List ℕ). q x.0) (sym k) ∙ h)
    go false h = absurd (none-ne-some r (rw h at e))

reads_same : {A : Type 0} (k : LineKind A) (B C : List ℕ → Option (A × List ℕ)) → ((l : List ℕ) → B l ≡ C l) → Reads k B → Reads k C
reads_same k B C e R = record {
  good = λ l r h. R.good l r (e l ∙ h);
  back = λ a z h. let b = R.back a z h in (b.0, sym (e (bytes_of_line (k.write a) ++ z)) ∙ b.1);
}

-- ---- singles after a name

module _ (a b c n : ℕ) (more : List Float → List Bool) (cl : Clean (a ∷ b ∷ c ∷ [])) where
  pub singles_reads : Reads (singles_kind (a ∷ b ∷ c ∷ []) n more) (λ l. checked (λ v. every (more v)) (list_line (as_float binary32) a b c n l))
  unfolding singles
  singles_reads = record {
    good = λ l r e.
        let k = checked_some (λ v. every (more v)) (list_line (as_float binary32) a b c n l) r e in
        let h = line_is (as_float binary32) (float binary32) (λ x. T (fits binary32 x)) (float_codec binary32) a b c n l r k.0 in
        (h.0, singles_write (a ∷ b ∷ c ∷ []) n more r.0 cl h.1 h.2 (every_hold (more r.0) k.1));
    back = λ v z h.
        let m : length v ≡ n = eqb-true _ _ h.0 in
        let e = line_back (as_float binary32) (float binary32) (λ x. T (fits binary32 x)) (float_codec binary32) a b c v z (fits_of binary32 v h.1.0) in
        (v, rw (← m, e, hold_every (more v) h.1.1));
  }

pub wgt_reads : (s : Settings) → Reads (wgt_kind s) (wgt_by s.method s.d)
unfolding wgt_by wgt_test
wgt_reads s = singles_reads 119 103 116 s.d (λ v. not (is_none s.method && not (all_one v)) ∷ []) (omega arith, (omega arith, (omega arith, tt)))

all_checked : {A : Type 0} (o : Option (A × List ℕ)) → checked (λ v. true) o ≡ o
all_checked none = refl
all_checked (some r) = refl

pub inp_reads : (s : Settings) → Reads (inp_kind s) (list_line (as_float binary32) 105 110 112 (s.d * s.k))
inp_reads s =
    reads_same (inp_kind s) (λ l. checked (λ v. true) (list_line (as_float binary32) 105 110 112 (s.d * s.k) l)) (list_line (as_float binary32) 105 110 112 (s.d * s.k))
    (λ l. all_checked (list_line (as_float binary32) 105 110 112 (s.d * s.k) l))
    (singles_reads 105 110 112 (s.d * s.k) (λ v. []) (omega arith, (omega arith, (omega arith, tt))))

pub pnt_reads : (s : Settings) → Reads (pnt_kind s) (list_line (as_float binary32) 112 110 116 (dimension s))
pnt_reads s =
    reads_same (pnt_kind s) (λ l. checked (λ v. true) (list_line (as_float binary32) 112 110 116 (dimension s) l)) (list_line (as_float binary32) 112 110 116 (dimension s))
    (λ l. all_checked (list_line (as_float binary32) 112 110 116 (dimension s) l))
    (singles_reads 112 110 116 (dimension s) (λ v. []) (omega arith, (omega arith, (omega arith, tt))))

-- ---- the times

pub tim_reads : (s : Settings) (c : Counts) → Reads (tim_kind s c) (tim_by c.internal_timestamp s.k)
unfolding tim_by tim_test tim_line
tim_reads s c = record {
  good = λ l r e.
      let k = checked_some (tim_test c.internal_timestamp) (list_line as_whole 116 105 109 s.k l) r e in
      let h = line_is as_whole whole (λ n. n ≤ whole_max) whole_codec 116 105 109 s.k l r k.0 in (
        h.0,
        tim_writes s c r.0 h.1 h.2 (climbs_of 0 r.0 (and_left _ _ k.1))
            (λ z. zeros_of r.0 (if_of (eqb c.internal_timestamp 0) (zeros r.0) (and_right (climbs 0 r.0) _ k.1) (eq-eqb c.internal_timestamp 0 z)) ∙ ap
            (λ (n : ℕ). replicate n 0) h.1),
      );
  back = λ ts z h.
      let m : length ts ≡ s.k = eqb-true _ _ h.0 in
      let e = line_back as_whole whole (λ n. n ≤ whole_max) whole_codec 116 105 109 ts z (whole_of ts h.1.0) in
      (ts, rw (← m, e, h.1.1.0, h.1.1.1.0));
}

-- ---- the codes

codes_whole : (l : List ℕ) → All (λ c. c ≤ code_max) l → Whole l
codes_whole [] h = tt
codes_whole (c ∷ cs) h = (omega (arith, h.0), codes_whole cs h.1)

pub chn_reads : (s : Settings) → Reads (chn_kind s) (chn_by s.d)
unfolding chn_by chn_line
chn_reads s = record {
  good = λ l r e.
      let k = checked_some all_codes (list_line as_whole 99 104 110 s.d l) r e in
      let h = line_is as_whole whole (λ n. n ≤ whole_max) whole_codec 99 104 110 s.d l r k.0 in
      (h.0, chn_writes s r.0 h.1 (codes_of r.0 k.1));
  back = λ cs z h.
      let m : length cs ≡ s.d = eqb-true _ _ h.0 in
      let e = line_back as_whole whole (λ n. n ≤ whole_max) whole_codec 99 104 110 cs z (codes_whole cs (codes_of cs h.1.0)) in
      (cs, rw (← m, e, h.1.0));
}

-- ---- one kind or the other: the lines of the second are none of the first

module _ {A C : Type 0} (n : List ℕ) (p : LineKind A) (q : LineKind C) (P : List ℕ → Option (A × List ℕ)) (Q : List ℕ → Option (C × List ℕ)) (np : (a : A) → (p.write a).name ≡ n)
    (nq : (c : C) → same (q.write c).name n ≡ false) (off : (c : C) (z : List ℕ) → P (bytes_of_line (q.write c) ++ z) ≡ none) where
  either_good : (l : List ℕ) → Reads p P → Reads q Q → (o : Option (A × List ℕ)) → P l ≡ o → (u : Option (C × List ℕ)) → Q l ≡ u → (r : (A ⊎ C) × List ℕ) → either_of o u ≡ some r
      → (l ≡ bytes_of_line ((either_kind n p q).write r.0) ++ r.1) × Writes (either_kind n p q) r.0
  either_good l R S (some x) e u f r h =
      let g = R.good l x e in
      subst (λ (y : (A ⊎ C) × List ℕ). (l ≡ bytes_of_line ((either_kind n p q).write y.0) ++ y.1) × Writes (either_kind n p q) y.0) (some-injective (inl x.0, x.1) r h)
      (g.0, either_left n p q x.0 (np x.0) g.1)
  either_good l R S none e (some x) f r h =
      let g = S.good l x f in
      subst (λ (y : (A ⊎ C) × List ℕ). (l ≡ bytes_of_line ((either_kind n p q).write y.0) ++ y.1) × Writes (either_kind n p q) y.0) (some-injective (inr x.0, x.1) r h)
      (g.0, either_right n p q x.0 (nq x.0) g.1)
  either_good l R S none e none f r h = absurd (none-ne-some r h)

  either_back : Reads p P → Reads q Q → (a : A ⊎ C) (z : List ℕ) → Hold ((either_kind n p q).tests a)
      → (b : A ⊎ C) × (either_of (P (bytes_of_line ((either_kind n p q).write a) ++ z)) (Q (bytes_of_line ((either_kind n p q).write a) ++ z)) ≡ some (b, z))
  either_back R S (inl a) z h = let b = R.back a z h in (inl b.0, rw b.1)
  either_back R S (inr c) z h = let b = S.back c z h in (inr b.0, rw (off c z, b.1))

  pub either_reads : Reads p P → Reads q Q → Reads (either_kind n p q) (λ l. either_of (P l) (Q l))
  either_reads R S = record { good = λ l r e. either_good l R S (P l) refl (Q l) refl r e; back = either_back R S }

-- ---- a statistic

three_is : (v : List Float) → length v ≡ 3 → map (float binary64) v ≡ float binary64 (three_of v).weight ∷ float binary64 (three_of v).sum ∷ float binary64 (three_of v).squares ∷ []
three_is [] e = absurd (omega arith)
three_is (x ∷ []) e = absurd (omega arith)
three_is (x ∷ y ∷ []) e = absurd (omega arith)
three_is (x ∷ y ∷ z ∷ []) e = refl
three_is (x ∷ y ∷ z ∷ u ∷ v) e = absurd (omega arith)

three_fit : (v : List Float) → length v ≡ 3 → Fits binary64 v → T (fits binary64 (three_of v).weight) × T (fits binary64 (three_of v).sum) × T (fits binary64 (three_of v).squares)
three_fit [] e h = absurd (omega arith)
three_fit (x ∷ []) e h = absurd (omega arith)
three_fit (x ∷ y ∷ []) e h = absurd (omega arith)
three_fit (x ∷ y ∷ z ∷ []) e h = (h.0, h.1.0, h.1.1.0)
three_fit (x ∷ y ∷ z ∷ u ∷ v) e h = absurd (omega arith)

pub dev_reads : Reads dev_kind dev_by
unfolding dev_by dev_line
dev_reads = record {
  good = λ l r e. dev_good l (list_line (as_float binary64) 100 101 118 3 l) refl r e;
  back = λ a z h.
      let v = a.weight ∷ a.sum ∷ a.squares ∷ [] in
      let e = line_back (as_float binary64) (float binary64) (λ x. T (fits binary64 x)) (float_codec binary64) 100 101 118 v z
      (fit_of binary64 a.weight h.0, (fit_of binary64 a.sum h.1.0, (fit_of binary64 a.squares h.1.1.0, tt))) in
      (a, ap threed e);
}
  where
    dev_good : (l : List ℕ) (o : Option (List Float × List ℕ)) → list_line (as_float binary64) 100 101 118 3 l ≡ o → (r : Three × List ℕ) → threed o ≡ some r
        → (l ≡ bytes_of_line (dev_kind.write r.0) ++ r.1) × Writes dev_kind r.0
    dev_good l none q r e = absurd (none-ne-some r e)
    dev_good l (some s) q r e =
        let h = line_is (as_float binary64) (float binary64) (λ x. T (fits binary64 x)) (float_codec binary64) 100 101 118 3 l s q in
        let f = three_fit s.0 h.1 h.2 in
        subst (λ (x : Three × List ℕ). (l ≡ bytes_of_line (dev_kind.write x.0) ++ x.1) × Writes dev_kind x.0) (some-injective (three_of s.0, s.1) r e)
        (h.0 ∙ ap (λ (fs : List (List ℕ)). (100 ∷ 101 ∷ 118 ∷ tabbed_fields fs) ++ s.1) (three_is s.0 h.1), dev_writes (three_of s.0) f.0 f.1 f.2)

-- ---- the counters

counts_are : (v : List ℕ) → length v ≡ 3 → map whole v ≡ whole (counts_of v).values_seen ∷ whole (counts_of v).internal_timestamp ∷ whole (counts_of v).count ∷ []
counts_are [] e = absurd (omega arith)
counts_are (x ∷ []) e = absurd (omega arith)
counts_are (x ∷ y ∷ []) e = absurd (omega arith)
counts_are (x ∷ y ∷ z ∷ []) e = refl
counts_are (x ∷ y ∷ z ∷ u ∷ v) e = absurd (omega arith)

module _ (s : Settings) where
  cnt_tests : (c : Counts) → cnt_test s.method s.start c ≡ true → Writes (cnt_kind s) c
  unfolding cnt_test waiting
  cnt_tests c h =
      let a = and_left (leb c.values_seen seen_limit) _ h in
      let h1 = and_right (leb c.values_seen seen_limit) _ h in
      let b = and_left (leb c.internal_timestamp seen_limit) _ h1 in
      let h2 = and_right (leb c.internal_timestamp seen_limit) _ h1 in
      let d = and_left (leb c.count count_limit) _ h2 in
      let h3 = and_right (leb c.count count_limit) _ h2 in
      cnt_writes s c (leb-true _ _ a) (leb-true _ _ b) (leb-true _ _ d)
      (λ w. eqb-true c.internal_timestamp 0 (if_of (normalizes s.method && ltb c.values_seen s.start) (eqb c.internal_timestamp 0) h3 w))

  to_cnt : (c : Counts) → Hold ((cnt_kind s).tests c) → cnt_test s.method s.start c ≡ true
  unfolding cnt_test waiting
  to_cnt c h = rw (h.0, h.1.0, h.1.1.0, h.1.1.1.0)

  cnt_good : (l : List ℕ) (o : Option (List ℕ × List ℕ)) → list_line as_whole 99 110 116 3 l ≡ o → (r : Counts × List ℕ) → checked (cnt_test s.method s.start) (counts_if_read o) ≡ some r
      → (l ≡ bytes_of_line ((cnt_kind s).write r.0) ++ r.1) × Writes (cnt_kind s) r.0
  unfolding cnt_line
  cnt_good l none q r e = absurd (none-ne-some r e)
  cnt_good l (some v) q r e =
      let k = checked_some (cnt_test s.method s.start) (some (counts_of v.0, v.1)) r e in
      let h = line_is as_whole whole (λ n. n ≤ whole_max) whole_codec 99 110 116 3 l v q in
      let m : (counts_of v.0, v.1) ≡ r = some-injective (counts_of v.0, v.1) r k.0 in
      let b : l ≡ bytes_of_line ((cnt_kind s).write (counts_of v.0)) ++ v.1 = h.0 ∙ ap (λ (fs : List (List ℕ)). (99 ∷ 110 ∷ 116 ∷ tabbed_fields fs) ++ v.1) (counts_are v.0 h.1) in
      (subst (λ (x : Counts × List ℕ). l ≡ bytes_of_line ((cnt_kind s).write x.0) ++ x.1) m b, cnt_tests r.0 k.1)

  pub cnt_reads : Reads (cnt_kind s) (cnt_by s.method s.start)
  unfolding cnt_by cnt_line
  cnt_reads = record {
    good = λ l r e. cnt_good l (list_line as_whole 99 110 116 3 l) refl r e;
    back = λ c z h.
        let a : c.values_seen ≤ seen_limit = leb-true _ _ h.0 in
        let b : c.internal_timestamp ≤ seen_limit = leb-true _ _ h.1.0 in
        let d : c.count ≤ count_limit = leb-true _ _ h.1.1.0 in
        let e = line_back as_whole whole (λ n. n ≤ whole_max) whole_codec 99 110 116 (c.values_seen ∷ c.internal_timestamp ∷ c.count ∷ []) z
        (omega (arith, a), (omega (arith, b), (omega (arith, d), tt))) in
        (c, ap (λ (o : Option (List ℕ × List ℕ)). checked (cnt_test s.method s.start) (counts_if_read o)) e ∙ rw (to_cnt c h));
  }

-- ---- one initial value

buf_split : (t : ℕ) (v : List Float) (w : List ℕ) → bytes_of_line (buf_line t v) ++ w ≡ 98 ∷ 117 ∷ 102 ∷ 9 ∷ (whole t ++ (tabbed (map (float binary32) v) ++ (10 ∷ w)))
buf_split t v w =
    ap (λ (l : List ℕ). l ++ w) (sym (buf_bytes t v))
    ∙ ap (λ (l : List ℕ). 98 ∷ 117 ∷ 102 ∷ 9 ∷ l)
    (append_assoc (whole t) (tabbed (map (float binary32) v) ++ (10 ∷ [])) w ∙ ap (λ (l : List ℕ). whole t ++ l) (append_assoc (tabbed (map (float binary32) v)) (10 ∷ []) w))

abbrev single : Float → Type 0
single x = T (fits binary32 x)

module _ (d p : ℕ) where
  raw_is : (l : List ℕ) (r : Reading × List ℕ) → buf_raw d l ≡ some r
      → (l ≡ bytes_of_line (buf_line r.0.time r.0.value) ++ r.1) × (length r.0.value ≡ d) × Fits binary32 r.0.value × (r.0.time ≤ whole_max)
  unfolding buf_raw
  raw_is l r e =
      let a = onto_some (name 98 117 102 l) (λ z. onto (one as_whole z) (λ t. closing (timed t.0 (fields (as_float binary32) d t.1)))) r e in
      let b = onto_some (one as_whole a.0) (λ t. closing (timed t.0 (fields (as_float binary32) d t.1))) r a.2 in
      at a.0 (name_is 98 117 102 l a.0 a.1) b.0 (one_is as_whole whole (λ n. n ≤ whole_max) whole_codec a.0 b.0 b.1) (fields (as_float binary32) d b.0.1) refl b.2
    where
      Goal : Reading × List ℕ → Type 0
      Goal x = (l ≡ bytes_of_line (buf_line x.0.time x.0.value) ++ x.1) × (length x.0.value ≡ d) × Fits binary32 x.0.value × (x.0.time ≤ whole_max)

      at : (z : List ℕ) → l ≡ 98 ∷ 117 ∷ 102 ∷ z → (t : ℕ × List ℕ) → (z ≡ 9 ∷ (whole t.0 ++ t.1)) × (t.0 ≤ whole_max)
          → (o : Option (List Float × List ℕ)) → fields (as_float binary32) d t.1 ≡ o → closing (timed t.0 o) ≡ some r → Goal r
      at z n t g none q f = absurd (none-ne-some r f)
      at z n t g (some v) q f = go (byte 10 v.1) refl f
        where
          go : (o : Option (List ℕ)) → byte 10 v.1 ≡ o → with_rest (reading v.0 t.0) o ≡ some r → Goal r
          go none u k = absurd (none-ne-some r k)
          go (some w) u k =
              let h = fields_are (as_float binary32) (float binary32) single (float_codec binary32) d t.1 v q in
              let m : l ≡ bytes_of_line (buf_line t.0 v.0) ++ w =
              n ∙ ap (λ (x : List ℕ). 98 ∷ 117 ∷ 102 ∷ x) (g.0 ∙ ap (λ (x : List ℕ). 9 ∷ (whole t.0 ++ x))
              (h.0 ∙ ap (λ (x : List ℕ). tabbed (map (float binary32) v.0) ++ x) (byte_is 10 v.1 w u)))
              ∙ sym (buf_split t.0 v.0 w) in
              subst Goal (some-injective (reading v.0 t.0, w) r k) (m, h.1, h.2, g.1)

  raw_back : (t : ℕ) (v : List Float) (w : List ℕ) → length v ≡ d → Fits binary32 v → t ≤ whole_max → buf_raw d (bytes_of_line (buf_line t v) ++ w) ≡ some (reading v t, w)
  unfolding buf_raw
  raw_back t v w m f h =
      let y = tabbed (map (float binary32) v) ++ (10 ∷ w) in
      let e : fields (as_float binary32) d y ≡ some (v, 10 ∷ w) =
      ap (λ (n : ℕ). fields (as_float binary32) n y) (sym m) ∙ fields_back (as_float binary32) (float binary32) single (float_codec binary32) v (10 ∷ w) f refl in
      let o = one_back as_whole whole (λ n. n ≤ whole_max) whole_codec t y h (tabbed_stop (as_float binary32) (float binary32) single (float_codec binary32) v (10 ∷ w) refl) in
      ap (buf_raw d) (buf_split t v w)
      ∙ ap (λ (q : Option (List ℕ)). onto q (λ z. onto (one as_whole z) (λ t. closing (timed t.0 (fields (as_float binary32) d t.1))))) (name_back 98 117 102 (9 ∷ (whole t ++ y)))
      ∙ ap (λ (q : Option (ℕ × List ℕ)). onto q (λ t. closing (timed t.0 (fields (as_float binary32) d t.1)))) o
      ∙ ap (λ (q : Option (List Float × List ℕ)). closing (timed t q)) e

  buf_tests : (r : Reading) → buf_test p r ≡ true → (p ≤ r.time) × (finite r.value ≡ true)
  unfolding buf_test
  buf_tests r h = (leb-true p r.time (and_left (leb p r.time) _ h), and_right (leb p r.time) _ h)

  to_buf : (r : Reading) → leb p r.time ≡ true → finite r.value ≡ true → buf_test p r ≡ true
  unfolding buf_test
  to_buf r h g = rw (h, g)

  pub buf_reads : Reads (buf_kind d p) (buf_by d p)
  unfolding buf_by
  buf_reads = record {
    good = λ l r e.
        let k = checked_some (buf_test p) (buf_raw d l) r e in
        let h = raw_is l r k.0 in
        let t = buf_tests r.0 k.1 in
        (h.0, buf_writes d p r.0 t.0 h.3 h.1 h.2 t.1);
    back = λ r z h.
        let e = raw_back r.time r.value z (eqb-true _ _ h.1.1.0) (fits_of binary32 r.value h.1.1.1.0) (leb-true _ _ h.1.0) in
        (r, ap (checked (buf_test p)) e ∙ rw (to_buf r h.0 h.1.1.1.1.0));
  }
