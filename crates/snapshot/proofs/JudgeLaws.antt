-- Laws of the pieces of a line as the code meets them: a byte, a field, a list of fields.
use Rattle.std.specs.Prelude.{Option as Answer, Some, None}
use Prim.Native.Nat.{ℕ, suc, ◌+◌, ◌-◌, ◌≤◌, ◌<◌}
use native.Mathlib.Omega.{arith}
use native.Mathlib.Numerals.{add-one}
use mathlib.Core.Path.{◌≡◌, refl, sym, ap, ◌∙◌}
use mathlib.Core.Bool.{Bool, true, false}
use mathlib.Core.List.{List, [], ◌∷◌, ◌++◌, append_assoc, append-nil}
use mathlib.Core.Option.{Option, none, some}
use lib.ListN.{length, take, drop, get_or, set, drop_of_length-le, length-drop, length-set, take-append-drop}
use lib.Seq.{drop-cons, drop-drop, take-suc-set, take_all, length-take-le, drop-set-lt}
use lib.Dec.{eqb, leb}
use lib.Ieee.{Float, binary32, binary64}
use borrow.Author.Tests.{le-leb, lt-leb}
use Rattle.refusal.specs.Lent.{over}
use Rattle.trcf.proofs.ShingleLaws.{over_part}
use Rattle.snapshot.specs.Read.{as_whole, as_float}
use Rattle.snapshot.specs.Scan.{single_of, double_of, number_of}
use Rattle.snapshot.specs.Steps.Scan.{field_of, whole_of}
use Rattle.snapshot.specs.Steps.Judge.{placed, onto, with_rest, byte, name, field_length, field_in, end_in, rest_field, next_of}
use Rattle.snapshot.specs.Steps.Judge.{one, before, fields, led, good_fields, line_firsts, buf_firsts, closing, list_line}
use Rattle.snapshot.specs.declared.field.Field.{Field}
use Rattle.snapshot.specs.declared.field.Field.TheVariants.{Single, Double, Whole, Bad}
use Rattle.snapshot.specs.declared.piece.Next.{Next}

-- ---- where a field ends

module _ (t : List ℕ) (i : ℕ) (h : i < length t) where
  pub stops : get_or t i 0 ≤ 10 → field_length (drop i t) ≡ 0
  stops e = rw (drop-cons t i 0 h, le-leb (get_or t i 0) 10 e)

  pub goes : 10 < get_or t i 0 → field_length (drop i t) ≡ suc (field_length (drop (suc i) t))
  goes e = rw (drop-cons t i 0 h, lt-leb (get_or t i 0) 10 e)

pub none_left : (t : List ℕ) (i : ℕ) → length t ≤ i → field_length (drop i t) ≡ 0
none_left t i h = rw (drop_of_length-le t h)

pub field_short : (l : List ℕ) → field_length l ≤ length l
field_short [] = omega arith
field_short (b ∷ l) = go (leb b 10) refl (field_short l)
  where
    go : (c : Bool) → leb b 10 ≡ c → field_length l ≤ length l → field_length (b ∷ l) ≤ length (b ∷ l)
    go true e ih = rw e (omega arith)
    go false e ih = rw e (omega arith)

-- ---- a field

module _ (k : ℕ) (t : List ℕ) (i : ℕ) where
  -- what lies from there on, or nothing
  pub rest_is : (from : ℕ) (f : Field) → drop from t ≡ drop i t → from ≤ length t → f ≡ field_of k (take (length t - from) (drop from t)) → record { field = f; end = length t } ≡ rest_field k i t
  rest_is from f e h g =
      let a : take (length t - from) (drop from t) ≡ drop i t = take_all (length t - from) (drop from t) (omega (arith, length-drop from t)) ∙ e in
      λ j. record { field = (g ∙ ap (field_of k) a) j; end = length t }

-- ---- one field, and the fields of a line one after another

abbrev first : {A : Type 0} → Option (A × List ℕ) → Option A
first o = onto o (λ r. some r.0)

module _ {A : Type 0} (p : List ℕ → Option A) where
  pub one_rest : (t : List ℕ) (i : ℕ) (x : A) → first (one p (drop i t)) ≡ some x → one p (drop i t) ≡ some (x, drop (end_in i (drop i t)) t)
  one_rest t i x e = at (drop i t) refl e
    where
      at : (l : List ℕ) → drop i t ≡ l → first (one p l) ≡ some x → one p l ≡ some (x, drop (end_in i l) t)
      at [] q h = let z : ◌≡◌ {A = ℕ} 0 1 = cc in absurd (omega arith)
      at (y ∷ l) q h = go (eqb y 9) refl (p (take (field_length l) l)) refl
        where
          go : (b : Bool) → eqb y 9 ≡ b → (o : Option A) → p (take (field_length l) l) ≡ o → one p (y ∷ l) ≡ some (x, drop (end_in i (y ∷ l)) t)
          go false u o v = let k : none ≡ some x = rw u at h in let z : ◌≡◌ {A = ℕ} 0 1 = cc in absurd (omega arith)
          go true u none v = let k : none ≡ some x = rw (u, v) at h in let z : ◌≡◌ {A = ℕ} 0 1 = cc in absurd (omega arith)
          go true u (some a) v =
              let k : some a ≡ some x = rw (u, v) at h in
              let k : a ≡ x = cc in
              let d : drop (suc i) t ≡ l = sym (drop-drop 1 i t ∙ ap (λ (n : ℕ). drop n t) (add-one i)) ∙ ap (drop 1) q in
              let m : drop (field_length l) l ≡ drop (suc i + field_length l) t = ap (drop (field_length l)) (sym d) ∙ drop-drop (field_length l) (suc i) t in
              rw (u, v) (λ j. some (k j, m j))

  pub one_none : (l : List ℕ) → first (one p l) ≡ none → one p l ≡ none
  one_none l e = go (one p l) e
    where
      go : (o : Option (A × List ℕ)) → first o ≡ none → o ≡ none
      go none h = refl
      go (some r) h = let z : ◌≡◌ {A = ℕ} 0 1 = cc in absurd (omega arith)

  -- the field that the code meets is the one that is read
  pub field_first : (k : ℕ) (f : Option A → Field) → ((c : List ℕ) → field_of k c ≡ f (p c)) → Bad ≡ f none
      → (l : List ℕ) → field_in k l ≡ f (first (one p l))
  field_first k f e n [] = n
  field_first k f e n (y ∷ l) = go (eqb y 9) refl (p (take (field_length l) l)) refl
    where
      go : (b : Bool) → eqb y 9 ≡ b → (o : Option A) → p (take (field_length l) l) ≡ o → field_in k (y ∷ l) ≡ f (first (one p (y ∷ l)))
      go false u o v = rw u n
      go true u none v = rw (u, e (take (field_length l) l), v)
      go true u (some a) v = rw (u, e (take (field_length l) l), v)

  before_nil : (o : Option (List A × List ℕ)) → before [] o ≡ o
  before_nil none = refl
  before_nil (some r) = refl

  before_before : (u v : List A) (o : Option (List A × List ℕ)) → before u (before v o) ≡ before (u ++ v) o
  before_before u v none = refl
  before_before u v (some r) = ap (λ (w : List A). some (w, r.1)) (sym (append_assoc u v r.0))

  sub_zero : (n : ℕ) → n - 0 ≡ n
  sub_zero n = omega arith

  -- i of n fields are read into `out`, which is as it was after them, and z is left
  pub record Sofar (n : ℕ) (l : List ℕ) (old out : List A) (i : ℕ) (z : List ℕ) : Type 0 where
    pub some_left_lem : i ≤ n
    pub long : length out ≡ n
    pub so : fields p n l ≡ before (take i out) (fields p (n - i) z)
    pub came : good_fields p n l ≡ take i out ++ good_fields p (n - i) z
    pub behind : drop i out ≡ drop i old

  pub sofar_none : (l : List ℕ) (out : List A) → Sofar (length out) l out out 0 l
  sofar_none l out = record {
    some_left_lem = omega arith;
    long = refl;
    so = sym (ap (λ (n : ℕ). before [] (fields p n l)) (sub_zero (length out)) ∙ before_nil (fields p (length out) l));
    came = sym (ap (λ (n : ℕ). good_fields p n l) (sub_zero (length out)));
    behind = refl;
  }

  module _ (n : ℕ) (l : List ℕ) (old out : List A) (i : ℕ) (z : List ℕ) (s : Sofar n l old out i z) where
    turn : i < n → fields p (n - i) z ≡ onto (one p z) (λ r. before (r.0 ∷ []) (fields p (n - (i + 1)) r.1))
    turn h = let e : n - i ≡ suc (n - (i + 1)) = omega arith in rw e

    turn_yes : i < n → (x : A) (y : List ℕ) → one p z ≡ some (x, y) → fields p (n - i) z ≡ before (x ∷ []) (fields p (n - (i + 1)) y)
    turn_yes h x y e = rw e at (turn h)

    turn_no : i < n → one p z ≡ none → fields p (n - i) z ≡ none
    turn_no h e = rw e at (turn h)

    first_turn : i < n → good_fields p (n - i) z ≡ led (one p z) (λ r. r.0 ∷ good_fields p (n - (i + 1)) r.1)
    first_turn h = let e : n - i ≡ suc (n - (i + 1)) = omega arith in rw e

    first_yes : i < n → (x : A) (y : List ℕ) → one p z ≡ some (x, y) → good_fields p (n - i) z ≡ x ∷ good_fields p (n - (i + 1)) y
    first_yes h x y e = rw e at (first_turn h)

    first_no : i < n → one p z ≡ none → good_fields p (n - i) z ≡ []
    first_no h e = rw e at (first_turn h)

    taken_set : i < n → (x : A) → take i out ++ (x ∷ []) ≡ take (i + 1) (set out i x)
    taken_set h x = sym (rw (add-one i) (take-suc-set out i x (omega (arith, s.long))))

    dropped_set : (x : A) → drop (i + 1) (set out i x) ≡ drop (i + 1) out
    dropped_set x = drop-set-lt (i + 1) out i x (omega arith)

    pub sofar_step : i < n → (x : A) (y : List ℕ) → one p z ≡ some (x, y) → Sofar n l old (set out i x) (i + 1) y
    sofar_step h x y e = record {
      some_left_lem = omega arith;
      long = length-set out i x ∙ s.long;
      so = s.so ∙ ap (before (take i out)) (turn_yes h x y e)
          ∙ before_before (take i out) (x ∷ []) (fields p (n - (i + 1)) y)
          ∙ ap (λ (u : List A). before u (fields p (n - (i + 1)) y)) (taken_set h x);
      came = s.came ∙ ap (λ (u : List A). take i out ++ u) (first_yes h x y e)
          ∙ sym (append_assoc (take i out) (x ∷ []) (good_fields p (n - (i + 1)) y))
          ∙ ap (λ (u : List A). u ++ good_fields p (n - (i + 1)) y) (taken_set h x);
      behind = dropped_set x ∙ sym (drop-drop 1 i out) ∙ ap (drop 1) s.behind ∙ drop-drop 1 i old;
    }

    left_of : good_fields p (n - i) z ≡ [] → out ≡ over old (good_fields p n l)
    left_of e =
        let q : good_fields p n l ≡ take i out = s.came ∙ ap (λ (u : List A). take i out ++ u) e ∙ append-nil (take i out) in
        let k : length (take i out) ≡ i = length-take-le i out (omega (arith, s.some_left_lem, s.long)) in
        sym (take-append-drop i out) ∙ ap (λ (u : List A). take i out ++ u) s.behind ∙ over_part old (take i out) i k ∙ ap (over old) (sym q)

    pub left_stop : i < n → one p z ≡ none → out ≡ over old (good_fields p n l)
    left_stop h e = left_of (first_no h e)

    pub left_done : i ≡ n → out ≡ over old (good_fields p n l)
    left_done e = let m : n - i ≡ 0 = omega arith in left_of (ap (λ (k : ℕ). good_fields p k z) m)

    pub sofar_stop : i < n → one p z ≡ none → none ≡ fields p n l
    sofar_stop h e = sym (s.so ∙ ap (before (take i out)) (turn_no h e))

    pub sofar_done : i ≡ n → some (out, z) ≡ fields p n l
    sofar_done e =
        let m : n - i ≡ 0 = omega arith in
        let q : take i out ≡ out = take_all i out (omega (arith, s.long)) in
        sym (s.so ∙ rw (m, q) (ap (λ (w : List A). some (w, z)) (append-nil out)))

-- ---- by the kind of the field

module _ (t : List ℕ) (i : ℕ) (r : Next) where
  module _ (h : r ≡ next_of 0 i t) where
    single_told : r.field ≡ single_of (first (one (as_float binary32) (drop i t)))
    single_told = ap (λ (n : Next). n.field) h ∙ field_first (as_float binary32) 0 single_of (λ c. refl) refl (drop i t)

    pub single_is : (x : Float) → r.field ≡ Single x → one (as_float binary32) (drop i t) ≡ some (x, drop r.end t)
    single_is x e = rw (ap (λ (n : Next). n.end) h) (one_rest (as_float binary32) t i x (go (first (one (as_float binary32) (drop i t))) (sym e ∙ single_told)))
      where
        go : (o : Option Float) → Single x ≡ single_of o → o ≡ some x
        go none q = let z : ◌≡◌ {A = ℕ} 0 1 = cc in absurd (omega arith)
        go (some y) q = cc

    pub single_not : ((x : Float) → r.field ≡ Single x → ⊥) → one (as_float binary32) (drop i t) ≡ none
    single_not e = one_none (as_float binary32) (drop i t) (go (first (one (as_float binary32) (drop i t))) single_told)
      where
        go : (o : Option Float) → r.field ≡ single_of o → o ≡ none
        go none q = refl
        go (some x) q = absurd (e x q)

  module _ (h : r ≡ next_of 1 i t) where
    double_told : r.field ≡ double_of (first (one (as_float binary64) (drop i t)))
    double_told = ap (λ (n : Next). n.field) h ∙ field_first (as_float binary64) 1 double_of (λ c. refl) refl (drop i t)

    pub double_is : (x : Float) → r.field ≡ Double x → one (as_float binary64) (drop i t) ≡ some (x, drop r.end t)
    double_is x e = rw (ap (λ (n : Next). n.end) h) (one_rest (as_float binary64) t i x (go (first (one (as_float binary64) (drop i t))) (sym e ∙ double_told)))
      where
        go : (o : Option Float) → Double x ≡ double_of o → o ≡ some x
        go none q = let z : ◌≡◌ {A = ℕ} 0 1 = cc in absurd (omega arith)
        go (some y) q = cc

    pub double_not : ((x : Float) → r.field ≡ Double x → ⊥) → one (as_float binary64) (drop i t) ≡ none
    double_not e = one_none (as_float binary64) (drop i t) (go (first (one (as_float binary64) (drop i t))) double_told)
      where
        go : (o : Option Float) → r.field ≡ double_of o → o ≡ none
        go none q = refl
        go (some x) q = absurd (e x q)

  module _ (h : r ≡ next_of 2 i t) where
    whole_told : r.field ≡ whole_of (first (one as_whole (drop i t)))
    whole_told = ap (λ (n : Next). n.field) h ∙ field_first as_whole 2 whole_of (λ c. refl) refl (drop i t)

    pub whole_is : (x : ℕ) → r.field ≡ Whole x → one as_whole (drop i t) ≡ some (x, drop r.end t)
    whole_is x e = rw (ap (λ (n : Next). n.end) h) (one_rest as_whole t i x (go (first (one as_whole (drop i t))) (sym e ∙ whole_told)))
      where
        go : (o : Option ℕ) → Whole x ≡ whole_of o → o ≡ some x
        go none q = let z : ◌≡◌ {A = ℕ} 0 1 = cc in absurd (omega arith)
        go (some y) q = cc

    pub whole_not : ((x : ℕ) → r.field ≡ Whole x → ⊥) → one as_whole (drop i t) ≡ none
    whole_not e = one_none as_whole (drop i t) (go (first (one as_whole (drop i t))) whole_told)
      where
        go : (o : Option ℕ) → r.field ≡ whole_of o → o ≡ none
        go none q = refl
        go (some x) q = absurd (e x q)

-- a whole number, or none
module _ (o : Option ℕ) (f : Field) (h : f ≡ whole_of o) where
  pub number_is : (n : ℕ) → f ≡ Whole n → Some n ≡ number_of o
  number_is n e = go o (sym e ∙ h)
    where
      go : (q : Option ℕ) → Whole n ≡ whole_of q → Some n ≡ number_of q
      go none k = let z : ◌≡◌ {A = ℕ} 0 1 = cc in absurd (omega arith)
      go (some y) k = let e : n ≡ y = cc in ap Some e

  pub number_not : ((x : ℕ) → f ≡ Whole x → ⊥) → None ≡ number_of o
  number_not e = go o h
    where
      go : (q : Option ℕ) → f ≡ whole_of q → None ≡ number_of q
      go none k = refl
      go (some y) k = absurd (e y k)

-- ---- a line of fields of one kind

module _ {A : Type 0} where
  pub got_one : (r : Answer ℕ) (t : List ℕ) (v : A) (o : Option (A × List ℕ)) (n : ℕ) → r ≡ Some n → with_rest v (placed r t) ≡ o → some (v, drop n t) ≡ o
  got_one r t v o n e h = rw e at h

  pub lost_one : (r : Answer ℕ) (t : List ℕ) (v : A) (o : Option (A × List ℕ)) → r ≡ None → with_rest v (placed r t) ≡ o → none ≡ o
  lost_one r t v o e h = rw e at h

over_none : {A : Type 0} (old : List A) → old ≡ over old []
unfolding over
over_none old = refl

module _ {A : Type 0} (p : List ℕ → Option A) (a b c n : ℕ) (l : List ℕ) (old : List A) where
  pub left_nameless : none ≡ name a b c l → old ≡ over old (line_firsts p a b c n l)
  left_nameless e = over_none old ∙ ap (λ (o : Option (List ℕ)). over old (led o (good_fields p n))) e

  pub left_named : (z : List ℕ) → some z ≡ name a b c l → (new : List A) → new ≡ over old (good_fields p n z) → new ≡ over old (line_firsts p a b c n l)
  left_named z e new h = h ∙ ap (λ (o : Option (List ℕ)). over old (led o (good_fields p n))) e

-- the same of a `buf` line, whose first field is a time
module _ (d : ℕ) (l : List ℕ) (old : List Float) where
  numbers : Option (ℕ × List ℕ) → List Float
  numbers o = led o (λ t. good_fields (as_float binary32) d t.1)

  pub buf_left_nameless : none ≡ name 98 117 102 l → old ≡ over old (buf_firsts d l)
  unfolding numbers
  buf_left_nameless e = over_none old ∙ ap (λ (o : Option (List ℕ)). over old (led o (λ z. numbers (one as_whole z)))) e

  module _ (z : List ℕ) (e : some z ≡ name 98 117 102 l) where
    buf_named : numbers (one as_whole z) ≡ buf_firsts d l
    unfolding numbers
    buf_named = ap (λ (o : Option (List ℕ)). led o (λ z. numbers (one as_whole z))) e

    pub buf_left_timeless : one as_whole z ≡ none → old ≡ over old (buf_firsts d l)
    unfolding numbers
    buf_left_timeless h = over_none old ∙ ap (λ (o : Option (ℕ × List ℕ)). over old (numbers o)) (sym h) ∙ ap (over old) buf_named

    pub buf_left : (t : ℕ) (y : List ℕ) → one as_whole z ≡ some (t, y) → (new : List Float) → new ≡ over old (good_fields (as_float binary32) d y) → new ≡ over old (buf_firsts d l)
    unfolding numbers
    buf_left t y h new q = q ∙ ap (λ (o : Option (ℕ × List ℕ)). over old (numbers o)) (sym h) ∙ ap (over old) buf_named

module _ {A : Type 0} (p : List ℕ → Option A) (a b c n : ℕ) (l : List ℕ) where
  pub line_nameless : none ≡ name a b c l → none ≡ list_line p a b c n l
  unfolding list_line
  line_nameless e = ap (λ (o : Option (List ℕ)). closing (onto o (fields p n))) e

  module _ (z : List ℕ) (e : some z ≡ name a b c l) where
    line_named : closing (fields p n z) ≡ list_line p a b c n l
    unfolding list_line
    line_named = ap (λ (o : Option (List ℕ)). closing (onto o (fields p n))) e

    pub line_bad : none ≡ fields p n z → none ≡ list_line p a b c n l
    line_bad h = ap closing h ∙ line_named

    pub line_good : (v : List A) (y : List ℕ) (o : Option (List ℕ)) → some (v, y) ≡ fields p n z → o ≡ byte 10 y → with_rest v o ≡ list_line p a b c n l
    line_good v y o h q = ap (with_rest v) q ∙ ap closing h ∙ line_named
