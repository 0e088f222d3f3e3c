-- Reading a line piece by piece and judging it whole agree.
use Prim.Native.Nat.{ℕ, zero, suc, ◌≤◌}
use mathlib.Core.Path.{◌≡◌, refl, sym, ap, ◌∙◌, subst}
use mathlib.Core.Bool.{Bool, true, false}
use mathlib.Core.List.{List, [], ◌∷◌, ◌++◌, map, append_assoc}
use mathlib.Core.Option.{Option, none, some, some-injective, none-ne-some}
use lib.ListN.{length, take, drop, take-append-drop}
use lib.Seq.{take_at, drop_at}
use lib.Dec.{T, eqb}
use lib.Ieee.{Format, fits}
use borrow.Author.Tests.{eqb-true, eq-eqb, lt-leb}
use Rattle.trcf.specs.Settings.{All, whole_max}
use Rattle.snapshot.specs.Text.{named, tabbed_fields, whole, float}
use Rattle.snapshot.specs.Read.{join, lines, bytes_of_line, as_whole, as_float, LineKind, judge, Plan, plan_line, bad, later, follow}
use Rattle.snapshot.specs.Steps.Write.{tabbed}
use Rattle.snapshot.specs.Steps.Judge.{onto, with_rest, byte, name, field_length, one, before, fields, closing, list_line, via}
use Rattle.snapshot.proofs.Fields.{Clean, whole_clean, float_clean}
use Rattle.snapshot.proofs.HexLaws.{float_of_lem, of_float}
use Rattle.snapshot.proofs.ScanLaws.{whole_of, of_whole}
use Rattle.snapshot.proofs.WriteLaws.{behind_tabbed}
use Rattle.snapshot.proofs.ReadLine.{Hold, Writes, judge_back, judged, join_lines, lines_clean, lines_tail}

-- ---- a byte, and a name

pub byte_is : (b : ℕ) (l z : List ℕ) → byte b l ≡ some z → l ≡ b ∷ z
byte_is b [] z e = absurd (none-ne-some z e)
byte_is b (x ∷ l) z e = go (eqb x b) refl
  where
    go : (c : Bool) → eqb x b ≡ c → x ∷ l ≡ b ∷ z
    go true q = let k : l ≡ z = some-injective l z (rw q at e) in λ i. eqb-true x b q i ∷ k i
    go false q = absurd (none-ne-some z (rw q at e))

pub byte_back : (b : ℕ) (z : List ℕ) → byte b (b ∷ z) ≡ some z
byte_back b z = rw (eq-eqb b b refl)

pub onto_some : {A B : Type 0} (o : Option A) (g : A → Option B) (y : B) → onto o g ≡ some y → (a : A) × (o ≡ some a) × (g a ≡ some y)
onto_some none g y e = absurd (none-ne-some y e)
onto_some (some a) g y e = (a, refl, e)

pub name_is : (a b c : ℕ) (l z : List ℕ) → name a b c l ≡ some z → l ≡ a ∷ b ∷ c ∷ z
name_is a b c l z e =
    let p = onto_some (onto (byte a l) (byte b)) (byte c) z e in
    let q = onto_some (byte a l) (byte b) p.0 p.1 in
    byte_is a l q.0 q.1 ∙ ap (λ (t : List ℕ). a ∷ t) (byte_is b q.0 p.0 q.2 ∙ ap (λ (t : List ℕ). b ∷ t) (byte_is c p.0 z p.2))

pub name_back : (a b c : ℕ) (z : List ℕ) → name a b c (a ∷ b ∷ c ∷ z) ≡ some z
name_back a b c z = rw (byte_back a (b ∷ c ∷ z), byte_back b (c ∷ z), byte_back c z)

-- ---- fields

abbrev pub Stop : List ℕ → Type 0
Stop y = field_length y ≡ 0

field_stop : (c y : List ℕ) → Clean c → Stop y → field_length (c ++ y) ≡ length c
field_stop [] y h s = s
field_stop (x ∷ c) y h s = rw (lt-leb x 10 h.0) (ap suc (field_stop c y h.1 s))

module _ {A : Type 0} (p : List ℕ → Option A) (w : A → List ℕ) (P : A → Type 0) where
  -- what a field was written from is what is read of it
  pub record Codec : Type 0 where
    pub sound : (c : List ℕ) (x : A) → p c ≡ some x → (w x ≡ c) × P x
    pub back : (x : A) → P x → p (w x) ≡ some x
    pub clean : (x : A) → Clean (w x)

  module _ (C : Codec) where
    pub one_is : (l : List ℕ) (r : A × List ℕ) → one p l ≡ some r → (l ≡ 9 ∷ (w r.0 ++ r.1)) × P r.0
    one_is [] r e = absurd (none-ne-some r e)
    one_is (x ∷ l) r e = go (eqb x 9) refl (p (take (field_length l) l)) refl
      where
        go : (b : Bool) → eqb x 9 ≡ b → (o : Option A) → p (take (field_length l) l) ≡ o → (x ∷ l ≡ 9 ∷ (w r.0 ++ r.1)) × P r.0
        go false u o v = absurd (none-ne-some r (rw u at e))
        go true u none v = absurd (none-ne-some r (rw (u, v) at e))
        go true u (some a) v =
            let k : (a, drop (field_length l) l) ≡ r = some-injective (a, drop (field_length l) l) r (rw (u, v) at e) in
            let h = C.sound (take (field_length l) l) a v in
            let m : l ≡ w a ++ drop (field_length l) l = sym (take-append-drop (field_length l) l) ∙ ap (λ (t : List ℕ). t ++ drop (field_length l) l) (sym h.0) in
            subst (λ (q : A × List ℕ). (x ∷ l ≡ 9 ∷ (w q.0 ++ q.1)) × P q.0) k ((λ i. eqb-true x 9 u i ∷ m i), h.1)

    pub one_back : (x : A) (y : List ℕ) → P x → Stop y → one p (9 ∷ (w x ++ y)) ≡ some (x, y)
    one_back x y h s =
        rw (field_stop (w x) y (C.clean x) s, take_at (w x) y (length (w x)) refl, drop_at (w x) y (length (w x)) refl, C.back x h)

    pub tabbed_stop : (v : List A) (y : List ℕ) → Stop y → Stop (tabbed (map w v) ++ y)
    tabbed_stop [] y s = s
    tabbed_stop (x ∷ v) y s = refl

    pub fields_are : (n : ℕ) (l : List ℕ) (r : List A × List ℕ) → fields p n l ≡ some r → (l ≡ tabbed (map w r.0) ++ r.1) × (length r.0 ≡ n) × All P r.0
    fields_are zero l r e = subst (λ (q : List A × List ℕ). (l ≡ tabbed (map w q.0) ++ q.1) × (length q.0 ≡ 0) × All P q.0) (some-injective ([], l) r e) (refl, refl, tt)
    fields_are (suc n) l r e =
        let q = onto_some (one p l) (λ s. before (s.0 ∷ []) (fields p n s.1)) r e in
        go (fields p n q.0.1) q.0 q.1 q.2 (λ s h. fields_are n q.0.1 s h)
      where
        go : (o : Option (List A × List ℕ)) (s : A × List ℕ) → one p l ≡ some s → before (s.0 ∷ []) o ≡ some r →
            ((u : List A × List ℕ) → o ≡ some u → (s.1 ≡ tabbed (map w u.0) ++ u.1) × (length u.0 ≡ n) × All P u.0)
            → (l ≡ tabbed (map w r.0) ++ r.1) × (length r.0 ≡ suc n) × All P r.0
        go none s f g ih = absurd (none-ne-some r g)
        go (some u) s f g ih =
            let k : ((s.0 ∷ []) ++ u.0, u.1) ≡ r = some-injective ((s.0 ∷ []) ++ u.0, u.1) r g in
            let h = one_is l s f in
            let j = ih u refl in
            let m : l ≡ tabbed (map w (s.0 ∷ u.0)) ++ u.1 =
            h.0 ∙ ap (λ (t : List ℕ). 9 ∷ t) (ap (λ (t : List ℕ). w s.0 ++ t) j.0 ∙ sym (append_assoc (w s.0) (tabbed (map w u.0)) u.1)) in
            subst (λ (q : List A × List ℕ). (l ≡ tabbed (map w q.0) ++ q.1) × (length q.0 ≡ suc n) × All P q.0) k (m, ap suc j.1, (h.1, j.2))

    pub fields_back : (v : List A) (y : List ℕ) → All P v → Stop y → fields p (length v) (tabbed (map w v) ++ y) ≡ some (v, y)
    fields_back [] y h s = refl
    fields_back (x ∷ v) y h s =
        let e : one p (tabbed (map w (x ∷ v)) ++ y) ≡ some (x, tabbed (map w v) ++ y) =
        ap (λ (t : List ℕ). one p (9 ∷ t)) (append_assoc (w x) (tabbed (map w v)) y) ∙ one_back x (tabbed (map w v) ++ y) h.0 (tabbed_stop v y s) in
        ap (λ (o : Option (A × List ℕ)). onto o (λ s. before (s.0 ∷ []) (fields p (length v) s.1))) e
        ∙ ap (before (x ∷ [])) (fields_back v y h.1 s)

    -- ---- a line of them

    line_split : (a b c : ℕ) (v : List A) (z : List ℕ) → bytes_of_line (named (a ∷ b ∷ c ∷ []) (map w v)) ++ z ≡ a ∷ b ∷ c ∷ (tabbed (map w v) ++ (10 ∷ z))
    line_split a b c v z = ap (λ (t : List ℕ). a ∷ b ∷ c ∷ t) (ap (λ (t : List ℕ). t ++ z) (behind_tabbed (map w v)) ∙ append_assoc (tabbed (map w v)) (10 ∷ []) z)

    pub line_is : (a b c n : ℕ) (l : List ℕ) (r : List A × List ℕ) → list_line p a b c n l ≡ some r
        → (l ≡ bytes_of_line (named (a ∷ b ∷ c ∷ []) (map w r.0)) ++ r.1) × (length r.0 ≡ n) × All P r.0
    unfolding list_line
    line_is a b c n l r e = at (onto (name a b c l) (fields p n)) refl e
      where
        at : (o : Option (List A × List ℕ)) → onto (name a b c l) (fields p n) ≡ o → closing o ≡ some r → (l ≡ bytes_of_line (named (a ∷ b ∷ c ∷ []) (map w r.0)) ++ r.1) ×
            (length r.0 ≡ n) × All P r.0
        at none f g = absurd (none-ne-some r g)
        at (some s) f g = go (byte 10 s.1) refl g
          where
            go : (o : Option (List ℕ)) → byte 10 s.1 ≡ o → with_rest s.0 o ≡ some r → (l ≡ bytes_of_line (named (a ∷ b ∷ c ∷ []) (map w r.0)) ++ r.1) × (length r.0 ≡ n) × All P r.0
            go none u k = absurd (none-ne-some r k)
            go (some z) u k =
                let q = onto_some (name a b c l) (fields p n) s f in
                let h = fields_are n q.0 s q.2 in
                let m : l ≡ bytes_of_line (named (a ∷ b ∷ c ∷ []) (map w s.0)) ++ z =
                name_is a b c l q.0 q.1
                ∙ ap (λ (t : List ℕ). a ∷ b ∷ c ∷ t) (h.0 ∙ ap (λ (t : List ℕ). tabbed (map w s.0) ++ t) (byte_is 10 s.1 z u))
                ∙ sym (line_split a b c s.0 z) in
                subst (λ (y : List A × List ℕ). (l ≡ bytes_of_line (named (a ∷ b ∷ c ∷ []) (map w y.0)) ++ y.1) × (length y.0 ≡ n) × All P y.0)
                (some-injective (s.0, z) r k) (m, h.1, h.2)

    pub line_back : (a b c : ℕ) (v : List A) (z : List ℕ) → All P v → list_line p a b c (length v) (bytes_of_line (named (a ∷ b ∷ c ∷ []) (map w v)) ++ z) ≡ some (v, z)
    unfolding list_line
    line_back a b c v z h =
        ap (λ (t : List ℕ). closing (onto (name a b c t) (fields p (length v)))) (line_split a b c v z)
        ∙ ap (λ (o : Option (List ℕ)). closing (onto o (fields p (length v)))) (name_back a b c (tabbed (map w v) ++ (10 ∷ z)))
        ∙ ap closing (fields_back v (10 ∷ z) h refl)

pub float_codec : (f : Format) → Codec (as_float f) (float f) (λ x. T (fits f x))
float_codec f = record { sound = float_of_lem f; back = of_float f; clean = float_clean f }

pub whole_codec : Codec as_whole whole (λ n. n ≤ whole_max)
whole_codec = record { sound = whole_of; back = of_whole; clean = whole_clean }

-- ---- a kind of line that is read so, and one step of the reading

module _ {A : Type 0} (k : LineKind A) (B : List ℕ → Option (A × List ℕ)) where
  pub record Reads : Type 0 where
    pub good : (l : List ℕ) (r : A × List ℕ) → B l ≡ some r → (l ≡ bytes_of_line (k.write r.0) ++ r.1) × Writes k r.0
    pub back : (a : A) (z : List ℕ) → Hold (k.tests a) → (b : A) × (B (bytes_of_line (k.write a) ++ z) ≡ some (b, z))

  pub step : Reads → (f : A → Plan) (l : List ℕ) → follow (plan_line none A k f) (lines l) ≡ via (B l) (λ a z. later (follow (f a) (lines z)))
  step R f l = go (B l) refl
    where
      taken : (r : A × List ℕ) → (l ≡ bytes_of_line (k.write r.0) ++ r.1) × Writes k r.0 → lines l ≡ bytes_of_line (k.write r.0) ∷ lines r.1
      taken r h =
          let L = k.write r.0 in
          ap lines (h.0 ∙ append_assoc L.name (tabbed_fields L.fields) r.1)
          ∙ lines_clean L.name (tabbed_fields L.fields ++ r.1) (tabbed_fields L.fields) (lines r.1) h.1.clean.0 (lines_tail L.fields r.1 h.1.clean.1)

      refused : (b : List ℕ) (bs : List (List ℕ)) → lines l ≡ b ∷ bs → B l ≡ none → (o : Option A) → judge k b ≡ o → o ≡ none
      refused b bs e n none q = refl
      refused b bs e n (some a) q =
          let j = judged k b a q in
          let m : bytes_of_line (k.write a) ++ join bs ≡ l = ap (λ (t : List ℕ). t ++ join bs) j.0 ∙ sym (ap join e) ∙ join_lines l in
          let c = R.back a (join bs) j.1 in
          absurd (none-ne-some (c.0, join bs) (sym n ∙ ap B (sym m) ∙ c.1))

      missed : (ls : List (List ℕ)) → lines l ≡ ls → B l ≡ none → follow (plan_line none A k f) ls ≡ bad 1
      missed [] e n = refl
      missed (b ∷ bs) e n = rw (refused b bs e n (judge k b) refl)

      go : (o : Option (A × List ℕ)) → B l ≡ o → follow (plan_line none A k f) (lines l) ≡ via o (λ a z. later (follow (f a) (lines z)))
      go none e = missed (lines l) refl e
      go (some r) e =
          let h = R.good l r e in
          ap (follow (plan_line none A k f)) (taken r h) ∙ rw (judge_back k r.0 h.1)
