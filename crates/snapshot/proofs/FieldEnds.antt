-- Where a field of its usual width is good, it ends there; where it is bad, so is what stands up to the next tab or LF.
use Prim.Native.Nat.{ℕ, zero, suc, ◌+◌, ◌-◌, ◌*◌, ◌≤◌, ◌<◌}
use native.Mathlib.Omega.{arith}
use mathlib.Core.Path.{◌≡◌, refl, sym, ap, ◌∙◌, subst}
use mathlib.Core.Bool.{Bool, true, false, ◌&&◌, cond}
use mathlib.Core.List.{List, [], ◌∷◌}
use mathlib.Core.Option.{Option, none, some}
use lib.ListN.{length, take, drop, get_or}
use lib.Seq.{length-take-le}
use lib.Dec.{eqb, leb, ltb}
use lib.Ieee.{Float, Format, binary32, binary64}
use borrow.Author.Tests.{eqb-true, eqb-false, leb-true, ltb-true, le-ltb, le-leb, lt-leb}
use Rattle.snapshot.specs.Text.{width}
use Rattle.snapshot.specs.Read.{as_float}
use Rattle.snapshot.specs.Scan.{single_of, double_of}
use Rattle.snapshot.specs.Steps.Scan.{field_of}
use Rattle.snapshot.specs.Steps.Judge.{field_length}
use Rattle.snapshot.specs.Steps.Likely.{likely, from_of}
use Rattle.snapshot.specs.declared.field.Field.{Field}
use Rattle.snapshot.specs.declared.field.Field.TheVariants.{Single, Double, Bad}
use Rattle.snapshot.proofs.Fields.{Clean, float_clean}
use Rattle.snapshot.proofs.HexLaws.{float_of_lem, bad_length}
use Rattle.snapshot.proofs.JudgeLaws.{field_short}
use Rattle.snapshot.proofs.Lists.{and_left, and_right}

-- w bytes that end no field, and one after them that does
clean_length : (w : ℕ) (l : List ℕ) → Clean (take w l) → w < length l → get_or l w 0 ≤ 10 → field_length l ≡ w
clean_length zero [] c h e = absurd (omega arith)
clean_length zero (b ∷ l) c h e = rw (le-leb b 10 e)
clean_length (suc w) [] c h e = absurd (omega arith)
clean_length (suc w) (b ∷ l) c h e = rw (lt-leb b 10 c.0) (ap suc (clean_length w l c.1 (omega arith) e))

-- ---- a float, of either width

-- it is a float or a whole number, and not bad
abbrev Good : Field → Type 0
Good f = f ≡ Bad → ⊥

abbrev guess : Format → List ℕ → ℕ
guess f l = cond (ltb (width f) (length l) && leb (get_or l (width f) 0) 10) (width f) (field_length l)

module _ (f : Format) (l : List ℕ) where
  float_near : (x : Float) → as_float f (take (width f) l) ≡ some x → width f < length l → get_or l (width f) 0 ≤ 10 → field_length l ≡ width f
  float_near x e h q = clean_length (width f) l (subst Clean (float_of_lem f (take (width f) l) x e).0 (float_clean f x)) h q

  float_far : as_float f (take (width f) l) ≡ none → as_float f (take (field_length l) l) ≡ none
  float_far e = go (eqb (field_length l) (width f)) refl
    where
      go : (b : Bool) → eqb (field_length l) (width f) ≡ b → as_float f (take (field_length l) l) ≡ none
      go true x = ap (λ (n : ℕ). as_float f (take n l)) (eqb-true (field_length l) (width f) x) ∙ e
      go false x = bad_length f (take (field_length l) l) (λ q. eqb-false _ _ x (sym (length-take-le (field_length l) l (field_short l)) ∙ q))

  guess_near : (x : Float) → as_float f (take (guess f l) l) ≡ some x → guess f l ≡ field_length l
  guess_near x = go (ltb (width f) (length l) && leb (get_or l (width f) 0) 10) refl
    where
      go : (b : Bool) → ltb (width f) (length l) && leb (get_or l (width f) 0) 10 ≡ b → as_float f (take (cond b (width f) (field_length l)) l) ≡ some x
          → cond b (width f) (field_length l) ≡ field_length l
      go true p e = sym (float_near x e (ltb-true _ _ (and_left _ _ p)) (leb-true _ _ (and_right (ltb (width f) (length l)) _ p)))
      go false p e = refl

  guess_far : as_float f (take (guess f l) l) ≡ none → as_float f (take (field_length l) l) ≡ none
  guess_far = go (ltb (width f) (length l) && leb (get_or l (width f) 0) 10)
    where
      go : (b : Bool) → as_float f (take (cond b (width f) (field_length l)) l) ≡ none → as_float f (take (field_length l) l) ≡ none
      go true e = float_far e
      go false e = e

  module _ (g : Option Float → Field) where
    near : (Good (g none) → ⊥) → Good (g (as_float f (take (guess f l) l))) → guess f l ≡ field_length l
    near z = go (as_float f (take (guess f l) l)) refl
      where
        go : (o : Option Float) → as_float f (take (guess f l) l) ≡ o → Good (g o) → guess f l ≡ field_length l
        go none q e = absurd (z e)
        go (some x) q e = guess_near x q

    far : ((x : Float) → g (some x) ≡ Bad → ⊥) → g none ≡ Bad → g (as_float f (take (guess f l) l)) ≡ Bad → Bad ≡ g (as_float f (take (field_length l) l))
    far z b = go (as_float f (take (guess f l) l)) refl
      where
        go : (o : Option Float) → as_float f (take (guess f l) l) ≡ o → g o ≡ Bad → Bad ≡ g (as_float f (take (field_length l) l))
        go none q e = sym (ap g (guess_far q) ∙ b)
        go (some x) q e = absurd (z x e)

-- ---- a field by its kind

not_good : Good Bad → ⊥
not_good e = e refl

single_bad : (x : Float) → Single x ≡ Bad → ⊥
single_bad x e = let z : ◌≡◌ {A = ℕ} 0 1 = cc in absurd (omega arith)

double_bad : (x : Float) → Double x ≡ Bad → ⊥
double_bad x e = let z : ◌≡◌ {A = ℕ} 0 1 = cc in absurd (omega arith)

good_end : (k : ℕ) (l : List ℕ) → Good (field_of k (take (likely k l) l)) → likely k l ≡ field_length l
good_end zero l e = near binary32 l single_of not_good e
good_end (suc zero) l e = near binary64 l double_of not_good e
good_end (suc (suc k)) l e = rw (le-ltb (suc (suc k)) 2 (omega arith))

bad_end : (k : ℕ) (l : List ℕ) → field_of k (take (likely k l) l) ≡ Bad → Bad ≡ field_of k (take (field_length l) l)
bad_end zero l e = far binary32 l single_of single_bad refl e
bad_end (suc zero) l e = far binary64 l double_of double_bad refl e
bad_end (suc (suc k)) l e = sym (rw (le-ltb (suc (suc k)) 2 (omega arith)) at e)

-- ---- as the code finds them

module _ (k p : ℕ) (t : List ℕ) where
  pub likely_fits : likely k (drop p t) ≤ length (drop p t)
  likely_fits = go (ltb k 2 && (ltb (k * 8 + 8) (length (drop p t)) && leb (get_or (drop p t) (k * 8 + 8) 0) 10)) refl
    where
      go : (b : Bool) → ltb k 2 && (ltb (k * 8 + 8) (length (drop p t)) && leb (get_or (drop p t) (k * 8 + 8) 0) 10) ≡ b
          → cond b (k * 8 + 8) (field_length (drop p t)) ≤ length (drop p t)
      go true e = omega (arith, ltb-true (k * 8 + 8) (length (drop p t)) (and_left _ _ (and_right (ltb k 2) _ e)))
      go false e = field_short (drop p t)

  module _ (f : Field) (e : ℕ) (at : e ≡ p + likely k (drop p t)) (is : f ≡ field_of k (take (e - p) (drop p t))) where
    guessed : f ≡ field_of k (take (likely k (drop p t)) (drop p t))
    guessed = let n : e - p ≡ likely k (drop p t) = omega arith in is ∙ ap (λ (m : ℕ). field_of k (take m (drop p t))) n

    pub from_good : Good f → record { field = f; end = e } ≡ from_of k p t
    from_good g =
        let n : likely k (drop p t) ≡ field_length (drop p t) = good_end k (drop p t) (subst Good guessed g) in
        let a : f ≡ field_of k (take (field_length (drop p t)) (drop p t)) = guessed ∙ ap (λ (m : ℕ). field_of k (take m (drop p t))) n in
        let b : e ≡ p + field_length (drop p t) = at ∙ ap (λ (m : ℕ). p + m) n in
        λ j. record { field = a j; end = b j }

    pub from_bad : f ≡ Bad → (r : ℕ) → r ≡ p + field_length (drop p t) → record { field = Bad; end = r } ≡ from_of k p t
    from_bad g r b =
        let a : Bad ≡ field_of k (take (field_length (drop p t)) (drop p t)) = bad_end k (drop p t) (sym guessed ∙ g) in
        λ j. record { field = a j; end = b j }
