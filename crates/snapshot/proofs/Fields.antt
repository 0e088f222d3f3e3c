-- A field tells what it was written from.
use Prim.Native.Nat.{ℕ, zero, suc, ◌+◌, ◌-◌, ◌*◌, ◌/◌, ◌%◌, ◌^◌, ◌≤◌, ◌<◌}
use native.Mathlib.Omega.{arith}
use native.Mathlib.Nat.{mod-lt}
use mathlib.Core.Path.{◌≡◌, refl, sym, ap, ◌∙◌}
use mathlib.Core.Bool.{Bool, true, false, cond}
use mathlib.Core.List.{List, [], ◌∷◌, ◌++◌, map, nil≢cons, cons≢nil, head-eq_of_cons-eq, tail-eq_of_cons-eq, append_assoc}
use lib.Dec.{T, ltb}
use lib.Ieee.{Float, Format, binary32, binary64, to_bits, of_bits, fits}
use lib.Ieee.Bits.{of_bits-to_bits, to_bits-lt}
use borrow.Author.Tests.{ltb-true, ltb-false, lt-ltb, le-ltb}
use Rattle.trcf.specs.declared.types.TransformMethod.{TransformMethod}
use Rattle.trcf.specs.declared.types.TransformMethod.TheVariants.{NONE, WEIGHTED, DIFFERENCE, SUBTRACT_MA, NORMALIZE, NORMALIZE_DIFFERENCE}
use Rattle.trcf.specs.declared.types.ForestMode.{ForestMode}
use Rattle.trcf.specs.declared.types.ForestMode.TheVariants.{STANDARD, TIME_AUGMENTED, STREAMING_IMPUTE, GAP_AUGMENTED}
use Rattle.trcf.specs.Types.{method_number, mode_letter}
use Rattle.trcf.specs.Settings.{All, Fits, imputes}
use Rattle.trcf.proofs.TypeLaws.{mode_back}
use Rattle.snapshot.specs.Text.{decimal, whole, digit, hex, width, float, Line, tabbed_fields, bytes_of}
use Rattle.snapshot.specs.Read.{whole_from, undigit, hex_from, float_from, mode_from, method_from}
use Rattle.snapshot.proofs.Lists.{all_append}

-- ---- whole numbers

whole_snoc : (a : ℕ) (l : List ℕ) (c : ℕ) → whole_from a (l ++ (c ∷ [])) ≡ 10 * whole_from a l + (c - 48)
whole_snoc a [] c = refl
whole_snoc a (x ∷ xs) c = whole_snoc (10 * a + (x - 48)) xs c

one : (n : ℕ) → whole_from 0 ((48 + n) ∷ []) ≡ n
one n = omega arith

decimal_from : (f n : ℕ) → n < f → whole_from 0 (decimal f n) ≡ n
decimal_from zero n h = absurd (omega arith)
decimal_from (suc f) n h = go (ltb n 10) refl (λ k. decimal_from f (n / 10) k)
  where
    go : (b : Bool) → ltb n 10 ≡ b → (n / 10 < f → whole_from 0 (decimal f (n / 10)) ≡ n / 10) → whole_from 0 (decimal (suc f) n) ≡ n
    go true e ih = rw (e, decimal) (one n)
    go false e ih =
        let k : 10 ≤ n = ltb-false _ _ e in
        let i : whole_from 0 (decimal f (n / 10)) ≡ n / 10 = ih (omega arith) in
        rw (e, decimal) (whole_snoc 0 (decimal f (n / 10)) (48 + n % 10) ∙ rw i (omega arith))

pub whole_from_lem : (n : ℕ) → whole_from 0 (whole n) ≡ n
unfolding whole
whole_from_lem n = decimal_from (suc n) n (omega arith)

pub whole_inj : (n m : ℕ) → whole n ≡ whole m → n ≡ m
unfolding whole
whole_inj n m e = sym (decimal_from (suc n) n (omega arith)) ∙ ap (whole_from 0) e ∙ decimal_from (suc m) m (omega arith)

-- ---- floats

digit_back : (n : ℕ) → n < 16 → undigit (digit n) ≡ n
digit_back n h = go (ltb n 10) refl
  where
    go : (b : Bool) → ltb n 10 ≡ b → undigit (digit n) ≡ n
    go true e = let k : n < 10 = ltb-true _ _ e in rw (e, lt-ltb (48 + n) 58 (omega arith)) (omega arith)
    go false e = let k : 10 ≤ n = ltb-false _ _ e in rw (e, le-ltb (87 + n) 58 (omega arith)) (omega arith)

hex_snoc : (a : ℕ) (l : List ℕ) (c : ℕ) → hex_from a (l ++ (c ∷ [])) ≡ 16 * hex_from a l + undigit c
hex_snoc a [] c = refl
hex_snoc a (x ∷ xs) c = hex_snoc (16 * a + undigit x) xs c

hex_from_lem : (w n : ℕ) → n < 16 ^ w → hex_from 0 (hex w n) ≡ n
hex_from_lem zero n h = omega arith
hex_from_lem (suc w) n h =
    hex_snoc 0 (hex w (n / 16)) (digit (n % 16)) ∙ rw (hex_from_lem w (n / 16) (omega arith), digit_back (n % 16) (mod-lt n (omega arith))) (omega arith)

bits_lt : (f : Format) (x : Float) → T (fits f x) → to_bits f x < 16 ^ width f
bits_lt binary32 x h = to_bits-lt binary32 x h
bits_lt binary64 x h = to_bits-lt binary64 x h

pub float_from_lem : (f : Format) (x : Float) → T (fits f x) → float_from f (float f x) ≡ x
unfolding float float_from
float_from_lem f x h = ap (of_bits f) (hex_from_lem (width f) (to_bits f x) (bits_lt f x h)) ∙ of_bits-to_bits f x h

pub float_inj : (f : Format) (x y : Float) → T (fits f x) → T (fits f y) → float f x ≡ float f y → x ≡ y
unfolding float
float_inj f x y h k e =
    sym (of_bits-to_bits f x h) ∙ ap (of_bits f) (sym (hex_from_lem (width f) (to_bits f x) (bits_lt f x h)) ∙ ap (hex_from 0) e ∙ hex_from_lem (width f) (to_bits f y)
    (bits_lt f y k)) ∙ of_bits-to_bits f y k

pub floats_inj : (f : Format) (a b : List Float) → Fits f a → Fits f b → map (float f) a ≡ map (float f) b → a ≡ b
floats_inj f [] [] h k e = refl
floats_inj f [] (y ∷ ys) h k e = absurd (nil≢cons e)
floats_inj f (x ∷ xs) [] h k e = absurd (cons≢nil e)
floats_inj f (x ∷ xs) (y ∷ ys) h k e = λ i. float_inj f x y h.0 k.0 (head-eq_of_cons-eq e) i ∷ floats_inj f xs ys h.1 k.1 (tail-eq_of_cons-eq e) i

pub wholes_inj : (a b : List ℕ) → map whole a ≡ map whole b → a ≡ b
wholes_inj [] [] e = refl
wholes_inj [] (y ∷ ys) e = absurd (nil≢cons e)
wholes_inj (x ∷ xs) [] e = absurd (cons≢nil e)
wholes_inj (x ∷ xs) (y ∷ ys) e = λ i. whole_inj x y (head-eq_of_cons-eq e) i ∷ wholes_inj xs ys (tail-eq_of_cons-eq e) i

-- ---- settings' words

pub mode_is_lem : (m : ForestMode) → imputes m ≡ false → mode_from (mode_letter m ∷ []) ≡ m
mode_is_lem m h = mode_back m

pub method_is_lem : (m : TransformMethod) → method_from (method_number m) ≡ m
method_is_lem NONE = refl
method_is_lem WEIGHTED = refl
method_is_lem DIFFERENCE = refl
method_is_lem SUBTRACT_MA = refl
method_is_lem NORMALIZE = refl
method_is_lem NORMALIZE_DIFFERENCE = refl

-- ---- no field holds a tab or an LF

abbrev pub Clean : List ℕ → Type 0
Clean l = All (λ b. 10 < b) l

decimal_clean : (f n : ℕ) → Clean (decimal f n)
decimal_clean zero n = tt
decimal_clean (suc f) n = go (ltb n 10) refl (decimal_clean f (n / 10))
  where
    go : (b : Bool) → ltb n 10 ≡ b → Clean (decimal f (n / 10)) → Clean (decimal (suc f) n)
    go true e ih = rw (e, decimal) (omega arith, tt)
    go false e ih = rw (e, decimal) (all_append _ (decimal f (n / 10)) _ ih (omega arith, tt))

pub whole_clean : (n : ℕ) → Clean (whole n)
unfolding whole
whole_clean n = decimal_clean (suc n) n

digit_clean : (b : Bool) (n : ℕ) → 10 < cond b (48 + n) (87 + n)
digit_clean true n = omega arith
digit_clean false n = omega arith

hex_clean : (w n : ℕ) → Clean (hex w n)
hex_clean zero n = tt
hex_clean (suc w) n = all_append _ (hex w (n / 16)) _ (hex_clean w (n / 16)) (digit_clean (ltb (n % 16) 10) (n % 16), tt)

pub float_clean : (f : Format) (x : Float) → Clean (float f x)
unfolding float
float_clean f x = hex_clean (width f) (to_bits f x)

pub floats_clean : (f : Format) (l : List Float) → All Clean (map (float f) l)
floats_clean f [] = tt
floats_clean f (x ∷ xs) = (float_clean f x, floats_clean f xs)

pub wholes_clean : (l : List ℕ) → All Clean (map whole l)
wholes_clean [] = tt
wholes_clean (x ∷ xs) = (whole_clean x, wholes_clean xs)

pub letter_clean : (m : ForestMode) → Clean (mode_letter m ∷ [])
letter_clean STANDARD = omega arith
letter_clean TIME_AUGMENTED = omega arith
letter_clean STREAMING_IMPUTE = omega arith
letter_clean GAP_AUGMENTED = omega arith

-- ---- the bytes tell the lines

abbrev pub Stops : List ℕ → Type 0
Stops [] = ⊥
Stops (b ∷ l) = b ≤ 10

field_split : (f g x y : List ℕ) → Clean f → Clean g → Stops x → Stops y → f ++ x ≡ g ++ y → (f ≡ g) × (x ≡ y)
field_split [] [] x y cf cg sx sy e = (refl, e)
field_split [] (b ∷ g) [] y cf cg sx sy e = absurd sx
field_split [] (b ∷ g) (c ∷ x) y cf cg sx sy e = absurd (omega (arith, cg.0, head-eq_of_cons-eq e))
field_split (a ∷ f) [] x [] cf cg sx sy e = absurd sy
field_split (a ∷ f) [] x (c ∷ y) cf cg sx sy e = absurd (omega (arith, cf.0, head-eq_of_cons-eq e))
field_split (a ∷ f) (b ∷ g) x y cf cg sx sy e =
    let i : (f ≡ g) × (x ≡ y) = field_split f g x y cf.1 cg.1 sx sy (tail-eq_of_cons-eq e) in
    (λ t. head-eq_of_cons-eq e t ∷ i.0 t, i.1)

tail_stops : (fs : List (List ℕ)) (x : List ℕ) → Stops (tabbed_fields fs ++ x)
tail_stops [] x = omega arith
tail_stops (f ∷ fs) x = omega arith

nine : {x y : List ℕ} → 10 ∷ x ≡ 9 ∷ y → ⊥
nine e = omega (arith, head-eq_of_cons-eq e)

tail_inj : (fs gs : List (List ℕ)) (x y : List ℕ) → All Clean fs → All Clean gs → tabbed_fields fs ++ x ≡ tabbed_fields gs ++ y → (fs ≡ gs) × (x ≡ y)
tail_inj [] [] x y c d e = (refl, tail-eq_of_cons-eq e)
tail_inj [] (g ∷ gs) x y c d e = absurd (nine e)
tail_inj (f ∷ fs) [] x y c d e = absurd (nine (sym e))
tail_inj (f ∷ fs) (g ∷ gs) x y c d e =
    let s : (f ≡ g) × (tabbed_fields fs ++ x ≡ tabbed_fields gs ++ y) = field_split f g (tabbed_fields fs ++ x) (tabbed_fields gs ++ y) c.0 d.0 (tail_stops fs x) (tail_stops gs y)
    (sym (append_assoc f (tabbed_fields fs) x) ∙ tail-eq_of_cons-eq e ∙ append_assoc g (tabbed_fields gs) y) in
    let i : (fs ≡ gs) × (x ≡ y) = tail_inj fs gs x y c.1 d.1 s.1 in
    (λ t. s.0 t ∷ i.0 t, i.1)

abbrev pub CleanLine : Line → Type 0
CleanLine l = Clean l.name × All Clean l.fields

ended : (n : List ℕ) (fs : List (List ℕ)) (x : List ℕ) → [] ≡ n ++ tabbed_fields fs ++ x → ⊥
ended [] [] x e = nil≢cons e
ended [] (f ∷ fs) x e = nil≢cons e
ended (c ∷ n) fs x e = nil≢cons e

pub bytes_inj : (ls ms : List Line) → All CleanLine ls → All CleanLine ms → bytes_of ls ≡ bytes_of ms → ls ≡ ms
bytes_inj [] [] c d e = refl
bytes_inj [] (m ∷ ms) c d e = absurd (ended m.name m.fields (bytes_of ms) e)
bytes_inj (l ∷ ls) [] c d e = absurd (ended l.name l.fields (bytes_of ls) (sym e))
bytes_inj (l ∷ ls) (m ∷ ms) c d e =
    let s : (l.name ≡ m.name) × (tabbed_fields l.fields ++ bytes_of ls ≡ tabbed_fields m.fields ++ bytes_of ms) =
    field_split l.name m.name (tabbed_fields l.fields ++ bytes_of ls) (tabbed_fields m.fields ++ bytes_of ms) c.0.0 d.0.0 (tail_stops l.fields (bytes_of ls))
    (tail_stops m.fields (bytes_of ms))
    (sym (append_assoc l.name (tabbed_fields l.fields) (bytes_of ls)) ∙ e ∙ append_assoc m.name (tabbed_fields m.fields) (bytes_of ms)) in
    let i : (l.fields ≡ m.fields) × (bytes_of ls ≡ bytes_of ms) = tail_inj l.fields m.fields (bytes_of ls) (bytes_of ms) c.0.1 d.0.1 s.1 in
    λ t. record { name = s.0 t; fields = i.0 t } ∷ bytes_inj ls ms c.1 d.1 i.1 t
