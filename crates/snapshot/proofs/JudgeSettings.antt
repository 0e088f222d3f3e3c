-- The line of the settings is read as the code reads it.
use Prim.Native.Nat.{ℕ, zero, suc, ◌≤◌}
use native.Mathlib.Omega.{arith}
use mathlib.Core.Path.{◌≡◌, refl, sym, ap, ◌∙◌, subst}
use mathlib.Core.Bool.{Bool, true, false, not, ◌||◌, cond, false≢true}
use mathlib.Core.List.{List, [], ◌∷◌, ◌++◌, map, append_assoc}
use mathlib.Core.Option.{Option, none, some, some-injective, none-ne-some}
use lib.ListN.{length, drop, replicate, get_or, length-replicate}
use lib.Dec.{T, eqb, ltb}
use lib.Ieee.{Float, binary32, binary64, fits}
use lib.Ieee.Bits.{is_true}
use borrow.Author.Tests.{eq-eqb, leb-true, le-leb, ltb-false}
use Rattle.common.specs.Deviation.{outside_unit}
use Rattle.trcf.specs.Types.{is_none, method_number, mode_letter, mode_of_letter}
use Rattle.trcf.proofs.TypeLaws.{letter_back, mode_back as letter-named}
use Rattle.trcf.specs.Transformer.{one32}
use Rattle.trcf.specs.Settings.{Settings, All, whole_max, imputes}
use Rattle.trcf.specs.declared.types.TransformMethod.{TransformMethod}
use Rattle.trcf.specs.declared.types.TransformMethod.TheVariants.{NONE, WEIGHTED, DIFFERENCE, SUBTRACT_MA, NORMALIZE, NORMALIZE_DIFFERENCE}
use Rattle.trcf.specs.declared.types.ForestMode.{ForestMode}
use Rattle.snapshot.specs.Text.{tabbed_fields, whole, float, set_line}
use Rattle.snapshot.specs.Read.{bytes_of_line, as_whole, as_float, set_kind, with_lists}
use Rattle.snapshot.specs.Steps.Write.{tabbed}
use Rattle.snapshot.specs.Steps.Judge.{onto, with_rest, byte, name, one, fields, mode_named, mode_in, method_in, set_test, tail_by, settings_with, settings_if_read, set_by}
use Rattle.snapshot.proofs.Lists.{and_left, and_right}
use Rattle.snapshot.proofs.ReadLine.{Hold, Writes}
use Rattle.snapshot.proofs.ReadKinds.{fit_of, to_fits, set_writes, valid_of, zero_codes_lem}
use Rattle.snapshot.proofs.ReadText.{ones_pass, ones_fit}
use Rattle.snapshot.proofs.LineBytes.{set_bytes_lem}
use Rattle.snapshot.proofs.JudgeLines.{Reads, float_codec, whole_codec, byte_is, name_is, onto_some, one_is, one_back, fields_are, fields_back}

abbrev single : Float → Type 0
single x = T (fits binary32 x)

abbrev double : Float → Type 0
double x = T (fits binary64 x)

abbrev small : ℕ → Type 0
small n = n ≤ whole_max

-- ---- the pieces

named_is : (n m : ForestMode) → mode_named n ≡ some m → (n ≡ m) × (imputes n ≡ false)
named_is n m e = by (imputes n) refl e
  where
    by : (b : Bool) → imputes n ≡ b → cond b none (some n) ≡ some m → (n ≡ m) × (imputes n ≡ false)
    by true u k = absurd (none-ne-some m k)
    by false u k = (some-injective n m k, u)

mode_of : (z : List ℕ) (m : ForestMode) → mode_in z ≡ some m → (z ≡ mode_letter m ∷ drop 1 z) × (imputes m ≡ false)
mode_of [] m e = absurd (none-ne-some m e)
mode_of (x ∷ l) m e =
    let k = named_is (mode_of_letter x) m e in
    subst (λ (n : ForestMode). (x ∷ l ≡ mode_letter n ∷ l) × (imputes n ≡ false)) k.0 (ap (λ (y : ℕ). y ∷ l) (sym (letter_back x k.1)), k.1)

mode_back : (m : ForestMode) (l : List ℕ) → imputes m ≡ false → mode_in (mode_letter m ∷ l) ≡ some m
mode_back m l h = ap mode_named (letter-named m) ∙ ap (λ (b : Bool). cond b none (some m)) h

method_of_lem : (n : ℕ) (t : TransformMethod) → method_in n ≡ some t → method_number t ≡ n
method_of_lem zero t e = ap method_number (sym (some-injective NONE t e))
method_of_lem (suc zero) t e = ap method_number (sym (some-injective WEIGHTED t e))
method_of_lem (suc (suc zero)) t e = ap method_number (sym (some-injective DIFFERENCE t e))
method_of_lem (suc (suc (suc zero))) t e = ap method_number (sym (some-injective SUBTRACT_MA t e))
method_of_lem (suc (suc (suc (suc zero)))) t e = ap method_number (sym (some-injective NORMALIZE t e))
method_of_lem (suc (suc (suc (suc (suc zero))))) t e = ap method_number (sym (some-injective NORMALIZE_DIFFERENCE t e))
method_of_lem (suc (suc (suc (suc (suc (suc n)))))) t e = absurd (none-ne-some t e)

method_back : (t : TransformMethod) → method_in (method_number t) ≡ some t
method_back NONE = refl
method_back WEIGHTED = refl
method_back DIFFERENCE = refl
method_back SUBTRACT_MA = refl
method_back NORMALIZE = refl
method_back NORMALIZE_DIFFERENCE = refl

five : (w : List ℕ) → length w ≡ 5 → w ≡ get_or w 0 0 ∷ get_or w 1 0 ∷ get_or w 2 0 ∷ get_or w 3 0 ∷ get_or w 4 0 ∷ []
five [] e = absurd (omega arith)
five (a ∷ []) e = absurd (omega arith)
five (a ∷ b ∷ []) e = absurd (omega arith)
five (a ∷ b ∷ c ∷ []) e = absurd (omega arith)
five (a ∷ b ∷ c ∷ d ∷ []) e = absurd (omega arith)
five (a ∷ b ∷ c ∷ d ∷ f ∷ []) e = refl
five (a ∷ b ∷ c ∷ d ∷ f ∷ g ∷ w) e = absurd (omega arith)

abbrev ending : Float → Float → List ℕ → List ℕ
ending y u z = 9 ∷ (float binary64 y ++ (9 ∷ (float binary32 u ++ (10 ∷ z))))

tail_is : (l : List ℕ) (r : (Float × Float) × List ℕ) → tail_by l ≡ some r → (l ≡ ending r.0.0 r.0.1 r.1) × double r.0.0 × single r.0.1
unfolding tail_by
tail_is l r e =
    let a = onto_some (one (as_float binary64) l) (λ y. onto (one (as_float binary32) y.1) (λ x. with_rest (y.0, x.0) (byte 10 x.1))) r e in
    let b = onto_some (one (as_float binary32) a.0.1) (λ x. with_rest (a.0.0, x.0) (byte 10 x.1)) r a.2 in
    go a.0 (one_is (as_float binary64) (float binary64) double (float_codec binary64) l a.0 a.1)
    b.0 (one_is (as_float binary32) (float binary32) single (float_codec binary32) a.0.1 b.0 b.1) (byte 10 b.0.1) refl b.2
  where
    go : (y : Float × List ℕ) → (l ≡ 9 ∷ (float binary64 y.0 ++ y.1)) × double y.0 → (x : Float × List ℕ) → (y.1 ≡ 9 ∷ (float binary32 x.0 ++ x.1)) × single x.0
        → (o : Option (List ℕ)) → byte 10 x.1 ≡ o → with_rest (y.0, x.0) o ≡ some r → (l ≡ ending r.0.0 r.0.1 r.1) × double r.0.0 × single r.0.1
    go y f x g none u k = absurd (none-ne-some r k)
    go y f x g (some z) u k =
        subst (λ (q : (Float × Float) × List ℕ). (l ≡ ending q.0.0 q.0.1 q.1) × double q.0.0 × single q.0.1)
        (some-injective ((y.0, x.0), z) r k)
        (f.0 ∙ ap (λ (t : List ℕ). 9 ∷ (float binary64 y.0 ++ t)) (g.0 ∙ ap (λ (t : List ℕ). 9 ∷ (float binary32 x.0 ++ t)) (byte_is 10 x.1 z u)), f.1, g.1)

tail_back : (y u : Float) (z : List ℕ) → double y → single u → tail_by (ending y u z) ≡ some ((y, u), z)
unfolding tail_by
tail_back y u z f g =
    rw (
      one_back (as_float binary64) (float binary64) double (float_codec binary64) y (9 ∷ (float binary32 u ++ (10 ∷ z))) f refl,
      one_back (as_float binary32) (float binary32) single (float_codec binary32) u (10 ∷ z) g refl,
    )

-- ---- the line

set_split : (s : Settings) (z : List ℕ)
    → bytes_of_line (set_line s) ++ z
    ≡ 115 ∷ 101 ∷ 116 ∷ 9 ∷ mode_letter s.mode ∷ (tabbed (map whole (method_number s.method ∷ s.d ∷ s.k ∷ s.start ∷ s.stop ∷ [])) ++ ending s.decay s.weight_time z)
unfolding set_line
set_split s z =
    let T = tabbed (map whole (method_number s.method ∷ s.d ∷ s.k ∷ s.start ∷ s.stop ∷ [])) in
    let B = tabbed_fields (float binary64 s.decay ∷ float binary32 s.weight_time ∷ []) in
    ap (λ (l : List ℕ). l ++ z) (sym (set_bytes_lem (mode_letter s.mode) (method_number s.method) s.d s.k s.start s.stop s.decay s.weight_time))
    ∙ ap (λ (l : List ℕ). 115 ∷ 101 ∷ 116 ∷ 9 ∷ mode_letter s.mode ∷ l)
    (append_assoc T B z
    ∙ ap (λ (l : List ℕ). T ++ (9 ∷ l)) (append_assoc (float binary64 s.decay) (9 ∷ (float binary32 s.weight_time ++ (10 ∷ []))) z
    ∙ ap (λ (l : List ℕ). float binary64 s.decay ++ (9 ∷ l)) (append_assoc (float binary32 s.weight_time) (10 ∷ []) z)))

writes_of : (s : Settings) → s.weights ≡ [] → s.codes ≡ [] → Hold (set_kind.tests s) → Writes set_kind s
writes_of s e f h =
    let v = replicate s.d one32 in
    let g = valid_of s v (replicate s.d 0) h (eq-eqb _ _ (length-replicate s.d one32), (to_fits binary32 v (ones_fit s.d), (ones_pass (is_none s.method) s.d, tt))) (zero_codes_lem s) in
    subst (Writes set_kind) (λ i. with_lists s (sym e i) (sym f i)) (set_writes (with_lists s v (replicate s.d 0)) g)

last_small : (w : List ℕ) → length w ≡ 5 → All small w → get_or w 4 0 ≤ whole_max
last_small [] e h = absurd (omega arith)
last_small (a ∷ []) e h = absurd (omega arith)
last_small (a ∷ b ∷ []) e h = absurd (omega arith)
last_small (a ∷ b ∷ c ∷ []) e h = absurd (omega arith)
last_small (a ∷ b ∷ c ∷ d ∷ []) e h = absurd (omega arith)
last_small (a ∷ b ∷ c ∷ d ∷ f ∷ []) e h = h.1.1.1.1.0
last_small (a ∷ b ∷ c ∷ d ∷ f ∷ g ∷ w) e h = absurd (omega arith)

holds_of : (s : Settings) → imputes s.mode ≡ false → set_test s.d s.k s.start s.stop s.decay ≡ true → s.stop ≤ whole_max → double s.decay → single s.weight_time
    → Hold (set_kind.tests s)
unfolding set_test
holds_of s m h a b c =
    let h1 = and_right (not (eqb s.d 0)) _ h in
    let h2 = and_right (not (eqb s.k 0)) _ h1 in
    let h3 = and_right (not (ltb 16 s.d || ltb 64 s.k)) _ h2 in
    let h4 = and_right (not (outside_unit s.decay)) _ h3 in
    let h5 = and_right (not (ltb s.stop s.start)) _ h4 in (
      ap not m,
      (
        and_left (not (eqb s.d 0)) _ h,
        (
          and_left (not (eqb s.k 0)) _ h1,
          (
            and_left (not (ltb 16 s.d || ltb 64 s.k)) _ h2,
            (
              and_left (not (outside_unit s.decay)) _ h3,
              (and_left (not (ltb s.stop s.start)) _ h4, (h5, (le-leb _ _ a, (is_true _ b, (is_true _ c, tt))))),
            ),
          ),
        ),
      ),
    )

test_of : (s : Settings) → Hold (set_kind.tests s) → set_test s.d s.k s.start s.stop s.decay ≡ true
unfolding set_test
test_of s h = rw (h.1.0, h.1.1.0, h.1.1.1.0, h.1.1.1.1.0, h.1.1.1.1.1.0, h.1.1.1.1.1.1.0)

mode_not : (m : ForestMode) → not (imputes m) ≡ true → imputes m ≡ false
mode_not m h = by (imputes m) h
  where
    by : (b : Bool) → not b ≡ true → b ≡ false
    by true k = sym k
    by false k = refl

abbrev Read : List ℕ → Settings × List ℕ → Type 0
Read l r = (l ≡ bytes_of_line (set_line r.0) ++ r.1) × Writes set_kind r.0

set_tested : (l : List ℕ) (m : ForestMode) (t : TransformMethod) (w : List ℕ) (q : (Float × Float) × List ℕ) (r : Settings × List ℕ)
    → imputes m ≡ false → length w ≡ 5 → All small w → double q.0.0 → single q.0.1 → method_number t ≡ get_or w 0 0
    → l ≡ 115 ∷ 101 ∷ 116 ∷ 9 ∷ mode_letter m ∷ (tabbed (map whole w) ++ ending q.0.0 q.0.1 q.1)
    → settings_if_read m t w (some q) ≡ some r → Read l r
set_tested l m t w q r i n a b c j e f = go (set_test (get_or w 1 0) (get_or w 2 0) (get_or w 3 0) (get_or w 4 0) q.0.0) refl
  where
    s : Settings
    s = settings_with m t w q.0.0 q.0.1

    ws : w ≡ method_number t ∷ s.d ∷ s.k ∷ s.start ∷ s.stop ∷ []
    ws = five w n ∙ ap (λ (x : ℕ). x ∷ s.d ∷ s.k ∷ s.start ∷ s.stop ∷ []) (sym j)

    go : (x : Bool) → set_test (get_or w 1 0) (get_or w 2 0) (get_or w 3 0) (get_or w 4 0) q.0.0 ≡ x → Read l r
    go false h = absurd (none-ne-some r (rw h at f))
    go true h =
        subst (Read l) (some-injective (s, q.1) r (rw h at f)) (
          e ∙ ap (λ (x : List ℕ). 115 ∷ 101 ∷ 116 ∷ 9 ∷ mode_letter m ∷ (tabbed (map whole x) ++ ending q.0.0 q.0.1 q.1)) ws ∙ sym (set_split s q.1),
          writes_of s refl refl (holds_of s i h (last_small w n a) b c),
        )

set_good : (l : List ℕ) (r : Settings × List ℕ) → set_by l ≡ some r → Read l r
unfolding set_by
set_good l r e =
    let a = onto_some (onto (name 115 101 116 l) (byte 9))
    (λ z. onto (mode_in z) (λ m. onto (fields as_whole 5 (drop 1 z)) (λ w. onto (method_in (get_or w.0 0 0)) (λ t. settings_if_read m t w.0 (tail_by w.1))))) r e in
    let n = onto_some (name 115 101 116 l) (byte 9) a.0 a.1 in
    let b = onto_some (mode_in a.0) (λ m. onto (fields as_whole 5 (drop 1 a.0)) (λ w. onto (method_in (get_or w.0 0 0)) (λ t. settings_if_read m t w.0 (tail_by w.1)))) r a.2 in
    let c = onto_some (fields as_whole 5 (drop 1 a.0)) (λ w. onto (method_in (get_or w.0 0 0)) (λ t. settings_if_read b.0 t w.0 (tail_by w.1))) r b.2 in
    let d = onto_some (method_in (get_or c.0.0 0 0)) (λ t. settings_if_read b.0 t c.0.0 (tail_by c.0.1)) r c.2 in
    let m = mode_of a.0 b.0 b.1 in
    let f = fields_are as_whole whole small whole_codec 5 (drop 1 a.0) c.0 c.1 in
    let z : l ≡ 115 ∷ 101 ∷ 116 ∷ 9 ∷ mode_letter b.0 ∷ (tabbed (map whole c.0.0) ++ c.0.1) =
    name_is 115 101 116 l n.0 n.1
    ∙ ap (λ (x : List ℕ). 115 ∷ 101 ∷ 116 ∷ x) (byte_is 9 n.0 a.0 n.2 ∙ ap (λ (x : List ℕ). 9 ∷ x) (m.0 ∙ ap (λ (x : List ℕ). mode_letter b.0 ∷ x) f.0)) in
    go b.0 d.0 c.0 m.1 f.1 f.2 (method_of_lem _ d.0 d.1) z (tail_by c.0.1) refl d.2
  where
    go : (m : ForestMode) (t : TransformMethod) (w : List ℕ × List ℕ) → imputes m ≡ false → length w.0 ≡ 5 → All small w.0 → method_number t ≡ get_or w.0 0 0
        → l ≡ 115 ∷ 101 ∷ 116 ∷ 9 ∷ mode_letter m ∷ (tabbed (map whole w.0) ++ w.1)
        → (o : Option ((Float × Float) × List ℕ)) → tail_by w.1 ≡ o → settings_if_read m t w.0 o ≡ some r → Read l r
    go m t w i n a j z none u k = absurd (none-ne-some r k)
    go m t w i n a j z (some q) u k =
        let h = tail_is w.1 q u in
        set_tested l m t w.0 q r i n a h.1 h.2 j (z ∙ ap (λ (x : List ℕ). 115 ∷ 101 ∷ 116 ∷ 9 ∷ mode_letter m ∷ (tabbed (map whole w.0) ++ x)) h.0) k

not_of : (b : Bool) → not b ≡ true → b ≡ false
not_of true h = sym h
not_of false h = refl

or_of : (a b : Bool) → a || b ≡ false → (a ≡ false) × (b ≡ false)
or_of true b h = absurd (false≢true (sym h))
or_of false b h = (refl, h)

number_small : (t : TransformMethod) → method_number t ≤ whole_max
number_small NONE = omega arith
number_small WEIGHTED = omega arith
number_small DIFFERENCE = omega arith
number_small SUBTRACT_MA = omega arith
number_small NORMALIZE = omega arith
number_small NORMALIZE_DIFFERENCE = omega arith

all_small : (s : Settings) → Hold (set_kind.tests s) → All small (method_number s.method ∷ s.d ∷ s.k ∷ s.start ∷ s.stop ∷ [])
all_small s h =
    let l = or_of (ltb 16 s.d) (ltb 64 s.k) (not_of _ h.1.1.1.0) in
    let d : s.d ≤ 16 = ltb-false _ _ l.0 in
    let k : s.k ≤ 64 = ltb-false _ _ l.1 in
    let a : s.start ≤ s.stop = ltb-false _ _ (not_of _ h.1.1.1.1.1.0) in
    let b : s.stop ≤ whole_max = leb-true _ _ h.1.1.1.1.1.1.1.0 in
    (number_small s.method, (omega (arith, d), (omega (arith, k), (omega (arith, a, b), (b, tt)))))

set_back : (s : Settings) (z : List ℕ) → Hold (set_kind.tests s) → set_by (bytes_of_line (set_line s) ++ z) ≡ some (with_lists s [] [], z)
unfolding set_by
set_back s z h =
    let v = method_number s.method ∷ s.d ∷ s.k ∷ s.start ∷ s.stop ∷ [] in
    let y = ending s.decay s.weight_time z in
    let l = tabbed (map whole v) ++ y in
    let e : tail_by y ≡ some ((s.decay, s.weight_time), z) = tail_back s.decay s.weight_time z (fit_of binary64 s.decay h.1.1.1.1.1.1.1.1.0)
    (fit_of binary32 s.weight_time h.1.1.1.1.1.1.1.1.1.0) in
    let t : settings_if_read s.mode s.method v (some ((s.decay, s.weight_time), z)) ≡ some (with_lists s [] [], z) = rw (test_of s h) in
    ap set_by (set_split s z)
    ∙ ap (λ (o : Option ForestMode). onto o (λ m. onto (fields as_whole 5 l) (λ w. onto (method_in (get_or w.0 0 0)) (λ t. settings_if_read m t w.0 (tail_by w.1)))))
    (mode_back s.mode l (mode_not s.mode h.0))
    ∙ ap (λ (o : Option (List ℕ × List ℕ)). onto o (λ w. onto (method_in (get_or w.0 0 0)) (λ t. settings_if_read s.mode t w.0 (tail_by w.1))))
    (fields_back as_whole whole small whole_codec v y (all_small s h) refl)
    ∙ ap (λ (o : Option TransformMethod). onto o (λ t. settings_if_read s.mode t v (tail_by y))) (method_back s.method)
    ∙ ap (settings_if_read s.mode s.method v) e
    ∙ t

pub set_reads : Reads set_kind set_by
set_reads = record { good = set_good; back = λ s z h. (with_lists s [] [], set_back s z h) }
