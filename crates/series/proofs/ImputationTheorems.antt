-- What a caller may trust of the filler beyond its definition: a present cell keeps its bits, what a missing cell held is never read,
-- and every cell of the answer has an origin. Assumes nothing.
use Prim.Native.Nat.{ℕ, zero, suc, ◌+◌, ◌-◌, ◌*◌, ◌/◌, ◌%◌, ◌≤◌, ◌<◌}
use mathlib.Core.Bool.{Bool, true, false, cond, not, ◌&&◌, ◌||◌}
use mathlib.Core.List.{List, [], ◌∷◌}
use mathlib.Core.Path.{◌≡◌, refl, sym, ap, ◌∙◌, subst}
use native.Mathlib.Omega.{arith}
use native.Mathlib.Nat.{div-lt_iff_lt-mul}
use borrow.Author.Tests.{ltb-true, ltb-false}
use lib.Dec.{ltb, eqb}
use lib.ListN.{length, get_or, get_or-eq_default}
use lib.Ieee.{Float, nan}
use Rattle.refusal.specs.Refusal.{first_of}
use Rattle.series.specs.declared.imputation.ImputationMethod.{ImputationMethod}
use Rattle.series.specs.declared.imputation.ImputationMethod.TheVariants.{FIXED, PREVIOUS, NEXT, LINEAR}
use Rattle.std.specs.Prelude.{Option, Some, None}
use Rattle.series.specs.declared.imputation.Present.{Present}
use Rattle.series.specs.Imputation.{is_present, present_at, nearest_before, nearest_from, copy_of, interpolated, fill_of, present_in, cell_in, missing_of, imputed_at, by_place, imputed}
use Rattle.series.specs.Imputation.{cells_misshapen, known_marks, is_finite, finite_present, all_finite, impute_row, imputation, impute_answer, impute_of, Origin, copy, constant, on_line}
use Rattle.series.specs.Imputation.{Agree}
use Rattle.series.proofs.ImputationLists.{cond_same, cond_on, length_by_place, get_d_by_place, is_by_place, place_of}
use Rattle.series.proofs.ImputationLaws.{missing_same}

-- ---- present cells

imputed_at_lem : (m : ImputationMethod) (d : ℕ) (cells : List Float) (marks : List ℕ) (fixed : List Float) (k : ℕ) → k < length cells
    → get_or (imputed m d cells marks fixed) k nan
    ≡ cond (is_present (get_or marks k 0)) (get_or cells k nan) (missing_of m d cells marks (get_or fixed (k % d) nan) (k % d) (k / d))
unfolding imputed imputed_at
imputed_at_lem m d cells marks fixed k h = get_d_by_place (imputed_at m d cells marks fixed) cells k h

-- "For all four rules, one proof says that present cells keep their bits": of every call, refused ones included
pub present_kept : (m : ImputationMethod) (d : ℕ) (cells : List Float) (marks : List ℕ) (fixed : List Float) (k : ℕ)
    → k < length cells → is_present (get_or marks k 0) ≡ true → get_or (impute_of m d cells marks fixed).cells k nan ≡ get_or cells k nan
unfolding impute_of
present_kept m d cells marks fixed k h e = by (impute_row d cells marks fixed)
  where
    by : (n : ℕ) → get_or (impute_answer n cells (imputed m d cells marks fixed)).cells k nan ≡ get_or cells k nan
    by zero =
        imputed_at_lem m d cells marks fixed k h
        ∙ cond_on (get_or cells k nan) (missing_of m d cells marks (get_or fixed (k % d) nan) (k % d) (k / d)) (is_present (get_or marks k 0)) e
    by (suc n) = refl

-- an accepted call
pub accepted : (m : ImputationMethod) (d : ℕ) (cells : List Float) (marks : List ℕ) (fixed : List Float)
    → impute_row d cells marks fixed ≡ 0 → impute_of m d cells marks fixed ≡ imputation 0 (imputed m d cells marks fixed)
unfolding impute_of
accepted m d cells marks fixed e = ap (λ (n : ℕ). impute_answer n cells (imputed m d cells marks fixed)) e

-- ---- missing cells are not read

-- past the end both are the same too
agree_all : {marks : List ℕ} {cells others : List Float} → Agree marks cells others → (k : ℕ) → is_present (get_or marks k 0) ≡ true
    → get_or cells k nan ≡ get_or others k nan
agree_all {marks} {cells} {others} A k e = by (ltb k (length cells)) refl
  where
    by : (b : Bool) → ltb k (length cells) ≡ b → get_or cells k nan ≡ get_or others k nan
    by true t = A.same k (ltb-true k (length cells) t) e
    by false t =
        let g : length cells ≤ k = ltb-false k (length cells) t in
        let g' : length others ≤ k = omega (arith, A.long) in
        get_or-eq_default cells nan g ∙ sym (get_or-eq_default others nan g')

finite_same : (marks : List ℕ) (cells others : List Float) → length cells ≡ length others
    → ((k : ℕ) → k < length cells → is_present (get_or marks k 0) ≡ true → get_or cells k nan ≡ get_or others k nan)
    → finite_present cells marks ≡ finite_present others marks
unfolding finite_present
finite_same marks [] [] e h = refl
finite_same marks [] (y ∷ ys) e h = absurd (omega arith)
finite_same marks (x ∷ xs) [] e h = absurd (omega arith)
finite_same [] (x ∷ xs) (y ∷ ys) e h = refl
finite_same (m ∷ ms) (x ∷ xs) (y ∷ ys) e h =
    let e' : length xs ≡ length ys = omega arith in
    let rest = finite_same ms xs ys e' (λ (k : ℕ) (g : k < length xs) (p : is_present (get_or ms k 0) ≡ true). h (suc k) (omega arith) p) in
    λ t. head (is_present m) (h 0 (omega arith)) t && rest t
  where
    head : (b : Bool) → (b ≡ true → x ≡ y) → not b || is_finite x ≡ not b || is_finite y
    head true g = ap is_finite (g refl)
    head false g = refl

row_same : (d : ℕ) (marks : List ℕ) (fixed cells others : List Float) → Agree marks cells others
    → impute_row d cells marks fixed ≡ impute_row d others marks fixed
unfolding impute_row
row_same d marks fixed cells others A =
    let f = finite_same marks cells others A.long A.same in
    let n = A.long in
    λ t. first_of (
    (eqb d 0, 2)
    ∷ (ltb 16 d, 4)
    ∷ (cells_misshapen d (n t) (length marks) (length fixed), 10)
    ∷ (ltb 2000 (n t / d) || not (known_marks marks), 21)
    ∷ (not (f t && all_finite fixed), 11)
    ∷ [])

imputed_same : (m : ImputationMethod) (d : ℕ) (marks : List ℕ) (fixed cells others : List Float) → Agree marks cells others
    → imputed m d cells marks fixed ≡ imputed m d others marks fixed
unfolding imputed imputed_at
imputed_same m d marks fixed cells others A =
    is_by_place (imputed_at m d others marks fixed) others (by_place (imputed_at m d cells marks fixed) cells)
    (length_by_place (imputed_at m d cells marks fixed) cells ∙ A.long)
    (λ (k : ℕ) (h : k < length others).
    get_d_by_place (imputed_at m d cells marks fixed) cells k (omega (arith, A.long))
    ∙ cond_same (is_present (get_or marks k 0)) (λ (p : is_present (get_or marks k 0) ≡ true). agree_all A k p)
    (λ (p : is_present (get_or marks k 0) ≡ false). missing_same m d cells others marks (get_or fixed (k % d) nan) (k % d) (k / d) A.long
    (λ (r : ℕ) (q : present_in d marks (k % d) r ≡ true). agree_all A (r * d + k % d) q)))

-- what stood in missing cells makes no difference: to the row, and where none refuses to the whole answer
pub missing_unread : (m : ImputationMethod) (d : ℕ) (marks : List ℕ) (fixed cells others : List Float) → Agree marks cells others
    → ((impute_of m d cells marks fixed).row ≡ (impute_of m d others marks fixed).row)
    × ((impute_of m d cells marks fixed).row ≡ 0 → impute_of m d cells marks fixed ≡ impute_of m d others marks fixed)
unfolding impute_of
missing_unread m d marks fixed cells others A =
    by (impute_row d cells marks fixed) (impute_row d others marks fixed) (row_same d marks fixed cells others A)
  where
    by : (n k : ℕ) → n ≡ k
        → ((impute_answer n cells (imputed m d cells marks fixed)).row ≡ (impute_answer k others (imputed m d others marks fixed)).row)
        × ((impute_answer n cells (imputed m d cells marks fixed)).row ≡ 0
        → impute_answer n cells (imputed m d cells marks fixed) ≡ impute_answer k others (imputed m d others marks fixed))
    by zero zero e = (refl, λ z. ap (imputation 0) (imputed_same m d marks fixed cells others A))
    by zero (suc k) e = absurd (omega arith)
    by (suc n) zero e = absurd (omega arith)
    by (suc n) (suc k) e = (e, λ z. absurd (omega arith))

-- ---- origins

-- what a search found
abbrev Earlier : (ℕ → Bool) → (ℕ → Float) → ℕ → Option Present → Type 0
Earlier p v i (Some s) = (s.reading < i) × (p s.reading ≡ true) × (s.value ≡ v s.reading) × ((q : ℕ) → s.reading < q → q < i → p q ≡ false)
Earlier p v i None = Unit {0}

abbrev Later : (ℕ → Bool) → (ℕ → Float) → ℕ → ℕ → Option Present → Type 0
Later p v n i (Some s) = (i ≤ s.reading) × (s.reading < i + n) × (p s.reading ≡ true) × (s.value ≡ v s.reading) × ((q : ℕ) → i ≤ q → q < s.reading → p q ≡ false)
Later p v n i None = Unit {0}

earlier_more : (p : ℕ → Bool) (v : ℕ → Float) (i : ℕ) (n : Option Present) → p i ≡ false → Earlier p v i n → Earlier p v (suc i) n
earlier_more p v i None e h = tt
earlier_more p v i (Some s) e h =
    let g : s.reading < suc i = omega (arith, h.0) in
    (g, h.1, h.2, λ (q : ℕ) (a : s.reading < q) (b : q < suc i). by q a b (ltb q i) refl)
  where
    by : (q : ℕ) → s.reading < q → q < suc i → (t : Bool) → ltb q i ≡ t → p q ≡ false
    by q a b true t = h.3 q a (ltb-true q i t)
    by q a b false t =
        let k : i ≤ q = ltb-false q i t in
        let z : q ≡ i = omega arith in
        ap p z ∙ e

earlier : (p : ℕ → Bool) (v : ℕ → Float) (i : ℕ) → Earlier p v i (nearest_before p v i)
earlier p v zero = tt
earlier p v (suc i) = by (p i) refl (earlier p v i)
  where
    by : (b : Bool) → p i ≡ b → Earlier p v i (nearest_before p v i) → Earlier p v (suc i) (cond b (present_at i (v i)) (nearest_before p v i))
    by true t h = (omega arith, t, refl, λ (q : ℕ) (a : i < q) (b : q < suc i). absurd (omega arith))
    by false t h = earlier_more p v i (nearest_before p v i) t h

later_more : (p : ℕ → Bool) (v : ℕ → Float) (n i : ℕ) (m : Option Present) → p i ≡ false → Later p v n (suc i) m → Later p v (suc n) i m
later_more p v n i None e h = tt
later_more p v n i (Some s) e h =
    let a : i ≤ s.reading = omega (arith, h.0) in
    let b : s.reading < i + suc n = omega (arith, h.1) in
    (a, b, h.2, h.3, λ (q : ℕ) (c : i ≤ q) (d : q < s.reading). by q c d (ltb i q) refl)
  where
    by : (q : ℕ) → i ≤ q → q < s.reading → (t : Bool) → ltb i q ≡ t → p q ≡ false
    by q c d true t = let g : i < q = ltb-true i q t in h.4 q (omega arith) d
    by q c d false t =
        let k : q ≤ i = ltb-false i q t in
        let z : q ≡ i = omega arith in
        ap p z ∙ e

later : (p : ℕ → Bool) (v : ℕ → Float) (n i : ℕ) → Later p v n i (nearest_from p v n i)
later p v zero i = tt
later p v (suc n) i = by (p i) refl (later p v n (suc i))
  where
    by : (b : Bool) → p i ≡ b → Later p v n (suc i) (nearest_from p v n (suc i)) → Later p v (suc n) i (cond b (present_at i (v i)) (nearest_from p v n (suc i)))
    by true t h = (omega arith, omega arith, t, refl, λ (q : ℕ) (a : i ≤ q) (b : q < i). absurd (omega arith))
    by false t h = later_more p v n i (nearest_from p v n (suc i)) t h

module _ (d : ℕ) (cells : List Float) (marks : List ℕ) (fixed : Float) (c i : ℕ) (hi : i < length cells / d) where
  copied_before : (b : Option Present) → Earlier (present_in d marks c) (cell_in d cells c) i b → Origin d cells marks fixed c i (copy_of b fixed)
  copied_before None h = constant
  copied_before (Some s) h =
      let g : s.reading < length cells / d = omega (arith, h.0) in
      subst (λ (y : Float). Origin d cells marks fixed c i y) (sym h.2) (copy s.reading g h.1)

  copied_after : (a : Option Present) → Later (present_in d marks c) (cell_in d cells c) (length cells / d - suc i) (suc i) a
      → Origin d cells marks fixed c i (copy_of a fixed)
  copied_after None h = constant
  copied_after (Some s) h =
      let g : s.reading < length cells / d = omega (arith, h.1) in
      subst (λ (y : Float). Origin d cells marks fixed c i y) (sym h.3) (copy s.reading g h.2)

  on_line_lem : (r s : ℕ) (x y : Float) → Earlier (present_in d marks c) (cell_in d cells c) i (present_at r x)
      → Later (present_in d marks c) (cell_in d cells c) (length cells / d - suc i) (suc i) (present_at s y)
      → Origin d cells marks fixed c i (interpolated x y (i - r) (s - r))
  on_line_lem r s x y e l =
      let high : i < s = omega (arith, l.0) in
      let end : s < length cells / d = omega (arith, l.1) in
      subst (λ (z : Float). Origin d cells marks fixed c i (interpolated z y (i - r) (s - r))) (sym e.2)
      (subst (λ (z : Float). Origin d cells marks fixed c i (interpolated (cell_in d cells c r) z (i - r) (s - r))) (sym l.3)
      (on_line r s e.0 high end e.1 l.2 (λ (q : ℕ) (a : r < q) (b : q < s) (n : q ≡ i → ⊥). by q a b n (ltb q i) refl)))
    where
      by : (q : ℕ) → r < q → q < s → (q ≡ i → ⊥) → (t : Bool) → ltb q i ≡ t → present_in d marks c q ≡ false
      by q a b n true t = e.3 q a (ltb-true q i t)
      by q a b n false t =
          let k : i ≤ q = ltb-false q i t in
          let g : suc i ≤ q = omega arith in
          l.4 q g b

  filled_origin : (m : ImputationMethod) (b a : Option Present) → Earlier (present_in d marks c) (cell_in d cells c) i b
      → Later (present_in d marks c) (cell_in d cells c) (length cells / d - suc i) (suc i) a → Origin d cells marks fixed c i (fill_of m b a i fixed)
  filled_origin FIXED b a e l = constant
  filled_origin PREVIOUS b a e l = copied_before b e
  filled_origin NEXT b a e l = copied_after a l
  filled_origin LINEAR None a e l = copied_after a l
  filled_origin LINEAR (Some r) None e l = copied_before (Some r) e
  filled_origin LINEAR (Some r) (Some s) e l = on_line_lem r.reading s.reading r.value s.value e l

  missing_origin : (m : ImputationMethod) → Origin d cells marks fixed c i (missing_of m d cells marks fixed c i)
  unfolding missing_of
  missing_origin m =
      let p = present_in d marks c in
      let v = cell_in d cells c in
      filled_origin m (nearest_before p v i) (nearest_from p v (length cells / d - suc i) (suc i)) (earlier p v i)
      (later p v (length cells / d - suc i) (suc i))

-- every cell of an accepted answer is a present cell's value, a fixed one, or the line's value between its two nearest present ones
pub origin : (m : ImputationMethod) (d : ℕ) (cells : List Float) (marks : List ℕ) (fixed : List Float) → 0 < d → length cells / d * d ≡ length cells
    → (k : ℕ) → k < length cells → Origin d cells marks (get_or fixed (k % d) nan) (k % d) (k / d) (get_or (imputed m d cells marks fixed) k nan)
origin m d cells marks fixed hd whole k h =
    subst (λ (x : Float). Origin d cells marks f c i x) (sym (imputed_at_lem m d cells marks fixed k h)) (by (is_present (get_or marks k 0)) refl)
  where
    f : Float
    f = get_or fixed (k % d) nan

    c : ℕ
    c = k % d

    i : ℕ
    i = k / d

    high : i < length cells / d
    high = (div-lt_iff_lt-mul hd).1 (omega (arith, whole))

    place : i * d + c ≡ k
    place = place_of d c k refl

    by : (b : Bool) → is_present (get_or marks k 0) ≡ b → Origin d cells marks f c i (cond b (get_or cells k nan) (missing_of m d cells marks f c i))
    by true t =
        subst (λ (z : ℕ). Origin d cells marks f c i (get_or cells z nan)) place
        (copy i high (ap (λ (z : ℕ). is_present (get_or marks z 0)) place ∙ t))
    by false t = missing_origin d cells marks f c i high m
