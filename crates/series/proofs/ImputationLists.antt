-- Lists made anew by place, and places of readings of d cells. Assumes nothing.
use Prim.Native.Nat.{ℕ, zero, suc, ◌+◌, ◌*◌, ◌/◌, ◌%◌, ◌≤◌, ◌<◌}
use mathlib.Core.Bool.{Bool, true, false, cond, ◌&&◌}
use mathlib.Core.List.{List, [], ◌∷◌}
use mathlib.Core.Path.{◌≡◌, refl, sym, ap, ◌∙◌}
use native.Mathlib.Omega.{arith}
use native.Mathlib.Nat.{div-add-mod', mul-add-div_right, mul-add-mod_self_right, mod-eq_of_lt, div-eq_of_lt, mul-le-mul_right}
use borrow.Author.Tests.{eq-eqb, ne_eqb, lt-ltb, le-ltb, le-leb, lt-leb}
use lib.Dec.{leb, eqb}
use lib.ListN.{length, get_or}
use lib.Seq.{ext_get_or}
use lib.Ieee.{Float, nan}
use Rattle.series.specs.Imputation.{by_place}
use Rattle.series.specs.Steps.ImputationSteps.{inside}

-- ---- a choice

pub cond_same : {A : Type 0} {x y u v : A} (b : Bool) → (b ≡ true → x ≡ u) → (b ≡ false → y ≡ v) → cond b x y ≡ cond b u v
cond_same true f g = f refl
cond_same false f g = g refl

pub cond_on : {A : Type 0} (x y : A) (b : Bool) → b ≡ true → cond b x y ≡ x
cond_on x y b e = ap (λ (t : Bool). cond t x y) e

pub cond_off : {A : Type 0} (x y : A) (b : Bool) → b ≡ false → cond b x y ≡ y
cond_off x y b e = ap (λ (t : Bool). cond t x y) e

-- ---- lists by place

pub length_by_place : (f : ℕ → Float → Float) (l : List Float) → length (by_place f l) ≡ length l
unfolding by_place
length_by_place f [] = refl
length_by_place f (x ∷ xs) = ap suc (length_by_place (λ (k : ℕ). f (suc k)) xs)

pub get_d_by_place : (f : ℕ → Float → Float) (l : List Float) (k : ℕ) → k < length l → get_or (by_place f l) k nan ≡ f k (get_or l k nan)
unfolding by_place
get_d_by_place f [] k h = absurd (omega arith)
get_d_by_place f (x ∷ xs) zero h = refl
get_d_by_place f (x ∷ xs) (suc k) h =
    let g : k < length xs = omega arith in
    get_d_by_place (λ (i : ℕ). f (suc i)) xs k g

-- a list of the same length with these elements is that list
pub is_by_place : (f : ℕ → Float → Float) (l m : List Float) → length m ≡ length l
    → ((k : ℕ) → k < length l → get_or m k nan ≡ f k (get_or l k nan)) → m ≡ by_place f l
is_by_place f l m e h =
    ext_get_or nan m (by_place f l) (e ∙ sym (length_by_place f l))
    (λ (k : ℕ) (g : k < length m). let g' : k < length l = omega arith in h k g' ∙ sym (get_d_by_place f l k g'))

-- ---- places: reading r, channel c of d

module _ (d c r : ℕ) (h : c < d) where
  pub place_channel : (r * d + c) % d ≡ c
  place_channel = mul-add-mod_self_right r d c ∙ mod-eq_of_lt h

  pub place_reading : (r * d + c) / d ≡ r
  place_reading =
      let p : 0 < d = omega arith in
      mul-add-div_right p r c ∙ ap (λ (x : ℕ). r + x) (div-eq_of_lt h) ∙ omega arith

  pub place_below : (n m : ℕ) → r < n → n * d ≤ m → r * d + c < m
  place_below n m k room =
      let e : (r + 1) * d ≤ n * d = mul-le-mul_right d (omega arith) in
      let f : (r + 1) * d ≡ r * d + d = omega arith in
      omega arith

pub place_of : (d c k : ℕ) → k % d ≡ c → k / d * d + c ≡ k
place_of d c k e = ap (λ (x : ℕ). k / d * d + x) (sym e) ∙ div-add-mod' k d

-- ---- inside

module _ (d c s e k : ℕ) where
  pub inside_yes : k % d ≡ c → s ≤ k / d → k / d < e → inside d c s e k ≡ true
  unfolding inside
  inside_yes h low high = rw (eq-eqb (k % d) c h, le-leb s (k / d) low, lt-ltb (k / d) e high)

  pub inside_off : (k % d ≡ c → ⊥) → inside d c s e k ≡ false
  unfolding inside
  inside_off h = rw (ne_eqb (k % d) c h)

  pub inside_low : k / d < s → inside d c s e k ≡ false
  unfolding inside
  inside_low h = rw (lt-leb s (k / d) h) (and_false (eqb (k % d) c))
    where
      and_false : (b : Bool) → b && false ≡ false
      and_false true = refl
      and_false false = refl

  pub inside_high : e ≤ k / d → inside d c s e k ≡ false
  unfolding inside
  inside_high h = rw (le-ltb (k / d) e h) (and_and (eqb (k % d) c) (leb s (k / d)))
    where
      and_and : (a b : Bool) → a && (b && false) ≡ false
      and_and true true = refl
      and_and true false = refl
      and_and false b = refl
