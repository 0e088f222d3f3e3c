-- The largest of sizes is the largest: none is above it, and it is one of them, or 0 where there is none.
use Prim.Native.Nat.{ℕ, zero, suc, ◌*◌, ◌≤◌, ◌<◌}
use mathlib.Core.Path.{◌≡◌, refl, sym, ap, ◌∙◌, subst}
use mathlib.Core.Bool.{Bool, true, false, cond, ◌||◌}
use mathlib.Core.List.{List, [], ◌∷◌, map}
use native.Mathlib.Nat.{le_refl}
use native.Mathlib.Omega.{arith}
use borrow.Author.Tests.{ltb-false, eq-eqb, eqb-true, ltb-true}
use lib.Dec.{T, ltb, eqb}
use lib.ListN.{length, get_or}
use lib.Ieee.{Float, nan, inf, fin, binary32, sub, lt, eq, le, level, fits, of_bits, up, down}
use lib.Ieee.Fits.{sub-fits, down_pos}
use lib.Ieee.Positive.{through}
use Rattle.series.specs.Pairs.{Pair}
use Rattle.series.specs.Gaps.{zero32, absolute, difference_size, larger, largest_from, largest, cell, difference_sizes, Reached, none_to_reach, reached_at, Largest}
use Rattle.series.proofs.AlignmentLaws.Absolute.{at_zero}

-- neither a not-a-number nor negative
abbrev Unsigned : Float → Type 0
Unsigned nan = ⊥
Unsigned (inf true) = ⊥
Unsigned (inf false) = Unit {0}
Unsigned (fin true m e) = ⊥
Unsigned (fin false m e) = Unit {0}

absolute_unsigned : (x : Float) → Unsigned (absolute x)
unfolding absolute
absolute_unsigned nan = tt
absolute_unsigned (inf s) = tt
absolute_unsigned (fin s m e) = tt

absolute_fits : (x : Float) → T (fits binary32 x) → T (fits binary32 (absolute x))
unfolding absolute fits
absolute_fits nan h = tt
absolute_fits (inf s) h = tt
absolute_fits (fin s zero e) h = h
absolute_fits (fin s (suc m) e) h = h

absolute_same : (x : Float) → Unsigned x → absolute x ≡ x
unfolding absolute
absolute_same nan h = absurd h
absolute_same (inf true) h = absurd h
absolute_same (inf false) h = refl
absolute_same (fin true m e) h = absurd h
absolute_same (fin false m e) h = refl

-- ---- their order

of_left : (a b : Bool) → a ≡ true → T (a || b)
of_left a b e = rw e tt

le_of_cross : (m n : ℕ) → m ≤ n → T (ltb m n || level false m false n)
le_of_cross m n h = go (ltb m n) refl
  where
    go : (b : Bool) → ltb m n ≡ b → T (ltb m n || level false m false n)
    go true e = rw e tt
    go false e =
        let k : m ≡ n = omega (arith, ltb-false m n e, h) in
        rw (e, eq-eqb m n k) tt

cross_of_le : (m n : ℕ) → T (ltb m n || level false m false n) → m ≤ n
cross_of_le m n t = go (ltb m n) (eqb m n) refl refl t
  where
    go : (b c : Bool) → ltb m n ≡ b → eqb m n ≡ c → T (ltb m n || level false m false n) → m ≤ n
    go true c e f h = omega (arith, ltb-true m n e)
    go false true e f h = omega (arith, eqb-true m n f)
    go false false e f h = absurd (rw (e, f) at h)

not_below : (x y : Float) → Unsigned x → Unsigned y → lt x y ≡ false → T (le y x)
unfolding lt eq le
not_below nan y p q h = absurd p
not_below (inf true) y p q h = absurd p
not_below (fin true m e) y p q h = absurd p
not_below (inf false) nan p q h = absurd q
not_below (inf false) (inf true) p q h = absurd q
not_below (inf false) (inf false) p q h = tt
not_below (inf false) (fin true n f) p q h = absurd q
not_below (inf false) (fin false n f) p q h = tt
not_below (fin false m e) nan p q h = absurd q
not_below (fin false m e) (inf true) p q h = absurd q
not_below (fin false m e) (inf false) p q h = let z : ◌≡◌ {A = ℕ} 0 1 = cc in absurd (omega arith)
not_below (fin false m e) (fin true n f) p q h = absurd q
not_below (fin false m e) (fin false n f) p q h =
    le_of_cross (n * up f * down e) (m * up e * down f) (ltb-false (m * up e * down f) (n * up f * down e) h)

le_itself : (x : Float) → Unsigned x → T (le x x)
unfolding lt eq le
le_itself nan p = absurd p
le_itself (inf true) p = absurd p
le_itself (inf false) p = tt
le_itself (fin true m e) p = absurd p
le_itself (fin false m e) p = le_of_cross (m * up e * down e) (m * up e * down e) (le_refl (m * up e * down e))

le_through : (x y z : Float) → Unsigned x → Unsigned y → Unsigned z → T (le x y) → T (le y z) → T (le x z)
unfolding lt eq le
le_through nan y z p q r h k = absurd p
le_through (inf true) y z p q r h k = absurd p
le_through (fin true m e) y z p q r h k = absurd p
le_through (inf false) nan z p q r h k = absurd q
le_through (inf false) (inf true) z p q r h k = absurd q
le_through (inf false) (inf false) z p q r h k = k
le_through (inf false) (fin true n f) z p q r h k = absurd q
le_through (inf false) (fin false n f) z p q r h k = absurd h
le_through (fin false m e) nan z p q r h k = absurd q
le_through (fin false m e) (inf true) z p q r h k = absurd q
le_through (fin false m e) (inf false) nan p q r h k = absurd r
le_through (fin false m e) (inf false) (inf true) p q r h k = absurd r
le_through (fin false m e) (inf false) (inf false) p q r h k = tt
le_through (fin false m e) (inf false) (fin s o g) p q r h k = absurd k
le_through (fin false m e) (fin true n f) z p q r h k = absurd q
le_through (fin false m e) (fin false n f) nan p q r h k = absurd r
le_through (fin false m e) (fin false n f) (inf true) p q r h k = absurd r
le_through (fin false m e) (fin false n f) (inf false) p q r h k = tt
le_through (fin false m e) (fin false n f) (fin true o g) p q r h k = absurd r
le_through (fin false m e) (fin false n f) (fin false o g) p q r h k =
    le_of_cross (m * up e * down g) (o * up g * down e)
    (through (m * up e) (n * up f) (o * up g) (down e) (down f) (down g) (down_pos f)
    (cross_of_le (m * up e * down f) (n * up f * down e) h) (cross_of_le (n * up f * down g) (o * up g * down f) k))

below : (x y : Float) → lt x y ≡ true → T (le x y)
unfolding le
below x y e = of_left (lt x y) (eq x y) e

below_none : (y : Float) → Unsigned y → lt y zero32 ≡ true → ⊥
unfolding lt of_bits
below_none nan u e = u
below_none (inf true) u e = u
below_none (inf false) u e = let z : ◌≡◌ {A = ℕ} 0 1 = cc in omega arith
below_none (fin true m e) u h = u
below_none (fin false m e) u h = omega (arith, ltb-true (m * up e * 1) (0 * down e) h)

-- nothing but 0 is at most 0
least : (x : Float) → Unsigned x → T (fits binary32 x) → T (le x zero32) → x ≡ zero32
unfolding le
least x p f h = go (lt x zero32) (eq x zero32) refl refl h
  where
    go : (b c : Bool) → lt x zero32 ≡ b → eq x zero32 ≡ c → T (lt x zero32 || eq x zero32) → x ≡ zero32
    go true c e g t = absurd (below_none x p e)
    go false true e g t = sym (at_zero x f g ∙ absolute_same x p)
    go false false e g t = absurd (rw (e, g) at t)

-- ---- the larger of two

record Size (x : Float) : Type 0 where
  unsigned : Unsigned x
  held : T (fits binary32 x)

size_of : (x y : Float) → Size (difference_size x y)
unfolding difference_size
size_of x y =
    record { unsigned = absolute_unsigned (sub binary32 x y); held = absolute_fits (sub binary32 x y) (sub-fits binary32 x y) }

size_zero : Size zero32
unfolding of_bits fits
size_zero = record { unsigned = tt; held = tt }

data OneOf (g s r : Float) : Type 0 where
  first : r ≡ g → OneOf g s r
  second : r ≡ s → OneOf g s r

record Larger (g s r : Float) : Type 0 where
  size : Size r
  over_left : T (le g r)
  over_right : T (le s r)
  either : OneOf g s r

larger_is : (g s : Float) → Size g → Size s → Larger g s (larger g s)
unfolding larger
larger_is g s p q = go (lt g s) refl
  where
    chosen : (b : Bool) → lt g s ≡ b → larger g s ≡ cond b s g
    chosen b e = ap (λ (c : Bool). cond c s g) e

    go : (b : Bool) → lt g s ≡ b → Larger g s (larger g s)
    go true e =
        subst (Larger g s) (sym (chosen true e))
        (record { size = q; over_left = below g s e; over_right = le_itself s q.unsigned; either = second refl })
    go false e =
        subst (Larger g s) (sym (chosen false e))
        (record { size = p; over_left = le_itself g p.unsigned; over_right = not_below g s p.unsigned q.unsigned e; either = first refl })

-- ---- the largest of many

abbrev AllSizes : List Float → Type 0
AllSizes [] = Unit {0}
AllSizes (x ∷ l) = Size x × AllSizes l

data From (g : Float) (l : List Float) (r : Float) : Type 0 where
  start : r ≡ g → From g l r
  place : (k : ℕ) → k < length l → get_or l k nan ≡ r → From g l r

record LargestFrom (g : Float) (l : List Float) (r : Float) : Type 0 where
  size : Size r
  over_start : T (le g r)
  over_each : (k : ℕ) → k < length l → T (le (get_or l k nan) r)
  from : From g l r

largest_from_lem : (g : Float) (l : List Float) → Size g → AllSizes l → LargestFrom g l (largest_from g l)
largest_from_lem g [] p q =
    record { size = p; over_start = le_itself g p.unsigned; over_each = λ k h. absurd (omega arith); from = start refl }
largest_from_lem g (s ∷ l) p q = step (larger_is g s p q.0) (largest_from_lem (larger g s) l (larger_is g s p q.0).size q.1)
  where
    more : (h r : Float) → OneOf g s h → From h l r → From g (s ∷ l) r
    more h r o (place k z e) = place (suc k) (omega arith) e
    more h r (first a) (start e) = start (e ∙ a)
    more h r (second a) (start e) = place 0 (omega arith) (sym (e ∙ a))

    step : {h r : Float} → Larger g s h → LargestFrom h l r → LargestFrom g (s ∷ l) r
    step {h} {r} a b =
        record {
          size = b.size;
          over_start = le_through g h r p.unsigned a.size.unsigned b.size.unsigned a.over_left b.over_start;
          over_each = each;
          from = more h r a.either b.from;
        }
      where
        each : (k : ℕ) → k < length (s ∷ l) → T (le (get_or (s ∷ l) k nan) r)
        each zero z = le_through s h r q.0.unsigned a.size.unsigned b.size.unsigned a.over_right b.over_start
        each (suc k) z = b.over_each k (omega arith)

-- THEOREM
largest_is : (l : List Float) → AllSizes l → Largest l (largest l)
unfolding largest
largest_is [] q = record { none_above = λ k h. absurd (omega arith); reached = none_to_reach refl refl }
largest_is (s ∷ l) q = told (largest_from_lem zero32 (s ∷ l) size_zero q)
  where
    reach : (r : Float) → LargestFrom zero32 (s ∷ l) r → From zero32 (s ∷ l) r → Reached (s ∷ l) r
    reach r f (place k h e) = reached_at k h e
    reach r f (start e) =
        let t : T (le s zero32) = subst (λ (x : Float). T (le s x)) e (f.over_each 0 (omega arith)) in
        reached_at 0 (omega arith) (least s q.0.unsigned q.0.held t ∙ sym e)

    told : {r : Float} → LargestFrom zero32 (s ∷ l) r → Largest (s ∷ l) r
    told {r} f = record { none_above = f.over_each; reached = reach r f f.from }

all_sizes : (f : Pair → Float) → ((p : Pair) → Size (f p)) → (ps : List Pair) → AllSizes (map f ps)
all_sizes f h [] = tt
all_sizes f h (p ∷ ps) = (h p, all_sizes f h ps)

-- THEOREM: the size of a channel is the largest over the pairs
pub largest_of_channel : (d : ℕ) (l r : List Float) (ps : List Pair) (c : ℕ) → Largest (difference_sizes d l r ps c) (largest (difference_sizes d l r ps c))
unfolding difference_sizes
largest_of_channel d l r ps c =
    let f : Pair → Float = λ p. difference_size (cell d l p.left c) (cell d r p.right c) in
    largest_is (map f ps) (all_sizes f (λ p. size_of (cell d l p.left c) (cell d r p.right c)) ps)
