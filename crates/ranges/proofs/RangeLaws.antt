-- Laws of the range for callers, over the width: which bound follows which, what depends on what, and lengths.
-- Assumes nothing.
use Prim.Native.Nat.{ℕ, zero, suc, ◌+◌, ◌*◌, ◌≤◌, ◌<◌}
use mathlib.Core.Path.{◌≡◌, refl, sym, ap, ◌∙◌, subst}
use mathlib.Core.Logic.{◌≢◌}
use mathlib.Core.Bool.{Bool, true, false, cond}
use mathlib.Core.List.{List, [], ◌∷◌, ◌++◌}
use native.Mathlib.Omega.{arith}
use borrow.Author.Tests.{le-ltb, eqb-true, eqb-false}
use lib.Dec.{eqb}
use lib.ListN.{length, get_or, set, length-set}
use lib.Seq.{get_or-set_same, get_or-set_other}
use lib.Ieee.{Float, nan, inf, fin, Format, add, mul, lt, up, down}
use Rattle.ranges.specs.RangeVector.{Range, Ranges, range, range_at, put_at, settled, shifted, scaled, cascade_to}

-- ---- one index

-- no number is below itself, and a not-a-number is below nothing
lt_irreflexive : (x : Float) → lt x x ≡ false
unfolding lt
lt_irreflexive nan = refl
lt_irreflexive (inf true) = refl
lt_irreflexive (inf false) = refl
lt_irreflexive (fin true m e) = le-ltb (m * up e * down e) (m * up e * down e) (omega arith)
lt_irreflexive (fin false m e) = le-ltb (m * up e * down e) (m * up e * down e) (omega arith)

-- the upper bound is not below the value, nor the lower bound above it: where one of the two is not a number, both tests are false anyway
pub record Ordered (r : Range) : Type 0 where
  pub upper_not_below : lt r.upper r.value ≡ false
  pub lower_not_above : lt r.value r.lower ≡ false

pub settled_ordered : (v u l : Float) → Ordered (settled v u l)
unfolding settled
settled_ordered v u l = record { upper_not_below = raised (lt u v) refl; lower_not_above = lowered (lt v l) refl }
  where
    raised : (b : Bool) → lt u v ≡ b → lt (cond b v u) v ≡ false
    raised true e = lt_irreflexive v
    raised false e = e

    lowered : (b : Bool) → lt v l ≡ b → lt v (cond b v l) ≡ false
    lowered true e = lt_irreflexive v
    lowered false e = e

pub shifted_ordered : (f : Format) (r : Range) (x : Float) → Ordered (shifted f r x)
unfolding shifted settled
shifted_ordered f r x = settled_ordered (add f r.value x) (add f r.upper x) (add f r.lower x)

-- the value depends on the value alone
pub shifted_value : (f : Format) (r s : Range) (x : Float) → r.value ≡ s.value → (shifted f r x).value ≡ (shifted f s x).value
unfolding shifted settled
shifted_value f r s x e = ap (λ (v : Float). add f v x) e

pub scaled_value : (f : Format) (r s : Range) (x : Float) → r.value ≡ s.value → (scaled f r x).value ≡ (scaled f s x).value
unfolding scaled settled
scaled_value f r s x e = ap (λ (v : Float). mul f v x) e

-- the upper bound never depends on the lower one
pub shifted_upper : (f : Format) (r s : Range) (x : Float) → r.value ≡ s.value → r.upper ≡ s.upper
    → (shifted f r x).upper ≡ (shifted f s x).upper
unfolding shifted settled
shifted_upper f r s x e g = cc

pub scaled_upper : (f : Format) (r s : Range) (x : Float) → r.value ≡ s.value → r.upper ≡ s.upper
    → (scaled f r x).upper ≡ (scaled f s x).upper
unfolding scaled settled
scaled_upper f r s x e g = cc

-- ---- the three lists

pub record SameLengths (v w : Ranges) : Type 0 where
  pub values : length v.values ≡ length w.values
  pub upper : length v.upper ≡ length w.upper
  pub lower : length v.lower ≡ length w.lower

pub put_at_lengths : (v : Ranges) (i : ℕ) (r : Range) → SameLengths (put_at v i r) v
unfolding put_at
put_at_lengths v i r =
    record {
      values = length-set v.values i r.value;
      upper = length-set v.upper i r.upper;
      lower = length-set v.lower i r.lower;
    }

pub range_at_other : (v : Ranges) (i j : ℕ) (r : Range) → j ≢ i → range_at (put_at v i r) j ≡ range_at v j
unfolding put_at range_at
range_at_other v i j r n = λ k.
    range (get_or-set_other v.values i j r.value nan n k) (get_or-set_other v.upper i j r.upper nan n k)
    (get_or-set_other v.lower i j r.lower nan n k)

-- past the end of a list stands a not-a-number, which is below nothing, above nothing and of every format: what holds of the range that is put holds of what is read, whatever the lengths
lt_nan : (x : Float) → lt x nan ≡ false
unfolding lt
lt_nan nan = refl
lt_nan (inf s) = refl
lt_nan (fin s m e) = refl

lt_put : (l m : List Float) (i : ℕ) (a b : Float) → lt a b ≡ false → lt (get_or (set l i a) i nan) (get_or (set m i b) i nan) ≡ false
unfolding lt
lt_put [] m i a b h = refl
lt_put (x ∷ l) [] i a b h = lt_nan (get_or (set (x ∷ l) i a) i nan)
lt_put (x ∷ l) (y ∷ m) zero a b h = h
lt_put (x ∷ l) (y ∷ m) (suc i) a b h = lt_put l m i a b h

pub put_at_ordered : (v : Ranges) (i : ℕ) (r : Range) → Ordered r → Ordered (range_at (put_at v i r) i)
unfolding put_at range_at
put_at_ordered v i r o =
    record {
      upper_not_below = lt_put v.upper v.values i r.upper r.value o.upper_not_below;
      lower_not_above = lt_put v.values v.lower i r.value r.lower o.lower_not_above;
    }

-- ---- the cascade

pub cascade_to_lengths : (f : Format) (base : List Float) (n : ℕ) (v : Ranges) → SameLengths (cascade_to f base n v) v
unfolding cascade_to put_at range_at shifted
cascade_to_lengths f base zero v = record { values = refl; upper = refl; lower = refl }
cascade_to_lengths f base (suc n) v =
    let w = cascade_to f base n v in
    let p = put_at_lengths w n (shifted f (range_at w n) (get_or (base ++ w.values) n nan)) in
    let q = cascade_to_lengths f base n v in
    record { values = p.values ∙ q.values; upper = p.upper ∙ q.upper; lower = p.lower ∙ q.lower }

-- the values depend on the values and the base alone
pub cascade_to_values : (f : Format) (base : List Float) (n : ℕ) (v w : Ranges) → v.values ≡ w.values
    → (cascade_to f base n v).values ≡ (cascade_to f base n w).values
unfolding cascade_to put_at range_at shifted settled
cascade_to_values f base zero v w e = e
cascade_to_values f base (suc n) v w e =
    ap (λ (l : List Float). set l n (add f (get_or l n nan) (get_or (base ++ l) n nan))) (cascade_to_values f base n v w e)

-- the upper bounds never depend on the lower ones
pub cascade_to_upper : (f : Format) (base : List Float) (n : ℕ) (v w : Ranges) → v.values ≡ w.values → v.upper ≡ w.upper
    → (cascade_to f base n v).upper ≡ (cascade_to f base n w).upper
unfolding cascade_to put_at range_at shifted settled
cascade_to_upper f base zero v w e g = g
cascade_to_upper f base (suc n) v w e g =
    next (cascade_to_values f base n v w e) (cascade_to_upper f base n v w e g)
  where
    raised_to : List Float → List Float → List Float
    raised_to l u =
        let x = get_or (base ++ l) n nan in
        set u n (cond (lt (add f (get_or u n nan) x) (add f (get_or l n nan) x)) (add f (get_or l n nan) x) (add f (get_or u n nan) x))

    next : {l k u t : List Float} → l ≡ k → u ≡ t → raised_to l u ≡ raised_to k t
    next p q = λ j. raised_to (p j) (q j)

-- an index that the cascade has not reached
pub cascade_to_later : (f : Format) (base : List Float) (n : ℕ) (v : Ranges) (i : ℕ) → n ≤ i → range_at (cascade_to f base n v) i ≡ range_at v i
unfolding cascade_to put_at range_at shifted
cascade_to_later f base zero v i h = refl
cascade_to_later f base (suc n) v i h =
    let w = cascade_to f base n v in
    range_at_other w n i (shifted f (range_at w n) (get_or (base ++ w.values) n nan)) (λ e. omega arith)
    ∙ cascade_to_later f base n v i (omega arith)

-- what holds of every range that a shift put holds at each index that the cascade has done
module _ (f : Format) (base : List Float) (P : Range → Type 0)
    (made : (w : Ranges) (i : ℕ) (r : Range) (x : Float) → P (range_at (put_at w i (shifted f r x)) i)) where
  cascade_to_made : (n : ℕ) (v : Ranges) (i : ℕ) → i < n → P (range_at (cascade_to f base n v) i)
  unfolding cascade_to put_at range_at shifted
  cascade_to_made zero v i h = absurd (omega arith)
  cascade_to_made (suc n) v i h =
      let w = cascade_to f base n v in
      let r = shifted f (range_at w n) (get_or (base ++ w.values) n nan) in
      at (eqb i n) refl (made w n (range_at w n) (get_or (base ++ w.values) n nan)) (λ k. cascade_to_made n v i k)
    where
      at : (b : Bool) → eqb i n ≡ b
          → P (range_at (cascade_to f base (suc n) v) n) → (i < n → P (range_at (cascade_to f base n v) i))
          → P (range_at (cascade_to f base (suc n) v) i)
      at true e here before = subst (λ (k : ℕ). P (range_at (cascade_to f base (suc n) v) k)) (sym (eqb-true i n e)) here
      at false e here before =
          subst P (sym (range_at_other (cascade_to f base n v) n i _ (eqb-false i n e)))
          (before (omega (arith, eqb-false i n e)))

pub cascade_to_ordered : (f : Format) (base : List Float) (n : ℕ) (v : Ranges) (i : ℕ) → i < n
    → Ordered (range_at (cascade_to f base n v) i)
cascade_to_ordered f base = cascade_to_made f base Ordered (λ w i r x. put_at_ordered w i (shifted f r x) (shifted_ordered f r x))

-- ---- the cascade, said of what it leaves: "each later block by the finished values before it"

-- a store at index n of the list after the base is not seen before place (length base) + n
get_d_before : (base l : List Float) (n i : ℕ) (a : Float) → i < length base + n → get_or (base ++ set l n a) i nan ≡ get_or (base ++ l) i nan
get_d_before [] l n i a h = get_or-set_other l n i a nan (λ e. omega arith)
get_d_before (x ∷ base) l n zero a h = refl
get_d_before (x ∷ base) l n (suc i) a h = get_d_before base l n i a (omega arith)

range_at_same : (v : Ranges) (i : ℕ) (r : Range) → i < length v.values → i < length v.upper → i < length v.lower
    → range_at (put_at v i r) i ≡ r
unfolding put_at range_at
range_at_same v i r a b c = λ k.
    range (get_or-set_same v.values i r.value nan a k) (get_or-set_same v.upper i r.upper nan b k)
    (get_or-set_same v.lower i r.lower nan c k)

-- with a base, index i is what it was, shifted by what stands in the end at place i after the base
pub cascade_to_at : (f : Format) (base : List Float) (n : ℕ) (v : Ranges) (i : ℕ) → 0 < length base
    → n ≤ length v.values → n ≤ length v.upper → n ≤ length v.lower → i < n
    → range_at (cascade_to f base n v) i ≡ shifted f (range_at v i) (get_or (base ++ (cascade_to f base n v).values) i nan)
unfolding cascade_to put_at range_at shifted
cascade_to_at f base zero v i b hv hu hl h = absurd (omega arith)
cascade_to_at f base (suc n) v i b hv hu hl h =
    at (eqb i n) refl (λ k. cascade_to_at f base n v i b (omega arith) (omega arith) (omega arith) k)
  where
    w : Ranges
    w = cascade_to f base n v

    r : Range
    r = shifted f (range_at w n) (get_or (base ++ w.values) n nan)

    -- what place i holds is finished
    finished : get_or (base ++ w.values) i nan ≡ get_or (base ++ (put_at w n r).values) i nan
    finished = sym (get_d_before base w.values n i r.value (omega arith))

    at : (t : Bool) → eqb i n ≡ t
        → (i < n → range_at w i ≡ shifted f (range_at v i) (get_or (base ++ w.values) i nan))
        → range_at (put_at w n r) i ≡ shifted f (range_at v i) (get_or (base ++ (put_at w n r).values) i nan)
    at true e before =
        let q = cascade_to_lengths f base n v in
        let same : range_at (put_at w n r) n ≡ shifted f (range_at v n) (get_or (base ++ w.values) n nan) =
        range_at_same w n r (omega arith) (omega arith) (omega arith)
        ∙ ap (λ (y : Range). shifted f y (get_or (base ++ w.values) n nan)) (cascade_to_later f base n v n (omega arith)) in
        let k : n ≡ i = sym (eqb-true i n e) in
        subst (λ (j : ℕ). range_at (put_at w n r) j ≡ shifted f (range_at v j) (get_or (base ++ w.values) j nan)) k same
        ∙ ap (shifted f (range_at v i)) finished
    at false e before =
        range_at_other w n i r (eqb-false i n e)
        ∙ before (omega (arith, eqb-false i n e))
        ∙ ap (shifted f (range_at v i)) finished
