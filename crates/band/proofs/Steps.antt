-- A turn-back by its parts: how an index is scaled, how it is shifted, and by which list a cascade shifts it. What is asked of a band is asked here of any such
-- parts (`BandBy`), and follows from two laws of them: a shift ends in order, and neither scale, shift nor cascade looks where it must not (`band_by`).
-- trcf's definition is the one of the parts `real`. Assumes nothing.
use Prim.Native.Nat.{ℕ, zero, suc, ◌*◌, ◌/◌, ◌%◌, ◌<◌}
use mathlib.Core.Path.{◌≡◌, refl, sym, ap, subst}
use mathlib.Core.Bool.{Bool, true, false, cond, not}
use mathlib.Core.List.{List, ◌++◌}
use native.Mathlib.Omega.{arith}
use native.Mathlib.Nat.{div-add-mod'}
use borrow.Author.Tests.{eqb-true, eqb-false}
use lib.Dec.{eqb}
use lib.ListN.{length, get_or, set}
use lib.IntN.{pos}
use lib.Ieee.{Float, nan, Format, binary32, binary64, mul, of_int}
use Rattle.ranges.specs.RangeVector.{Range, Ranges, range_at, put_at, shifted, scaled, cascade_to}
use Rattle.ranges.proofs.RangeLaws.{Ordered, shifted_ordered, put_at_ordered, range_at_other, shifted_value, scaled_value, shifted_upper, scaled_upper}
use Rattle.trcf.specs.Types.{is_none, normalizes, differences, centres}
use Rattle.trcf.specs.Transformer.{Transformer, reciprocal, weight_at, normalized_scale, basic_drift, basic_shift, forecast_at, forecast_to, inverted_forecast}

-- ---- the parts, and a turn-back made of them

pub record Parts : Type 0 where
  pub scale : Range → Float → Range
  pub shift : Format → Range → Float → Range
  pub bases : Ranges → List Float

-- index after index, each from what stands before it
unfoldable pub walk_to : (ℕ → Ranges → Range) → ℕ → Ranges → Ranges
walk_to step zero v = v
walk_to step (suc n) v = let w = walk_to step n v in put_at w n (step n w)

module _ (p : Parts) where
  abbrev pub scale_if : Bool → Range → Float → Range
  scale_if b r x = cond b (p.scale r x) r

  abbrev pub shift_if : Bool → Range → Float → Range
  shift_if b r x = cond b (p.shift binary32 r x) r

  unfoldable pub forecast_at_by : Transformer → ℕ → ℕ → Range → Range
  forecast_at_by t i j r =
      let a = scale_if (not (is_none t.method)) r (reciprocal (weight_at t j)) in
      let b = scale_if (normalizes t.method) a (normalized_scale t j) in
      let c = p.shift binary32 b (mul binary32 (of_int binary32 (pos i)) (basic_drift t j)) in
      shift_if (centres t.method) c (basic_shift t j)

  abbrev pub forecast_step : Transformer → ℕ → Ranges → Range
  forecast_step t n w = forecast_at_by t (n / t.d) (n % t.d) (range_at w n)

  abbrev pub cascade_step : Format → List Float → ℕ → Ranges → Range
  cascade_step f base n w = p.shift f (range_at w n) (get_or (base ++ p.bases w) n nan)

  abbrev pub cascade_by : Format → List Float → ℕ → Ranges → Ranges
  cascade_by f base n v = walk_to (cascade_step f base) n v

  unfoldable pub inverted_by : Transformer → List Float → Ranges → Ranges
  inverted_by t previous v =
      let w = walk_to (forecast_step t) (length v.values / t.d * t.d) v in
      cond (differences t.method) (cascade_by binary32 previous (length v.values) w) w

-- ---- what is asked

-- The same value, and where `above` says so the same upper: with it off, what the values depend on; with it on, what upper does.
abbrev pub Agree : Bool → Range → Range → Type 0
Agree above r q = (r.value ≡ q.value) × (above ≡ true → r.upper ≡ q.upper)

abbrev pub AgreeAll : Bool → Ranges → Ranges → Type 0
AgreeAll above v w = (v.values ≡ w.values) × (above ≡ true → v.upper ≡ w.upper)

-- request #107 of the numbers of a turn-back and of its times, which are cascaded last
pub record BandBy (p : Parts) : Type 0 where
  pub numbers_upright : (t : Transformer) (previous : List Float) (v : Ranges) (i : ℕ) → length v.values % t.d ≡ 0 → i < length v.values
      → Ordered (range_at (inverted_by p t previous v) i)
  pub times_upright : (base : List Float) (n : ℕ) (v : Ranges) (i : ℕ) → i < n → Ordered (range_at (cascade_by p binary64 base n v) i)
  pub numbers_agree : (above : Bool) (t : Transformer) (previous : List Float) (v w : Ranges) → AgreeAll above v w
      → AgreeAll above (inverted_by p t previous v) (inverted_by p t previous w)
  pub times_agree : (above : Bool) (base : List Float) (n : ℕ) (v w : Ranges) → AgreeAll above v w
      → AgreeAll above (cascade_by p binary64 base n v) (cascade_by p binary64 base n w)

-- ---- two laws of the parts

pub record Sound (p : Parts) : Type 0 where
  pub shift_orders : (f : Format) (r : Range) (x : Float) → Ordered (p.shift f r x)
  pub scale_agrees : (above : Bool) (r q : Range) (x : Float) → Agree above r q → Agree above (p.scale r x) (p.scale q x)
  pub shift_agrees : (above : Bool) (f : Format) (r q : Range) (x : Float) → Agree above r q → Agree above (p.shift f r x) (p.shift f q x)
  pub bases_agree : (v w : Ranges) → v.values ≡ w.values → p.bases v ≡ p.bases w

-- ---- a walk

module _ (step : ℕ → Ranges → Range) where
  walk_ordered : ((n : ℕ) (w : Ranges) → Ordered (step n w)) → (n : ℕ) (v : Ranges) (i : ℕ) → i < n → Ordered (range_at (walk_to step n v) i)
  unfolding walk_to
  walk_ordered o zero v i h = absurd (omega arith)
  walk_ordered o (suc n) v i h = at (eqb i n) refl (λ k. walk_ordered o n v i k)
    where
      w : Ranges
      w = walk_to step n v

      at : (b : Bool) → eqb i n ≡ b → (i < n → Ordered (range_at w i)) → Ordered (range_at (put_at w n (step n w)) i)
      at true e before = subst (λ (k : ℕ). Ordered (range_at (put_at w n (step n w)) k)) (sym (eqb-true i n e)) (put_at_ordered w n (step n w) (o n w))
      at false e before = subst Ordered (sym (range_at_other w n i (step n w) (eqb-false i n e))) (before (omega (arith, eqb-false i n e)))

  walk_agrees : (above : Bool) → ((n : ℕ) (v w : Ranges) → AgreeAll above v w → Agree above (step n v) (step n w))
      → (n : ℕ) (v w : Ranges) → AgreeAll above v w → AgreeAll above (walk_to step n v) (walk_to step n w)
  unfolding walk_to put_at
  walk_agrees above a zero v w e = e
  walk_agrees above a (suc n) v w e =
      let p = walk_agrees above a n v w e in
      let q = a n (walk_to step n v) (walk_to step n w) p in
      ((λ j. set (p.0 j) n (q.0 j)), λ h j. set (p.1 h j) n (q.1 h j))

agree_at : (above : Bool) (v w : Ranges) (n : ℕ) → AgreeAll above v w → Agree above (range_at v n) (range_at w n)
unfolding range_at
agree_at above v w n e = (ap (λ (l : List Float). get_or l n nan) e.0, λ a. ap (λ (l : List Float). get_or l n nan) (e.1 a))

-- ---- the whole, on whole blocks

whole_blocks : (n d : ℕ) → n % d ≡ 0 → n / d * d ≡ n
whole_blocks n d e = omega (arith, div-add-mod' n d)

module _ (p : Parts) (s : Sound p) where
  -- the last step of an index is a shift, whatever the method
  at_ordered : (t : Transformer) (i j : ℕ) (r : Range) → Ordered (forecast_at_by p t i j r)
  unfolding forecast_at_by
  at_ordered t i j r = last (centres t.method) _ _ _
    where
      last : (b : Bool) (q : Range) (x y : Float) → Ordered (shift_if p b (p.shift binary32 q x) y)
      last true q x y = s.shift_orders binary32 (p.shift binary32 q x) y
      last false q x y = s.shift_orders binary32 q x

  at_agrees : (above : Bool) (t : Transformer) (i j : ℕ) (r q : Range) → Agree above r q → Agree above (forecast_at_by p t i j r) (forecast_at_by p t i j q)
  unfolding forecast_at_by
  at_agrees above t i j r q e =
      shifts (centres t.method) _ _ _ (s.shift_agrees above binary32 _ _ _ (scales (normalizes t.method) _ _ _ (scales (not (is_none t.method)) r q _ e)))
    where
      scales : (b : Bool) (r q : Range) (x : Float) → Agree above r q → Agree above (scale_if p b r x) (scale_if p b q x)
      scales true r q x e = s.scale_agrees above r q x e
      scales false r q x e = e

      shifts : (b : Bool) (r q : Range) (x : Float) → Agree above r q → Agree above (shift_if p b r x) (shift_if p b q x)
      shifts true r q x e = s.shift_agrees above binary32 r q x e
      shifts false r q x e = e

  cascade_ordered : (f : Format) (base : List Float) (n : ℕ) (v : Ranges) (i : ℕ) → i < n → Ordered (range_at (cascade_by p f base n v) i)
  cascade_ordered f base = walk_ordered (cascade_step p f base) (λ n w. s.shift_orders f (range_at w n) (get_or (base ++ p.bases w) n nan))

  cascade_agrees : (above : Bool) (f : Format) (base : List Float) (n : ℕ) (v w : Ranges) → AgreeAll above v w
      → AgreeAll above (cascade_by p f base n v) (cascade_by p f base n w)
  cascade_agrees above f base = walk_agrees (cascade_step p f base) above (λ n v w e.
      let b : get_or (base ++ p.bases v) n nan ≡ get_or (base ++ p.bases w) n nan = ap (λ (l : List Float). get_or (base ++ l) n nan) (s.bases_agree v w e.0) in
      subst (λ (x : Float). Agree above (p.shift f (range_at v n) (get_or (base ++ p.bases v) n nan)) (p.shift f (range_at w n) x)) b
      (s.shift_agrees above f (range_at v n) (range_at w n) (get_or (base ++ p.bases v) n nan) (agree_at above v w n e)))

  walk_forecast_agrees : (above : Bool) (t : Transformer) (n : ℕ) (v w : Ranges) → AgreeAll above v w → AgreeAll above (walk_to (forecast_step p t) n v) (walk_to (forecast_step p t) n w)
  walk_forecast_agrees above t = walk_agrees (forecast_step p t) above (λ n v w e. at_agrees above t (n / t.d) (n % t.d) (range_at v n) (range_at w n) (agree_at above v w n e))

  numbers_ordered : (t : Transformer) (previous : List Float) (v : Ranges) (i : ℕ) → length v.values % t.d ≡ 0 → i < length v.values
      → Ordered (range_at (inverted_by p t previous v) i)
  unfolding inverted_by
  numbers_ordered t previous v i whole h = by (differences t.method)
    where
      w : Ranges
      w = walk_to (forecast_step p t) (length v.values / t.d * t.d) v

      by : (b : Bool) → Ordered (range_at (cond b (cascade_by p binary32 previous (length v.values) w) w) i)
      by true = cascade_ordered binary32 previous (length v.values) w i h
      by false =
          walk_ordered (forecast_step p t) (λ n w. at_ordered t (n / t.d) (n % t.d) (range_at w n)) (length v.values / t.d * t.d) v i
          (omega (arith, whole_blocks (length v.values) t.d whole))

  numbers_agree_lem : (above : Bool) (t : Transformer) (previous : List Float) (v w : Ranges) → AgreeAll above v w
      → AgreeAll above (inverted_by p t previous v) (inverted_by p t previous w)
  unfolding inverted_by
  numbers_agree_lem above t previous v w e =
      subst (λ (n : ℕ). AgreeAll above (done (differences t.method) (length v.values) v) (done (differences t.method) n w)) (ap length e.0)
      (by (differences t.method) (length v.values))
    where
      done : Bool → ℕ → Ranges → Ranges
      done b n x = cond b (cascade_by p binary32 previous n (walk_to (forecast_step p t) (n / t.d * t.d) x)) (walk_to (forecast_step p t) (n / t.d * t.d) x)

      by : (b : Bool) (n : ℕ) → AgreeAll above (done b n v) (done b n w)
      by true n = cascade_agrees above binary32 previous n _ _ (walk_forecast_agrees above t (n / t.d * t.d) v w e)
      by false n = walk_forecast_agrees above t (n / t.d * t.d) v w e

  pub band_by : BandBy p
  band_by = record {
    numbers_upright = numbers_ordered;
    times_upright = cascade_ordered binary64;
    numbers_agree = numbers_agree_lem;
    times_agree = λ above base n v w e. cascade_agrees above binary64 base n v w e;
  }

-- ---- trcf's own parts

abbrev pub real : Parts
real = record { scale = scaled binary32; shift = shifted; bases = λ v. v.values }

pub scaled_agrees : (above : Bool) (r q : Range) (x : Float) → Agree above r q → Agree above (scaled binary32 r x) (scaled binary32 q x)
scaled_agrees above r q x e = (scaled_value binary32 r q x e.0, λ a. scaled_upper binary32 r q x e.0 (e.1 a))

pub shifted_agrees : (above : Bool) (f : Format) (r q : Range) (x : Float) → Agree above r q → Agree above (shifted f r x) (shifted f q x)
shifted_agrees above f r q x e = (shifted_value f r q x e.0, λ a. shifted_upper f r q x e.0 (e.1 a))

pub real_sound : Sound real
real_sound = record { shift_orders = shifted_ordered; scale_agrees = scaled_agrees; shift_agrees = shifted_agrees; bases_agree = λ v w e. e }

cascade_real : (f : Format) (base : List Float) (n : ℕ) (v : Ranges) → cascade_by real f base n v ≡ cascade_to f base n v
unfolding walk_to cascade_to range_at shifted
cascade_real f base zero v = refl
cascade_real f base (suc n) v = ap (λ (w : Ranges). put_at w n (cascade_step real f base n w)) (cascade_real f base n v)

forecast_real : (t : Transformer) (n : ℕ) (v : Ranges) → walk_to (forecast_step real t) n v ≡ forecast_to t n v
unfolding walk_to forecast_to forecast_at forecast_at_by
forecast_real t zero v = refl
forecast_real t (suc n) v = ap (λ (w : Ranges). put_at w n (forecast_step real t n w)) (forecast_real t n v)

pub inverted_real : (t : Transformer) (previous : List Float) (v : Ranges) → inverted_by real t previous v ≡ inverted_forecast t previous v
unfolding inverted_by inverted_forecast
inverted_real t previous v =
    let n : ℕ = length v.values / t.d * t.d in
    (λ j. cond (differences t.method) (cascade_real binary32 previous (length v.values) (forecast_real t n v j) j) (forecast_real t n v j))

-- ---- for Upright: the same of trcf's definitions

pub inverted_ordered : (t : Transformer) (previous : List Float) (v : Ranges) (i : ℕ) → length v.values % t.d ≡ 0 → i < length v.values
    → Ordered (range_at (inverted_forecast t previous v) i)
inverted_ordered t previous v i whole h =
    subst (λ (x : Ranges). Ordered (range_at x i)) (inverted_real t previous v) ((band_by real real_sound).numbers_upright t previous v i whole h)

pub inverted_agrees : (above : Bool) (t : Transformer) (previous : List Float) (v w : Ranges) → AgreeAll above v w
    → AgreeAll above (inverted_forecast t previous v) (inverted_forecast t previous w)
inverted_agrees above t previous v w e =
    subst (λ (x : Ranges). AgreeAll above x (inverted_forecast t previous w)) (inverted_real t previous v)
    (subst (AgreeAll above (inverted_by real t previous v)) (inverted_real t previous w) ((band_by real real_sound).numbers_agree above t previous v w e))

pub cascade_to_agrees : (above : Bool) (f : Format) (base : List Float) (n : ℕ) (v w : Ranges) → AgreeAll above v w
    → AgreeAll above (cascade_to f base n v) (cascade_to f base n w)
cascade_to_agrees above f base n v w e =
    subst (λ (x : Ranges). AgreeAll above x (cascade_to f base n w)) (cascade_real f base n v)
    (subst (AgreeAll above (cascade_by real f base n v)) (cascade_real f base n w) (cascade_agrees real real_sound above f base n v w e))
