-- Parts of the calls that do nothing where a length does not fit: what they do where all fit. Assumes nothing.
use Prim.Native.Nat.{ℕ, ◌+◌, ◌*◌, ◌≤◌, ◌<◌}
use mathlib.Core.Bool.{Bool, true, false, cond, ◌&&◌}
use mathlib.Core.Path.{◌≡◌, sym, ap, ◌∙◌}
use native.Mathlib.Omega.{arith}
use native.Mathlib.Nat.{mul-le-mul}
use borrow.Author.Tests.{lt-ltb, le-ltb, le-leb, lt-leb, eq-eqb, ne_eqb}
use Rattle.common.specs.Deviation.{count_limit}
use Rattle.ranges.specs.RangeVector.{unblocked}
use Rattle.trcf.specs.Types.{augments, differences}
use Rattle.trcf.specs.Settings.{Settings, block, dimension}
use Rattle.trcf.specs.TransformerCalls.{transform_row, forecast_row, not_long}
use Rattle.trcf.specs.Steps.Sound.{Sound}
use Rattle.trcf.specs.Preprocessor.{statistics_length, accepted}
use Rattle.trcf.specs.View.{head_row, or_else, Bounded}
use Rattle.trcf.specs.Lengths.{where_fits, within, passes, time_fits, output_fits, transform_fits, feed_fits}
use Rattle.trcf.specs.declared.transformer.WeightedTransformer.{WeightedTransformer}

-- ---- where all fits

module _ {A : Type 0} where
  pub opened : {b : Bool} {x y : A} (z : A) → x ≡ where_fits b y z → b ≡ true → x ≡ y
  unfolding where_fits
  opened {b = b} {x = x} {y = y} z e h = e ∙ ap (λ (t : Bool). where_fits t y z) h

  pub roomy : {m n : ℕ} {x y : A} (z : A) → x ≡ where_fits (within m n) y z → m ≤ n → x ≡ y
  unfolding within
  roomy {m = m} {n = n} z e h = opened z e (le-leb m n h)

  pub passing : {r : ℕ} {x y : A} (z : A) → x ≡ where_fits (passes r) y z → r ≡ 0 → x ≡ y
  unfolding passes
  passing {r = r} z e h = opened z e (eq-eqb r 0 h)

  -- the two ways of a part
  pub fitting : {b : Bool} {x y : A} (z : A) → x ≡ y → b ≡ true → x ≡ where_fits b y z
  unfolding where_fits
  fitting {b = b} {x = x} {y = y} z e h = e ∙ ap (λ (t : Bool). where_fits t y z) (sym h)

  pub unfit : {b : Bool} {x z : A} (y : A) → x ≡ z → b ≡ false → x ≡ where_fits b y z
  unfolding where_fits
  unfit {b = b} {x = x} {z = z} y e h = e ∙ ap (λ (t : Bool). where_fits t y z) (sym h)

-- ---- a head within its limits

module _ (s : Settings) (b : Bounded s) where
  pub row_bounded : head_row s ≡ 0
  unfolding head_row
  row_bounded =
      rw (
        ne_eqb s.d 0 (λ e. omega (arith, b.d_pos, e)),
        ne_eqb s.k 0 (λ e. omega (arith, b.k_pos, e)),
        le-ltb 16 s.d b.d_few,
        le-ltb 64 s.k b.k_few,
        lt-leb 2000
            s.start b.start_few,
      )

-- a head within its limits, and then what is lent with it
pub held_known : {s : Settings} {r m : ℕ} → r ≡ or_else (head_row s) m → Bounded s → r ≡ m
held_known {s = s} {r = r} {m = m} e b = e ∙ ap (λ (n : ℕ). or_else n m) (row_bounded s b)

by_mode : (t : Bool) {d : ℕ} → d ≤ 16 → d + cond t 1 0 ≤ 17
by_mode true h = omega arith
by_mode false h = omega arith

block_few : (s : Settings) → s.d ≤ 16 → block s ≤ 17
unfolding block
block_few s h = by_mode (augments s.mode) h

dimension_few : (s : Settings) → Bounded s → dimension s ≤ 1088
unfolding dimension
dimension_few s b =
    let q : block s * s.k ≤ 17 * 64 = mul-le-mul (block_few s b.d_few) b.k_few in
    omega arith

pub dimension_known : {s : Settings} {r : ℕ} → r ≡ accepted (head_row s) (dimension s) 0 → Bounded s → (r ≡ dimension s) × (r ≤ 1088)
dimension_known {s = s} {r = r} e b =
    let p : r ≡ dimension s = e ∙ ap (λ (n : ℕ). accepted n (dimension s) 0) (row_bounded s b) in
    (p, omega (arith, p, dimension_few s b))

pub block_known : {d r v : ℕ} → (r ≡ where_fits (within d 16) v 0) × (r ≤ 17) → d ≤ 16 → (r ≡ v) × (r ≤ 17)
block_known e h = (roomy 0 e.0 h, e.1)

pub statistics_known : {d r v : ℕ} → r ≡ where_fits (within d 16) v 0 → d ≤ 16 → r ≡ v
statistics_known e h = roomy 0 e h

-- ---- what each part asks makes all fit

pub time_fits_lem : {s : Settings} {n : ℕ} → Bounded s → statistics_length s ≤ n → time_fits s n ≡ true
unfolding time_fits
time_fits_lem {s = s} {n = n} b h = rw (row_bounded s b, le-leb (statistics_length s) n h)

pub output_fits_lem : {s : Settings} {n m : ℕ} → Bounded s × ((n ≡ statistics_length s) × (block s ≤ m)) → output_fits s n m ≡ true
unfolding output_fits
output_fits_lem {s = s} {n = n} {m = m} f = rw (row_bounded s f.0, eq-eqb n (statistics_length s) f.1.0, le-leb (block s) m f.1.1)

pub transform_fits_lem : {s : Settings} {n x reading m : ℕ}
    → Bounded s × ((n ≡ statistics_length s) × ((x ≡ s.d * s.k) × ((reading ≡ s.d) × (block s ≤ m)))) → transform_fits s n x reading m ≡ true
unfolding transform_fits
transform_fits_lem {s = s} {n = n} {x = x} {reading = reading} {m = m} f =
    rw (output_fits_lem {s = s} {n = n} {m = m} (f.0, (f.1.0, f.1.1.1.1)), eq-eqb x (s.d * s.k) f.1.1.0, eq-eqb reading s.d f.1.1.1.0)

pub feed_fits_lem : {s : Settings} {count n before reading : ℕ}
    → Bounded s × ((n ≡ statistics_length s) × ((count < count_limit) × ((before ≡ s.d) × (reading ≡ s.d)))) → feed_fits s count n before reading ≡ true
unfolding feed_fits
feed_fits_lem {s = s} {count = count} {n = n} {before = before} {reading = reading} f =
    rw (row_bounded s f.0, eq-eqb n (statistics_length s) f.1.0, lt-ltb count count_limit f.1.1.0, eq-eqb before s.d f.1.1.1.0, eq-eqb reading s.d f.1.1.1.1)

module _ {t : WeightedTransformer} where
  pub transform_row_zero : {n x p o : ℕ} → Sound t n × ((x ≡ t.input_length) × ((p ≡ t.input_length) × (t.input_length ≤ o)))
      → transform_row t.input_length x p n o ≡ 0
  unfolding transform_row not_long
  transform_row_zero {n = n} {x = x} {p = p} {o = o} f =
      let d = t.input_length in
      rw (ne_eqb d 0 (λ e. omega (arith, f.0.some, e)), le-ltb 16 d f.0.few, eq-eqb x d f.1.0, eq-eqb p d f.1.1.0, le-ltb n (15 * d) f.0.room, le-ltb o d f.1.1.1)

  pub forecast_row_zero : {n p v u l : ℕ}
      → Sound t n × ((p ≡ t.input_length) × (((u ≡ v) × (l ≡ v)) × ((differences t.transform_method && unblocked p v) ≡ false)))
      → forecast_row t.transform_method t.input_length p v u l n ≡ 0
  unfolding forecast_row
  forecast_row_zero {n = n} {p = p} {v = v} {u = u} {l = l} f =
      let d = t.input_length in
      let h : (differences t.transform_method && unblocked d v) ≡ false =
      ap (λ (k : ℕ). differences t.transform_method && unblocked k v) (sym f.1.0) ∙ f.1.1.1 in
      rw (
        ne_eqb d 0 (λ e. omega (arith, f.0.some, e)),
        le-ltb 16 d f.0.few,
        eq-eqb p d f.1.0,
        eq-eqb v u (sym f.1.1.0.0),
        eq-eqb v l (sym f.1.1.0.1),
        h,
        le-ltb n
            (15 * d) f.0.room,
      )
