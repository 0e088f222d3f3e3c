-- Request #107: the band of every accepted turn-back stands the right way up. Assumes nothing.
use Prim.Native.Nat.{ℕ, zero, suc, ◌+◌, ◌*◌, ◌%◌, ◌≤◌, ◌<◌}
use mathlib.Core.Path.{◌≡◌, refl, sym, ap, ◌∙◌, subst}
use mathlib.Core.Bool.{Bool, true, false, cond, not, ◌&&◌, ◌||◌}
use mathlib.Core.List.{List, [], ◌∷◌}
use native.Mathlib.Omega.{arith}
use native.Mathlib.Nat.{mul_assoc, mul_comm, mul-mod_left, div-mul-le_self}
use borrow.Author.Tests.{eqb-true, ltb-false, ltb-true}
use lib.Dec.{ltb, eqb}
use lib.ListN.{length, take, drop, get_or, get_or-eq_default}
use lib.Seq.{take_at, take_all}
use lib.IntN.{pos}
use lib.Ieee.{Float, nan, inf, fin, binary64, add, lt, of_int}
use Rattle.refusal.specs.Lent.{over}
use Rattle.refusal.specs.Refusal.{first_of}
use Rattle.ranges.specs.RangeVector.{Range, Ranges, ranges, settled, shifted, scaled, range_at, over_all, cascade_to}
use Rattle.ranges.proofs.RangeLaws.{Ordered, SameLengths, cascade_to_lengths, cascade_to_ordered}
use Rattle.trcf.specs.Lists.{tabulate}
use Rattle.trcf.specs.Types.{augments, is_gap}
use Rattle.trcf.specs.Transformer.{Transformer, inverted_forecast}
use Rattle.trcf.specs.Settings.{Settings, transformer, dimension}
use Rattle.trcf.specs.Calls.{Forecast, lookahead, sizes_of, forecast_unfit, forecast_output_short, forecast_table, table, rows}
use Rattle.trcf.specs.Preprocessor.{State, refused, turned, accepted, answer, refusal, reply, previous, timescale, timedrift, fronts, numbers_of, times_of, turned_back}
use Rattle.trcf.specs.Steps.Inverting.{time_factor, time_by, times_by, stretched}
use Rattle.trcf.proofs.FitLaws.{tabulate_length}
use Rattle.trcf.proofs.ForecastLaws.{inverted_forecast_lengths}
use Rattle.trcf.proofs.ExtrapolationLaws.{fronts_length, times_by_is, numbers_within}
use Rattle.band.specs.Band.{Upright, first_ranges, numbers_in, times_in, WholeBlocks, UprightBand, SameValues, SameUppers, Turns, Band}
use Rattle.band.proofs.Steps.{AgreeAll, inverted_ordered, inverted_agrees, cascade_to_agrees}

-- ---- three lists of one length

record Long (n : ℕ) (v : Ranges) : Type 0 where
  values : length v.values ≡ n
  upper : length v.upper ≡ n
  lower : length v.lower ≡ n

long_as : (n : ℕ) (v w : Ranges) → SameLengths v w → Long n w → Long n v
long_as n v w s l = record { values = s.values ∙ l.values; upper = s.upper ∙ l.upper; lower = s.lower ∙ l.lower }

nan_below : (x : Float) → lt nan x ≡ false
unfolding lt
nan_below x = refl

below_nan : (x : Float) → lt x nan ≡ false
unfolding lt
below_nan nan = refl
below_nan (inf s) = refl
below_nan (fin s m e) = refl

-- past the end stands a not-a-number
upright_of : (n : ℕ) (v : Ranges) → Long n v → ((i : ℕ) → i < n → Ordered (range_at v i)) → Upright n v
unfolding range_at
upright_of n v l o =
    record {
      values_long = l.values;
      upper_long = l.upper;
      lower_long = l.lower;
      no_upper_below = λ i. above i (ltb i n) refl;
      no_lower_above = λ i. under i (ltb i n) refl;
    }
  where
    past : (i : ℕ) → ltb i n ≡ false → get_or v.values i nan ≡ nan
    past i e = get_or-eq_default v.values nan (omega (arith, l.values, ltb-false i n e))

    above : (i : ℕ) (b : Bool) → ltb i n ≡ b → lt (get_or v.upper i nan) (get_or v.values i nan) ≡ false
    above i true e = (o i (ltb-true i n e)).upper_not_below
    above i false e = rw (past i e) (below_nan (get_or v.upper i nan))

    under : (i : ℕ) (b : Bool) → ltb i n ≡ b → lt (get_or v.values i nan) (get_or v.lower i nan) ≡ false
    under i true e = (o i (ltb-true i n e)).lower_not_above
    under i false e = rw (past i e) (nan_below (get_or v.lower i nan))

-- what was written is the front of what is left
front_over : (n : ℕ) (old new : Ranges) → Long n new → first_ranges n (over_all old new) ≡ new
unfolding over
front_over n old new l = λ j.
    ranges (take_at new.values (drop (length new.values) old.values) n l.values j)
    (take_at new.upper (drop (length new.upper) old.upper) n l.upper j)
    (take_at new.lower (drop (length new.lower) old.lower) n l.lower j)

front_whole : (n : ℕ) (v : Ranges) → Long n v → first_ranges n v ≡ v
front_whole n v l = λ j. ranges (whole v.values l.values j) (whole v.upper l.upper j) (whole v.lower l.lower j)
  where
    whole : (x : List Float) → length x ≡ n → take n x ≡ x
    whole x e = take_all n x (omega arith)

-- ---- numbers and times of TIME_AUGMENTED

module _ (w : State) (v : Ranges) where
  abbrev s : Settings
  s = w.settings

  abbrev h : ℕ
  h = lookahead s (length v.values)

  abbrev each : ℕ
  each = s.d * s.k

  abbrev t : Transformer
  t = transformer s 0 w.statistics

  abbrev cut : Ranges
  cut = ranges (fronts (dimension s) each h v.values) (fronts (dimension s) each h v.upper) (fronts (dimension s) each h v.lower)

  abbrev base : List Float
  base = of_int binary64 (pos (previous w).time) ∷ []

  -- the times, turned back but not cascaded
  abbrev loose : Ranges
  loose = times_by (is_gap s.mode) (time_factor s.weight_time) (timescale s w.statistics) (timedrift s w.statistics) (dimension s) each v h

  numbers_are : numbers_of w v ≡ inverted_forecast t (previous w).value cut
  unfolding numbers_of
  numbers_are = refl

  times_are : times_of w v ≡ cascade_to binary64 base h loose
  unfolding times_of
  times_are = ap (cascade_to binary64 base h) (sym (times_by_is s w.statistics (dimension s) each v h))

  loose_long : Long h loose
  unfolding times_by
  loose_long = record { values = tabulate_length h _; upper = tabulate_length h _; lower = tabulate_length h _ }

  times_long_lem : Long h (times_of w v)
  times_long_lem = subst (Long h) (sym times_are) (long_as h (cascade_to binary64 base h loose) loose (cascade_to_lengths binary64 base h loose) loose_long)

  times_upright_lem : Upright h (times_of w v)
  times_upright_lem = upright_of h (times_of w v) times_long_lem (λ i l. subst (λ (x : Ranges). Ordered (range_at x i)) (sym times_are) (cascade_to_ordered binary64 base h loose i l))

  module _ (even : Long (length v.values) v) where
    blocks_fit : (n : ℕ) → length v.values ≡ n → h * dimension s ≤ n
    unfolding lookahead
    blocks_fit n e = omega (arith, div-mul-le_self (length v.values) (dimension s))

    cut_long : Long (h * each) cut
    cut_long =
        record {
          values = fronts_length (dimension s) each h v.values (numbers_within s) (blocks_fit _ refl);
          upper = fronts_length (dimension s) each h v.upper (numbers_within s) (blocks_fit _ (sym even.upper));
          lower = fronts_length (dimension s) each h v.lower (numbers_within s) (blocks_fit _ (sym even.lower));
        }

    numbers_long : Long (h * each) (numbers_of w v)
    numbers_long = subst (Long (h * each)) (sym numbers_are) (long_as (h * each) (inverted_forecast t (previous w).value cut) cut (inverted_forecast_lengths t (previous w).value cut) cut_long)

    -- whole blocks of d, since each block of the forecast holds k of them
    whole : length cut.values % s.d ≡ 0
    whole =
        ap (λ (n : ℕ). n % s.d) (cut_long.values ∙ ap (λ (x : ℕ). h * x) (mul_comm s.d s.k) ∙ sym (mul_assoc h s.k s.d))
        ∙ mul-mod_left (h * s.k) s.d

    numbers_upright_lem : Upright (h * each) (numbers_of w v)
    numbers_upright_lem =
        upright_of (h * each) (numbers_of w v) numbers_long
        (λ i l. subst (λ (x : Ranges). Ordered (range_at x i)) (sym numbers_are) (inverted_ordered t (previous w).value cut i whole (omega (arith, cut_long.values))))

-- what they depend on
module _ (above : Bool) (w : State) (v u : Ranges) (e : AgreeAll above v u) where
  abbrev blocks : length v.values ≡ length u.values
  blocks = ap length e.0

  cut_agrees : AgreeAll above (cut w v) (cut w u)
  cut_agrees = (part e.0, λ a. part (e.1 a))
    where
      part : {x y : List Float} → x ≡ y → fronts (dimension w.settings) (each w v) (h w v) x ≡ fronts (dimension w.settings) (each w v) (h w u) y
      part p = λ j. fronts (dimension w.settings) (each w v) (lookahead w.settings (blocks j)) (p j)

  numbers_agree_lem : AgreeAll above (numbers_of w v) (numbers_of w u)
  unfolding numbers_of
  numbers_agree_lem = inverted_agrees above (t w v) (previous w).value (cut w v) (cut w u) cut_agrees

  abbrev gap : Bool
  gap = is_gap w.settings.mode

  -- a number of a block's time, turned back by itself
  abbrev late : Bool → Float → Float
  late b x =
      let y = stretched (time_factor w.settings.weight_time) (timescale w.settings w.statistics) x in
      cond b y (add binary64 y (timedrift w.settings w.statistics))

  abbrev timed : Bool → Range → Range
  timed b r = time_by b (time_factor w.settings.weight_time) (timescale w.settings w.statistics) (timedrift w.settings w.statistics) r

  value_late : (b : Bool) (r : Range) → (timed b r).value ≡ late b r.value
  unfolding time_by shifted scaled settled
  value_late true r = refl
  value_late false r = refl

  upper_late : (b : Bool) (r : Range) → (timed b r).upper ≡ cond (lt (late b r.upper) (late b r.value)) (late b r.value) (late b r.upper)
  unfolding time_by shifted scaled settled
  upper_late true r = refl
  upper_late false r = refl

  loose_agrees : AgreeAll above (loose w v) (loose w u)
  unfolding times_by range_at
  loose_agrees = (
    (λ j. tabulate (h w v) (λ i. value_late gap (range_at v (place i)) j))
        ∙ (λ j. tabulate (count j) (λ i. late gap (at (e.0 j) i)))
        ∙ (λ j. tabulate (h w u) (λ i. sym (value_late gap (range_at u (place i))) j)),
    λ a. (λ j. tabulate (h w v) (λ i. upper_late gap (range_at v (place i)) j))
        ∙ (λ j. tabulate (count j) (λ i. cond (lt (late gap (at (e.1 a j) i)) (late gap (at (e.0 j) i))) (late gap (at (e.0 j) i)) (late gap (at (e.1 a j) i))))
        ∙ (λ j. tabulate (h w u) (λ i. sym (upper_late gap (range_at u (place i))) j)),
  )
    where
      count : h w v ≡ h w u
      count = ap (lookahead w.settings) blocks

      place : ℕ → ℕ
      place i = i * dimension w.settings + each w v

      at : List Float → ℕ → Float
      at l i = get_or l (place i) nan

  times_agree_lem : AgreeAll above (times_of w v) (times_of w u)
  times_agree_lem =
      let same : AgreeAll above (cascade_to binary64 (base w v) (h w v) (loose w v)) (cascade_to binary64 (base w u) (h w u) (loose w u)) =
      subst (λ (n : ℕ). AgreeAll above (cascade_to binary64 (base w v) (h w v) (loose w v)) (cascade_to binary64 (base w u) (lookahead w.settings n) (loose w u))) blocks
      (cascade_to_agrees above binary64 (base w v) (h w v) (loose w v) (loose w u) loose_agrees) in
      subst (λ (x : Ranges). AgreeAll above x (times_of w u)) (sym (times_are w v))
      (subst (λ (x : Ranges). AgreeAll above (cascade_to binary64 (base w v) (h w v) (loose w v)) x) (sym (times_are w u)) same)

-- ---- an accepted call

-- three lists of one length are what row 16 asks for in every mode
unrefused : (s : Settings) (c : Forecast) → first_of (forecast_table s (sizes_of c)) ≡ 0 → Long (length c.forecast.values) c.forecast
unfolding forecast_unfit
unrefused s c e = go (eqb n u) (eqb n l) _ (forecast_output_short s (sizes_of c)) refl refl e
  where
    n : ℕ
    n = length c.forecast.values

    u : ℕ
    u = length c.forecast.upper

    l : ℕ
    l = length c.forecast.lower

    go : (a b x y : Bool) → eqb n u ≡ a → eqb n l ≡ b → ◌≡◌ {A = ℕ} (cond (not (a && b) || x) 16 (cond y 20 0)) 0 → Long n c.forecast
    go true true x y p q e = record { values = refl; upper = sym (eqb-true n u p); lower = sym (eqb-true n l q) }
    go true false x y p q e = absurd (omega arith)
    go false b x y p q e = absurd (omega arith)

-- ---- what stands in what is left, by the mode

module _ (w : State) (c : Forecast) (even : Long (length c.forecast.values) c.forecast) where
  abbrev r : Forecast
  r = turned_back w c

  -- the numbers are those of the definitions
  abbrev numbers_if : Bool → Ranges
  numbers_if b = cond b (numbers_of w c.forecast) (inverted_forecast (transformer w.settings 0 w.statistics) (previous w).value c.forecast)

  abbrev times_if : Bool → Ranges
  times_if b = cond b (times_of w c.forecast) (ranges [] [] [])

  -- what is left, by the mode
  abbrev left : Bool → Forecast
  left b = cond b
      (record { forecast = c.forecast; values_out = over_all c.values_out (numbers_of w c.forecast); times_out = over_all c.times_out (times_of w c.forecast) })
      (record { forecast = numbers_if false; values_out = c.values_out; times_out = c.times_out })

  abbrev many : Bool → ℕ
  many b = cond b (h w c.forecast * each w c.forecast) (length c.forecast.values)

  abbrev often : Bool → ℕ
  often b = cond b (h w c.forecast) 0

  in_place : Long (length c.forecast.values) (numbers_if false)
  in_place =
      let t = transformer w.settings 0 w.statistics in
      long_as (length c.forecast.values) (numbers_if false) c.forecast (inverted_forecast_lengths t (previous w).value c.forecast) even

  numbers_in_lem : numbers_in w.settings c r ≡ numbers_if (augments w.settings.mode)
  unfolding turned_back
  numbers_in_lem = by (augments w.settings.mode)
    where
      by : (b : Bool) → first_ranges (many b) (cond b (left b).values_out (left b).forecast) ≡ numbers_if b
      by true = front_over (many true) c.values_out (numbers_of w c.forecast) (numbers_long w c.forecast even)
      by false = front_whole (many false) (numbers_if false) in_place

  times_in_lem : times_in w.settings c r ≡ times_if (augments w.settings.mode)
  unfolding turned_back
  times_in_lem = by (augments w.settings.mode)
    where
      by : (b : Bool) → first_ranges (often b) (left b).times_out ≡ times_if b
      by true = front_over (often true) c.times_out (times_of w c.forecast) (times_long_lem w c.forecast)
      by false = refl

  turned_upright : WholeBlocks w.settings c → UprightBand w.settings c r
  turned_upright blocks =
      record {
        numbers = subst (Upright (many (augments w.settings.mode))) (sym numbers_in_lem) (numbers (augments w.settings.mode) refl);
        times = subst (Upright (often (augments w.settings.mode))) (sym times_in_lem) (times (augments w.settings.mode));
      }
    where
      numbers : (b : Bool) → augments w.settings.mode ≡ b → Upright (many b) (numbers_if b)
      numbers true e = numbers_upright_lem w c.forecast even
      numbers false e =
          upright_of (many false) (numbers_if false) in_place
          (λ i l. inverted_ordered (transformer w.settings 0 w.statistics) (previous w).value c.forecast i (blocks e) l)

      times : (b : Bool) → Upright (often b) (times_if b)
      times true = times_upright_lem w c.forecast
      times false = upright_of 0 (ranges [] [] []) (record { values = refl; upper = refl; lower = refl }) (λ i l. absurd (omega arith))

-- what holds of two ends holds of two beginnings
along : {A : Type 0} (R : A → A → Type 0) {a b c d : A} → a ≡ b → c ≡ d → R b d → R a c
along R {a = a} {d = d} p q x = subst (R a) (sym q) (subst (λ y. R y d) (sym p) x)

-- two calls
module _ (above : Bool) (w : State) (c e : Forecast) (cl : Long (length c.forecast.values) c.forecast) (el : Long (length e.forecast.values) e.forecast)
    (p : AgreeAll above c.forecast e.forecast) where
  numbers_same : AgreeAll above (numbers_in w.settings c (turned_back w c)) (numbers_in w.settings e (turned_back w e))
  numbers_same = along (AgreeAll above) (numbers_in_lem w c cl) (numbers_in_lem w e el) (by (augments w.settings.mode))
    where
      by : (b : Bool) → AgreeAll above (numbers_if w c cl b) (numbers_if w e el b)
      by true = numbers_agree_lem above w c.forecast e.forecast p
      by false = inverted_agrees above (transformer w.settings 0 w.statistics) (previous w).value c.forecast e.forecast p

  times_same : AgreeAll above (times_in w.settings c (turned_back w c)) (times_in w.settings e (turned_back w e))
  times_same = along (AgreeAll above) (times_in_lem w c cl) (times_in_lem w e el) (by (augments w.settings.mode))
    where
      by : (b : Bool) → AgreeAll above (times_if w c cl b) (times_if w e el b)
      by true = times_agree_lem above w c.forecast e.forecast p
      by false = (refl, λ a. refl)

-- ---- the statement

record Accepted (w : State) (c r : Forecast) : Type 0 where
  even : Long (length c.forecast.values) c.forecast
  left : turned_back w c ≡ r

accepted_of : (w : State) (c r : Forecast) → Turns w c r → Accepted w c r
unfolding answer reply refusal rows table
accepted_of w c r e =
    let x = by (first_of (forecast_table w.settings (sizes_of c))) e in
    record { even = unrefused w.settings c x.0; left = x.1 }
  where
    by : (n : ℕ) → accepted n (turned (turned_back w c)) (refused n) ≡ turned r → (n ≡ 0) × (turned_back w c ≡ r)
    by zero e = (refl, (cc))
    by (suc n) e = let z : ◌≡◌ {A = ℕ} 0 1 = cc in absurd (omega arith)

pub band : Band
unfolding refusal rows table forecast_unfit forecast_output_short
band =
    record {
      upright = λ w c r e whole. let a = accepted_of w c r e in subst (UprightBand w.settings c) a.left (turned_upright w c a.even whole);
      values = λ w c e r q m n p. let a = accepted_of w c r m in let b = accepted_of w e q n in
          along (λ x y. SameValues w.settings c x e y) (sym a.left) (sym b.left)
          (let x : AgreeAll false c.forecast e.forecast = (p, λ f. absurd (never f)) in
          record { numbers = (numbers_same false w c e a.even b.even x).0; times = (times_same false w c e a.even b.even x).0 });
      uppers = λ w c e r q m n p g. let a = accepted_of w c r m in let b = accepted_of w e q n in
          along (λ x y. SameUppers w.settings c x e y) (sym a.left) (sym b.left)
          (let x : AgreeAll true c.forecast e.forecast = (p, λ f. g) in
          record { numbers = (numbers_same true w c e a.even b.even x).1 refl; times = (times_same true w c e a.even b.even x).1 refl });
      refused = λ w c e l. rw (
        l.forecast.values,
        l.forecast.upper,
        l.forecast.lower,
        l.values_out.values,
        l.values_out.upper,
        l.values_out.lower,
        l.times_out.values,
        l.times_out.upper,
        l.times_out.lower,
      );
    }
  where
    never : false ≡ true → ⊥
    never e = let z : ◌≡◌ {A = ℕ} 0 1 = cc in omega arith
