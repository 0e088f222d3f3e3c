-- What the proofs of `invert_extrapolation` cite: blocks cut from a forecast, times over the numbers that no block changes, the rows over lengths;
-- and that the call's promise is the preprocessor's answer. Assumes nothing.
use Prim.Native.Nat.{ℕ, zero, suc, ◌+◌, ◌-◌, ◌*◌, ◌/◌, ◌%◌, ◌≤◌, ◌<◌}
use mathlib.Core.Path.{◌≡◌, refl, sym, ap, ◌∙◌}
use mathlib.Core.Bool.{Bool, true, false, cond, ◌&&◌, ◌||◌}
use mathlib.Core.List.{List, [], ◌∷◌, ◌++◌, append_assoc}
use native.Mathlib.Omega.{arith}
use native.Mathlib.Nat.{zero-mul, suc-mul, add-mul, mul_assoc, mul_comm, mul-pos, mul-mod_left, mod-one, div-mul-le_self, le-div_iff_mul-le, mul-le-mul_left, mul-le-mul_right}
use native.Mathlib.Numerals.{add-one}
use borrow.Author.Tests.{eq-eqb, ne_eqb}
use lib.Dec.{ltb}
use lib.ListN.{length, get_or, set, take, drop, length-append, length-drop}
use lib.Seq.{length-take-le, get_or-drop, drop-drop, take-length, paste, take_all, drop-length, drop-append-add, take_at}
use lib.IntN.{pos}
use lib.Ieee.{Float, nan, binary32, binary64, Format, add, mul, div, eq, of_int}
use Rattle.common.specs.Deviation.{zero64, one64}
use Rattle.refusal.specs.Lent.{over}
use Rattle.refusal.specs.Refusal.{first_of}
use Rattle.ranges.specs.RangeVector.{Range, Ranges, range, ranges, settled, shifted, scaled, range_at, put_at, over_all, cascade_to, RangeOutcome, range_outcome, unequal, unblocked}
use Rattle.ranges.specs.RangeVector.{range_cascaded_add}
use Rattle.trcf.specs.Lists.{tabulate, last_n, last_or}
use Rattle.trcf.specs.Types.{augments, is_gap, differences}
use Rattle.trcf.specs.Transformer.{zero32, forecast_to, forecast_at, inverted_forecast, weight_at, normalized_scale, basic_drift, basic_shift}
use Rattle.trcf.specs.TransformerCalls.{transformer_view as viewTransformer}
use Rattle.trcf.specs.Settings.{Settings, transformer, block, dimension}
use Rattle.trcf.specs.Calls.{Forecast, invert_extrapolation, rows, table, Sizes, sizes_of, forecast_unfit, forecast_output_short, lookahead}
use Rattle.trcf.specs.Preprocessor.{refused, turned, fronts, backs, invert_time, invert_times, timescale, timedrift, previous, numbers_of, times_of, turned_back, reply, accepted, statistics_length}
use Rattle.trcf.specs.View.{Lent, view, holding, settings_of, head_row, counters_unfit, initial_room, lent_short, short_row, lent_row, row_of, answer_of, or_else}
use Rattle.trcf.specs.Extrapolation.{Extrapolation, extrapolation, forecast, viewed, read_short, read_short_row, extrapolation_row, extrapolation_of, row_at}
use Rattle.trcf.specs.Steps.Inverting.{Longer, time_factor, time_by, times_by}
use Rattle.trcf.specs.declared.head.Preprocessor.{Preprocessor}
use Rattle.trcf.proofs.FitLaws.{tabulate_length}
use Rattle.trcf.proofs.LentLaws.{over_more}
use Rattle.trcf.proofs.ShingleLaws.{over_part}

-- ---- blocks

module _ {A : Type 0} where
  append_nil : (l : List A) → l ++ [] ≡ l
  append_nil [] = refl
  append_nil (x ∷ l) = ap (λ (q : List A). x ∷ q) (append_nil l)

module _ (a m : ℕ) where
  next : (h : ℕ) → a + h * a ≡ suc h * a
  next h = omega (arith, suc-mul h a)

  pub fronts_snoc : (h : ℕ) (l : List Float) → fronts a m (suc h) l ≡ fronts a m h l ++ take m (drop (h * a) l)
  fronts_snoc zero l = append_nil (take m l) ∙ ap (λ (k : ℕ). take m (drop k l)) (sym (zero-mul a))
  fronts_snoc (suc h) l =
      ap (λ (q : List Float). take m l ++ q) (fronts_snoc h (drop a l))
      ∙ sym (append_assoc (take m l) (fronts a m h (drop a l)) (take m (drop (h * a) (drop a l))))
      ∙ ap (λ (q : List Float). take m l ++ fronts a m h (drop a l) ++ take m q)
      (drop-drop (h * a) a l ∙ ap (λ (k : ℕ). drop k l) (next h))

  pub fronts_length : (h : ℕ) (l : List Float) → m ≤ a → h * a ≤ length l → length (fronts a m h l) ≡ h * m
  fronts_length zero l p q = sym (zero-mul m)
  fronts_length (suc h) l p q =
      let r : length (fronts a m h (drop a l)) ≡ h * m = fronts_length h (drop a l) p (omega (arith, next h, length-drop a l)) in
      omega (arith, next h, suc-mul h m, length-append (take m l) (fronts a m h (drop a l)), length-take-le m l (omega (arith, next h)))

  pub backs_snoc : (h : ℕ) (l : List Float) → backs a m (suc h) l ≡ backs a m h l ++ (get_or l (h * a + m) nan ∷ [])
  backs_snoc zero l = ap (λ (k : ℕ). get_or l k nan ∷ []) (omega (arith, zero-mul a))
  backs_snoc (suc h) l =
      ap (λ (q : List Float). get_or l m nan ∷ q) (backs_snoc h (drop a l))
      ∙ ap (λ (x : Float). get_or l m nan ∷ backs a m h (drop a l) ++ (x ∷ []))
      (get_or-drop a l (h * a + m) nan ∙ ap (λ (k : ℕ). get_or l k nan) (omega (arith, next h)))

  pub backs_length : (h : ℕ) (l : List Float) → length (backs a m h l) ≡ h
  backs_length zero l = refl
  backs_length (suc h) l = ap suc (backs_length h (drop a l))

  -- a turn of the loop over the blocks: m numbers stand after those of the first i blocks
  pub fronts_more : (i n : ℕ) (src old dst x : List Float) → i * a + m ≤ length src → m ≤ a → i < n → length old ≡ n * m
      → dst ≡ fronts a m i src ++ drop (i * m) old → x ≡ take m (drop (i * a) src)
      → paste dst (i * m) x (length x) ≡ fronts a m (i + 1) src ++ drop ((i + 1) * m) old
  fronts_more i n src old dst x low p less size so_far by =
      let l : length (fronts a m i src) ≡ i * m = fronts_length i src p (omega arith) in
      let k : length (take m (drop (i * a) src)) ≡ m = length-take-le m (drop (i * a) src) (omega (arith, length-drop (i * a) src)) in
      let j : i * m + m ≡ (i + 1) * m = omega (arith, suc-mul i m, ap (λ (q : ℕ). q * m) (add-one i)) in
      ap (λ (q : List Float). paste q (i * m) x (length x)) so_far
      ∙ ap (λ (q : List Float). paste (fronts a m i src ++ drop (i * m) old) (i * m) q (length q)) by
      ∙ pasted (fronts a m i src) (take m (drop (i * a) src)) (drop (i * m) old) (i * m) l
      ∙ ap (λ (q : List Float). fronts a m i src ++ take m (drop (i * a) src) ++ q)
      (ap (λ (q : ℕ). drop q (drop (i * m) old)) k ∙ drop-drop m (i * m) old ∙ ap (λ (q : ℕ). drop q old) j)
      ∙ ap (λ (q : List Float). q ++ drop ((i + 1) * m) old) (sym (fronts_snoc i src) ∙ ap (λ (q : ℕ). fronts a m q src) (sym (add-one i)))
    where
      pasted : (f x o : List Float) (at : ℕ) → length f ≡ at → paste (f ++ o) at x (length x) ≡ f ++ x ++ drop (length x) o
      pasted f x o at e =
          ap (λ (q : List Float). take at (f ++ o) ++ q ++ drop (at + length x) (f ++ o)) (take-length x)
          ∙ ap (λ (q : List Float). q ++ x ++ drop (at + length x) (f ++ o)) (take_at f o at e)
          ∙ ap (λ (q : ℕ). f ++ x ++ drop (q + length x) (f ++ o)) (sym e)
          ∙ ap (λ (q : List Float). f ++ x ++ q) (drop-append-add f o (length x))

  pub fronts_none : (src old : List Float) → old ≡ fronts a m 0 src ++ drop (0 * m) old
  fronts_none src old = ap (λ (k : ℕ). drop k old) (sym (zero-mul m))

  pub fronts_all : (i n : ℕ) (src old dst : List Float) → i ≡ n → length old ≡ n * m → dst ≡ fronts a m i src ++ drop (i * m) old
      → dst ≡ fronts a m n src
  fronts_all i n src old dst e size so_far =
      so_far
      ∙ ap (λ (k : ℕ). fronts a m k src ++ drop (k * m) old) e
      ∙ ap (λ (k : ℕ). fronts a m n src ++ drop k old) (sym size)
      ∙ ap (λ (q : List Float). fronts a m n src ++ q) (drop-length old)
      ∙ append_nil (fronts a m n src)

-- ---- the times

abbrev snoc : Ranges → Range → Ranges
snoc w r = ranges (w.values ++ (r.value ∷ [])) (w.upper ++ (r.upper ∷ [])) (w.lower ++ (r.lower ∷ []))

module _ (s : Settings) (st : List Float) where
  abbrev inverse : Float → Float → Float → Range
  inverse x y z = settled (invert_time s st x) (invert_time s st y) (invert_time s st z)

  times_snoc : (v u l : List Float) (x y z : Float) → length u ≡ length v → length l ≡ length v
      → invert_times s st (v ++ (x ∷ [])) (u ++ (y ∷ [])) (l ++ (z ∷ [])) ≡ snoc (invert_times s st v u l) (inverse x y z)
  times_snoc [] [] [] x y z p q = refl
  times_snoc [] [] (c ∷ l) x y z p q = absurd (omega arith)
  times_snoc [] (b ∷ u) l x y z p q = absurd (omega arith)
  times_snoc (a ∷ v) [] l x y z p q = absurd (omega arith)
  times_snoc (a ∷ v) (b ∷ u) [] x y z p q = absurd (omega arith)
  times_snoc (a ∷ v) (b ∷ u) (c ∷ l) x y z p q =
      let r = inverse a b c in
      ap (λ (w : Ranges). ranges (r.value ∷ w.values) (r.upper ∷ w.upper) (r.lower ∷ w.lower))
      (times_snoc v u l x y z (omega arith) (omega arith))

  -- the shift by the drift puts the bounds in order
  time_by_is : (x y z : Float) → time_by (is_gap s.mode) (time_factor s.weight_time) (timescale s st) (timedrift s st) (range x y z) ≡ inverse x y z
  unfolding time_by time_factor shifted scaled invert_time settled
  time_by_is x y z = by (is_gap s.mode)
    where
      factor : Float
      factor = cond (eq s.weight_time zero32) zero64 (div binary64 one64 s.weight_time)

      long : Float → Float
      long q = mul binary64 (mul binary64 q factor) (timescale s st)

      late : Bool → Float → Float
      late b q = cond b (long q) (add binary64 (long q) (timedrift s st))

      by : (b : Bool) → cond b (settled (long x) (long y) (long z))
          (settled (add binary64 (long x) (timedrift s st)) (add binary64 (long y) (timedrift s st)) (add binary64 (long z) (timedrift s st)))
          ≡ settled (late b x) (late b y) (late b z)
      by true = refl
      by false = refl

  pub times_by_is : (a m : ℕ) (v : Ranges) (h : ℕ)
      → times_by (is_gap s.mode) (time_factor s.weight_time) (timescale s st) (timedrift s st) a m v h
      ≡ invert_times s st (backs a m h v.values) (backs a m h v.upper) (backs a m h v.lower)
  unfolding times_by range_at
  times_by_is a m v zero = refl
  times_by_is a m v (suc h) =
      let x = get_or v.values (h * a + m) nan in
      let y = get_or v.upper (h * a + m) nan in
      let z = get_or v.lower (h * a + m) nan in
      let bv = backs a m h v.values in
      let bu = backs a m h v.upper in
      let bl = backs a m h v.lower in
      ap (λ (w : Ranges). snoc w (time_by (is_gap s.mode) (time_factor s.weight_time) (timescale s st) (timedrift s st) (range x y z))) (times_by_is a m v h)
      ∙ ap (snoc (invert_times s st bv bu bl)) (time_by_is x y z)
      ∙ sym (times_snoc bv bu bl x y z (backs_length a m h v.upper ∙ sym (backs_length a m h v.values)) (backs_length a m h v.lower ∙ sym (backs_length a m h v.values)))
      ∙ (λ j. invert_times s st (sym (backs_snoc a m h v.values) j) (sym (backs_snoc a m h v.upper) j) (sym (backs_snoc a m h v.lower) j))

module _ {A : Type 0} where
  pub over_exact : (l m : List A) → length l ≡ length m → over l m ≡ m
  unfolding over
  over_exact l m e = ap (λ (k : ℕ). m ++ drop k l) (sym e) ∙ ap (λ (q : List A). m ++ q) (drop-length l) ∙ append_nil m

  -- a turn of the loop over the times
  pub written_more : (old : List A) (f : ℕ → A) (i : ℕ) (l : List A) (x : A) → i < length old → l ≡ over old (tabulate i f) → x ≡ f i
      → set l i x ≡ over old (tabulate (i + 1) f)
  written_more old f i l x h so_far by =
      ap (λ (q : List A). set q i x) so_far
      ∙ ap (set (over old (tabulate i f)) i) by
      ∙ over_more old f i h
      ∙ ap (λ (n : ℕ). over old (tabulate n f)) (sym (add-one i))

  pub written_all : (old : List A) (f : ℕ → A) (i n : ℕ) (l : List A) → i ≡ n → length old ≡ n → l ≡ over old (tabulate i f) → l ≡ tabulate n f
  written_all old f i n l e size so_far =
      so_far ∙ over_exact old (tabulate i f) (size ∙ sym e ∙ sym (tabulate_length i f)) ∙ ap (λ (k : ℕ). tabulate k f) e

-- ---- the transformer reads no count

module _ (h : Preprocessor) (st : List Float) where
  forecast_to_free : (n : ℕ) (v : Ranges) → forecast_to (viewTransformer h.transformer st) n v ≡ forecast_to (transformer (settings_of h) 0 st) n v
  unfolding forecast_to forecast_at weight_at normalized_scale basic_drift basic_shift
  forecast_to_free zero v = refl
  forecast_to_free (suc n) v =
      let d = h.transformer.input_length in
      ap (λ (w : Ranges). put_at w n (forecast_at (transformer (settings_of h) 0 st) (n / d) (n % d) (range_at w n))) (forecast_to_free n v)

  pub inverted_free : (p : List Float) (v : Ranges) → inverted_forecast (viewTransformer h.transformer st) p v ≡ inverted_forecast (transformer (settings_of h) 0 st) p v
  unfolding inverted_forecast
  inverted_free p v =
      let t = h.transformer in
      ap (λ (w : Ranges). cond (differences t.transform_method) (cascade_to binary32 p (length v.values) w) w)
      (forecast_to_free (length v.values / t.input_length * t.input_length) v)

-- ---- the cascade where nothing refuses it

pub cascade_taken : (f : Format) (base : List Float) (v w : Ranges) (row : ℕ) → length v.upper ≡ length v.values → length v.lower ≡ length v.values
    → unblocked (length base) (length v.values) ≡ false → range_outcome row w ≡ range_cascaded_add f base v → w ≡ cascade_to f base (length v.values) v
unfolding range_cascaded_add unequal cascade_to
cascade_taken f base v w row p q blocks e =
    ap (λ (o : RangeOutcome). o.left) (rw (eq-eqb _ _ (sym p), eq-eqb _ _ (sym q), blocks) at e)

-- ---- lengths

module _ (s : Settings) where
  pub dimension_augmented : augments s.mode ≡ true → dimension s ≡ s.d * s.k + s.k
  unfolding dimension block
  dimension_augmented e = rw e (add-mul s.d 1 s.k ∙ ap (λ (q : ℕ). s.d * s.k + q) (omega (arith, suc-mul 0 s.k)))

  pub numbers_within : s.d * s.k ≤ dimension s
  unfolding dimension block
  numbers_within = omega (arith, add-mul s.d (cond (augments s.mode) 1 0) s.k)

  pub some_block : (n : ℕ) → 0 < dimension s → dimension s ≤ n → 0 < n / dimension s
  some_block n p h = (le-div_iff_mul-le p).1 (omega arith)

pub some_blocks : (n a : ℕ) (s : Settings) → a ≡ dimension s → 0 < n / dimension s → 0 < n / a
some_blocks n a s e h = rw e h

-- whole blocks of d are there to cascade
pub blocks_whole : (h d k : ℕ) → 0 < h → 0 < d → 0 < k → unblocked d (h * (d * k)) ≡ false
unfolding unblocked
blocks_whole h d k p q r =
    let some : 0 < h * (d * k) = mul-pos p (mul-pos q r) in
    let none : h * (d * k) % d ≡ 0 = ap (λ (n : ℕ). n % d) (ap (λ (x : ℕ). h * x) (mul_comm d k) ∙ sym (mul_assoc h k d)) ∙ mul-mod_left (h * k) d in
    rw (ne_eqb d 0 (λ e. omega arith), ne_eqb (h * (d * k)) 0 (λ e. omega arith), eq-eqb _ 0 none)

pub and_false : (b c : Bool) → c ≡ false → (b && c) ≡ false
and_false true c e = e
and_false false c e = refl

pub true_false : true ≡ false → ⊥
true_false e = let z : ◌≡◌ {A = ℕ} 0 1 = ap (λ (b : Bool). cond b 0 1) e in omega arith

-- a block of a numbers, the first m of which count
pub turn_within : (i h a n : ℕ) → i < h → h * a ≤ n → i * a + a ≤ n
turn_within i h a n l r = omega (arith, mul-le-mul_right a l, suc-mul i a)

pub numbers_fit : (n a m : ℕ) → m ≤ a → n / a * m ≤ n
numbers_fit n a m h = omega (arith, mul-le-mul_left (n / a) h, div-mul-le_self n a)

pub dimension_pos : (s : Settings) → 0 < s.d → 0 < s.k → 0 < dimension s
dimension_pos s p q = omega (arith, mul-pos p q, numbers_within s)

-- the newest input
pub input_within : (d k : ℕ) → 0 < k → d ≤ d * k
input_within d k p = omega (arith, mul-le-mul_left d p)

pub newest_is : (l : List Float) (d : ℕ) → d ≤ length l → take (length l - (length l - d)) (drop (length l - d) l) ≡ last_n d l
unfolding last_n
newest_is l d h = take_all (length l - (length l - d)) (drop (length l - d) l) (omega (arith, length-drop (length l - d) l))

pub newest_length : (l : List Float) (d : ℕ) → d ≤ length l → length (take (length l - (length l - d)) (drop (length l - d) l)) ≡ d
unfolding last_n
newest_length l d h = ap length (newest_is l d h) ∙ omega (arith, length-drop (length l - d) l)

pub one_whole : (h : ℕ) → 0 < h → unblocked 1 h ≡ false
unfolding unblocked
one_whole h p = rw (ne_eqb h 0 (λ e. omega arith), eq-eqb _ 0 (mod-one h))

-- the times written, then cascaded from the last one
module _ (s : Settings) (st : List Float) (v w x : Ranges) (gap : Bool) (factor scale drift base : Float) (last a m h row : ℕ) where
  pub times_done : gap ≡ is_gap s.mode → factor ≡ time_factor s.weight_time → scale ≡ timescale s st → drift ≡ timedrift s st → a ≡ dimension s
      → base ≡ of_int binary64 (pos last) → w ≡ times_by gap factor scale drift a m v h → 0 < h
      → length w.values ≡ h → length w.upper ≡ h → length w.lower ≡ h → range_outcome row x ≡ range_cascaded_add binary64 (base ∷ []) w
      → x ≡ cascade_to binary64 (of_int binary64 (pos last) ∷ []) h
      (invert_times s st (backs (dimension s) m h v.values) (backs (dimension s) m h v.upper) (backs (dimension s) m h v.lower))
  times_done eg ef es ed ea eb ew some lv lu ll e =
      cascade_taken binary64 (base ∷ []) w x row (lu ∙ sym lv) (ll ∙ sym lv) (ap (unblocked 1) lv ∙ one_whole h some) e
      ∙ ap (λ (k : ℕ). cascade_to binary64 (base ∷ []) k w) lv
      ∙ ap (λ (b : Float). cascade_to binary64 (b ∷ []) h w) eb
      ∙ ap (cascade_to binary64 (of_int binary64 (pos last) ∷ []) h)
      (ew ∙ (λ j. times_by (eg j) (ef j) (es j) (ed j) (ea j) m v h) ∙ times_by_is s st (dimension s) m v h)

-- the room for numbers and times, by the code's own numbers
pub room_numbers : (s : Settings) (n a i v u l : ℕ) → a ≡ dimension s → i ≡ s.d * s.k → Longer (lookahead s n * (s.d * s.k)) v u l → Longer (n / a * i) v u l
unfolding lookahead
room_numbers s n a i v u l e f r = rw (e, f) r

pub room_times : (s : Settings) (n a v u l : ℕ) → a ≡ dimension s → Longer (lookahead s n) v u l → Longer (n / a) v u l
unfolding lookahead
room_times s n a v u l e r = rw e r

module _ (h : Preprocessor) (st x : List Float) (ts : List ℕ) (v : Ranges) (a : ℕ) (known : a ≡ dimension (settings_of h)) where
  abbrev each : ℕ
  each = h.transformer.input_length * h.shingle_size

  pub numbers_are : inverted_forecast (transformer (settings_of h) 0 st) (last_n h.transformer.input_length x)
      (ranges (fronts (dimension (settings_of h)) each (length v.values / a) v.values) (fronts (dimension (settings_of h)) each (length v.values / a) v.upper)
      (fronts (dimension (settings_of h)) each (length v.values / a) v.lower)) ≡ numbers_of (holding h st x ts) v
  unfolding numbers_of previous lookahead
  numbers_are =
      ap (λ (k : ℕ). inverted_forecast (transformer (settings_of h) 0 st) (last_n h.transformer.input_length x)
      (ranges (fronts (dimension (settings_of h)) each (length v.values / k) v.values) (fronts (dimension (settings_of h)) each (length v.values / k) v.upper)
      (fronts (dimension (settings_of h)) each (length v.values / k) v.lower))) known

  pub times_are : (last : ℕ) → last ≡ last_or 0 ts → cascade_to binary64 (of_int binary64 (pos last) ∷ []) (length v.values / a)
      (invert_times (settings_of h) st (backs (dimension (settings_of h)) each (length v.values / a) v.values)
      (backs (dimension (settings_of h)) each (length v.values / a) v.upper) (backs (dimension (settings_of h)) each (length v.values / a) v.lower))
      ≡ times_of (holding h st x ts) v
  unfolding times_of previous lookahead
  times_are last e = λ j.
      let k = known j in
      cascade_to binary64 (of_int binary64 (pos (e j)) ∷ []) (length v.values / k)
      (invert_times (settings_of h) st (backs (dimension (settings_of h)) each (length v.values / k) v.values)
      (backs (dimension (settings_of h)) each (length v.values / k) v.upper) (backs (dimension (settings_of h)) each (length v.values / k) v.lower))

-- ---- parts of lent lists that came back

pub parts_over : (old new : Ranges) (v u l : List Float) (n : ℕ) → length v ≡ n → length u ≡ n → length l ≡ n → ranges v u l ≡ new
    → ranges (v ++ drop n old.values) (u ++ drop n old.upper) (l ++ drop n old.lower) ≡ over_all old new
parts_over old new v u l n p q r e =
    (λ j. ranges (over_part old.values v n p j) (over_part old.upper u n q j) (over_part old.lower l n r j))
    ∙ ap (over_all old) e

-- ---- rows

-- The first test that refuses: a broken forecast, counters, an output, a list. The definition has counters after outputs, and both are 20.
own_row : (a b m : Bool) (n row : ℕ) → row ≡ or_else (cond a 16 0) (cond m 20 0) → (row ≡ 0 → ⊥) → row ≡ or_else (cond a 16 (cond b 20 0)) (cond m 20 n)
own_row true b m n row e taken = e
own_row false true true n row e taken = e
own_row false false true n row e taken = e
own_row false true false n row e taken = absurd (taken e)
own_row false false false n row e taken = absurd (taken e)

output_row_lem : (a b m : Bool) (n row : ℕ) → or_else (cond a 16 0) (cond m 20 0) ≡ 0 → row ≡ cond b 20 0 → (row ≡ 0 → ⊥) → row ≡ or_else (cond a 16 (cond b 20 0)) (cond m 20 n)
output_row_lem true b m n row p e taken = absurd (omega arith)
output_row_lem false b true n row p e taken = absurd (omega arith)
output_row_lem false true false n row p e taken = e
output_row_lem false false false n row p e taken = absurd (taken e)

last_row : (a b m : Bool) (n row : ℕ) → or_else (cond a 16 0) (cond m 20 0) ≡ 0 → ◌≡◌ {A = ℕ} (cond b 20 0) 0 → row ≡ n → row ≡ or_else (cond a 16 (cond b 20 0)) (cond m 20 n)
last_row true b m n row p q e = absurd (omega arith)
last_row false b true n row p q e = absurd (omega arith)
last_row false true false n row p q e = absurd (omega arith)
last_row false false false n row p q e = e

module _ (h : Preprocessor) (st x ts : ℕ) (z : Sizes) (row : ℕ) where
  abbrev s : Settings
  s = settings_of h

  abbrev broken : Bool
  broken = forecast_unfit s z.values z.upper z.lower

  abbrev short : Bool
  short = forecast_output_short s z

  abbrev missing : ℕ
  missing = first_of ((read_short s st x ts, 20) ∷ [])

  -- of the forecast and of the counters
  abbrev own : ℕ
  own = or_else (cond broken 16 0) (cond (counters_unfit h) 20 0)

  pub row_head : row ≡ head_row s → (row ≡ 0 → ⊥) → row ≡ row_at h st x ts z
  unfolding row_at
  row_head e taken = by (head_row s) e
    where
      by : (n : ℕ) → row ≡ n → row ≡ or_else n (or_else (cond broken 16 (cond short 20 0)) (read_short_row h st x ts))
      by zero e = absurd (taken e)
      by (suc n) e = e

  pub row_own : head_row s ≡ 0 → row ≡ own → (row ≡ 0 → ⊥) → row ≡ row_at h st x ts z
  unfolding row_at read_short_row
  row_own n e taken = rw n (own_row broken short (counters_unfit h) missing row e taken)

  pub row_output : head_row s ≡ 0 → own ≡ 0 → row ≡ cond short 20 0 → (row ≡ 0 → ⊥) → row ≡ row_at h st x ts z
  unfolding row_at read_short_row
  row_output n p e taken = rw n (output_row_lem broken short (counters_unfit h) missing row p e taken)

  pub row_unread : head_row s ≡ 0 → own ≡ 0 → ◌≡◌ {A = ℕ} (cond short 20 0) 0 → row ≡ missing → row ≡ row_at h st x ts z
  unfolding row_at read_short_row
  row_unread n p q e = rw n (last_row broken short (counters_unfit h) missing row p q e)

module _ (h : Preprocessor) (st x : List Float) (ts : List ℕ) (c : Forecast) where
  -- the rows look at lengths alone
  pub row_is : row_at h (length st) (length x) (length ts) (sizes_of c) ≡ extrapolation_row h st x ts c
  unfolding extrapolation_row
  row_is = refl

  pub refused_is : (row : ℕ) → row ≡ row_at h (length st) (length x) (length ts) (sizes_of c) → (row ≡ 0 → ⊥) → extrapolation row c ≡ extrapolation_of h st x ts c
  unfolding extrapolation_of
  refused_is row e taken =
      ap (extrapolation row) (refusing row taken)
      ∙ ap (λ (n : ℕ). extrapolation n (accepted n (turned_back (viewed h st x ts) c) c)) (e ∙ row_is)
    where
      refusing : (n : ℕ) → (n ≡ 0 → ⊥) → c ≡ accepted n (turned_back (viewed h st x ts) c) c
      refusing zero not_zero = absurd (not_zero refl)
      refusing (suc n) not_zero = refl

  pub done_is : (row : ℕ) (left : Forecast) → row ≡ row_at h (length st) (length x) (length ts) (sizes_of c) → row ≡ 0 → left ≡ turned_back (viewed h st x ts) c
      → extrapolation 0 left ≡ extrapolation_of h st x ts c
  unfolding extrapolation_of
  done_is row left e z by =
      ap (extrapolation 0) by
      ∙ ap (λ (n : ℕ). extrapolation n (accepted n (turned_back (viewed h st x ts) c) c)) (sym z ∙ e ∙ row_is)

  pub augmented_is : (o t : Ranges) → augments h.forest_mode ≡ true
      → o ≡ over_all c.values_out (numbers_of (viewed h st x ts) c.forecast) → t ≡ over_all c.times_out (times_of (viewed h st x ts) c.forecast)
      → forecast c.forecast o t ≡ turned_back (viewed h st x ts) c
  unfolding turned_back viewed view
  augmented_is o t a e f = rw a (λ j. forecast c.forecast (e j) (f j))

  pub standard_is : (v : Ranges) → augments h.forest_mode ≡ false
      → v ≡ inverted_forecast (transformer (viewed h st x ts).settings 0 (viewed h st x ts).statistics) (previous (viewed h st x ts)).value c.forecast
      → forecast v c.values_out c.times_out ≡ turned_back (viewed h st x ts) c
  unfolding turned_back viewed view
  standard_is v a e = rw a (ap (λ (q : Ranges). forecast q c.values_out c.times_out) e)

-- ---- the promise is the preprocessor's answer: of its lists the call reads the three that are handed to it

module _ (h : Preprocessor) (l : Lent) (c : Forecast) where
  abbrev sees : Extrapolation
  sees = extrapolation_of h l.statistics l.last_shingled_input l.previous_timestamps c

  turned_same : turned_back (view h l) c ≡ turned_back (viewed h l.statistics l.last_shingled_input l.previous_timestamps) c
  unfolding turned_back numbers_of times_of previous viewed view
  turned_same = refl

  by_row : (r : ℕ) → accepted r (turned (turned_back (view h l) c)) (refused r)
      ≡ accepted r (turned (accepted r (turned_back (viewed h l.statistics l.last_shingled_input l.previous_timestamps) c) c)) (refused r)
  by_row zero = ap turned turned_same
  by_row (suc r) = refl

  -- of six tests that fail the three that the call makes
  three : (a b p t n : Bool) → (a || (b || (p || (t || n)))) ≡ false → (a || (b || t)) ≡ false
  three true b p t n e = e
  three false true p t n e = e
  three false false true t n e = cc
  three false false false true n e = e
  three false false false false n e = refl

  unread_not : lent_short (settings_of h) l ≡ false → read_short (settings_of h) (length l.statistics) (length l.last_shingled_input) (length l.previous_timestamps) ≡ false
  unfolding lent_short read_short
  unread_not e =
      let s : Settings = settings_of h in
      three (ltb (length l.statistics) (statistics_length s)) (ltb (length l.last_shingled_input) (s.d * s.k))
      (ltb (length l.last_shingled_point) (dimension s)) (ltb (length l.previous_timestamps) s.k)
      (ltb (length l.initial_values) (initial_room s * s.d) || ltb (length l.initial_timestamps) (initial_room s)) e

  same_row : lent_short (settings_of h) l ≡ false
      → row_of h l (invert_extrapolation c) ≡ extrapolation_row h l.statistics l.last_shingled_input l.previous_timestamps c
  unfolding row_of lent_row short_row rows table extrapolation_row row_at read_short_row
  same_row e = rw (e, unread_not e)

  -- of every head, over lists that are long enough
  pub extrapolation_answers : lent_short (settings_of h) l ≡ false → answer_of h l (invert_extrapolation c) ≡ accepted sees.row (turned sees.left) (refused sees.row)
  unfolding answer_of reply extrapolation_of
  extrapolation_answers e =
      ap (λ (r : ℕ). accepted r (turned (turned_back (view h l) c)) (refused r)) (same_row e)
      ∙ by_row (extrapolation_row h l.statistics l.last_shingled_input l.previous_timestamps c)
