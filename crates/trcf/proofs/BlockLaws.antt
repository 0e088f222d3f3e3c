-- A forecast turned back block by block is the forecast inverted index by index, and then cascaded: blocks go in the order of the indices, and a place is shifted
-- last by what the cascade finds one block before it. Assumes nothing.
use Prim.Native.Nat.{ℕ, zero, suc, ◌+◌, ◌*◌, ◌/◌, ◌%◌, ◌≤◌, ◌<◌}
use mathlib.Core.Bool.{Bool, true, false, cond, not, ◌&&◌, ◌||◌}
use mathlib.Core.Logic.{⊎_elim}
use mathlib.Core.Path.{◌≡◌, refl, sym, ap, ◌∙◌}
use mathlib.Core.List.{List, [], ◌∷◌, ◌++◌}
use native.Mathlib.Omega.{arith}
use native.Mathlib.Nat.{mod-eq_of_lt, div-eq_of_lt, mul-add-mod_self_right, mul-add-div_right, div-add-mod', div-mul-le_self, eq-or-lt_of_le}
use native.Mathlib.Numerals.{add-one}
use borrow.Author.Tests.{eqb-true}
use lib.Dec.{eqb}
use lib.ListN.{length, get_or, set}
use lib.Seq.{get_or-set_same, get_or-set_other, set-set, set_comm, get_or-append-add}
use lib.Ieee.{Float, nan, binary32}
use Rattle.ranges.specs.RangeVector.{Range, Ranges, range, ranges, range_at, put_at, shifted, scaled, cascade_to, unblocked}
use Rattle.ranges.proofs.RangeLaws.{range_at_other, cascade_to_lengths, cascade_to_later}
use Rattle.trcf.specs.Types.{is_none, normalizes, differences, centres}
use Rattle.trcf.specs.Transformer.{Transformer, reciprocal, weight_at, normalized_scale, basic_drift, basic_shift, scaled_if, shifted_if, forecast_at, forecast_to, inverted_forecast}
use Rattle.trcf.specs.declared.types.TransformMethod.{TransformMethod}
use Rattle.trcf.specs.declared.types.TransformMethod.TheVariants.{NONE, WEIGHTED, DIFFERENCE, SUBTRACT_MA, NORMALIZE, NORMALIZE_DIFFERENCE}
use Rattle.trcf.proofs.ForecastLaws.{Even, lengths_of_lem, forecast_to_lengths}
use Rattle.trcf.proofs.ExtrapolationLaws.{true_false, turn_within}
use Rattle.trcf.specs.Steps.Blocks.{places_by, drift_by, turn_by, drift_place, turn_place, moves, invert_place, CarriedTo, Carried, FactorsIn}

-- ---- turns of the loops

pub places_more : (g : ℕ → Range → Range) (at j : ℕ) (v w : Ranges) (q : Range) → w ≡ places_by g at j v → q ≡ g j (range_at w (at + j))
    → put_at w (at + j) q ≡ places_by g at (j + 1) v
unfolding places_by
places_more g at j v w q so_far by =
    ap (put_at w (at + j)) by
    ∙ ap (λ (u : Ranges). put_at u (at + j) (g j (range_at u (at + j)))) so_far
    ∙ ap (λ (m : ℕ). places_by g at m v) (sym (add-one j))

pub places_ext : (g h : ℕ → Range → Range) (at n : ℕ) (v : Ranges) → ((j : ℕ) (r : Range) → g j r ≡ h j r) → places_by g at n v ≡ places_by h at n v
unfolding places_by
places_ext g h at zero v e = refl
places_ext g h at (suc n) v e =
    ap (λ (w : Ranges). put_at w (at + n) (g n (range_at w (at + n)))) (places_ext g h at n v e)
    ∙ ap (put_at (places_by h at n v) (at + n)) (e n (range_at (places_by h at n v) (at + n)))

pub held_none : (t : Transformer) (p fs ss ds bs : List Float) → length bs ≡ 16 → FactorsIn t p 0 fs ss ds bs
held_none t p fs ss ds bs e =
    record {
      long = e;
      factor = λ k l. absurd (omega arith);
      scale = λ k l. absurd (omega arith);
      drift = λ k l. absurd (omega arith);
      base = λ k l. absurd (omega arith);
    }

-- a list of which the first j hold what h says, and one more
pub held_more : (h : ℕ → Float) (l : List Float) (j : ℕ) (x : Float) → j < length l → x ≡ h j → ((k : ℕ) → k < j → get_or l k nan ≡ h k)
    → (k : ℕ) → k < j + 1 → get_or (set l j x) k nan ≡ h k
held_more h l j x low e so_far k less =
    ⊎_elim (λ (z : k ≡ j). rw z (get_or-set_same l j x nan low ∙ e)) (λ (z : k < j). get_or-set_other l j k x nan (λ q. omega arith) ∙ so_far k z)
    (eq-or-lt_of_le (omega arith))

-- the bases of the first j channels are carried, and the others untouched
pub record Carrying (b : Bool) (at j : ℕ) (l old new : List Float) : Type 0 where
  pub done : CarriedTo b at j l old new
  pub rest : (k : ℕ) → j ≤ k → get_or new k nan ≡ get_or old k nan

pub carried_more : (b : Bool) (at j : ℕ) (l old new : List Float) (y x : Float) → j < length new → at + j < length l → x ≡ cond b y (get_or new j nan)
    → Carrying b at j l old new → Carrying b at (j + 1) (set l (at + j) y) old (set new j x)
carried_more b at j l old new y x low room e so_far =
    record {
      done = λ k less. ⊎_elim
          (λ (z : k ≡ j). rw z (here b e))
          (λ (z : k < j). get_or-set_other new j k x nan (λ q. omega arith) ∙ so_far.done k z
          ∙ ap (λ (w : Float). cond b w (get_or old k nan)) (sym (get_or-set_other l (at + j) (at + k) y nan (λ q. omega arith))))
          (eq-or-lt_of_le (omega arith));
      rest = λ k less. get_or-set_other new j k x nan (λ q. omega arith) ∙ so_far.rest k (omega arith);
    }
  where
    here : (c : Bool) → x ≡ cond c y (get_or new j nan) → get_or (set new j x) j nan ≡ cond c (get_or (set l (at + j) y) (at + j) nan) (get_or old j nan)
    here true q = get_or-set_same new j x nan low ∙ q ∙ sym (get_or-set_same l (at + j) y nan room)
    here false q = get_or-set_same new j x nan low ∙ q ∙ so_far.rest j (omega arith)

-- ---- index by index, the cascade in the same step

abbrev pub turn_at : Transformer → ℕ → Float → Range → Range
turn_at t n x r = shifted_if (differences t.method) (forecast_at t (n / t.d) (n % t.d) r) x

unfoldable pub turned_to : Transformer → List Float → ℕ → Ranges → Ranges
turned_to t p zero v = v
turned_to t p (suc n) v =
    let w = turned_to t p n v in
    put_at w n (turn_at t n (get_or (p ++ w.values) n nan) (range_at w n))

-- ---- a block

-- a store at index n of the list after the base is not seen before place (length base) + n
get_d_before : (base l : List Float) (n i : ℕ) (a : Float) → i < length base + n → get_or (base ++ set l n a) i nan ≡ get_or (base ++ l) i nan
get_d_before [] l n i a h = get_or-set_other l n i a nan (λ e. omega arith)
get_d_before (x ∷ base) l n zero a h = refl
get_d_before (x ∷ base) l n (suc i) a h = get_d_before base l n i a (omega arith)

places_before : (g : ℕ → Range → Range) (p : List Float) (at n i : ℕ) (v : Ranges) → i < length p + at
    → get_or (p ++ (places_by g at n v).values) i nan ≡ get_or (p ++ v.values) i nan
unfolding places_by put_at
places_before g p at zero i v h = refl
places_before g p at (suc n) i v h =
    let w = places_by g at n v in
    get_d_before p w.values (at + n) i (g n (range_at w (at + n))).value (omega arith) ∙ places_before g p at n i v h

-- one number: at most one of the two last shifts is the method's
turn_same : (m : TransformMethod) (f s y shift x base : Float) (r : Range) → base ≡ cond (differences m) x shift
    → cond (is_none m) (shifted binary32 r y) (turn_by (normalizes m) (moves m) f s y base r)
    ≡ shifted_if (differences m) (shifted_if (centres m) (shifted binary32 (scaled_if (normalizes m) (scaled_if (not (is_none m)) r f) s) y) shift) x
unfolding turn_by
turn_same NONE f s y shift x base r e = refl
turn_same WEIGHTED f s y shift x base r e = refl
turn_same DIFFERENCE f s y shift x base r e = ap (shifted binary32 (shifted binary32 (scaled binary32 r f) y)) e
turn_same SUBTRACT_MA f s y shift x base r e = ap (shifted binary32 (shifted binary32 (scaled binary32 r f) y)) e
turn_same NORMALIZE f s y shift x base r e = ap (shifted binary32 (shifted binary32 (scaled binary32 (scaled binary32 r f) s) y)) e
turn_same NORMALIZE_DIFFERENCE f s y shift x base r e = ap (shifted binary32 (shifted binary32 (scaled binary32 (scaled binary32 r f) s) y)) e

module _ (t : Transformer) (p : List Float) (v : Ranges) (i : ℕ) (fs ss ds bs : List Float) (some : 0 < t.d) (one : length p ≡ t.d) where
  place_same : (j : ℕ) (x : Float) (r : Range) → j < t.d → get_or fs j nan ≡ reciprocal (weight_at t j) → get_or ss j nan ≡ normalized_scale t j
      → get_or ds j nan ≡ basic_drift t j → get_or bs j nan ≡ cond (differences t.method) x (basic_shift t j)
      → invert_place t.method i fs ss ds bs j r ≡ turn_at t (i * t.d + j) x r
  unfolding invert_place forecast_at
  place_same j x r low ef es ed eb =
      let a : (i * t.d + j) % t.d ≡ j = mul-add-mod_self_right i t.d j ∙ mod-eq_of_lt low in
      let b : (i * t.d + j) / t.d ≡ i = mul-add-div_right some i j ∙ omega (arith, div-eq_of_lt low) in
      rw (a, b, ef, es, ed) (turn_same t.method (reciprocal (weight_at t j)) (normalized_scale t j) (drift_by i (basic_drift t j)) (basic_shift t j) x (get_or bs j nan) r eb)

  module _ (w : Ranges) (so_far : w ≡ turned_to t p (i * t.d) v)
      (factor : (k : ℕ) → k < t.d → get_or fs k nan ≡ reciprocal (weight_at t k)) (scale : (k : ℕ) → k < t.d → get_or ss k nan ≡ normalized_scale t k)
      (drift : (k : ℕ) → k < t.d → get_or ds k nan ≡ basic_drift t k)
      (base : (k : ℕ) → k < t.d → get_or bs k nan ≡ cond (differences t.method) (get_or (p ++ w.values) (i * t.d + k) nan) (basic_shift t k)) where
    block_to : (j : ℕ) → j ≤ t.d → places_by (invert_place t.method i fs ss ds bs) (i * t.d) j w ≡ turned_to t p (i * t.d + j) v
    unfolding places_by turned_to
    block_to zero h = so_far ∙ ap (λ (n : ℕ). turned_to t p n v) {x = i * t.d} {y = i * t.d + 0} (omega arith)
    block_to (suc j) h =
        let g = invert_place t.method i fs ss ds bs in
        let u = places_by g (i * t.d) j w in
        let x = get_or (p ++ u.values) (i * t.d + j) nan in
        let eb : get_or bs j nan ≡ cond (differences t.method) x (basic_shift t j) =
        base j h ∙ ap (λ (y : Float). cond (differences t.method) y (basic_shift t j)) (sym (places_before g p (i * t.d) j (i * t.d + j) w (omega arith))) in
        ap (put_at u (i * t.d + j)) (place_same j x (range_at u (i * t.d + j)) h (factor j h) (scale j h) (drift j h) eb)
        ∙ ap (λ (z : Ranges). put_at z (i * t.d + j) (turn_at t (i * t.d + j) (get_or (p ++ z.values) (i * t.d + j) nan) (range_at z (i * t.d + j))))
        (block_to j (omega arith))
        ∙ ap (λ (n : ℕ). turned_to t p n v) {x = suc (i * t.d + j)} {y = i * t.d + suc j} (omega arith)

    pub block_more : places_by (invert_place t.method i fs ss ds bs) (i * t.d) t.d w ≡ turned_to t p ((i + 1) * t.d) v
    block_more = block_to t.d (omega arith) ∙ ap (λ (n : ℕ). turned_to t p n v) {x = i * t.d + t.d} {y = (i + 1) * t.d} (omega arith)

-- the bases of the next block
pub bases_more : (b : Bool) (p l old new : List Float) (i d k : ℕ) (x y : Float) → length p ≡ d → k < d → CarriedTo b (i * d) d l old new
    → get_or old k nan ≡ cond b x y → get_or new k nan ≡ cond b (get_or (p ++ l) ((i + 1) * d + k) nan) y
bases_more true p l old new i d k x y one low c e =
    c k low
    ∙ sym (get_or-append-add p l (i * d + k) nan)
    ∙ ap (λ (n : ℕ). get_or (p ++ l) n nan) (omega arith)
bases_more false p l old new i d k x y one low c e = c k low ∙ e

-- the first bases
pub bases_first : (b : Bool) (p l : List Float) (x y : Float) (k : ℕ) → k < length p → x ≡ cond b (get_or p k nan) y → x ≡ cond b (get_or (p ++ l) k nan) y
bases_first false p l x y k low e = e
bases_first true p l x y k low e = e ∙ sym (front p k low)
  where
    front : (q : List Float) (n : ℕ) → n < length q → get_or (q ++ l) n nan ≡ get_or q n nan
    front [] n h = absurd (omega arith)
    front (z ∷ q) zero h = refl
    front (z ∷ q) (suc n) h = front q n (omega arith)

-- after i blocks: the places, and what each channel is shifted by last in the next block
pub record Turned (t : Transformer) (p : List Float) (i : ℕ) (v w : Ranges) (bs : List Float) : Type 0 where
  pub places : w ≡ turned_to t p (i * t.d) v
  pub bases : (k : ℕ) → k < t.d → get_or bs k nan ≡ cond (differences t.method) (get_or (p ++ w.values) (i * t.d + k) nan) (basic_shift t k)

pub turned_none : (t : Transformer) (p : List Float) (v : Ranges) (fs ss ds bs : List Float) → length p ≡ t.d → FactorsIn t p t.d fs ss ds bs → Turned t p 0 v v bs
unfolding turned_to
turned_none t p v fs ss ds bs one h =
    record {
      places = ap (λ (n : ℕ). turned_to t p n v) {x = 0} {y = 0 * t.d} (omega arith);
      bases = λ k l. bases_first (differences t.method) p v.values (get_or bs k nan) (basic_shift t k) k (omega arith) (h.base k l)
          ∙ ap (λ (n : ℕ). cond (differences t.method) (get_or (p ++ v.values) n nan) (basic_shift t k)) {x = k} {y = 0 * t.d + k} (omega arith);
    }

pub turned_more : (t : Transformer) (p : List Float) (i : ℕ) (v w z : Ranges) (m : TransformMethod) (d : ℕ) (fs ss ds first old new : List Float) → t.method ≡ m → t.d ≡ d
    → 0 < t.d → length p ≡ t.d → FactorsIn t p t.d fs ss ds first → Turned t p i v w old → z ≡ places_by (invert_place m i fs ss ds old) (i * d) d w
    → Carried (differences m) (i * d) d z.values old new → Turned t p (i + 1) v z new
turned_more t p i v w z m d fs ss ds first old new em ed some one h so_far by carried =
    record {
      places = by
          ∙ ap (λ (x : TransformMethod). places_by (invert_place x i fs ss ds old) (i * d) d w) (sym em)
          ∙ ap (λ (x : ℕ). places_by (invert_place t.method i fs ss ds old) (i * x) x w) (sym ed)
          ∙ block_more t p v i fs ss ds old some one w so_far.places h.factor h.scale h.drift so_far.bases;
      bases = λ k l. bases_more (differences t.method) p z.values old new i t.d k _ _ one l each (so_far.bases k l);
    }
  where
    each : CarriedTo (differences t.method) (i * t.d) t.d z.values old new
    each = rw (em, ed) carried.each

-- ---- by the method

pub none_block : (m : TransformMethod) (i at d : ℕ) (fs ss ds bs : List Float) (v w : Ranges) → is_none m ≡ true → w ≡ places_by (drift_place i ds) at d v
    → w ≡ places_by (invert_place m i fs ss ds bs) at d v
unfolding invert_place
none_block m i at d fs ss ds bs v w e h = h ∙ places_ext (drift_place i ds) (invert_place m i fs ss ds bs) at d v (λ j r. sym (rw e))

pub none_carried : (m : TransformMethod) (at d : ℕ) (l bs : List Float) → is_none m ≡ true → Carried (differences m) at d l bs bs
none_carried NONE at d l bs e = record { long = refl; each = λ k h. refl }
none_carried WEIGHTED at d l bs e = absurd (true_false (sym e))
none_carried DIFFERENCE at d l bs e = absurd (true_false (sym e))
none_carried SUBTRACT_MA at d l bs e = absurd (true_false (sym e))
none_carried NORMALIZE at d l bs e = absurd (true_false (sym e))
none_carried NORMALIZE_DIFFERENCE at d l bs e = absurd (true_false (sym e))

pub other_block : (m : TransformMethod) (i at d : ℕ) (fs ss ds bs : List Float) (v w : Ranges) → is_none m ≡ false
    → w ≡ places_by (turn_place (normalizes m) (moves m) i fs ss ds bs) at d v → w ≡ places_by (invert_place m i fs ss ds bs) at d v
unfolding invert_place
other_block m i at d fs ss ds bs v w e h =
    h ∙ places_ext (turn_place (normalizes m) (moves m) i fs ss ds bs) (invert_place m i fs ss ds bs) at d v (λ j r. sym (rw e))

-- a block before the last has room
pub block_room : (i d n : ℕ) → i < n / d → i * d + d ≤ n
block_room i d n h = turn_within i (n / d) d n h (div-mul-le_self n d)

-- ---- the cascade in the same step is the cascade afterwards

put_same : (w : Ranges) (i : ℕ) (q r : Range) → put_at (put_at w i q) i r ≡ put_at w i r
unfolding put_at
put_same w i q r = λ k. ranges (set-set w.values i q.value r.value k) (set-set w.upper i q.upper r.upper k) (set-set w.lower i q.lower r.lower k)

put_other : (w : Ranges) (i j : ℕ) (q r : Range) → (i ≡ j → ⊥) → put_at (put_at w i q) j r ≡ put_at (put_at w j r) i q
unfolding put_at
put_other w i j q r ne = λ k.
    ranges (set_comm w.values i j q.value r.value ne k) (set_comm w.upper i j q.upper r.upper ne k) (set_comm w.lower i j q.lower r.lower ne k)

put_read : (w : Ranges) (i : ℕ) (r : Range) → i < length w.values → i < length w.upper → i < length w.lower → range_at (put_at w i r) i ≡ r
unfolding put_at range_at
put_read w i r a b c = λ k.
    range (get_or-set_same w.values i r.value nan a k) (get_or-set_same w.upper i r.upper nan b k) (get_or-set_same w.lower i r.lower nan c k)

-- a place that the cascade has not reached may be stored first
cascade_put : (p : List Float) (n m : ℕ) (v : Ranges) (r : Range) → n ≤ m → cascade_to binary32 p n (put_at v m r) ≡ put_at (cascade_to binary32 p n v) m r
unfolding cascade_to put_at shifted range_at
cascade_put p zero m v r h = refl
cascade_put p (suc n) m v r h =
    let w = cascade_to binary32 p n v in
    ap (λ (z : Ranges). put_at z n (shifted binary32 (range_at z n) (get_or (p ++ z.values) n nan))) (cascade_put p n m v r (omega arith))
    ∙ ap (put_at (put_at w m r) n) (step w)
    ∙ put_other w m n r _ (λ e. omega arith)
  where
    step : (w : Ranges) → shifted binary32 (range_at (put_at w m r) n) (get_or (p ++ (put_at w m r).values) n nan) ≡ shifted binary32 (range_at w n) (get_or (p ++ w.values) n nan)
    step w =
        ap (λ (y : Range). shifted binary32 y (get_or (p ++ set w.values m r.value) n nan)) (range_at_other w m n r (λ e. omega arith))
        ∙ ap (shifted binary32 (range_at w n)) (get_d_before p w.values m n r.value (omega arith))

module _ (t : Transformer) (p : List Float) (v : Ranges) where
  -- a method that does not difference
  turned_plain : differences t.method ≡ false → (n : ℕ) → turned_to t p n v ≡ forecast_to t n v
  unfolding turned_to forecast_to
  turned_plain e zero = refl
  turned_plain e (suc n) =
      let w = turned_to t p n v in
      ap (λ (b : Bool). put_at w n (shifted_if b (forecast_at t (n / t.d) (n % t.d) (range_at w n)) (get_or (p ++ w.values) n nan))) e
      ∙ ap (λ (z : Ranges). put_at z n (forecast_at t (n / t.d) (n % t.d) (range_at z n))) (turned_plain e n)

  turned_cascade : Even v → 0 < length p → differences t.method ≡ true → (n : ℕ) → n ≤ length v.values
      → turned_to t p n v ≡ cascade_to binary32 p n (forecast_to t n v)
  unfolding turned_to forecast_to cascade_to put_at shifted range_at
  turned_cascade even some e zero h = refl
  turned_cascade even some e (suc n) h =
      let w = turned_to t p n v in
      let f = forecast_to t n v in
      let c = cascade_to binary32 p n f in
      let x = forecast_at t (n / t.d) (n % t.d) (range_at f n) in
      let m = lengths_of_lem (cascade_to_lengths binary32 p n f) (forecast_to_lengths t n v) in
      ap (λ (b : Bool). put_at w n (shifted_if b (forecast_at t (n / t.d) (n % t.d) (range_at w n)) (get_or (p ++ w.values) n nan))) e
      ∙ ap (λ (z : Ranges). put_at z n (shifted binary32 (forecast_at t (n / t.d) (n % t.d) (range_at z n)) (get_or (p ++ z.values) n nan))) (turned_cascade even some e n (omega arith))
      ∙ ap (λ (r : Range). put_at c n (shifted binary32 (forecast_at t (n / t.d) (n % t.d) r) (get_or (p ++ c.values) n nan))) (cascade_to_later binary32 p n f n (omega arith))
      ∙ sym (after c x (omega (arith, m.values)) (omega (arith, m.upper, even.upper)) (omega (arith, m.lower, even.lower)))
      ∙ ap (λ (z : Ranges). put_at z n (shifted binary32 (range_at z n) (get_or (p ++ z.values) n nan))) (sym (cascade_put p n n f x (omega arith)))
    where
      after : (c : Ranges) (x : Range) → n < length c.values → n < length c.upper → n < length c.lower
          → put_at (put_at c n x) n (shifted binary32 (range_at (put_at c n x) n) (get_or (p ++ (put_at c n x).values) n nan))
          ≡ put_at c n (shifted binary32 x (get_or (p ++ c.values) n nan))
      after c x a b d =
          put_same c n x _
          ∙ ap (λ (r : Range). put_at c n (shifted binary32 r (get_or (p ++ set c.values n x.value) n nan))) (put_read c n x a b d)
          ∙ ap (λ (y : Float). put_at c n (shifted binary32 x y)) (get_d_before p c.values n n x.value (omega arith))

whole_blocks : (d n : ℕ) → 0 < d → unblocked d n ≡ false → n / d * d ≡ n
unfolding unblocked
whole_blocks d n some h = go (eqb d 0) (eqb n 0) (eqb (n % d) 0) refl h
  where
    go : (a b c : Bool) → eqb (n % d) 0 ≡ c → (a || (b || not c)) ≡ false → n / d * d ≡ n
    go false false true e z = omega (arith, div-add-mod' n d, eqb-true (n % d) 0 e)
    go true b c e z = absurd (true_false z)
    go false true c e z = absurd (true_false z)
    go false false false e z = absurd (true_false z)

-- the whole blocks turned back are the inverted forecast
pub turned_all : (t : Transformer) (p : List Float) (v : Ranges) → Even v → 0 < t.d → length p ≡ t.d
    → (differences t.method && unblocked (length p) (length v.values)) ≡ false
    → turned_to t p (length v.values / t.d * t.d) v ≡ inverted_forecast t p v
unfolding inverted_forecast
turned_all t p v even some one h = go (differences t.method) refl h
  where
    go : (b : Bool) → differences t.method ≡ b → (b && unblocked (length p) (length v.values)) ≡ false
        → turned_to t p (length v.values / t.d * t.d) v ≡ inverted_forecast t p v
    go false e z = rw e (turned_plain t p v e (length v.values / t.d * t.d))
    go true e z =
        let n = length v.values in
        let whole : n / t.d * t.d ≡ n = whole_blocks t.d n some (ap (λ (k : ℕ). unblocked k n) (sym one) ∙ z) in
        rw (e, whole) (turned_cascade t p v even (omega arith) e n (omega arith))

-- ---- a range chosen number by number

-- the steps of a number of a weighted channel
pub turn_steps : (normal moves : Bool) (factor scale shift base : Float) (r a a2 e c c2 q : Range) → a ≡ scaled binary32 r factor → a2 ≡ scaled binary32 a scale
    → e ≡ cond normal a2 a → c ≡ shifted binary32 e shift → c2 ≡ shifted binary32 c base → q ≡ cond moves c2 c → q ≡ turn_by normal moves factor scale shift base r
unfolding turn_by
turn_steps normal moves factor scale shift base r a a2 e c c2 q ea ea2 ee ec ec2 eq = cc
