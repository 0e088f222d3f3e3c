-- The range: document 01, 'rangevector.rs', over the width, in the source's order of operations. What ends in 'by' or 'or' stands over the numbers A and what is done with
-- them, and is what the code is generic over; the name without it is that at the floats of a format.
use Rattle.std.specs.Prelude.{◌≡◌, ℕ, zero, suc, ◌%◌, Bool, true, cond, not, ◌&&◌, ◌||◌, List, [], ◌∷◌, ◌++◌, ltb, leb, eqb, length, get_or, set, replicate, Float}
use Rattle.std.specs.Float.{nan, Format}
use Rattle.std.specs.Float.Ieee.{add, mul, lt, le, of_bits}
use Rattle.refusal.specs.Refusal.{first_of, accepted}
use Rattle.refusal.specs.Lent.{over}
use Rattle.ranges.specs.declared.rangevector.Range.{Range as RangeOf}
use Rattle.ranges.specs.declared.rangevector.RangeVector.{RangeVector}

-- what a range asks of its numbers, and what is read past the end of a list
pub record Operations (A : Type 0) : Type 0 where
  pub plus : A → A → A
  pub times : A → A → A
  pub below : A → A → Bool
  pub at_most : A → A → Bool
  pub zero_value : A
  pub missing : A

abbrev pub operations_of : Format → Operations Float
operations_of f = record { plus = add f; times = mul f; below = lt; at_most = le; zero_value = of_bits f 0; missing = nan }

-- the three lists
pub record RangesOf (A : Type 0) : Type 0 where
  pub values : List A
  pub upper : List A
  pub lower : List A

-- a call's number, 0 for none, and what the three lists are left as
pub record RangeOutcomeOf (A : Type 0) : Type 0 where
  pub row : ℕ
  pub left : RangesOf A

abbrev pub Range : Type 0
Range = RangeOf Float

abbrev pub Ranges : Type 0
Ranges = RangesOf Float

abbrev pub RangeOutcome : Type 0
RangeOutcome = RangeOutcomeOf Float

abbrev pub unequal_at : ℕ → ℕ → ℕ → Bool
unequal_at v u l = not (eqb v u && eqb v l)

-- row 16: "unequal lengths; empty base; where blocks are cascaded, none or a broken one"
unfoldable pub unblocked : ℕ → ℕ → Bool
unblocked b n = eqb b 0 || (eqb n 0 || not (eqb (n % b) 0))

-- row 20: "lent output shorter than the answer to be written"
abbrev pub shorter_at : ℕ → ℕ → ℕ → ℕ → Bool
shorter_at v u l n = ltb v n || (ltb u n || ltb l n)

module _ {A : Type 0} where
  -- ---- one index

  abbrev pub range : A → A → A → RangeOf A
  range v u l = record { value = v; upper = u; lower = l }

  -- "then raise upper to values if below and lower lower to values if above"
  abbrev pub settled_by : (A → A → Bool) → A → A → A → RangeOf A
  settled_by below v u l = range v (cond (below u v) v u) (cond (below v l) v l)

  -- "`shift` and `scale` treat values, upper and lower at one index"
  abbrev pub shifted_by : Operations A → RangeOf A → A → RangeOf A
  shifted_by o r x = settled_by o.below (o.plus r.value x) (o.plus r.upper x) (o.plus r.lower x)

  abbrev pub scaled_by : Operations A → RangeOf A → A → RangeOf A
  scaled_by o r x = settled_by o.below (o.times r.value x) (o.times r.upper x) (o.times r.lower x)

  -- ---- the three lists

  abbrev pub ranges : List A → List A → List A → RangesOf A
  ranges v u l = record { values = v; upper = u; lower = l }

  -- what three lent lists hold
  abbrev pub held : RangeVector A → RangesOf A
  held v = ranges v.values.now v.upper.now v.lower.now

  -- a call that takes the three lists hands back the lists that it was lent, as long as they were
  pub record AreSameLoans (old new : RangeVector A) : Type 0 where
    pub values : new.values.ghost_name ≡ old.values.ghost_name
    pub upper : new.upper.ghost_name ≡ old.upper.ghost_name
    pub lower : new.lower.ghost_name ≡ old.lower.ghost_name
    pub values_length : length new.values.now ≡ length old.values.now
    pub upper_length : length new.upper.now ≡ length old.upper.now
    pub lower_length : length new.lower.now ≡ length old.lower.now

  abbrev pub range_at_or : A → RangesOf A → ℕ → RangeOf A
  range_at_or d v i = range (get_or v.values i d) (get_or v.upper i d) (get_or v.lower i d)

  unfoldable pub put_at : RangesOf A → ℕ → RangeOf A → RangesOf A
  put_at v i r = ranges (set v.values i r.value) (set v.upper i r.upper) (set v.lower i r.lower)

  abbrev pub range_outcome : ℕ → RangesOf A → RangeOutcomeOf A
  range_outcome n v = record { row = n; left = v }

  -- a refusal leaves the lists as they were
  abbrev pub range_answer : ℕ → RangesOf A → RangesOf A → RangeOutcomeOf A
  range_answer n old new = range_outcome n (accepted n new old)

  -- row 14: "range `shift`, `scale`: index past any of the three lists"
  unfoldable pub past_any : RangesOf A → ℕ → Bool
  past_any v i = leb (length v.values) i || (leb (length v.upper) i || leb (length v.lower) i)

  abbrev pub range_shift_by : Operations A → RangesOf A → ℕ → A → RangeOutcomeOf A
  range_shift_by o v i x = range_answer (first_of ((past_any v i, 14) ∷ [])) v (put_at v i (shifted_by o (range_at_or o.missing v i) x))

  abbrev pub range_scale_by : Operations A → RangesOf A → ℕ → A → RangeOutcomeOf A
  range_scale_by o v i x = range_answer (first_of ((past_any v i, 14) ∷ [])) v (put_at v i (scaled_by o (range_at_or o.missing v i) x))

  -- ---- the cascade

  -- The first n indices, one after the other: "`cascaded_add` shifts the first block by the base, each later block by the finished values before it".
  -- After the base of b numbers stands the value at index i at place b + i, so place i holds what index i is shifted by.
  abbrev pub cascade_by : Operations A → List A → ℕ → RangesOf A → RangesOf A
  cascade_by o base zero v = v
  cascade_by o base (suc n) v =
      let w = cascade_by o base n v in
      put_at w n (shifted_by o (range_at_or o.missing w n) (get_or (base ++ w.values) n o.missing))

  unfoldable pub unequal : RangesOf A → Bool
  unequal v = unequal_at (length v.values) (length v.upper) (length v.lower)

  abbrev pub range_cascaded_add_by : Operations A → List A → RangesOf A → RangeOutcomeOf A
  range_cascaded_add_by o base v =
      range_answer (first_of ((unequal v || unblocked (length base) (length v.values), 16) ∷ [])) v
      (cascade_by o base (length v.values) v)

  -- ---- making one, in lent lists

  unfoldable pub shorter : RangesOf A → ℕ → Bool
  shorter v n = shorter_at (length v.values) (length v.upper) (length v.lower) n

  abbrev pub over_all : RangesOf A → RangesOf A → RangesOf A
  over_all old new = ranges (over old.values new.values) (over old.upper new.upper) (over old.lower new.lower)

  abbrev pub range_new_by : A → ℕ → RangesOf A → RangeOutcomeOf A
  range_new_by x n v =
      let z = replicate n x in
      range_answer (first_of ((shorter v n, 20) ∷ [])) v (over_all v (ranges z z z))

  unfoldable pub range_from : List A → RangesOf A → RangeOutcomeOf A
  range_from x v = range_answer (first_of ((shorter v (length x), 20) ∷ [])) v (over_all v (ranges x x x))

  -- "`create` demands lower ≤ values ≤ upper everywhere."
  abbrev pub in_order_by : (A → A → Bool) → List A → List A → List A → Bool
  in_order_by at_most (v ∷ vs) (u ∷ us) (l ∷ ls) = (at_most v u && at_most l v) && in_order_by at_most vs us ls
  in_order_by at_most [] us ls = true
  in_order_by at_most (v ∷ vs) [] ls = true
  in_order_by at_most (v ∷ vs) (u ∷ us) [] = true

  -- row 17: "bounds crossed or not-a-number"
  abbrev pub range_create_by : (A → A → Bool) → RangesOf A → RangesOf A → RangeOutcomeOf A
  range_create_by at_most x v =
      range_answer (first_of ((unequal x, 16) ∷ (not (in_order_by at_most x.values x.upper x.lower), 17) ∷ (shorter v (length x.values), 20) ∷ [])) v
      (over_all v x)

-- ---- at the floats of a format

unfoldable pub settled : Float → Float → Float → Range
settled = settled_by lt

unfoldable pub shifted : Format → Range → Float → Range
shifted f = shifted_by (operations_of f)

unfoldable pub scaled : Format → Range → Float → Range
scaled f = scaled_by (operations_of f)

unfoldable pub range_at : Ranges → ℕ → Range
range_at = range_at_or nan

unfoldable pub range_shift : Format → Ranges → ℕ → Float → RangeOutcome
range_shift f = range_shift_by (operations_of f)

unfoldable pub range_scale : Format → Ranges → ℕ → Float → RangeOutcome
range_scale f = range_scale_by (operations_of f)

unfoldable pub cascade_to : Format → List Float → ℕ → Ranges → Ranges
cascade_to f = cascade_by (operations_of f)

unfoldable pub range_cascaded_add : Format → List Float → Ranges → RangeOutcome
range_cascaded_add f = range_cascaded_add_by (operations_of f)

unfoldable pub range_new : Format → ℕ → Ranges → RangeOutcome
range_new f = range_new_by (operations_of f).zero_value

unfoldable pub in_order : List Float → List Float → List Float → Bool
in_order = in_order_by le

unfoldable pub range_create : Ranges → Ranges → RangeOutcome
range_create = range_create_by le
