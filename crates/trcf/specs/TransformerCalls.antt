-- The calls of the transformer by themselves: document 01, 'Numbers the mechanic may see', and what each leaves in the memory lent to it.
use Rattle.std.specs.Prelude.{ℕ, ◌+◌, ◌*◌, Bool, not, ◌&&◌, ◌||◌, List, [], ◌∷◌, ltb, leb, eqb, length, take, replicate, Float, Result, Ok, Err}
use Rattle.refusal.specs.Refusal.{number_of, first_of, accepted}
use Rattle.refusal.specs.declared.Refusal.{Refusal}
use Rattle.refusal.specs.Lent.{over}
use Rattle.common.specs.Deviation.{zero64, count_limit, outside_unit}
use Rattle.ranges.specs.RangeVector.{Ranges, RangeOutcome, range_answer, unequal_at, unblocked}
use Rattle.trcf.specs.Types.{is_none, differences}
use Rattle.trcf.specs.Settings.{input_limit, all_one}
use Rattle.trcf.specs.Transformer.{Transformer, zero32, updated, transformed, inverted, inverted_forecast, scales, shifts, difference_deviations}
use Rattle.trcf.specs.declared.types.TransformMethod.{TransformMethod}
use Rattle.trcf.specs.declared.types.TransformMethod.TheVariants.{NONE}
use Rattle.trcf.specs.declared.transformer.WeightedTransformer.{WeightedTransformer}

-- the abstract transformer: what the head holds, and the numbers of the lent list l
abbrev pub transformer_view : WeightedTransformer → List Float → Transformer
transformer_view h l =
    record {
      method = h.transform_method;
      d = h.input_length;
      decay = h.transform_decay;
      weights = take h.input_length h.weights;
      count = h.count;
      statistics = l;
    }

-- the numbers of a list that are statistics of d channels: five of three numbers each
abbrev pub own : WeightedTransformer → List Float → Transformer
own h l = transformer_view h (take (15 * h.input_length) l)

-- ---- rows, over the lengths of what is lent. Rows 2 and 4 ask of a head what `new` asked, since a caller can make one by hand.

-- row 10: "reading, or the previous one handed with it, not d long"
unfoldable pub not_long : ℕ → ℕ → ℕ → Bool
not_long d x p = not (eqb x d && eqb p d)

unfoldable pub new_row : TransformMethod → ℕ → Float → List Float → ℕ → ℕ
new_row m d decay w s =
    first_of
    ((eqb d 0, 2)
    ∷ (ltb input_limit d, 4)
    ∷ (not (eqb (length w) d), 5)
    ∷ (outside_unit decay, 6)
    ∷ (is_none m && not (all_one w), 9)
    ∷ (ltb s (15 * d), 20)
    ∷ [])

unfoldable pub update_row : ℕ → ℕ → ℕ → ℕ → ℕ → ℕ
update_row d x p count s =
    first_of ((eqb d 0, 2) ∷ (ltb input_limit d, 4) ∷ (not_long d x p, 10) ∷ (leb count_limit count, 18) ∷ (ltb s (15 * d), 20) ∷ [])

-- `transform` and `invert`, into a list of the length o
unfoldable pub transform_row : ℕ → ℕ → ℕ → ℕ → ℕ → ℕ
transform_row d x p s o = first_of ((eqb d 0, 2) ∷ (ltb input_limit d, 4) ∷ (not_long d x p, 10) ∷ (ltb s (15 * d) || ltb o d, 20) ∷ [])

-- `scale`, `shift` and `difference_deviations`
unfoldable pub output_row : ℕ → ℕ → ℕ → ℕ
output_row d s o = first_of ((eqb d 0, 2) ∷ (ltb input_limit d, 4) ∷ (ltb s (15 * d) || ltb o d, 20) ∷ [])

-- row 16: "unequal lengths; where blocks are cascaded, none or a broken one"
unfoldable pub forecast_row : TransformMethod → ℕ → ℕ → ℕ → ℕ → ℕ → ℕ → ℕ
forecast_row m d p v u l s =
    first_of
    ((eqb d 0, 2)
    ∷ (ltb input_limit d, 4)
    ∷ (not (eqb p d), 10)
    ∷ (unequal_at v u l, 16)
    ∷ (differences m && unblocked d v, 16)
    ∷ (ltb s (15 * d), 20)
    ∷ [])

-- ---- answers: the number of the row, 0 for none; the head; the lent statistics

pub record Made : Type 0 where
  pub row : ℕ
  pub transformer : WeightedTransformer
  pub statistics : List Float

abbrev pub made : ℕ → WeightedTransformer → List Float → Made
made n h l = record { row = n; transformer = h; statistics = l }

-- an answer of the head alone; refused, the head is h
abbrev pub made_from : Result WeightedTransformer Refusal → WeightedTransformer → List Float → Made
made_from (Ok next) h l = made 0 next l
made_from (Err r) h l = made (number_of r) h l

-- a row, and the lent list of the answer
pub record TransformerOutput : Type 0 where
  pub row : ℕ
  pub output : List Float

abbrev pub transformer_output : ℕ → List Float → TransformerOutput
transformer_output n l = record { row = n; output = l }

-- the answer a stands at the front of the lent list l, unless a row refuses
abbrev pub transformer_answer : ℕ → List Float → List Float → TransformerOutput
transformer_answer n l a = transformer_output n (accepted n (over l a) l)

-- ---- the calls

abbrev pub transformer_head : TransformMethod → ℕ → Float → List Float → ℕ → WeightedTransformer
transformer_head m d decay w n = record { transform_method = m; input_length = d; transform_decay = decay; weights = w; count = n }

-- what stands in a refused answer
abbrev pub no_transformer : WeightedTransformer
no_transformer = transformer_head NONE 0 zero64 (replicate input_limit zero32) 0

-- all statistics empty
unfoldable pub transformer_new : TransformMethod → ℕ → Float → List Float → List Float → Made
transformer_new m d decay w l =
    let n = new_row m d decay w (length l) in
    accepted n (made 0 (transformer_head m d decay (over (replicate input_limit zero32) w) 0) (over l (replicate (15 * d) zero64))) (made n no_transformer l)

abbrev pub counted_up : WeightedTransformer → WeightedTransformer
counted_up h = transformer_head h.transform_method h.input_length h.transform_decay h.weights (h.count + 1)

unfoldable pub transformer_update : WeightedTransformer → List Float → List Float → List Float → Made
transformer_update h l x p =
    let n = update_row h.input_length (length x) (length p) h.count (length l) in
    accepted n (made 0 (counted_up h) (over l (updated (own h l) x p))) (made n h l)

unfoldable pub transformer_transform : WeightedTransformer → List Float → List Float → List Float → List Float → TransformerOutput
transformer_transform h l x p out =
    transformer_answer (transform_row h.input_length (length x) (length p) (length l) (length out)) out (transformed (own h l) x p)

unfoldable pub transformer_invert : WeightedTransformer → List Float → List Float → List Float → List Float → TransformerOutput
transformer_invert h l x p out =
    transformer_answer (transform_row h.input_length (length x) (length p) (length l) (length out)) out (inverted (own h l) x p)

-- in place on the three lists
unfoldable pub transformer_invert_forecast : WeightedTransformer → List Float → List Float → Ranges → RangeOutcome
transformer_invert_forecast h l p v =
    range_answer
    (forecast_row h.transform_method h.input_length (length p) (length v.values) (length v.upper) (length v.lower) (length l)) v
    (inverted_forecast (own h l) p v)

unfoldable pub transformer_scale : WeightedTransformer → List Float → List Float → TransformerOutput
transformer_scale h l out = transformer_answer (output_row h.input_length (length l) (length out)) out (scales (own h l))

unfoldable pub transformer_shift : WeightedTransformer → List Float → List Float → TransformerOutput
transformer_shift h l out = transformer_answer (output_row h.input_length (length l) (length out)) out (shifts (own h l))

unfoldable pub transformer_difference_deviations : WeightedTransformer → List Float → List Float → TransformerOutput
transformer_difference_deviations h l out = transformer_answer (output_row h.input_length (length l) (length out)) out (difference_deviations (own h l))
