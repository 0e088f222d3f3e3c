-- Laws of the transform's definitions: feeding keeps lengths and gives numbers that fit; the answers have d numbers, which fit.
use Prim.Native.Nat.{ℕ, zero, suc, ◌+◌, ◌*◌, ◌<◌}
use lib.Dec.{T}
use mathlib.Core.Path.{◌≡◌, refl, ◌∙◌}
use mathlib.Core.List.{List}
use lib.ListN.{length, get_or, set, length-set}
use lib.Ieee.{Float, nan, Format, binary32, binary64, fits}
use lib.Ieee.Fits.{sub-fits, mul-fits, div-fits, nan-fits}
use Rattle.common.specs.declared.deviation.Deviation.{Deviation}
use Rattle.std.specs.Prelude.{Result, Ok, Err}
use Rattle.std.specs.Result.{result_unwrap_or}
use Rattle.refusal.specs.declared.Refusal.{Refusal}
use Rattle.refusal.specs.Refusal.{numbered}
use Rattle.common.specs.Deviation.{count_limit, update_by, step_of}
use Rattle.common.proofs.DeviationLaws.{update_by_accepted, step_fits}
use Rattle.common.proofs.DeviationLaws as deviation
use Rattle.trcf.specs.Fit.{Fits}
use Rattle.trcf.specs.Transformer.{Transformer, put_statistic, put_deviations, fed, fed_at, channels_fed, updated, transform_by, transformed, weight_at, scales, shifts, difference_deviations}
use Rattle.trcf.specs.TransformerCalls.{transformer_view}
use Rattle.trcf.specs.Steps.Timestamps.{IsFactor}
use Rattle.trcf.specs.declared.transformer.WeightedTransformer.{WeightedTransformer}
use lib.Seq.{get_or-take}
use Rattle.trcf.specs.declared.types.TransformMethod.{TransformMethod}
use Rattle.trcf.specs.declared.types.TransformMethod.TheVariants.{NONE, WEIGHTED, DIFFERENCE, SUBTRACT_MA, NORMALIZE, NORMALIZE_DIFFERENCE}
use Rattle.trcf.specs.declared.statistics.Deviations.{Deviations}
use Rattle.trcf.proofs.FitLaws.{all_set, all_get_d, all_tabulate, tabulate_length}

abbrev fit : Format → Float → Type 0
fit f x = T (fits f x)

taken : (r : Result Deviation Refusal) (d next : Deviation) → numbered r ≡ Ok next → result_unwrap_or r d ≡ next
taken (Ok a) d next h = cc
taken (Err e) d next h = absurd (cc h)

-- an update that is not refused
pub taken_step : (s : Deviation) (f x : Float) (r : Result Deviation Refusal) → s.count < count_limit → IsFactor f s → numbered r ≡ update_by f s x
    → result_unwrap_or r s ≡ step_of s x
taken_step s f x r h e p = taken r s (step_of s x) (p ∙ update_by_accepted f s x e h)

-- the weight that a head holds for channel i
pub weight_at_view : (t : WeightedTransformer) (l : List Float) (i : ℕ) → i < t.input_length → weight_at (transformer_view t l) i ≡ get_or t.weights i nan
unfolding weight_at
weight_at_view t l i h = get_or-take t.input_length t.weights i nan h

-- ---- feeding keeps the length

pub put_statistic_length : (l : List Float) (n : ℕ) (s : Deviation) → length (put_statistic l n s) ≡ length l
unfolding put_statistic
put_statistic_length l n s = simp length-set

pub put_deviations_length : (l : List Float) (b w : ℕ) (s : Deviations) → length (put_deviations l b w s) ≡ length l
unfolding put_deviations
put_deviations_length l b w s = simp put_statistic_length

pub fed_at_length : (l : List Float) (b w : ℕ) (decay : Float) (count : ℕ) (x dx : Float) → length (fed_at l b w decay count x dx) ≡ length l
unfolding fed_at
fed_at_length l b w decay count x dx = put_deviations_length l b w _

pub channels_fed_length : (n : ℕ) (l : List Float) (d : ℕ) (decay : Float) (count : ℕ) (x previous : List Float) → length (channels_fed n l d decay count x previous) ≡ length l
unfolding channels_fed
channels_fed_length zero l d decay count x previous = refl
channels_fed_length (suc n) l d decay count x previous = fed_at_length _ n d decay count _ _ ∙ channels_fed_length n l d decay count x previous

pub updated_length : (t : Transformer) (x previous : List Float) → length (updated t x previous) ≡ length t.statistics
unfolding updated
updated_length t x previous = channels_fed_length t.d t.statistics t.d t.decay t.count x previous

-- ---- what feeding writes fits

pub put_statistic_fits : (l : List Float) (n : ℕ) (s : Deviation) → deviation.Fits s → Fits binary64 l → Fits binary64 (put_statistic l n s)
unfolding put_statistic
put_statistic_fits l n s k h =
    let a = set l (3 * n) s.weight in
    let b = set a (3 * n + 1) s.sum in
    all_set (fit binary64) b (3 * n + 2) s.sum_squared k.squares
    (all_set (fit binary64) a (3 * n + 1) s.sum k.sum (all_set (fit binary64) l (3 * n) s.weight k.weight h))

pub fed_at_fits : (l : List Float) (b w : ℕ) (decay : Float) (count : ℕ) (x dx : Float) → Fits binary64 l → Fits binary64 (fed_at l b w decay count x dx)
unfolding fed_at put_deviations fed
fed_at_fits l b w decay count x dx h =
    put_statistic_fits _ _ _ (step_fits _ _)
    (put_statistic_fits _ _ _ (step_fits _ _)
    (put_statistic_fits _ _ _ (step_fits _ _)
    (put_statistic_fits _ _ _ (step_fits _ _)
    (put_statistic_fits _ _ _ (step_fits _ _) h))))

pub channels_fed_fits : (n : ℕ) (l : List Float) (d : ℕ) (decay : Float) (count : ℕ) (x previous : List Float) → Fits binary64 l → Fits binary64 (channels_fed n l d decay count x previous)
unfolding channels_fed
channels_fed_fits zero l d decay count x previous h = h
channels_fed_fits (suc n) l d decay count x previous h = fed_at_fits _ n d decay count _ _ (channels_fed_fits n l d decay count x previous h)

pub updated_fits : (t : Transformer) (x previous : List Float) → Fits binary64 t.statistics → Fits binary64 (updated t x previous)
unfolding updated
updated_fits t x previous h = channels_fed_fits t.d t.statistics t.d t.decay t.count x previous h

-- ---- the answers: d numbers, which fit

pub transformed_length : (t : Transformer) (x previous : List Float) → length (transformed t x previous) ≡ t.d
unfolding transformed
transformed_length t x previous = tabulate_length t.d _

pub scales_length : (t : Transformer) → length (scales t) ≡ t.d
unfolding scales
scales_length t = tabulate_length t.d _

pub shifts_length : (t : Transformer) → length (shifts t) ≡ t.d
unfolding shifts
shifts_length t = tabulate_length t.d _

pub difference_deviations_length : (t : Transformer) → length (difference_deviations t) ≡ t.d
unfolding difference_deviations
difference_deviations_length t = tabulate_length t.d _

pub transform_by_fits : (m : TransformMethod) (t : Transformer) (i : ℕ) (x p : Float) → fit binary32 x → fit binary32 (transform_by m t i x p)
transform_by_fits NONE t i x p h = h
transform_by_fits WEIGHTED t i x p h = mul-fits binary32 _ _
transform_by_fits DIFFERENCE t i x p h = sub-fits binary32 _ _
transform_by_fits SUBTRACT_MA t i x p h = sub-fits binary32 _ _
transform_by_fits NORMALIZE t i x p h = div-fits binary32 _ _
transform_by_fits NORMALIZE_DIFFERENCE t i x p h = div-fits binary32 _ _

pub transformed_fits : (t : Transformer) (x previous : List Float) → Fits binary32 x → Fits binary32 (transformed t x previous)
unfolding transformed
transformed_fits t x previous h =
    all_tabulate (fit binary32) t.d _ (λ i. transform_by_fits t.method t i _ _ (all_get_d (fit binary32) x i nan (nan-fits binary32) h))
