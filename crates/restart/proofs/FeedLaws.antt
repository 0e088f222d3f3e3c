-- What the proofs ask of the arithmetic: feeding keeps the length and gives f64s; a transformed reading has the block's length and is made of f32s.
use Prim.Native.Nat.{ℕ, ◌+◌, ◌*◌}
use mathlib.Core.Path.{◌≡◌, refl, ◌∙◌}
use mathlib.Core.Bool.{Bool, true, false, cond}
use mathlib.Core.List.{List, [], ◌∷◌}
use lib.Dec.{T, eqb}
use lib.ListN.{length, length-append}
use lib.Ieee.{Float, binary32, binary64, fits}
use Rattle.trcf.specs.Fit.{Fits}
use Rattle.trcf.specs.Types.{augments}
use Rattle.trcf.specs.Transformer.{transformed}
use Rattle.trcf.specs.Settings.{Settings, transformer, block}
use Rattle.trcf.specs.Preprocessor.{Reading, time_fed, feed, time_element, transformed_after}
use Rattle.trcf.proofs.FitLaws.{all_append, narrowed_fits}
use Rattle.trcf.proofs.TransformerLaws.{fed_at_length, updated_length, fed_at_fits, updated_fits, transformed_length, transformed_fits}

pub feed_length : (s : Settings) (count : ℕ) (st : List Float) (p r : Reading) → length (feed s count st p r) ≡ length st
unfolding feed time_fed
feed_length s count st p r = fed_at_length _ (5 * s.d) 1 s.decay count _ _ ∙ updated_length (transformer s count st) r.value p.value

pub feed_fits_lem : (s : Settings) (count : ℕ) (st : List Float) (p r : Reading) → Fits binary64 st → Fits binary64 (feed s count st p r)
unfolding feed time_fed
feed_fits_lem s count st p r h = fed_at_fits _ (5 * s.d) 1 s.decay count _ _ (updated_fits (transformer s count st) r.value p.value h)

-- the time after a block
time_length : (b : Bool) (x : Float) → length (cond b (x ∷ []) []) ≡ cond b 1 0
time_length true x = refl
time_length false x = refl

time_fits_lem : (b : Bool) (x : Float) → T (fits binary32 x) → Fits binary32 (cond b (x ∷ []) [])
time_fits_lem true x h = (h, tt)
time_fits_lem false x h = tt

pub transformed_after_length : (s : Settings) (st : List Float) (seen : ℕ) (p r : Reading) → length (transformed_after s st seen p r) ≡ block s
unfolding transformed_after block
transformed_after_length s st seen p r =
    length-append (transformed (transformer s 0 st) r.value p.value) _
    ∙ (λ i. transformed_length (transformer s 0 st) r.value p.value i + time_length (augments s.mode) (time_element s st r.time (cond (eqb seen 0) r.time p.time)) i)

pub transformed_after_fits : (s : Settings) (st : List Float) (seen : ℕ) (p r : Reading) → Fits binary32 r.value → Fits binary32 (transformed_after s st seen p r)
unfolding transformed_after time_element
transformed_after_fits s st seen p r h =
    all_append _ (transformed (transformer s 0 st) r.value p.value) _ (transformed_fits (transformer s 0 st) r.value p.value h)
    (time_fits_lem (augments s.mode) _ (narrowed_fits _))
