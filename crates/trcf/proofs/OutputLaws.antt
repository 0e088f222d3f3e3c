-- What the calls write: an answer over lent memory, the time's number after the channels', and answers that no count enters.
-- Assumes nothing.
use Prim.Native.Nat.{ℕ, suc, ◌+◌, ◌-◌, ◌≤◌, ◌<◌}
use mathlib.Core.Path.{◌≡◌, refl, sym, ap, ◌∙◌}
use mathlib.Core.Bool.{Bool, true, false, cond}
use mathlib.Core.List.{List, [], ◌∷◌, ◌++◌, append_assoc}
use native.Mathlib.Omega.{arith}
use lib.ListN.{length, get_or, set, take, drop, length-append, length-drop}
use lib.Seq.{drop-cons, set_at, take_all}
use lib.Ieee.{Float, nan}
use Rattle.refusal.specs.Lent.{over}
use Rattle.trcf.specs.Lists.{tabulate, last_n}
use Rattle.trcf.specs.Types.{augments}
use Rattle.trcf.specs.Transformer.{Transformer, transform_by, transformed, invert_by, inverted, scales, shifts, difference_deviations, unweighted, weight_at, basic_shift, normalized_scale}
use Rattle.trcf.specs.TransformerCalls.{transformer_view as viewTransformer}
use Rattle.trcf.specs.Settings.{Settings, transformer, block}
use Rattle.trcf.specs.Preprocessor.{with_time}
use Rattle.trcf.specs.View.{settings_of}
use Rattle.trcf.specs.declared.types.TransformMethod.{TransformMethod}
use Rattle.trcf.specs.declared.types.TransformMethod.TheVariants.{NONE, WEIGHTED, DIFFERENCE, SUBTRACT_MA, NORMALIZE, NORMALIZE_DIFFERENCE}
use Rattle.trcf.specs.declared.head.Preprocessor.{Preprocessor}

-- ---- one number more after an answer

module _ {A : Type 0} where
  pub over_snoc : (l v : List A) (n : ℕ) (e : A) → length v ≡ n → n < length l → set (over l v) n e ≡ over l (v ++ (e ∷ []))
  unfolding over
  over_snoc l v n e k h =
      let y = get_or l n e in
      let a : drop (length v) l ≡ y ∷ drop (suc n) l = rw k (drop-cons l n e h) in
      let b : length (v ++ (e ∷ [])) ≡ suc n = omega (arith, length-append v (e ∷ [])) in
      rw (a, b) (set_at v y (drop (suc n) l) e n k ∙ sym (append_assoc v (e ∷ []) (drop (suc n) l)))

  append_nothing : (l : List A) → l ++ [] ≡ l
  append_nothing [] = refl
  append_nothing (x ∷ l) = ap (λ (q : List A). x ∷ q) (append_nothing l)

pub timed : (s : Settings) (out v w : List Float) (x : Float) → v ≡ w → length w ≡ s.d → augments s.mode ≡ true → s.d < length out
    → set (over out v) s.d x ≡ over out (with_time s w x)
timed s out v w x e k a h =
    ap (λ (q : List Float). set (over out q) s.d x) e
    ∙ over_snoc out w s.d x k h
    ∙ ap (λ (b : Bool). over out (w ++ cond b (x ∷ []) [])) (sym a)

pub untimed : (s : Settings) (out v w : List Float) (x : Float) → v ≡ w → augments s.mode ≡ false → over out v ≡ over out (with_time s w x)
untimed s out v w x e a =
    ap (over out) (e ∙ sym (append_nothing w)) ∙ ap (λ (b : Bool). over out (w ++ cond b (x ∷ []) [])) (sym a)

-- ---- the count does not enter

abbrev made : TransformMethod → ℕ → Float → List Float → ℕ → List Float → Transformer
made m d decay ws n st = record { method = m; d = d; decay = decay; weights = ws; count = n; statistics = st }

module _ (m : TransformMethod) (d : ℕ) (decay : Float) (ws : List Float) (st : List Float) (a b i : ℕ) where
  transform_by_free : (o : TransformMethod) (x p : Float) → transform_by o (made m d decay ws a st) i x p ≡ transform_by o (made m d decay ws b st) i x p
  unfolding weight_at basic_shift normalized_scale
  transform_by_free NONE x p = refl
  transform_by_free WEIGHTED x p = refl
  transform_by_free DIFFERENCE x p = refl
  transform_by_free SUBTRACT_MA x p = refl
  transform_by_free NORMALIZE x p = refl
  transform_by_free NORMALIZE_DIFFERENCE x p = refl

  invert_by_free : (o : TransformMethod) (x p : Float) → invert_by o (made m d decay ws a st) i x p ≡ invert_by o (made m d decay ws b st) i x p
  unfolding weight_at basic_shift normalized_scale
  invert_by_free NONE x p = refl
  invert_by_free WEIGHTED x p = refl
  invert_by_free DIFFERENCE x p = refl
  invert_by_free SUBTRACT_MA x p = refl
  invert_by_free NORMALIZE x p = refl
  invert_by_free NORMALIZE_DIFFERENCE x p = refl

module _ (h : Preprocessor) (st : List Float) where
  pub scales_free : scales (viewTransformer h.transformer st) ≡ scales (transformer (settings_of h) 0 st)
  unfolding scales weight_at normalized_scale
  scales_free = refl

  pub shifts_free : shifts (viewTransformer h.transformer st) ≡ shifts (transformer (settings_of h) 0 st)
  unfolding shifts basic_shift
  shifts_free = refl

  pub deviations_free : difference_deviations (viewTransformer h.transformer st) ≡ difference_deviations (transformer (settings_of h) 0 st)
  unfolding difference_deviations
  deviations_free = refl

  pub transformed_free : (x p : List Float) → transformed (viewTransformer h.transformer st) x p ≡ transformed (transformer (settings_of h) 0 st) x p
  unfolding transformed
  transformed_free x p =
      let t = h.transformer in
      λ j. tabulate t.input_length (λ i. transform_by_free t.transform_method t.input_length t.transform_decay (take t.input_length t.weights) st t.count 0 i
      t.transform_method (get_or x i nan) (get_or p i nan) j)

  pub inverted_free : (x p : List Float) → inverted (viewTransformer h.transformer st) x p ≡ inverted (transformer (settings_of h) 0 st) x p
  unfolding inverted weight_at
  inverted_free x p =
      let t = h.transformer in
      λ j. tabulate t.input_length (λ i. invert_by_free t.transform_method t.input_length t.transform_decay (take t.input_length t.weights) st t.count 0 i
      t.transform_method (unweighted (get_or (take t.input_length t.weights) i nan) (get_or x i nan)) (get_or p i nan) j)

-- ---- the newest input

pub newest_part : (l : List Float) (d : ℕ) → d ≤ length l → take (length l - (length l - d)) (drop (length l - d) l) ≡ last_n d l
unfolding last_n
newest_part l d h = take_all (length l - (length l - d)) (drop (length l - d) l) (omega (arith, length-drop (length l - d) l))

pub block_augmented : (s : Settings) → augments s.mode ≡ true → block s ≡ s.d + 1
unfolding block
block_augmented s a = rw a
