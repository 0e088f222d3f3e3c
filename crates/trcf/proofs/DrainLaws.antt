-- Laws of the drain: the readings that are left, a turn of each pass, and what is laid back. Assumes nothing.
use Prim.Native.Nat.{ℕ, suc, ◌+◌, ◌-◌, ◌*◌, ◌≤◌, ◌<◌}
use mathlib.Core.Path.{◌≡◌, refl, sym, ap, ◌∙◌}
use mathlib.Core.Bool.{Bool, true, false, cond}
use mathlib.Core.List.{List, [], ◌∷◌}
use native.Mathlib.Omega.{arith}
use native.Mathlib.Nat.{zero-mul, suc-mul, mul-le-mul, le_refl, le-mul_of_pos_right}
use lib.Dec.{eqb}
use lib.ListN.{length, get_or, take, drop, length-append, drop_of_length-le}
use lib.Seq.{drop-cons, drop-drop, take_at}
use lib.Ieee.{Float}
use Rattle.refusal.specs.Lent.{over}
use Rattle.trcf.specs.Lists.{shift_in, overwrite}
use Rattle.trcf.specs.Types.{augments}
use Rattle.trcf.specs.Transformer.{transformed}
use Rattle.trcf.specs.Settings.{Settings, transformer, block, dimension}
use Rattle.trcf.specs.Preprocessor.{State, Reading, reading, feed, feed_all, blocks, drain_one, drain_each, drain_all, primed, previous, transformed_after, time_element}
use Rattle.trcf.specs.View.{settings_of, holding}
use Rattle.trcf.specs.Steps.Learning.{shingling, reading_at}
use Rattle.trcf.specs.declared.head.Preprocessor.{Preprocessor}
use Rattle.trcf.proofs.TransformerLaws.{transformed_length}

-- the readings from i on
abbrev pub left : ℕ → List Float → List ℕ → ℕ → List Reading
left d v ts i = blocks d (drop (i * d) v) (drop i ts)

pub left_all : (d : ℕ) (v : List Float) (ts : List ℕ) → left d v ts 0 ≡ blocks d v ts
left_all d v ts = ap (λ (k : ℕ). blocks d (drop k v) ts) (zero-mul d)

pub left_none : (d : ℕ) (v : List Float) (ts : List ℕ) (i : ℕ) → length ts ≤ i → left d v ts i ≡ []
left_none d v ts i h = ap (λ (q : List ℕ). blocks d (drop (i * d) v) q) (drop_of_length-le ts h)

pub left_more : (d : ℕ) (v : List Float) (ts : List ℕ) (i : ℕ) → i < length ts → left d v ts i ≡ reading_at d v ts i ∷ left d v ts (suc i)
left_more d v ts i h =
    let e : i * d + d ≡ suc i * d = sym (suc-mul i d) in
    ap (λ (q : List ℕ). blocks d (drop (i * d) v) q) (drop-cons ts i 0 h)
    ∙ ap (λ (q : List Float). reading_at d v ts i ∷ blocks d q (drop (suc i) ts)) (drop-drop d (i * d) v ∙ ap (λ (k : ℕ). drop k v) e)

module _ (s : Settings) (d : ℕ) (v : List Float) (ts : List ℕ) (i : ℕ) (more : i < length ts) where
  -- a turn of the first pass
  pub feed_more : (c : ℕ) (st : List Float) (p : Reading)
      → feed_all s c st p (left d v ts i) ≡ feed_all s (suc c) (feed s c st p (reading_at d v ts i)) (reading_at d v ts i) (left d v ts (suc i))
  feed_more c st p = ap (feed_all s c st p) (left_more d v ts i more)

  -- a turn of the second
  pub drain_more : (w : State) → drain_each w (left d v ts i) ≡ drain_each (drain_one w (reading_at d v ts i)) (left d v ts (suc i))
  drain_more w = ap (drain_each w) (left_more d v ts i more)

pub first_of : (d : ℕ) (v : List Float) (ts : List ℕ) → 0 < length ts → blocks d v ts ≡ reading_at d v ts 0 ∷ left d v ts 1
first_of d v ts h = sym (left_all d v ts) ∙ left_more d v ts 0 h

pub blocks_length : (d : ℕ) (v : List Float) (ts : List ℕ) → length (blocks d v ts) ≡ length ts
blocks_length d v [] = refl
blocks_length d v (t ∷ ts) = ap suc (blocks_length d (drop d v) ts)

-- ---- a turn of each pass, as the program makes it

pub feed_again : (s : Settings) (d : ℕ) (v : List Float) (ts : List ℕ) (i c : ℕ) (st st' : List Float) → i < length ts
    → st' ≡ feed s (c + i) st (reading_at d v ts (i - 1)) (reading_at d v ts i)
    → feed_all s (c + i) st (reading_at d v ts (i - 1)) (left d v ts i) ≡ feed_all s (c + (i + 1)) st' (reading_at d v ts (i + 1 - 1)) (left d v ts (i + 1))
feed_again s d v ts i c st st' h e =
    let a : suc (c + i) ≡ c + (i + 1) = omega arith in
    let b : i ≡ i + 1 - 1 = omega arith in
    let k : suc i ≡ i + 1 = omega arith in
    feed_more s d v ts i h (c + i) st (reading_at d v ts (i - 1))
    ∙ ap (λ (q : List Float). feed_all s (suc (c + i)) q (reading_at d v ts i) (left d v ts (suc i))) (sym e)
    ∙ ap (λ (n : ℕ). feed_all s n st' (reading_at d v ts i) (left d v ts (suc i))) a
    ∙ ap (λ (n : ℕ). feed_all s (c + (i + 1)) st' (reading_at d v ts n) (left d v ts (suc i))) b
    ∙ ap (λ (n : ℕ). feed_all s (c + (i + 1)) st' (reading_at d v ts (i + 1 - 1)) (left d v ts n)) k

drained_turn : (h : Preprocessor) (n : ℕ) (s x p : List Float) (ts : List ℕ) (m : ℕ) (r : Reading)
    → drain_one (shingling h n s x p ts m) r
    ≡ shingling h n s (shift_in x r.value) (shift_in p (transformed_after (settings_of h) s h.values_seen (previous (holding h s x ts)) r)) (shift_in ts (r.time ∷ [])) (suc m)
unfolding drain_one previous
drained_turn h n s x p ts m r = refl

pub drain_again : (h : Preprocessor) (n : ℕ) (s x p : List Float) (ts : List ℕ) (s' x' p' : List Float) (ts' : List ℕ) (d : ℕ) (v : List Float) (us : List ℕ) (i m : ℕ) → i < length us
    → s' ≡ s
    → x' ≡ shift_in x (reading_at d v us i).value
    → p' ≡ shift_in p (transformed_after (settings_of h) s' h.values_seen (previous (holding h s' x ts)) (reading_at d v us i))
    → ts' ≡ shift_in ts (get_or us i 0 ∷ [])
    → drain_each (shingling h n s x p ts (m + i)) (left d v us i) ≡ drain_each (shingling h n s x' p' ts' (m + (i + 1))) (left d v us (i + 1))
drain_again h n s x p ts s' x' p' ts' d v us i m k es ex ep et =
    let a : suc (m + i) ≡ m + (i + 1) = omega arith in
    let b : suc i ≡ i + 1 = omega arith in
    let f : p' ≡ shift_in p (transformed_after (settings_of h) s h.values_seen (previous (holding h s x ts)) (reading_at d v us i)) = ep ∙ ap
    (λ (q : List Float). shift_in p (transformed_after (settings_of h) q h.values_seen (previous (holding h q x ts)) (reading_at d v us i))) es in
    drain_more (settings_of h) d v us i k (shingling h n s x p ts (m + i))
    ∙ ap (λ (w : State). drain_each w (left d v us (suc i))) (drained_turn h n s x p ts (m + i) (reading_at d v us i))
    ∙ (λ j. drain_each (shingling h n s (sym ex j) (sym f j) (sym et j) (a j)) (left d v us (b j)))

-- ---- both passes

first_value : (d : ℕ) (v : List Float) → take d v ≡ take d (drop (0 * d) v)
first_value d v = ap (λ (k : ℕ). take d (drop k v)) (sym (zero-mul d))

pub drain_both : (h : Preprocessor) (s x p : List Float) (ts : List ℕ) (m : ℕ) (x' : List Float) (ts' : List ℕ) (v : List Float) (us : List ℕ) → 0 < length us
    → x' ≡ overwrite x (take h.transformer.input_length v)
    → ts' ≡ overwrite ts (get_or us 0 0 ∷ [])
    → drain_each (shingling h (h.transformer.count + length us) (feed_all (settings_of h) h.transformer.count s (reading_at h.transformer.input_length v us 0)
    (blocks h.transformer.input_length v us)) x' p ts' m) (blocks h.transformer.input_length v us)
    ≡ drain_all (shingling h h.transformer.count s x p ts m) (blocks h.transformer.input_length v us)
unfolding primed drain_all
drain_both h s x p ts m x' ts' v us k ex et =
    let d = h.transformer.input_length in
    let c = h.transformer.count in
    let w = shingling h c s x p ts m in
    let b = first_of d v us k in
    let r = reading_at d v us 0 in
    let e : c + length us ≡ c + length (blocks d v us) = omega (arith, blocks_length d v us) in
    (λ j. drain_each (shingling h (e j) (feed_all (settings_of h) c s r (blocks d v us)) ((ex ∙ ap (overwrite x) (first_value d v)) j) p (et j) m) (blocks d v us))
    ∙ ap (λ (q : List Reading). drain_each (primed w r q) q) b
    ∙ ap (drain_all w) (sym b)

-- ---- parts

pub front_over : {A : Type 0} (l v : List A) (n : ℕ) → length v ≡ n → take n (over l v) ≡ v
unfolding over
front_over l v n e = take_at v (drop (length v) l) n e

one_or_none : (b : Bool) (x : Float) → length (cond b (x ∷ []) []) ≡ cond b 1 0
one_or_none true x = refl
one_or_none false x = refl

pub transformed_after_length : (s : Settings) (st : List Float) (seen : ℕ) (p r : Reading) → length (transformed_after s st seen p r) ≡ block s
unfolding transformed_after block
transformed_after_length s st seen p r =
    let t = transformed (transformer s 0 st) r.value p.value in
    let x = time_element s st r.time (cond (eqb seen 0) r.time p.time) in
    length-append t (cond (augments s.mode) (x ∷ []) [])
    ∙ ap (λ (k : ℕ). k + length (cond (augments s.mode) (x ∷ []) [])) (transformed_length (transformer s 0 st) r.value p.value)
    ∙ ap (λ (k : ℕ). s.d + k) (one_or_none (augments s.mode) x)

pub block_in : (i n d : ℕ) → i < n → i * d + d ≤ n * d
block_in i n d h = rw (← suc-mul i d) (mul-le-mul h (le_refl d))

-- a block of the flat list, as the program cuts it
pub block_cut : (i d : ℕ) (v : List Float) → take (i * d + d - i * d) (drop (i * d) v) ≡ take d (drop (i * d) v)
block_cut i d v =
    let e : i * d + d - i * d ≡ d = omega arith in
    ap (λ (n : ℕ). take n (drop (i * d) v)) e

pub feed_cut : (s : Settings) (c : ℕ) (st : List Float) (d : ℕ) (v : List Float) (ts : List ℕ) (p i : ℕ) → p ≡ i - 1
    → feed s c st (reading (take (p * d + d - p * d) (drop (p * d) v)) (get_or ts p 0)) (reading (take (i * d + d - i * d) (drop (i * d) v)) (get_or ts i 0))
    ≡ feed s c st (reading_at d v ts (i - 1)) (reading_at d v ts i)
feed_cut s c st d v ts p i e =
    (λ j. feed s c st (reading (block_cut p d v j) (get_or ts p 0)) (reading (block_cut i d v j) (get_or ts i 0)))
    ∙ ap (λ (k : ℕ). feed s c st (reading_at d v ts k) (reading_at d v ts i)) e

pub point_cut : (s : Settings) (st : List Float) (seen : ℕ) (p : Reading) (d : ℕ) (v : List Float) (i y : ℕ) (z z' q : List Float) (b : ℕ) → b ≡ block s
    → z' ≡ over z (transformed_after s st seen p (reading (take (i * d + d - i * d) (drop (i * d) v)) y))
    → shift_in q (take b z') ≡ shift_in q (transformed_after s st seen p (reading (take d (drop (i * d) v)) y))
point_cut s st seen p d v i y z z' q b e k =
    let r = reading (take (i * d + d - i * d) (drop (i * d) v)) y in
    ap (λ (u : List Float). shift_in q (take b u)) k
    ∙ ap (shift_in q) (front_over z (transformed_after s st seen p r) b (transformed_after_length s st seen p r ∙ sym e))
    ∙ ap (λ (u : List Float). shift_in q (transformed_after s st seen p (reading u y))) (block_cut i d v)

pub block_is : (s : Settings) → block s ≡ s.d + cond (augments s.mode) 1 0
unfolding block
block_is s = refl

pub dimension_is : (s : Settings) → dimension s ≡ block s * s.k
unfolding dimension
dimension_is s = refl

pub block_fits : (s : Settings) → 0 < s.k → block s ≤ dimension s
unfolding dimension
block_fits s h = le-mul_of_pos_right (block s) h
