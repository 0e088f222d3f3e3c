-- Feeding in passes is feeding channel by channel: what is done to the statistic at one place neither reads nor changes what stands at another.
use Prim.Native.Nat.{ℕ, zero, suc, ◌+◌, ◌*◌, ◌≤◌, ◌<◌}
use mathlib.Core.Bool.{Bool, true, false, cond}
use mathlib.Core.Path.{◌≡◌, refl, sym, ap, ◌∙◌}
use mathlib.Core.List.{List, map}
use native.Mathlib.Omega.{arith}
use native.Mathlib.Numerals.{add-one}
use borrow.Author.Tests.{ltb-true, ltb-false}
use lib.Dec.{ltb}
use lib.ListN.{length, get_or, set, length-set, get_or-map}
use lib.Seq.{get_or-set_same, get_or-set_other, set_comm}
use lib.Ieee.{Float, nan, binary64, of_bits, sub, mul, div, lt}
use Rattle.numeric.specs.Root.{root_of}
use Rattle.common.specs.declared.deviation.Deviation.{Deviation}
use Rattle.common.specs.Deviation.{zero64, statistic, step_of, is_empty, mean_of, deviation_of, root_above}
use Rattle.trcf.specs.Transformer.{statistic_at, put_statistic, deviations_at, put_deviations, fed, fed_at, slow_decay, channels_fed}
use Rattle.trcf.specs.Steps.Passes.{radicand_of, step_at, first_at, last_at, difference_of, firsts, radicands, lasts}

-- ---- one statistic written

pub put_other : (l : List Float) (n : ℕ) (s : Deviation) (p : ℕ) (dec : Float) (c : ℕ) → (p ≡ n → ⊥) → statistic_at (put_statistic l n s) p dec c ≡ statistic_at l p dec c
unfolding statistic_at put_statistic
put_other l n s p dec c away =
    let at : (k : ℕ) → (k ≡ 3 * n → ⊥) → (k ≡ 3 * n + 1 → ⊥) → (k ≡ 3 * n + 2 → ⊥)
    → get_or (set (set (set l (3 * n) s.weight) (3 * n + 1) s.sum) (3 * n + 2) s.sum_squared) k nan ≡ get_or l k nan =
    λ k x y z. get_or-set_other (set (set l (3 * n) s.weight) (3 * n + 1) s.sum) (3 * n + 2) k s.sum_squared nan z
    ∙ get_or-set_other (set l (3 * n) s.weight) (3 * n + 1) k s.sum nan y
    ∙ get_or-set_other l (3 * n) k s.weight nan x in
    λ j. statistic dec (at (3 * p) (λ e. away (omega arith)) (λ e. omega arith) (λ e. omega arith) j)
    (at (3 * p + 1) (λ e. omega arith) (λ e. away (omega arith)) (λ e. omega arith) j)
    (at (3 * p + 2) (λ e. omega arith) (λ e. omega arith) (λ e. away (omega arith)) j) c

-- a number written elsewhere may be written before
put_set : (l : List Float) (n : ℕ) (s : Deviation) (k : ℕ) (v : Float) → (3 * n ≡ k → ⊥) → (3 * n + 1 ≡ k → ⊥) → (3 * n + 2 ≡ k → ⊥)
    → set (put_statistic l n s) k v ≡ put_statistic (set l k v) n s
unfolding put_statistic
put_set l n s k v x y z =
    set_comm (set (set l (3 * n) s.weight) (3 * n + 1) s.sum) (3 * n + 2) k s.sum_squared v z
    ∙ ap (λ (q : List Float). set q (3 * n + 2) s.sum_squared) (set_comm (set l (3 * n) s.weight) (3 * n + 1) k s.sum v y)
    ∙ ap (λ (q : List Float). set (set q (3 * n + 1) s.sum) (3 * n + 2) s.sum_squared) (set_comm l (3 * n) k s.weight v x)

-- two statistics at different places may be written in either order
pub put_comm : (l : List Float) (n : ℕ) (s : Deviation) (m : ℕ) (t : Deviation) → (n ≡ m → ⊥) → put_statistic (put_statistic l n s) m t ≡ put_statistic (put_statistic l m t) n s
unfolding put_statistic
put_comm l n s m t away =
    let w = t.weight in
    let u = t.sum in
    let q = t.sum_squared in
    ap (λ (z : List Float). set (set z (3 * m + 1) u) (3 * m + 2) q) (put_set l n s (3 * m) w (λ e. away (omega arith)) (λ e. omega arith) (λ e. omega arith))
    ∙ ap (λ (z : List Float). set z (3 * m + 2) q) (put_set (set l (3 * m) w) n s (3 * m + 1) u (λ e. omega arith) (λ e. away (omega arith)) (λ e. omega arith))
    ∙ put_set (set (set l (3 * m) w) (3 * m + 1) u) n s (3 * m + 2) q (λ e. omega arith) (λ e. omega arith) (λ e. away (omega arith))

-- ---- one statistic fed

pub step_other : (l : List Float) (n : ℕ) (e : Float) (c : ℕ) (x : Float) (p : ℕ) (g : Float) → (p ≡ n → ⊥) → statistic_at (step_at l n e c x) p g c ≡ statistic_at l p g c
unfolding step_at
step_other l n e c x p g away = put_other l n (step_of (statistic_at l n e c) x) p g c away

step_comm : (l : List Float) (n : ℕ) (e x : Float) (m : ℕ) (g y : Float) (c : ℕ) → (n ≡ m → ⊥) → step_at (step_at l n e c x) m g c y ≡ step_at (step_at l m g c y) n e c x
unfolding step_at
step_comm l n e x m g y c away =
    let s = step_of (statistic_at l n e c) x in
    let t = step_of (statistic_at l m g c) y in
    ap (λ (z : Deviation). put_statistic (put_statistic l n s) m (step_of z y)) (put_other l n s m g c (λ q. away (sym q)))
    ∙ put_comm l n s m t away
    ∙ sym (ap (λ (z : Deviation). put_statistic (put_statistic l m t) n (step_of z x)) (put_other l m t n e c away))

-- ---- a channel, of d

module _ (d : ℕ) (decay : Float) (c : ℕ) where
  abbrev slow : Float
  slow = slow_decay decay

  last_other : (l : List Float) (j : ℕ) (y z : Float) (p : ℕ) (g : Float) → (p ≡ j + 2 * d → ⊥) → (p ≡ j + 4 * d → ⊥)
      → statistic_at (last_at l j d slow c y z) p g c ≡ statistic_at l p g c
  unfolding last_at
  last_other l j y z p g a b = step_other (step_at l (j + 2 * d) slow c y) (j + 4 * d) slow c z p g b ∙ step_other l (j + 2 * d) slow c y p g a

  step_last : (l : List Float) (j : ℕ) (y z : Float) (p : ℕ) (g x : Float) → (j + 2 * d ≡ p → ⊥) → (j + 4 * d ≡ p → ⊥)
      → step_at (last_at l j d slow c y z) p g c x ≡ last_at (step_at l p g c x) j d slow c y z
  unfolding last_at
  step_last l j y z p g x a b =
      step_comm (step_at l (j + 2 * d) slow c y) (j + 4 * d) slow z p g x c b
      ∙ ap (λ (q : List Float). step_at q (j + 4 * d) slow c z) (step_comm l (j + 2 * d) slow y p g x c a)

  first_other : (l : List Float) (i : ℕ) (x dx : Float) (p : ℕ) (g : Float) → (p ≡ i → ⊥) → (p ≡ i + d → ⊥) → (p ≡ i + 3 * d → ⊥)
      → statistic_at (first_at l i d decay c x dx) p g c ≡ statistic_at l p g c
  unfolding first_at
  first_other l i x dx p g a b k =
      let one = step_at l i decay c x in
      let two = step_at one (i + d) decay c dx in
      step_other two (i + 3 * d) slow c (mean_of (step_of (statistic_at one (i + d) decay c) dx)) p g k
      ∙ step_other one (i + d) decay c dx p g b
      ∙ step_other l i decay c x p g a

  -- the first pass of one channel and the last of another
  first_last : (l : List Float) (j : ℕ) (y z : Float) (i : ℕ) (x dx : Float) → i < d → j < d
      → first_at (last_at l j d slow c y z) i d decay c x dx ≡ last_at (first_at l i d decay c x dx) j d slow c y z
  unfolding first_at
  first_last l j y z i x dx h k =
      let one = step_at l i decay c x in
      let mean : List Float → Float = λ q. mean_of (step_of (statistic_at q (i + d) decay c) dx) in
      let m = mean one in
      let rest : List Float → List Float = λ q. step_at (step_at q (i + d) decay c dx) (i + 3 * d) slow c (mean q) in
      let same : mean (last_at one j d slow c y z) ≡ m =
      ap (λ (q : Deviation). mean_of (step_of q dx)) (last_other one j y z (i + d) decay (λ e. omega arith) (λ e. omega arith)) in
      ap rest (step_last l j y z i decay x (λ e. omega arith) (λ e. omega arith))
      ∙ ap (λ (q : Float). step_at (step_at (last_at one j d slow c y z) (i + d) decay c dx) (i + 3 * d) slow c q) same
      ∙ ap (λ (q : List Float). step_at q (i + 3 * d) slow c m) (step_last one j y z (i + d) decay dx (λ e. omega arith) (λ e. omega arith))
      ∙ step_last (step_at one (i + d) decay c dx) j y z (i + 3 * d) slow m (λ e. omega arith) (λ e. omega arith)

  -- all five in the definition's order are the first three, and then the two that take a root
  fed_first_last : (l : List Float) (i : ℕ) (x dx : Float) → 0 < d → fed_at l i d decay c x dx
      ≡ last_at (first_at l i d decay c x dx) i d slow c (deviation_of (step_of (statistic_at l i decay c) x)) (deviation_of (step_of (statistic_at l (i + d) decay c) dx))
  unfolding fed_at put_deviations fed deviations_at first_at last_at step_at
  fed_first_last l i x dx h =
      let a = step_of (statistic_at l i decay c) x in
      let b = step_of (statistic_at l (i + d) decay c) dx in
      let y = deviation_of a in
      let z = deviation_of b in
      let third = step_of (statistic_at l (i + 2 * d) slow c) y in
      let fourth = step_of (statistic_at l (i + 3 * d) slow c) (mean_of b) in
      let fifth = step_of (statistic_at l (i + 4 * d) slow c) z in
      let one = put_statistic l i a in
      let two = put_statistic one (i + d) b in
      let first = put_statistic two (i + 3 * d) fourth in
      let done = put_statistic first (i + 2 * d) third in
      let off_one : (p : ℕ) (g : Float) → (p ≡ i → ⊥) → statistic_at one p g c ≡ statistic_at l p g c = λ p g u. put_other l i a p g c u in
      let off_two : (p : ℕ) (g : Float) → (p ≡ i → ⊥) → (p ≡ i + d → ⊥) → statistic_at two p g c ≡ statistic_at l p g c =
      λ p g u v. put_other one (i + d) b p g c v ∙ off_one p g u in
      let B : step_of (statistic_at one (i + d) decay c) dx ≡ b = ap (λ (q : Deviation). step_of q dx) (off_one (i + d) decay (λ e. omega arith)) in
      let D : step_of (statistic_at two (i + 3 * d) slow c) (mean_of b) ≡ fourth =
      ap (λ (q : Deviation). step_of q (mean_of b)) (off_two (i + 3 * d) slow (λ e. omega arith) (λ e. omega arith)) in
      let C : step_of (statistic_at first (i + 2 * d) slow c) y ≡ third =
      ap (λ (q : Deviation). step_of q y)
      (put_other two (i + 3 * d) fourth (i + 2 * d) slow c (λ e. omega arith) ∙ off_two (i + 2 * d) slow (λ e. omega arith) (λ e. omega arith)) in
      let E : step_of (statistic_at done (i + 4 * d) slow c) z ≡ fifth =
      ap (λ (q : Deviation). step_of q z)
      (put_other first (i + 2 * d) third (i + 4 * d) slow c (λ e. omega arith)
      ∙ put_other two (i + 3 * d) fourth (i + 4 * d) slow c (λ e. omega arith)
      ∙ off_two (i + 4 * d) slow (λ e. omega arith) (λ e. omega arith)) in
      let last : List Float → List Float = λ q.
      let k = put_statistic q (i + 2 * d) (step_of (statistic_at q (i + 2 * d) slow c) y) in
      put_statistic k (i + 4 * d) (step_of (statistic_at k (i + 4 * d) slow c) z) in
      let front : Deviation → List Float = λ q.
      let k = put_statistic one (i + d) q in
      put_statistic k (i + 3 * d) (step_of (statistic_at k (i + 3 * d) slow c) (mean_of q)) in
      sym
      (ap (λ (q : Deviation). last (front q)) B
      ∙ ap (λ (q : Deviation). last (put_statistic two (i + 3 * d) q)) D
      ∙ ap
      (λ (q : Deviation).
      put_statistic (put_statistic first (i + 2 * d) q) (i + 4 * d) (step_of (statistic_at (put_statistic first (i + 2 * d) q) (i + 4 * d) slow c) z))
      C
      ∙ ap (λ (q : Deviation). put_statistic done (i + 4 * d) q) E
      ∙ ap (λ (q : List Float). put_statistic q (i + 4 * d) fifth) (put_comm two (i + 3 * d) fourth (i + 2 * d) third (λ e. omega arith)))

pub lasts_next : (n : ℕ) (l : List Float) (d : ℕ) (slow : Float) (c : ℕ) (r : List Float)
    → lasts (n + 1) l d slow c r ≡ last_at (lasts n l d slow c r) n d slow c (get_or r (2 * n) nan) (get_or r (2 * n + 1) nan)
unfolding lasts
lasts_next n l d slow c r = ap (λ (k : ℕ). lasts k l d slow c r) (add-one n)

-- ---- the root of the radicand

root_cond : (b e : Bool) (v : Float) → root_of (cond b zero64 (cond e v zero64)) ≡ cond b zero64 (cond e (root_of v) zero64)
unfolding root_of of_bits
root_cond true e v = refl
root_cond false true v = refl
root_cond false false v = refl

root_radicand : (s : Deviation) → root_of (radicand_of s) ≡ deviation_of s
unfolding radicand_of deviation_of root_above
root_radicand s =
    let m = div binary64 s.sum s.weight in
    let v = sub binary64 (div binary64 s.sum_squared s.weight) (mul binary64 m m) in
    root_cond (is_empty s) (lt zero64 v) v

-- ---- the passes, over readings x and previous

module _ (d : ℕ) (decay : Float) (c : ℕ) (x previous : List Float) where
  abbrev difference : ℕ → Float
  difference i = difference_of x previous i

  -- the first two statistics of channel i of the list l, when they are fed
  abbrev value_fed : List Float → ℕ → Deviation
  value_fed l i = step_of (statistic_at l i decay c) (get_or x i nan)

  abbrev difference_fed : List Float → ℕ → Deviation
  difference_fed l i = step_of (statistic_at l (i + d) decay c) (difference i)

  abbrev first : ℕ → List Float → List Float
  first n l = firsts n l d decay c x previous

  abbrev last : ℕ → List Float → List Float → List Float
  last n l r = lasts n l d (slow_decay decay) c r

  -- the first pass over n channels leaves the first two statistics of every later channel
  firsts_other : (n : ℕ) (l : List Float) (p : ℕ) → n ≤ d → (j : ℕ) → n ≤ j → j < d → (b : Bool) → p ≡ j + cond b d 0
      → statistic_at (first n l) p decay c ≡ statistic_at l p decay c
  unfolding firsts
  firsts_other zero l p h j u v b e = refl
  firsts_other (suc n) l p h j u v true e =
      first_other d decay c (first n l) n (get_or x n nan) (difference n) p decay (λ q. omega arith) (λ q. omega arith) (λ q. omega arith)
      ∙ firsts_other n l p (omega arith) j (omega arith) v true e
  firsts_other (suc n) l p h j u v false e =
      first_other d decay c (first n l) n (get_or x n nan) (difference n) p decay (λ q. omega arith) (λ q. omega arith) (λ q. omega arith)
      ∙ firsts_other n l p (omega arith) j (omega arith) v false e

  -- the last pass leaves the first two statistics of every channel
  lasts_other : (n : ℕ) (l r : List Float) (p : ℕ) → n ≤ d → p < 2 * d → statistic_at (last n l r) p decay c ≡ statistic_at l p decay c
  unfolding lasts
  lasts_other zero l r p h k = refl
  lasts_other (suc n) l r p h k =
      last_other d decay c (last n l r) n (get_or r (2 * n) nan) (get_or r (2 * n + 1) nan) p decay (λ q. omega arith) (λ q. omega arith)
      ∙ lasts_other n l r p (omega arith) k

  first_lasts : (n : ℕ) (l r : List Float) (i : ℕ) (v w : Float) → n ≤ d → i < d
      → first_at (last n l r) i d decay c v w ≡ last n (first_at l i d decay c v w) r
  unfolding lasts
  first_lasts zero l r i v w h k = refl
  first_lasts (suc n) l r i v w h k =
      first_last d decay c (last n l r) n (get_or r (2 * n) nan) (get_or r (2 * n + 1) nan) i v w k (omega arith)
      ∙ ap (λ (q : List Float). last_at q n d (slow_decay decay) c (get_or r (2 * n) nan) (get_or r (2 * n + 1) nan)) (first_lasts n l r i v w (omega arith) k)

  -- r holds the deviations of the first two statistics of n channels, once they are fed
  abbrev Roots : ℕ → List Float → List Float → Type 0
  Roots n l r = (j : ℕ) → j < n → (get_or r (2 * j) nan ≡ deviation_of (value_fed l j)) × (get_or r (2 * j + 1) nan ≡ deviation_of (difference_fed l j))

  passes : (n : ℕ) (l r : List Float) → n ≤ d → Roots n l r → channels_fed n l d decay c x previous ≡ last n (first n l) r
  unfolding channels_fed firsts lasts
  passes zero l r h k = refl
  passes (suc n) l r h k =
      let f = first n l in
      let g = last n f r in
      let v = get_or x n nan in
      let w = difference n in
      let slow = slow_decay decay in
      let same : (p : ℕ) (b : Bool) → p ≡ n + cond b d 0 → p < 2 * d → statistic_at g p decay c ≡ statistic_at l p decay c =
      λ p b e q. lasts_other n f r p (omega arith) q ∙ firsts_other n l p (omega arith) n (omega arith) (omega arith) b e in
      let y : deviation_of (step_of (statistic_at g n decay c) v) ≡ get_or r (2 * n) nan =
      ap (λ (q : Deviation). deviation_of (step_of q v)) (same n false (omega arith) (omega arith)) ∙ sym (k n (omega arith)).0 in
      let z : deviation_of (step_of (statistic_at g (n + d) decay c) w) ≡ get_or r (2 * n + 1) nan =
      ap (λ (q : Deviation). deviation_of (step_of q w)) (same (n + d) true refl (omega arith)) ∙ sym (k n (omega arith)).1 in
      ap (λ (q : List Float). fed_at q n d decay c v w) (passes n l r (omega arith) (λ j q. k j (omega arith)))
      ∙ fed_first_last d decay c g n v w (omega arith)
      ∙ ap
      (λ (q : List Float). last_at q n d slow c (deviation_of (step_of (statistic_at g n decay c) v)) (deviation_of (step_of (statistic_at g (n + d) decay c) w)))
      (first_lasts n f r n v w (omega arith) (omega arith))
      ∙ (λ t. last_at (last n (first_at f n d decay c v w) r) n d slow c (y t) (z t))

  -- ---- the radicands that the first pass leaves, and their roots

  noted_length : (n : ℕ) (a l : List Float) → length (radicands n a l d decay c x previous) ≡ length a
  unfolding radicands
  noted_length zero a l = refl
  noted_length (suc n) a l = simp (length-set, noted_length n a l)

  noted_at : (n : ℕ) (a l : List Float) → n ≤ d → 2 * n ≤ length a → (j : ℕ) → j < n
      → (get_or (radicands n a l d decay c x previous) (2 * j) nan ≡ radicand_of (value_fed l j))
      × (get_or (radicands n a l d decay c x previous) (2 * j + 1) nan ≡ radicand_of (difference_fed l j))
  unfolding radicands
  noted_at zero a l h k j i = absurd (omega arith)
  noted_at (suc n) a l h k j i = by (ltb j n) refl (λ q. noted_at n a l (omega arith) (omega arith) j q)
    where
      before : List Float
      before = radicands n a l d decay c x previous

      s : List Float
      s = first n l

      one : Float
      one = radicand_of (value_fed s n)

      two : Float
      two = radicand_of (difference_fed s n)

      now : List Float
      now = set (set before (2 * n) one) (2 * n + 1) two

      Here : List Float → Type 0
      Here q = (get_or q (2 * j) nan ≡ radicand_of (value_fed l j)) × (get_or q (2 * j + 1) nan ≡ radicand_of (difference_fed l j))

      by : (b : Bool) → ltb j n ≡ b → (j < n → Here before) → Here now
      by true t again =
          let q = ltb-true j n t in
          let r = again q in (
            get_or-set_other (set before (2 * n) one) (2 * n + 1) (2 * j) two nan (λ e. omega arith) ∙ get_or-set_other before (2 * n) (2 * j) one nan (λ e. omega arith) ∙ r.0,
            get_or-set_other (set before (2 * n) one) (2 * n + 1) (2 * j + 1) two nan (λ e. omega arith)
                ∙ get_or-set_other before (2 * n) (2 * j + 1) one nan (λ e. omega arith)
                ∙ r.1,
          )
      by false t again =
          let q = ltb-false j n t in
          let e : j ≡ n = omega arith in
          let m : length before ≡ length a = noted_length n a l in
          let lm : length (set before (2 * n) one) ≡ length a = length-set before (2 * n) one ∙ m in
          let v : statistic_at s n decay c ≡ statistic_at l n decay c = firsts_other n l n (omega arith) n (omega arith) (omega arith) false (omega arith) in
          let w : statistic_at s (n + d) decay c ≡ statistic_at l (n + d) decay c = firsts_other n l (n + d) (omega arith) n (omega arith) (omega arith) true refl in (
            ap (λ (p : ℕ). get_or now (2 * p) nan) e
                ∙ get_or-set_other (set before (2 * n) one) (2 * n + 1) (2 * n) two nan (λ z. omega arith)
                ∙ get_or-set_same before (2 * n) one nan (omega arith)
                ∙ ap (λ (p : Deviation). radicand_of (step_of p (get_or x n nan))) v
                ∙ ap (λ (p : ℕ). radicand_of (value_fed l p)) (sym e),
            ap (λ (p : ℕ). get_or now (2 * p + 1) nan) e
                ∙ get_or-set_same (set before (2 * n) one) (2 * n + 1) two nan (omega arith)
                ∙ ap (λ (p : Deviation). radicand_of (step_of p (difference n))) w
                ∙ ap (λ (p : ℕ). radicand_of (difference_fed l p)) (sym e),
          )

  -- one channel more, as a loop counts
  pub noted_next : (n : ℕ) (a l : List Float) → radicands (n + 1) a l d decay c x previous
      ≡ set (set (radicands n a l d decay c x previous) (2 * n) (radicand_of (value_fed (first n l) n))) (2 * n + 1) (radicand_of (difference_fed (first n l) n))
  unfolding radicands
  noted_next n a l = ap (λ (k : ℕ). radicands k a l d decay c x previous) (add-one n)

  -- what the three passes make
  pub fed_in_passes : (a l : List Float) → 2 * d ≤ length a
      → channels_fed d l d decay c x previous ≡ last d (first d l) (map root_of (radicands d a l d decay c x previous))
  unfolding root_of
  fed_in_passes a l h =
      let m = radicands d a l d decay c x previous in
      passes d l (map root_of m) (omega arith)
      (λ j k.
      let q = noted_at d a l (omega arith) h j k in (
        get_or-map root_of m (2 * j) nan ∙ ap root_of q.0 ∙ root_radicand (value_fed l j),
        get_or-map root_of m (2 * j + 1) nan ∙ ap root_of q.1 ∙ root_radicand (difference_fed l j),
      ))
