-- Laws of filling in: gaps, channels, all of them. Assumes nothing.
use Prim.Native.Nat.{ℕ, zero, suc, ◌+◌, ◌-◌, ◌*◌, ◌/◌, ◌%◌, ◌≤◌, ◌<◌}
use mathlib.Core.Bool.{Bool, true, false, cond}
use mathlib.Core.List.{List}
use mathlib.Core.Path.{◌≡◌, refl, sym, ap, ◌∙◌, subst}
use native.Mathlib.Numerals.{add-one}
use native.Mathlib.Omega.{arith}
use native.Mathlib.Nat.{mod-lt, div-lt_iff_lt-mul}
use borrow.Author.Tests.{eqb-true, eqb-false, ltb-true, ltb-false, leb-true, leb-false, lt-ltb, le-ltb}
use lib.Dec.{ltb, leb, eqb}
use lib.ListN.{length, get_or, set, length-set, get_or-eq_default}
use lib.Seq.{get_or-set_same, get_or-set_other}
use lib.Ieee.{Float, nan}
use Rattle.series.specs.declared.imputation.ImputationMethod.{ImputationMethod}
use Rattle.std.specs.Prelude.{Option, Some, None}
use Rattle.series.specs.declared.imputation.Present.{Present}
use Rattle.series.specs.declared.imputation.Channel.{Channel}
use Rattle.series.specs.declared.imputation.Gap.{Gap}
use Rattle.series.specs.Imputation.{is_present, present_at, nearest_before, nearest_from, fill_of, present_in, cell_in, missing_of, imputed_at, by_place, imputed}
use Rattle.series.specs.Steps.ImputationSteps.{Under, Above, inside, gap_at, gap_of, gap_from, Passed, passing, passed_of, channel, done_at, channel_of, below_at}
use Rattle.series.proofs.ImputationLists.{cond_same, cond_on, cond_off, length_by_place, get_d_by_place, is_by_place}
use Rattle.series.proofs.ImputationLists.{place_channel, place_reading, place_of, inside_yes, inside_off, inside_low, inside_high}

-- ---- before and after

pub under_more : (n : Option Present) (i j : ℕ) → Under n i → i ≤ j → Under n j
under_more (Some p) i j h k = omega arith
under_more None i j h k = tt

pub above_less : (n : Option Present) (i j : ℕ) → Above n j → i ≤ j → Above n i
above_less (Some p) i j h k = omega arith
above_less None i j h k = tt

-- ---- a turn of the loop over a gap

-- the readings s .. j − 1 of the channel and the places of the reading j: they differ at one place
inside_more : (d c s j k : ℕ) → (k ≡ j * d + c → ⊥) → inside d c s (j + 1) k ≡ inside d c s j k
inside_more d c s j k h = by_channel (eqb (k % d) c) refl
  where
    by_low : k % d ≡ c → k / d < j → (b : Bool) → ltb (k / d) s ≡ b → inside d c s (j + 1) k ≡ inside d c s j k
    by_low e g true t =
        let l : k / d < s = ltb-true (k / d) s t in
        inside_low d c s (j + 1) k l ∙ sym (inside_low d c s j k l)
    by_low e g false t =
        let l : s ≤ k / d = ltb-false (k / d) s t in
        inside_yes d c s (j + 1) k e l (omega arith) ∙ sym (inside_yes d c s j k e l g)

    by_high : k % d ≡ c → (b : Bool) → ltb (k / d) j ≡ b → inside d c s (j + 1) k ≡ inside d c s j k
    by_high e true t = by_low e (ltb-true (k / d) j t) (ltb (k / d) s) refl
    by_high e false t =
        let l : j ≤ k / d = ltb-false (k / d) j t in
        let n : k / d ≡ j → ⊥ = λ q. h (sym (place_of d c k e) ∙ ap (λ (x : ℕ). x * d + c) q) in
        let m : j + 1 ≤ k / d = omega arith in
        inside_high d c s (j + 1) k m ∙ sym (inside_high d c s j k l)

    by_channel : (b : Bool) → eqb (k % d) c ≡ b → inside d c s (j + 1) k ≡ inside d c s j k
    by_channel true t = by_high (eqb-true (k % d) c t) (ltb (k / d) j) refl
    by_channel false t = inside_off d c s (j + 1) k (eqb-false (k % d) c t) ∙ sym (inside_off d c s j k (eqb-false (k % d) c t))

inside_none : (d c s k : ℕ) → inside d c s s k ≡ false
inside_none d c s k = by (ltb (k / d) s) refl
  where
    by : (b : Bool) → ltb (k / d) s ≡ b → inside d c s s k ≡ false
    by true t = inside_low d c s s k (ltb-true (k / d) s t)
    by false t = inside_high d c s s k (ltb-false (k / d) s t)

module _ (ch : Channel) (gap : Gap) (end : ℕ) (after : Option Present) (k : ℕ) (x : Float) where
  gap_in : inside ch.d ch.c gap.start end k ≡ true → gap_at ch gap end after k x ≡ fill_of ch.method gap.before after (k / ch.d) ch.fixed
  unfolding gap_at
  gap_in e = cond_on (fill_of ch.method gap.before after (k / ch.d) ch.fixed) x (inside ch.d ch.c gap.start end k) e

  gap_out : inside ch.d ch.c gap.start end k ≡ false → gap_at ch gap end after k x ≡ x
  unfolding gap_at
  gap_out e = cond_off (fill_of ch.method gap.before after (k / ch.d) ch.fixed) x (inside ch.d ch.c gap.start end k) e

-- reading j changes nothing at any other place
gap_same : (ch : Channel) (gap : Gap) (j : ℕ) (after : Option Present) (k : ℕ) (x : Float) → (k ≡ j * ch.d + ch.c → ⊥)
    → gap_at ch gap j after k x ≡ gap_at ch gap (j + 1) after k x
unfolding gap_at
gap_same ch gap j after k x h =
    ap (λ (b : Bool). cond b (fill_of ch.method gap.before after (k / ch.d) ch.fixed) x)
    (sym (inside_more ch.d ch.c gap.start j k h))

pub gap_start : (ch : Channel) (gap : Gap) (after : Option Present) (l : List Float) → l ≡ gap_of ch gap gap.start after l
gap_start ch gap after l =
    is_by_place (gap_at ch gap gap.start after) l l refl
    (λ (k : ℕ) (h : k < length l). sym (gap_out ch gap gap.start after k (get_or l k nan) (inside_none ch.d ch.c gap.start k)))

pub gap_more : (ch : Channel) (gap : Gap) (j : ℕ) (after : Option Present) (l m : List Float) (y : Float)
    → ch.c < ch.d → gap.start ≤ j → j * ch.d + ch.c < length l → y ≡ fill_of ch.method gap.before after j ch.fixed
    → m ≡ gap_of ch gap j after l → set m (j * ch.d + ch.c) y ≡ gap_of ch gap (j + 1) after l
gap_more ch gap j after l m y hc hs hp ey em =
    is_by_place (gap_at ch gap (j + 1) after) l (set m p y) (length-set m p y ∙ same)
    (λ (k : ℕ) (h : k < length l). at k h (eqb k p) refl)
  where
    p : ℕ
    p = j * ch.d + ch.c

    same : length m ≡ length l
    same = ap length em ∙ length_by_place (gap_at ch gap j after) l

    reading : p / ch.d ≡ j
    reading = place_reading ch.d ch.c j hc

    at : (k : ℕ) → k < length l → (b : Bool) → eqb k p ≡ b → get_or (set m p y) k nan ≡ gap_at ch gap (j + 1) after k (get_or l k nan)
    at k h true t =
        let e : k ≡ p = eqb-true k p t in
        let r : k / ch.d ≡ j = ap (λ (i : ℕ). i / ch.d) e ∙ reading in
        let q : k % ch.d ≡ ch.c = ap (λ (i : ℕ). i % ch.d) e ∙ place_channel ch.d ch.c j hc in
        ap (λ (i : ℕ). get_or (set m p y) i nan) e
        ∙ get_or-set_same m p y nan (omega (arith, same))
        ∙ ey
        ∙ ap (λ (i : ℕ). fill_of ch.method gap.before after i ch.fixed) (sym r)
        ∙ sym (gap_in ch gap (j + 1) after k (get_or l k nan) (inside_yes ch.d ch.c gap.start (j + 1) k q (omega arith) (omega arith)))
    at k h false t =
        get_or-set_other m p k y nan (eqb-false k p t)
        ∙ ap (λ (z : List Float). get_or z k nan) em
        ∙ get_d_by_place (gap_at ch gap j after) l k h
        ∙ gap_same ch gap j after k (get_or l k nan) (eqb-false k p t)

-- ---- the nearest present cells, seen from inside a gap

pub nearest_before_under : (p : ℕ → Bool) (v : ℕ → Float) (i : ℕ) → Under (nearest_before p v i) i
nearest_before_under p v zero = tt
nearest_before_under p v (suc i) = by (p i) (nearest_before_under p v i)
  where
    by : (b : Bool) → Under (nearest_before p v i) i → Under (cond b (present_at i (v i)) (nearest_before p v i)) (suc i)
    by true h = omega arith
    by false h = under_more (nearest_before p v i) i (suc i) h (omega arith)

nearest_before_gap : (p : ℕ → Bool) (v : ℕ → Float) (s r : ℕ) → s ≤ r → ((q : ℕ) → s ≤ q → q < r → p q ≡ false)
    → nearest_before p v r ≡ nearest_before p v s
nearest_before_gap p v s zero h g = let e : s ≡ 0 = omega arith in ap (nearest_before p v) (sym e)
nearest_before_gap p v s (suc r) h g =
    by (leb s r) refl (λ (k : s ≤ r). nearest_before_gap p v s r k (λ (q : ℕ) (a : s ≤ q) (b : q < r). g q a (omega arith)))
  where
    by : (b : Bool) → leb s r ≡ b → (s ≤ r → nearest_before p v r ≡ nearest_before p v s) → nearest_before p v (suc r) ≡ nearest_before p v s
    by true t rest =
        let k : s ≤ r = leb-true s r t in
        cond_off (present_at r (v r)) (nearest_before p v r) (p r) (g r k (omega arith)) ∙ rest k
    by false t rest =
        let k : r < s = leb-false s r t in
        let e : s ≡ suc r = omega arith in
        ap (nearest_before p v) (sym e)

-- f readings from j to i, and m of n are left after them
nearest_from_gap : (p : ℕ → Bool) (v : ℕ → Float) (f n m j i : ℕ) → n ≡ f + m → i ≡ j + f → ((q : ℕ) → j ≤ q → q < i → p q ≡ false)
    → nearest_from p v n j ≡ nearest_from p v m i
nearest_from_gap p v zero n m j i a b g =
    let a' : n ≡ m = omega arith in
    let b' : j ≡ i = omega arith in
    λ t. nearest_from p v (a' t) (b' t)
nearest_from_gap p v (suc f) n m j i a b g =
    let a' : n ≡ suc (f + m) = omega arith in
    ap (λ (z : ℕ). nearest_from p v z j) a'
    ∙ cond_off (present_at j (v j)) (nearest_from p v (f + m) (suc j)) (p j) (g j (omega arith) (omega arith))
    ∙ nearest_from_gap p v f (f + m) m (suc j) i refl (omega arith) (λ (q : ℕ) (x : suc j ≤ q) (y : q < i). g q (omega arith) y)

-- only present cells are looked at
nearest_before_same : (p : ℕ → Bool) (v w : ℕ → Float) → ((r : ℕ) → p r ≡ true → v r ≡ w r) → (i : ℕ) → nearest_before p v i ≡ nearest_before p w i
nearest_before_same p v w h zero = refl
nearest_before_same p v w h (suc i) =
    cond_same (p i) (λ (t : p i ≡ true). ap (present_at i) (h i t)) (λ (t : p i ≡ false). nearest_before_same p v w h i)

nearest_from_same : (p : ℕ → Bool) (v w : ℕ → Float) → ((r : ℕ) → p r ≡ true → v r ≡ w r) → (m i : ℕ) → nearest_from p v m i ≡ nearest_from p w m i
nearest_from_same p v w h zero i = refl
nearest_from_same p v w h (suc m) i =
    cond_same (p i) (λ (t : p i ≡ true). ap (present_at i) (h i t)) (λ (t : p i ≡ false). nearest_from_same p v w h m (suc i))

pub missing_same : (m : ImputationMethod) (d : ℕ) (l k : List Float) (marks : List ℕ) (f : Float) (c i : ℕ) → length l ≡ length k
    → ((r : ℕ) → present_in d marks c r ≡ true → cell_in d l c r ≡ cell_in d k c r)
    → missing_of m d l marks f c i ≡ missing_of m d k marks f c i
unfolding missing_of
missing_same m d l k marks f c i e h =
    let p = present_in d marks c in
    let v = cell_in d l c in
    let w = cell_in d k c in
    let b = nearest_before_same p v w h i in
    let a : nearest_from p v (length l / d - suc i) (suc i) ≡ nearest_from p w (length k / d - suc i) (suc i) =
    nearest_from_same p v w h (length l / d - suc i) (suc i) ∙ ap (λ (n : ℕ). nearest_from p w (n / d - suc i) (suc i)) e in
    λ t. fill_of m (b t) (a t) i f

-- ---- a reading passed

-- the channel's readings before the open gap are done, those of the gap are missing, and the rest is as it was
pub record Walked (ch : Channel) (marks : List ℕ) (l : List Float) (i : ℕ) (gap : Gap) (now : List Float) : Type 0 where
  pub start : gap.start ≤ i
  pub missing : (r : ℕ) → gap.start ≤ r → r < i → present_in ch.d marks ch.c r ≡ false
  pub before : gap.before ≡ nearest_before (present_in ch.d marks ch.c) (cell_in ch.d l ch.c) gap.start
  pub cells : now ≡ by_place (done_at ch marks l gap.start) l

module _ (ch : Channel) (marks : List ℕ) (l : List Float) (end k : ℕ) (x : Float) where
  done_in : inside ch.d ch.c 0 end k ≡ true
      → done_at ch marks l end k x ≡ cond (is_present (get_or marks k 0)) x (missing_of ch.method ch.d l marks ch.fixed ch.c (k / ch.d))
  unfolding done_at
  done_in e =
      cond_on (cond (is_present (get_or marks k 0)) x (missing_of ch.method ch.d l marks ch.fixed ch.c (k / ch.d))) x
      (inside ch.d ch.c 0 end k) e

  done_out : inside ch.d ch.c 0 end k ≡ false → done_at ch marks l end k x ≡ x
  unfolding done_at
  done_out e =
      cond_off (cond (is_present (get_or marks k 0)) x (missing_of ch.method ch.d l marks ch.fixed ch.c (k / ch.d))) x
      (inside ch.d ch.c 0 end k) e

-- reading i changes nothing at any other place
done_same : (ch : Channel) (marks : List ℕ) (l : List Float) (i k : ℕ) (x : Float) → (k ≡ i * ch.d + ch.c → ⊥)
    → done_at ch marks l i k x ≡ done_at ch marks l (i + 1) k x
unfolding done_at
done_same ch marks l i k x h =
    ap (λ (b : Bool). cond b (cond (is_present (get_or marks k 0)) x (missing_of ch.method ch.d l marks ch.fixed ch.c (k / ch.d))) x)
    (sym (inside_more ch.d ch.c 0 i k h))

-- before a gap of no readings nothing is done
pub walked_start : (ch : Channel) (marks : List ℕ) (l : List Float) → Walked ch marks l 0 (gap_from 0 None) l
walked_start ch marks l =
    record {
      start = omega arith;
      missing = λ (r : ℕ) (a : 0 ≤ r) (b : r < 0). absurd (omega arith);
      before = refl;
      cells = is_by_place (done_at ch marks l 0) l l refl
          (λ (k : ℕ) (h : k < length l). sym (done_out ch marks l 0 k (get_or l k nan) (inside_none ch.d ch.c 0 k)));
    }

-- what fills a reading of the gap is what its definition says
gap_value : (ch : Channel) (marks : List ℕ) (l : List Float) (i : ℕ) (gap : Gap) (now : List Float) (after : Option Present) (r : ℕ)
    → Walked ch marks l i gap now → i ≤ length l / ch.d
    → after ≡ nearest_from (present_in ch.d marks ch.c) (cell_in ch.d l ch.c) (length l / ch.d - i) i
    → gap.start ≤ r → r < i
    → fill_of ch.method gap.before after r ch.fixed ≡ missing_of ch.method ch.d l marks ch.fixed ch.c r
unfolding missing_of
gap_value ch marks l i gap now after r W hi ea low high =
    let p = present_in ch.d marks ch.c in
    let v = cell_in ch.d l ch.c in
    let n = length l / ch.d in
    let b : gap.before ≡ nearest_before p v r =
    W.before ∙ sym (nearest_before_gap p v gap.start r low (λ (q : ℕ) (x : gap.start ≤ q) (y : q < r). W.missing q x (omega arith))) in
    let a : after ≡ nearest_from p v (n - suc r) (suc r) =
    ea ∙ sym (nearest_from_gap p v (i - suc r) (n - suc r) (n - i) (suc r) i (omega arith) (omega arith)
    (λ (q : ℕ) (x : suc r ≤ q) (y : q < i). W.missing q (omega arith) y)) in
    λ t. fill_of ch.method (b t) (a t) r ch.fixed

module _ (ch : Channel) (marks : List ℕ) (l : List Float) (hc : ch.c < ch.d) where
  -- a gap whose end is known is filled, and the channel is done up to there
  closed : (i : ℕ) (gap : Gap) (now : List Float) (after : Option Present) → Walked ch marks l i gap now → i ≤ length l / ch.d
      → after ≡ nearest_from (present_in ch.d marks ch.c) (cell_in ch.d l ch.c) (length l / ch.d - i) i
      → gap_of ch gap i after now ≡ by_place (done_at ch marks l i) l
  closed i gap now after W hi ea =
      is_by_place (done_at ch marks l i) l (gap_of ch gap i after now) (length_by_place (gap_at ch gap i after) now ∙ same)
      (λ (k : ℕ) (h : k < length l). here k h ∙ at k h (eqb (k % ch.d) ch.c) refl)
    where
      same : length now ≡ length l
      same = ap length W.cells ∙ length_by_place (done_at ch marks l gap.start) l

      here : (k : ℕ) → k < length l
          → get_or (gap_of ch gap i after now) k nan ≡ gap_at ch gap i after k (done_at ch marks l gap.start k (get_or l k nan))
      here k h =
          get_d_by_place (gap_at ch gap i after) now k (omega (arith, same))
          ∙ ap (gap_at ch gap i after k) (ap (λ (z : List Float). get_or z k nan) W.cells ∙ get_d_by_place (done_at ch marks l gap.start) l k h)

      Goal : ℕ → Type 0
      Goal k = gap_at ch gap i after k (done_at ch marks l gap.start k (get_or l k nan)) ≡ done_at ch marks l i k (get_or l k nan)

      -- neither in the gap nor before it
      out : (k : ℕ) → inside ch.d ch.c gap.start i k ≡ false → inside ch.d ch.c 0 gap.start k ≡ false
          → inside ch.d ch.c 0 i k ≡ false → Goal k
      out k a b e =
          gap_out ch gap i after k (done_at ch marks l gap.start k (get_or l k nan)) a
          ∙ done_out ch marks l gap.start k (get_or l k nan) b
          ∙ sym (done_out ch marks l i k (get_or l k nan) e)

      -- in the gap
      in_gap : (k : ℕ) → k % ch.d ≡ ch.c → gap.start ≤ k / ch.d → k / ch.d < i → Goal k
      in_gap k e low high =
          let absent : is_present (get_or marks k 0) ≡ false =
          ap (λ (z : ℕ). is_present (get_or marks z 0)) (sym (place_of ch.d ch.c k e)) ∙ W.missing (k / ch.d) low high in
          gap_in ch gap i after k (done_at ch marks l gap.start k (get_or l k nan)) (inside_yes ch.d ch.c gap.start i k e low high)
          ∙ gap_value ch marks l i gap now after (k / ch.d) W hi ea low high
          ∙ sym (cond_off (get_or l k nan) (missing_of ch.method ch.d l marks ch.fixed ch.c (k / ch.d)) (is_present (get_or marks k 0)) absent)
          ∙ sym (done_in ch marks l i k (get_or l k nan) (inside_yes ch.d ch.c 0 i k e (omega arith) high))

      -- before the gap
      before : (k : ℕ) → k % ch.d ≡ ch.c → k / ch.d < gap.start → Goal k
      before k e low =
          let s = W.start in
          gap_out ch gap i after k (done_at ch marks l gap.start k (get_or l k nan)) (inside_low ch.d ch.c gap.start i k low)
          ∙ done_in ch marks l gap.start k (get_or l k nan) (inside_yes ch.d ch.c 0 gap.start k e (omega arith) low)
          ∙ sym (done_in ch marks l i k (get_or l k nan) (inside_yes ch.d ch.c 0 i k e (omega arith) (omega arith)))

      by_end : (k : ℕ) → k % ch.d ≡ ch.c → gap.start ≤ k / ch.d → (b : Bool) → ltb (k / ch.d) i ≡ b → Goal k
      by_end k e low true t = in_gap k e low (ltb-true (k / ch.d) i t)
      by_end k e low false t =
          let high : i ≤ k / ch.d = ltb-false (k / ch.d) i t in
          out k (inside_high ch.d ch.c gap.start i k high) (inside_high ch.d ch.c 0 gap.start k low) (inside_high ch.d ch.c 0 i k high)

      by_start : (k : ℕ) → k % ch.d ≡ ch.c → (b : Bool) → ltb (k / ch.d) gap.start ≡ b → Goal k
      by_start k e true t = before k e (ltb-true (k / ch.d) gap.start t)
      by_start k e false t = by_end k e (ltb-false (k / ch.d) gap.start t) (ltb (k / ch.d) i) refl

      at : (k : ℕ) → k < length l → (b : Bool) → eqb (k % ch.d) ch.c ≡ b → Goal k
      at k h true t = by_start k (eqb-true (k % ch.d) ch.c t) (ltb (k / ch.d) gap.start) refl
      at k h false t =
          let n = eqb-false (k % ch.d) ch.c t in
          out k (inside_off ch.d ch.c gap.start i k n) (inside_off ch.d ch.c 0 gap.start k n) (inside_off ch.d ch.c 0 i k n)

  -- a present cell is done as it stands
  done_more : (i : ℕ) → present_in ch.d marks ch.c i ≡ true → by_place (done_at ch marks l i) l ≡ by_place (done_at ch marks l (i + 1)) l
  done_more i e =
      is_by_place (done_at ch marks l (i + 1)) l (by_place (done_at ch marks l i) l) (length_by_place (done_at ch marks l i) l)
      (λ (k : ℕ) (h : k < length l). get_d_by_place (done_at ch marks l i) l k h ∙ at k (eqb k p) refl)
    where
      p : ℕ
      p = i * ch.d + ch.c

      at : (k : ℕ) → (b : Bool) → eqb k p ≡ b → done_at ch marks l i k (get_or l k nan) ≡ done_at ch marks l (i + 1) k (get_or l k nan)
      at k true t =
          let q : k ≡ p = eqb-true k p t in
          let r : k / ch.d ≡ i = ap (λ (z : ℕ). z / ch.d) q ∙ place_reading ch.d ch.c i hc in
          let s : k % ch.d ≡ ch.c = ap (λ (z : ℕ). z % ch.d) q ∙ place_channel ch.d ch.c i hc in
          let there : is_present (get_or marks k 0) ≡ true = ap (λ (z : ℕ). is_present (get_or marks z 0)) q ∙ e in
          done_out ch marks l i k (get_or l k nan) (inside_high ch.d ch.c 0 i k (omega arith))
          ∙ sym (cond_on (get_or l k nan) (missing_of ch.method ch.d l marks ch.fixed ch.c (k / ch.d)) (is_present (get_or marks k 0)) there)
          ∙ sym (done_in ch marks l (i + 1) k (get_or l k nan) (inside_yes ch.d ch.c 0 (i + 1) k s (omega arith) (omega arith)))
      at k false t = done_same ch marks l i k (get_or l k nan) (eqb-false k p t)

  -- what stands at a reading that is not done is as it was
  still : (i : ℕ) (gap : Gap) (now : List Float) → Walked ch marks l i gap now → i * ch.d + ch.c < length l
      → get_or now (i * ch.d + ch.c) nan ≡ cell_in ch.d l ch.c i
  still i gap now W h =
      let p = i * ch.d + ch.c in
      let r = place_reading ch.d ch.c i hc in
      let s = W.start in
      ap (λ (z : List Float). get_or z p nan) W.cells
      ∙ get_d_by_place (done_at ch marks l gap.start) l p h
      ∙ done_out ch marks l gap.start p (get_or l p nan) (inside_high ch.d ch.c 0 gap.start p (omega (arith, r)))

  present_next : (i : ℕ) (gap : Gap) (now : List Float) → Walked ch marks l i gap now → i < length l / ch.d → i * ch.d + ch.c < length l
      → present_in ch.d marks ch.c i ≡ true
      → Walked ch marks l (i + 1) (gap_from (i + 1) (present_at i (get_or now (i * ch.d + ch.c) nan))) (gap_of ch gap i (present_at i (get_or now (i * ch.d + ch.c) nan)) now)
  present_next i gap now W hi hp e =
      let p = present_in ch.d marks ch.c in
      let v = cell_in ch.d l ch.c in
      let x = still i gap now W hp in
      let n : length l / ch.d - i ≡ suc (length l / ch.d - suc i) = omega arith in
      let after : present_at i (get_or now (i * ch.d + ch.c) nan) ≡ nearest_from p v (length l / ch.d - i) i =
      ap (present_at i) x
      ∙ sym (ap (λ (z : ℕ). nearest_from p v z i) n ∙ cond_on (present_at i (v i)) (nearest_from p v (length l / ch.d - suc i) (suc i)) (p i) e) in
      record {
        start = omega arith;
        missing = λ (r : ℕ) (a : i + 1 ≤ r) (b : r < i + 1). absurd (omega arith);
        before = ap (present_at i) x ∙ sym (ap (nearest_before p v) (add-one i) ∙ cond_on (present_at i (v i)) (nearest_before p v i) (p i) e);
        cells = closed i gap now (present_at i (get_or now (i * ch.d + ch.c) nan)) W (omega arith) after ∙ done_more i e;
      }

  missing_next : (i : ℕ) (gap : Gap) (now : List Float) → Walked ch marks l i gap now → present_in ch.d marks ch.c i ≡ false
      → Walked ch marks l (i + 1) gap now
  missing_next i gap now W e =
      let s = W.start in
      record {
        start = omega arith;
        missing = λ (r : ℕ) (a : gap.start ≤ r) (b : r < i + 1). by r a b (ltb r i) refl;
        before = W.before;
        cells = W.cells;
      }
    where
      by : (r : ℕ) → gap.start ≤ r → r < i + 1 → (t : Bool) → ltb r i ≡ t → present_in ch.d marks ch.c r ≡ false
      by r a b true t = W.missing r a (ltb-true r i t)
      by r a b false t =
          let k : i ≤ r = ltb-false r i t in
          let q : r ≡ i = omega arith in
          ap (present_in ch.d marks ch.c) q ∙ e

  -- a turn of the loop over a channel's readings
  pub walked_more : (i : ℕ) (gap gap' : Gap) (now now' : List Float) → Walked ch marks l i gap now → i < length l / ch.d
      → i * ch.d + ch.c < length l → passing gap' now' ≡ passed_of ch gap i marks now → Walked ch marks l (i + 1) gap' now'
  unfolding passed_of
  walked_more i gap gap' now now' W hi hp e = by (present_in ch.d marks ch.c i) refl
    where
      by : (b : Bool) → present_in ch.d marks ch.c i ≡ b → Walked ch marks l (i + 1) gap' now'
      by true t =
          let x = present_at i (get_or now (i * ch.d + ch.c) nan) in
          let q : passing gap' now' ≡ passing (gap_from (i + 1) x) (gap_of ch gap i x now) =
          e ∙ cond_on (passing (gap_from (i + 1) x) (gap_of ch gap i x now)) (passing gap now) (present_in ch.d marks ch.c i) t in
          subst (λ (z : Passed). Walked ch marks l (i + 1) z.gap z.cells) (sym q) (present_next i gap now W hi hp t)
      by false t =
          let x = present_at i (get_or now (i * ch.d + ch.c) nan) in
          let q : passing gap' now' ≡ passing gap now =
          e ∙ cond_off (passing (gap_from (i + 1) x) (gap_of ch gap i x now)) (passing gap now) (present_in ch.d marks ch.c i) t in
          subst (λ (z : Passed). Walked ch marks l (i + 1) z.gap z.cells) (sym q) (missing_next i gap now W t)

  -- and its end: after the last reading there is no present cell
  pub walked_end : (gap : Gap) (now : List Float) → Walked ch marks l (length l / ch.d) gap now
      → gap_of ch gap (length l / ch.d) None now ≡ channel_of ch marks l
  walked_end gap now W =
      let p = present_in ch.d marks ch.c in
      let v = cell_in ch.d l ch.c in
      let n = length l / ch.d in
      let z : n - n ≡ 0 = omega arith in
      let after : None ≡ nearest_from p v (n - n) n = sym (ap (λ (m : ℕ). nearest_from p v m n) z) in
      closed n gap now None W (omega arith) after

pub walked_under : {ch : Channel} {marks : List ℕ} {l : List Float} {i : ℕ} {gap : Gap} {now : List Float}
    → Walked ch marks l i gap now → Under gap.before gap.start
walked_under {ch} {marks} {l} {i} {gap} {now} W =
    subst (λ (n : Option Present). Under n gap.start) (sym W.before)
    (nearest_before_under (present_in ch.d marks ch.c) (cell_in ch.d l ch.c) gap.start)

pub walked_length : {ch : Channel} {marks : List ℕ} {l : List Float} {i : ℕ} {gap : Gap} {now : List Float}
    → Walked ch marks l i gap now → length now ≡ length l
walked_length {ch} {marks} {l} {i} {gap} {now} W = ap length W.cells ∙ length_by_place (done_at ch marks l gap.start) l

-- ---- all channels

module _ (m : ImputationMethod) (d : ℕ) (l : List Float) (marks : List ℕ) (fixed : List Float) (c k : ℕ) (x : Float) where
  below_in : k % d < c → below_at m d l marks fixed c k x ≡ imputed_at m d l marks fixed k x
  unfolding below_at
  below_in h = cond_on (imputed_at m d l marks fixed k x) x (ltb (k % d) c) (lt-ltb (k % d) c h)

  below_out : c ≤ k % d → below_at m d l marks fixed c k x ≡ x
  unfolding below_at
  below_out h = cond_off (imputed_at m d l marks fixed k x) x (ltb (k % d) c) (le-ltb (k % d) c h)

module _ (m : ImputationMethod) (d : ℕ) (l : List Float) (marks : List ℕ) (fixed : List Float) (hd : 0 < d) where
  pub below_start : l ≡ by_place (below_at m d l marks fixed 0) l
  below_start =
      is_by_place (below_at m d l marks fixed 0) l l refl
      (λ (k : ℕ) (h : k < length l). sym (below_out m d l marks fixed 0 k (get_or l k nan) (omega arith)))

  pub below_end : by_place (below_at m d l marks fixed d) l ≡ imputed m d l marks fixed
  unfolding imputed
  below_end =
      is_by_place (imputed_at m d l marks fixed) l (by_place (below_at m d l marks fixed d) l) (length_by_place (below_at m d l marks fixed d) l)
      (λ (k : ℕ) (h : k < length l). get_d_by_place (below_at m d l marks fixed d) l k h
      ∙ below_in m d l marks fixed d k (get_or l k nan) (mod-lt k hd))

  -- a turn of the loop over the channels: the cells of channel c are as they were, so that its answer is that of the cells at entry
  module _ (whole : length l / d * d ≡ length l) (c : ℕ) (hc : c < d) (now : List Float) (so_far : now ≡ by_place (below_at m d l marks fixed c) l) where
    below_length : length now ≡ length l
    below_length = ap length so_far ∙ length_by_place (below_at m d l marks fixed c) l

    below_at_lem : (k : ℕ) → k < length l → get_or now k nan ≡ below_at m d l marks fixed c k (get_or l k nan)
    below_at_lem k h = ap (λ (z : List Float). get_or z k nan) so_far ∙ get_d_by_place (below_at m d l marks fixed c) l k h

    below_cell : (r : ℕ) → cell_in d now c r ≡ cell_in d l c r
    below_cell r = by (ltb p (length l)) refl
      where
        p : ℕ
        p = r * d + c

        by : (b : Bool) → ltb p (length l) ≡ b → get_or now p nan ≡ get_or l p nan
        by true t =
            below_at_lem p (ltb-true p (length l) t)
            ∙ below_out m d l marks fixed c p (get_or l p nan) (omega (arith, place_channel d c r hc))
        by false t =
            let g : length l ≤ p = ltb-false p (length l) t in
            let g' : length now ≤ p = omega (arith, below_length) in
            get_or-eq_default now nan g' ∙ sym (get_or-eq_default l nan g)

    below_missing : (i : ℕ) → missing_of m d now marks (get_or fixed c nan) c i ≡ missing_of m d l marks (get_or fixed c nan) c i
    below_missing i =
        missing_same m d now l marks (get_or fixed c nan) c i below_length
        (λ (r : ℕ) (t : present_in d marks c r ≡ true). below_cell r)

    -- the cell at a place of this channel
    on_channel : (k : ℕ) → k < length l → k % d ≡ c
        → done_at (channel m d c (get_or fixed c nan)) marks now (length now / d) k (get_or now k nan) ≡ below_at m d l marks fixed (c + 1) k (get_or l k nan)
    unfolding imputed_at
    on_channel k h e =
        let ch = channel m d c (get_or fixed c nan) in
        let high : k / d < length l / d = (div-lt_iff_lt-mul hd).1 (omega (arith, whole)) in
        let high' : k / d < length now / d = subst (λ (n : ℕ). k / d < n / d) (sym below_length) high in
        let stays : get_or now k nan ≡ get_or l k nan = below_at_lem k h ∙ below_out m d l marks fixed c k (get_or l k nan) (omega arith) in
        let x = get_or l k nan in
        let p = is_present (get_or marks k 0) in
        done_in ch marks now (length now / d) k (get_or now k nan) (inside_yes d c 0 (length now / d) k e (omega arith) high')
        ∙ ap (λ (z : Float). cond p z (missing_of m d now marks (get_or fixed c nan) c (k / d))) stays
        ∙ ap (cond p x) (below_missing (k / d))
        ∙ ap (λ (z : ℕ). cond p x (missing_of m d l marks (get_or fixed z nan) z (k / d))) (sym e)
        ∙ sym (below_in m d l marks fixed (c + 1) k x (omega arith))

    off_channel : (k : ℕ) → k < length l → (k % d ≡ c → ⊥)
        → done_at (channel m d c (get_or fixed c nan)) marks now (length now / d) k (get_or now k nan) ≡ below_at m d l marks fixed (c + 1) k (get_or l k nan)
    off_channel k h n =
        done_out (channel m d c (get_or fixed c nan)) marks now (length now / d) k (get_or now k nan) (inside_off d c 0 (length now / d) k n)
        ∙ below_at_lem k h
        ∙ by (ltb (k % d) c) refl
      where
        x : Float
        x = get_or l k nan

        by : (b : Bool) → ltb (k % d) c ≡ b → below_at m d l marks fixed c k x ≡ below_at m d l marks fixed (c + 1) k x
        by true t =
            let g : k % d < c = ltb-true (k % d) c t in
            below_in m d l marks fixed c k x g ∙ sym (below_in m d l marks fixed (c + 1) k x (omega arith))
        by false t =
            let g : c ≤ k % d = ltb-false (k % d) c t in
            let g' : c + 1 ≤ k % d = omega arith in
            below_out m d l marks fixed c k x g ∙ sym (below_out m d l marks fixed (c + 1) k x g')

    pub below_more : channel_of (channel m d c (get_or fixed c nan)) marks now ≡ by_place (below_at m d l marks fixed (c + 1)) l
    below_more =
        is_by_place (below_at m d l marks fixed (c + 1)) l (channel_of ch marks now) (length_by_place (done_at ch marks now (length now / d)) now ∙ below_length)
        (λ (k : ℕ) (h : k < length l).
        get_d_by_place (done_at ch marks now (length now / d)) now k (omega (arith, below_length)) ∙ at k h (eqb (k % d) c) refl)
      where
        ch : Channel
        ch = channel m d c (get_or fixed c nan)

        at : (k : ℕ) → k < length l → (b : Bool) → eqb (k % d) c ≡ b
            → done_at ch marks now (length now / d) k (get_or now k nan) ≡ below_at m d l marks fixed (c + 1) k (get_or l k nan)
        at k h true t = on_channel k h (eqb-true (k % d) c t)
        at k h false t = off_channel k h (eqb-false (k % d) c t)
