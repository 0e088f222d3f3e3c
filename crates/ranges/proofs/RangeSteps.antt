-- What the proofs of `rangevector` cite at both widths: how a call answers, and a turn of each loop, over the numbers and the element.
-- Assumes nothing.
use Prim.Native.Nat.{ℕ, zero, suc, ◌+◌, ◌-◌, ◌≤◌, ◌<◌}
use mathlib.Core.Path.{◌≡◌, refl, sym, ap, ◌∙◌}
use mathlib.Core.Bool.{Bool, true, ◌&&◌}
use mathlib.Core.List.{List, ◌∷◌, ◌++◌}
use native.Mathlib.Numerals.{add-one}
use native.Mathlib.Omega.{arith}
use lib.ListN.{length, get_or, drop, drop_of_length-le}
use lib.Seq.{drop-cons, get_or-append-add}
use Rattle.std.specs.Prelude.{Result, IsErrAnd}
use Rattle.refusal.specs.declared.Refusal.{Refusal}
use Rattle.refusal.specs.Refusal.{number_of, row_of}
use Rattle.refusal.proofs.RefusalLaws.{is_numbered, handed_on}
use Rattle.ranges.specs.declared.rangevector.RangeVector.{RangeVector}
use Rattle.ranges.specs.RangeVector.{Operations, RangesOf, ranges, AreSameLoans, range_at_or, put_at, shifted_by, cascade_by, range_outcome, range_answer, in_order_by}

-- ---- how a call answers: by the number of its refusal, 0 for none

module _ {A : Type 0} where
  pub refused : (row n : ℕ) (old new : RangesOf A) → row ≡ n → (row ≡ 0 → ⊥) → range_outcome row old ≡ range_answer n old new
  refused row zero old new e taken = absurd (taken e)
  refused row (suc n) old new e taken = ap (λ (k : ℕ). range_outcome k old) e

  pub done : (row n : ℕ) (old new left : RangesOf A) → row ≡ n → row ≡ 0 → left ≡ new → range_outcome 0 left ≡ range_answer n old new
  done row zero old new left e z h = ap (range_outcome 0) h
  done row (suc n) old new left e z h = absurd (omega arith)

  -- the same where a `?` hands the refusal on
  pub refused_by : {B : Type 0} (e : Refusal) (r : Result B Refusal) (n : ℕ) (old new : RangesOf A)
      → IsErrAnd r (λ (d : Refusal). d ≡ e) → number_of e ≡ n → range_outcome (row_of r) old ≡ range_answer n old new
  refused_by e r n old new handed h =
      refused (row_of r) n old new (handed_on e r handed ∙ h) (λ z. absurd (omega (arith, z, handed_on e r handed, is_numbered e)))

module _ {A : Type 0} where
  -- ---- three lists

  pub all_three : {v u l a b c : List A} → v ≡ a → u ≡ b → l ≡ c → ranges v u l ≡ ranges a b c
  all_three p q r = λ j. ranges (p j) (q j) (r j)

  pub same_loans : (v : RangeVector A) → AreSameLoans v v
  same_loans v = record { values = refl; upper = refl; lower = refl; values_length = refl; upper_length = refl; lower_length = refl }

  pub same_since : {u v w : RangeVector A} → AreSameLoans u v → AreSameLoans v w → AreSameLoans u w
  same_since p q = record {
    values = q.values ∙ p.values;
    upper = q.upper ∙ p.upper;
    lower = q.lower ∙ p.lower;
    values_length = q.values_length ∙ p.values_length;
    upper_length = q.upper_length ∙ p.upper_length;
    lower_length = q.lower_length ∙ p.lower_length;
  }

  -- ---- a turn of the cascade

  -- what index i is shifted by stands in the base, or one block before
  pub later : (base l : List A) (i : ℕ) (d : A) → length base ≤ i → get_or l (i - length base) d ≡ get_or (base ++ l) i d
  later base l i d h =
      sym (get_or-append-add base l (i - length base) d) ∙ ap (λ (k : ℕ). get_or (base ++ l) k d) (omega arith)

  pub cascade_more : (o : Operations A) (base : List A) (i : ℕ) (v w z : RangesOf A) (x : A)
      → w ≡ cascade_by o base i v → x ≡ get_or (base ++ w.values) i o.missing → z ≡ put_at w i (shifted_by o (range_at_or o.missing w i) x)
      → z ≡ cascade_by o base (i + 1) v
  cascade_more o base i v w z x so_far by put =
      put
      ∙ ap (λ (y : A). put_at w i (shifted_by o (range_at_or o.missing w i) y)) by
      ∙ ap (λ (q : RangesOf A). put_at q i (shifted_by o (range_at_or o.missing q i) (get_or (base ++ q.values) i o.missing))) so_far
      ∙ ap (λ (k : ℕ). cascade_by o base k v) (sym (add-one i))

  -- ---- a turn of the loop over the bounds, and its end

  pub in_order_at : (at_most : A → A → Bool) (d : A) (v u l : List A) (i : ℕ) (b : Bool) → i < length v → length v ≡ length u → length v ≡ length l
      → at_most (get_or v i d) (get_or u i d) && at_most (get_or l i d) (get_or v i d) ≡ b
      → in_order_by at_most (drop i v) (drop i u) (drop i l) ≡ b && in_order_by at_most (drop (i + 1) v) (drop (i + 1) u) (drop (i + 1) l)
  in_order_at at_most d v u l i b h p q e =
      let hu : i < length u = omega arith in
      let hl : i < length l = omega arith in
      ap (λ (x : List A). in_order_by at_most x (drop i u) (drop i l)) (drop-cons v i d h)
      ∙ ap (λ (x : List A). in_order_by at_most (get_or v i d ∷ drop (suc i) v) x (drop i l)) (drop-cons u i d hu)
      ∙ ap (λ (x : List A). in_order_by at_most (get_or v i d ∷ drop (suc i) v) (get_or u i d ∷ drop (suc i) u) x) (drop-cons l i d hl)
      ∙ ap (λ (c : Bool). c && in_order_by at_most (drop (suc i) v) (drop (suc i) u) (drop (suc i) l)) e
      ∙ ap (λ (k : ℕ). b && in_order_by at_most (drop k v) (drop k u) (drop k l)) (sym (add-one i))

  pub in_order_end : (at_most : A → A → Bool) (v u l : List A) (i : ℕ) → length v ≤ i → in_order_by at_most (drop i v) (drop i u) (drop i l) ≡ true
  in_order_end at_most v u l i h = ap (λ (x : List A). in_order_by at_most x (drop i u) (drop i l)) (drop_of_length-le v h)
