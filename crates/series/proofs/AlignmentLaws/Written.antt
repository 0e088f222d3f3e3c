-- Lent memory with the first n of the new written.
use Prim.Native.Nat.{ℕ, suc, ◌+◌, ◌<◌}
use mathlib.Core.Path.{◌≡◌, refl, sym, ap, ◌∙◌}
use mathlib.Core.List.{List, ◌++◌, append-nil}
use native.Mathlib.Numerals.{add-one}
use native.Mathlib.Omega.{arith}
use lib.ListN.{length, get_or, take, drop, set}
use lib.Seq.{drop-cons, drop-length, take-suc, append_snoc, set_at, get_or_at, length-take-le, take-length}
use Rattle.refusal.specs.Lent.{over}

module _ {A : Type 0} where
  unfoldable pub part : List A → List A → ℕ → List A
  part old new n = take n new ++ drop n old

  pub part_none : (old new : List A) → old ≡ part old new 0
  unfolding part
  part_none old new = refl

  pub part_all : (old new : List A) (n : ℕ) → n ≡ length new → part old new n ≡ over old new
  unfolding part over
  part_all old new n e = rw e (rw take-length)

  -- all of it is new
  pub part_whole : (old new : List A) (n : ℕ) → n ≡ length new → n ≡ length old → part old new n ≡ new
  unfolding part
  part_whole old new n e h =
      ap (λ (k : ℕ). take k new ++ drop n old) e
      ∙ ap (λ (k : ℕ). take (length new) new ++ drop k old) h
      ∙ rw (take-length, drop-length, append-nil)

  module _ (old new : List A) (n : ℕ) (z : A) (hn : n < length new) (ho : n < length old) where
    pub part_more : (v : A) → get_or new n z ≡ v → set (part old new n) n v ≡ part old new (n + 1)
    unfolding part
    part_more v e =
        rw (add-one, ← e, drop-cons old n z ho, take-suc new n z hn)
        (set_at (take n new) (get_or old n z) (drop (suc n) old) (get_or new n z) n (length-take-le n new (omega arith))
        ∙ sym (append_snoc (take n new) (get_or new n z) (drop (suc n) old)))

    -- what is not yet written is as it was
    pub part_at : get_or (part old new n) n z ≡ get_or old n z
    unfolding part
    part_at =
        rw (drop-cons old n z ho)
        (get_or_at (take n new) (get_or old n z) (drop (suc n) old) z n (length-take-le n new (omega arith)))
