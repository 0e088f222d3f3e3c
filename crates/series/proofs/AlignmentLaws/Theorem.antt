-- What an answer of `align` says, from its contract alone.
use Prim.Native.Nat.{ℕ, zero, suc, ◌<◌}
use mathlib.Core.Path.{◌≡◌, refl, sym, ap, ◌∙◌, subst}
use mathlib.Core.Bool.{Bool, true, false, ◌||◌}
use mathlib.Core.List.{List, [], ◌∷◌}
use native.Mathlib.Omega.{arith}
use lib.Dec.{ltb, eqb}
use lib.ListN.{length, get_or, take, length-map, get_or-append}
use lib.Seq.{take_at}
use lib.Ieee.{nan}
use Rattle.refusal.specs.Refusal.{first_of}
use Rattle.refusal.specs.Lent.{over}
use Rattle.series.specs.Pairs.{Pair, pairs, lefts, rights}
use Rattle.series.specs.Pairing.{BestPairing}
use Rattle.series.specs.Gaps.{difference_sizes, largest, gaps, Largest}
use Rattle.series.specs.Alignment.{align_limit, channel_limit, falls_after, unusable, readings_misshapen, Readings, Outputs, AlignOutcome, align_outcome, AlignFacts, align_row, align_facts}
use Rattle.series.specs.Alignment.{refused_or, outputs_written, align_of}
use Rattle.series.specs.Comparison.{zipped, pairs_told, Comparison}
use Rattle.series.proofs.AlignmentLaws.Falls.{neither}
use Rattle.series.proofs.AlignmentLaws.Greedy.{pairs_are_a_pairing}
use Rattle.series.proofs.AlignmentLaws.Best.{pairs_are_most}
use Rattle.series.proofs.AlignmentLaws.Channels.{channels_at}
use Rattle.series.proofs.AlignmentLaws.Comparing.{gaps_length_lem}
use Rattle.series.proofs.AlignmentLaws.Sizes.{largest_of_channel}

-- ---- no row: no time falls

none_of_five : (p q r s t : Bool) → first_of ((p, 2) ∷ (q, 4) ∷ (r, 10) ∷ (s, 24) ∷ (t, 20) ∷ []) ≡ 0 → s ≡ false
none_of_five true q r s t e = absurd (omega arith)
none_of_five false true r s t e = absurd (omega arith)
none_of_five false false true s t e = absurd (omega arith)
none_of_five false false false true t e = absurd (omega arith)
none_of_five false false false false t e = refl

no_row : (q : AlignFacts) → align_row q ≡ 0 → unusable q.left_times || unusable q.right_times ≡ false
unfolding align_row
no_row q e =
    none_of_five (eqb q.d 0) (ltb channel_limit q.d)
    (readings_misshapen q.d q.left_cells (length q.left_times) || readings_misshapen q.d q.right_cells (length q.right_times))
    (unusable q.left_times || unusable q.right_times)
    (ltb q.lefts_room q.number || (ltb q.rights_room q.number || ltb q.gaps_room q.d)) e

steady_times : (l : List ℕ) → unusable l ≡ false → falls_after 0 l ≡ false
unfolding unusable
steady_times l e = (neither (ltb align_limit (length l)) (falls_after 0 l) e).1

-- ---- the pairs told are the pairs

zipped_pairs : (ps : List Pair) → zipped (lefts ps) (rights ps) ≡ ps
zipped_pairs [] = refl
zipped_pairs (p ∷ ps) = ap (λ (l : List Pair). p ∷ l) (zipped_pairs ps)

front : (old new : List ℕ) (n : ℕ) → length new ≡ n → take n (over old new) ≡ new
unfolding over
front old new n e = take_at new _ n e

module _ (d : ℕ) (l r : Readings) (w : ℕ) (o : Outputs) where
  abbrev ps : List Pair
  ps = pairs w l.times r.times

  abbrev full : AlignOutcome
  full = align_outcome 0 (length ps) (outputs_written d l r ps o)

  told_is : pairs_told full ≡ ps
  unfolding pairs_told outputs_written
  told_is =
      ap (λ (a : List ℕ). zipped a (take (length ps) (over o.rights (rights ps)))) (front o.lefts (lefts ps) (length ps) (simp length-map refl))
      ∙ ap (zipped (lefts ps)) (front o.rights (rights ps) (length ps) (simp length-map refl))
      ∙ zipped_pairs ps

  size_told : (c : ℕ) → c < d → get_or full.outs.gaps c nan ≡ largest (difference_sizes d l.cells r.cells ps c)
  unfolding outputs_written over gaps
  size_told c h =
      get_or-append (gaps d l.cells r.cells ps) _ nan c (omega (arith, gaps_length_lem d l.cells r.cells ps))
      ∙ channels_at d (λ k. largest (difference_sizes d l.cells r.cells ps k)) c nan h

  full_compares : align_row (align_facts d l r (length ps) o) ≡ 0 → Comparison d l r w full
  full_compares e =
      let u = neither (unusable l.times) (unusable r.times) (no_row (align_facts d l r (length ps) o) e) in
      let best : BestPairing w l.times r.times ps =
      record {
        pairing = pairs_are_a_pairing w l.times r.times;
        most = pairs_are_most w l.times r.times (steady_times l.times u.0) (steady_times r.times u.1);
      } in
      record {
        number_told = ap length told_is;
        best_told = subst (BestPairing w l.times r.times) (sym told_is) best;
        largest_told = λ c h.
            subst (λ (qs : List Pair). Largest (difference_sizes d l.cells r.cells qs c) (get_or full.outs.gaps c nan)) (sym told_is)
            (subst (Largest (difference_sizes d l.cells r.cells ps c)) (sym (size_told c h)) (largest_of_channel d l.cells r.cells ps c));
      }

  -- THEOREM: an answer that no row refuses is a best pairing, with the largest sizes over its pairs
  pub align_compares : (align_of d l r w o).row ≡ 0 → Comparison d l r w (align_of d l r w o)
  unfolding align_of
  align_compares e = go (align_row (align_facts d l r (length ps) o)) refl e
    where
      go : (n : ℕ) → align_row (align_facts d l r (length ps) o) ≡ n → (refused_or n o full).row ≡ 0 → Comparison d l r w (refused_or (align_row (align_facts d l r (length ps) o)) o full)
      go zero f h = subst (λ (k : ℕ). Comparison d l r w (refused_or k o full)) (sym f) (full_compares f)
      go (suc n) f h = absurd (omega arith)

  -- THEOREM: a refused call leaves what is lent as it was, and counts 0
  pub refused_writes_nothing : ((align_of d l r w o).row ≡ 0 → ⊥) → align_of d l r w o ≡ align_outcome (align_of d l r w o).row 0 o
  unfolding align_of
  refused_writes_nothing h = go (align_row (align_facts d l r (length ps) o)) h
    where
      go : (n : ℕ) → ((refused_or n o full).row ≡ 0 → ⊥) → refused_or n o full ≡ align_outcome (refused_or n o full).row 0 o
      go zero k = absurd (k refl)
      go (suc n) k = refl
