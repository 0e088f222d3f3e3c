-- The sizes after each pair: none for no pairs, and one pair more widens them.
use Prim.Native.Nat.{ℕ, zero, suc, ◌+◌, ◌*◌, ◌≤◌, ◌<◌}
use mathlib.Core.Path.{◌≡◌, refl, sym, ap, ◌∙◌}
use mathlib.Core.List.{List, [], ◌∷◌, ◌++◌, map, map-append}
use native.Mathlib.Numerals.{add-one}
use native.Mathlib.Omega.{arith}
use lib.ListN.{length, get_or, set, take, drop, replicate}
use lib.Seq.{take-suc, length-take-le}
use lib.Ieee.{Float, nan}
use Rattle.refusal.specs.Lent.{over}
use Rattle.series.specs.Pairs.{Pair, pair}
use Rattle.series.specs.Gaps.{zero32, difference_size, larger, largest_from, largest, cell, difference_sizes, per_channel, gaps}
use Rattle.series.specs.Steps.Comparing.{widened}
use Rattle.series.proofs.AlignmentLaws.Channels.{channels_length, channels_at, channels_same}
use Rattle.series.proofs.AlignmentLaws.Written.{part, part_at, part_more, part_whole}

zeros : (d : ℕ) → replicate d zero32 ≡ per_channel d (λ _. zero32)
zeros zero = refl
zeros (suc d) = ap (zero32 ∷◌) (zeros d)

pub gaps_none : (d : ℕ) (l r : List Float) → replicate d zero32 ≡ gaps d l r []
unfolding gaps largest difference_sizes
gaps_none d l r = zeros d

pub gaps_length_lem : (d : ℕ) (l r : List Float) (ps : List Pair) → length (gaps d l r ps) ≡ d
unfolding gaps
gaps_length_lem d l r ps = channels_length d (λ c. largest (difference_sizes d l r ps c))

pub widened_length : (l : List Float) (a : ℕ) (r : List Float) (b : ℕ) (g : List Float) → length (widened l a r b g) ≡ length g
unfolding widened
widened_length l a r b g = channels_length (length g) (λ c. larger (get_or g c nan) (difference_size (get_or l (a + c) nan) (get_or r (b + c) nan)))

-- one size more
largest_from_one_more : (g : Float) (xs : List Float) (x : Float) → largest_from g (xs ++ (x ∷ [])) ≡ larger (largest_from g xs) x
largest_from_one_more g [] x = refl
largest_from_one_more g (y ∷ xs) x = largest_from_one_more (larger g y) xs x

largest_one_more : (xs : List Float) (x : Float) → largest (xs ++ (x ∷ [])) ≡ larger (largest xs) x
unfolding largest
largest_one_more xs x = largest_from_one_more zero32 xs x

module _ (d : ℕ) (l r : List Float) (ps : List Pair) (n i j : ℕ) (h : n < length ps) (e : get_or ps n (pair 0 0) ≡ pair i j) where
  sizes_one_more : (c : ℕ) → difference_sizes d l r (take (n + 1) ps) c ≡ difference_sizes d l r (take n ps) c ++ (difference_size (cell d l i c) (cell d r j c) ∷ [])
  unfolding difference_sizes
  sizes_one_more c =
      let f : Pair → Float = λ p. difference_size (cell d l p.left c) (cell d r p.right c) in
      ap (λ (k : ℕ). map f (take k ps)) (add-one n)
      ∙ ap (map f) (take-suc ps n (pair 0 0) h)
      ∙ map-append f (take n ps) (get_or ps n (pair 0 0) ∷ [])
      ∙ ap (λ (p : Pair). map f (take n ps) ++ (f p ∷ [])) e

  pub gaps_one_more : widened l (i * d) r (j * d) (gaps d l r (take n ps)) ≡ gaps d l r (take (n + 1) ps)
  unfolding gaps widened
  gaps_one_more =
      let so_far : ℕ → Float = λ c. largest (difference_sizes d l r (take n ps) c) in
      let s : ℕ → Float = λ c. difference_size (cell d l i c) (cell d r j c) in
      ap (λ (k : ℕ). per_channel k (λ c. larger (get_or (per_channel d so_far) c nan) (s c))) (channels_length d so_far)
      ∙ channels_same d (λ c. larger (get_or (per_channel d so_far) c nan) (s c)) (λ c. largest (difference_sizes d l r (take (n + 1) ps) c))
      (λ c k.
      ap (λ (g : Float). larger g (s c)) (channels_at d so_far c nan k)
      ∙ sym (largest_one_more (difference_sizes d l r (take n ps) c) (s c))
      ∙ ap largest (sym (sizes_one_more c)))

-- a turn of the loop over the channels
widened_at : (l : List Float) (a : ℕ) (r : List Float) (b : ℕ) (g : List Float) (c : ℕ) → c < length g
    → get_or (widened l a r b g) c nan ≡ larger (get_or g c nan) (difference_size (get_or l (a + c) nan) (get_or r (b + c) nan))
unfolding widened
widened_at l a r b g c h =
    channels_at (length g) (λ k. larger (get_or g k nan) (difference_size (get_or l (a + k) nan) (get_or r (b + k) nan))) c nan h

pub widen_turn : (l : List Float) (a : ℕ) (r : List Float) (b : ℕ) (g now : List Float) (c : ℕ) (s v : Float)
    → c < length g → now ≡ part g (widened l a r b g) c
    → s ≡ difference_size (get_or l (a + c) nan) (get_or r (b + c) nan) → v ≡ larger (get_or now c nan) s
    → set now c v ≡ part g (widened l a r b g) (c + 1)
widen_turn l a r b g now c s v h e size by =
    let new = widened l a r b g in
    let hn : c < length new = omega (arith, widened_length l a r b g) in
    let old : get_or now c nan ≡ get_or g c nan = ap (λ (m : List Float). get_or m c nan) e ∙ part_at g new c nan hn h in
    let value : v ≡ larger (get_or g c nan) (difference_size (get_or l (a + c) nan) (get_or r (b + c) nan)) =
    by ∙ ap (λ (x : Float). larger x s) old ∙ ap (larger (get_or g c nan)) size in
    ap (λ (m : List Float). set m c v) e ∙ part_more g new c nan hn h v (widened_at l a r b g c h ∙ sym value)

pub widen_end : (l : List Float) (a : ℕ) (r : List Float) (b : ℕ) (g : List Float) (c : ℕ) → c ≡ length g
    → part g (widened l a r b g) c ≡ widened l a r b g
widen_end l a r b g c e = part_whole g (widened l a r b g) c (omega (arith, widened_length l a r b g)) e

-- what is written at the front of the sizes' output
pub gaps_front : (d : ℕ) (l r : List Float) (ps : List Pair) (old front : List Float) → d ≤ length old
    → front ≡ gaps (length (take d old)) l r ps → front ++ drop d old ≡ over old (gaps d l r ps)
unfolding over
gaps_front d l r ps old front h e =
    ap (λ (x : List Float). x ++ drop d old) (e ∙ ap (λ (k : ℕ). gaps k l r ps) (length-take-le d old h))
    ∙ ap (λ (k : ℕ). gaps d l r ps ++ drop k old) (sym (gaps_length_lem d l r ps))
