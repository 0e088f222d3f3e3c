-- A statistic in lent memory, from what common promises. Assumes nothing.
use Prim.Native.Nat.{ℕ, ◌≤◌, ◌<◌}
use mathlib.Core.Bool.{Bool, cond}
use mathlib.Core.List.{List, [], ◌∷◌}
use mathlib.Core.Path.{◌≡◌, refl, sym, ap, ◌∙◌}
use native.Mathlib.Omega.{arith}
use lib.ListN.{length, set}
use lib.Ieee.{Float}
use borrow.Author.Tests.{lt-ltb, le-ltb}
use Rattle.refusal.specs.Lent.{over}
use Rattle.common.specs.Corrected.{corrected_of}
use Rattle.common.specs.declared.deviation.Deviation.{Deviation}
use Rattle.std.specs.Prelude.{Result, Ok, Err}
use Rattle.capi.specs.Statistic.{StatisticGot, statistic_got, statistic_told, result_told, corrected_at}

-- three numbers written one after the other
three_over : (w s q : Float) (out : List Float) → 3 ≤ length out → set (set (set out 0 w) 1 s) 2 q ≡ over out (w ∷ s ∷ q ∷ [])
unfolding over
three_over w s q [] h = absurd (omega (arith, h))
three_over w s q (x ∷ []) h = absurd (omega (arith, h))
three_over w s q (x ∷ y ∷ []) h = absurd (omega (arith, h))
three_over w s q (x ∷ y ∷ z ∷ l) h = refl

module _ (s : Deviation) (out : List Float) where
  abbrev told_by : Bool → StatisticGot
  told_by b = cond b (statistic_got 20 out) (statistic_got 0 (over out (s.weight ∷ s.sum ∷ s.sum_squared ∷ [])))

  pub statistic_short : length out < 3 → statistic_got 20 out ≡ statistic_told s out
  unfolding statistic_told
  statistic_short h = sym (ap told_by (lt-ltb (length out) 3 h))

  pub statistic_fits : 3 ≤ length out → statistic_got 0 (set (set (set out 0 s.weight) 1 s.sum) 2 s.sum_squared) ≡ statistic_told s out
  unfolding statistic_told
  statistic_fits h = ap (statistic_got 0) (three_over s.weight s.sum s.sum_squared out h) ∙ sym (ap told_by (le-ltb (length out) 3 h))

-- by what `corrected` answers
module _ (s : Deviation) (wrong right : Float) (out : List Float) {r : Result Deviation ℕ} (i : r ≡ corrected_of s wrong right) where
  pub corrected_done : {t : Deviation} {o : StatisticGot} → r ≡ Ok t → o ≡ statistic_told t out → o ≡ corrected_at s wrong right out
  unfolding corrected_at
  corrected_done e p = p ∙ ap (λ (x : Result Deviation ℕ). result_told x out) (sym e ∙ i)

  pub corrected_refused : {n : ℕ} → r ≡ Err n → statistic_got n out ≡ corrected_at s wrong right out
  unfolding corrected_at
  corrected_refused e = ap (λ (x : Result Deviation ℕ). result_told x out) (sym e ∙ i)
