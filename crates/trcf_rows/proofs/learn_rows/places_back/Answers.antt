-- What the machine reads back of the index is the index, so that 0 less it is the number of readings before the newest. Assumes nothing.
use Prim.Native.Nat.{ℕ, zero, suc, ◌^◌, ◌<◌}
use mathlib.Core.Path.{◌≡◌, refl, sym, ap, subst, ◌∙◌}
use mathlib.Core.Bool.{true, false}
use native.Mathlib.Nat.{zero-add}
use native.Mathlib.Omega.{arith}
use borrow.Author.Tests.{lt-ltb}
use lib.Dec.{T}
use lib.IntN.{ℤ, pos, negsuc, nat_abs, ◌-ℤ◌}
use lib.Signed.{mag, lt_z, non_neg}
use mir.Syntax.{w32, w64}
use mir.Val.{Fits, SFits, to_z, of_z}
use mir.ValLaws.{to_z-of_z}
use Rattle.trcf.specs.View.{back_of}
use Rattle.trcf_rows.proofs.learn_rows.places_back.Goals as goal
use Rattle.trcf_rows.proofs.learn_rows.places_back.Goals.{Else-relative_index-gt0}

less_is : (z : ℤ) → lt_z (pos 0) z ≡ false → pos 0 -ℤ z ≡ pos (back_of z)
less_is (pos zero) e = refl
less_is (pos (suc n)) e =
    let t = lt-ltb 0 (suc n) (omega arith) in
    let f : ◌≡◌ {A = ℕ} 0 1 = cc in
    absurd (omega arith)
less_is (negsuc n) e = ap pos (zero-add (suc n))

ahead_is : (z : ℤ) → lt_z (pos 0) z ≡ true → 64 ≡ back_of z
ahead_is (pos zero) e = let f : ◌≡◌ {A = ℕ} 0 1 = cc in absurd (omega arith)
ahead_is (pos (suc n)) e = refl
ahead_is (negsuc n) e = let f : ◌≡◌ {A = ℕ} 0 1 = cc in absurd (omega arith)

back_small : (z : ℤ) → mag z < 2 ^ 31 → back_of z < 2 ^ 32
back_small (pos zero) h = omega arith
back_small (pos (suc n)) h = omega arith
back_small (negsuc n) h = omega arith

module _ (c : Else-relative_index-gt0) where
  abbrev index : ℤ
  index = c.args.relative_index

  plain : to_z w32 (of_z w32 index) ≡ index
  plain = to_z-of_z w32 index c.ranges.relative_index

  not_ahead : lt_z (pos 0) index ≡ false
  not_ahead = ap (lt_z (pos 0)) (sym plain) ∙ c.if-relative_index-gt0.false

  small : mag index < 2 ^ 31
  small = c.ranges.relative_index.sfits

  widened : SFits w64 (to_z w32 (of_z w32 index))
  widened = subst (SFits w64) (sym plain) (record { sfits = omega (arith, small) })

  wide_plain : to_z w64 (of_z w64 (to_z w32 (of_z w32 index))) ≡ index
  wide_plain = to_z-of_z w64 (to_z w32 (of_z w32 index)) widened ∙ plain

  less_fits : SFits w64 (pos 0 -ℤ to_z w64 (of_z w64 (to_z w32 (of_z w32 index))))
  less_fits =
      subst (λ (v : ℤ). SFits w64 (pos 0 -ℤ v)) (sym wide_plain)
      (subst (SFits w64) (sym (less_is index not_ahead)) (record { sfits = omega (arith, back_small index small) }))

  back_plain : to_z w64 (of_z w64 (pos 0 -ℤ to_z w64 (of_z w64 (to_z w32 (of_z w32 index))))) ≡ pos (back_of index)
  back_plain = to_z-of_z w64 (pos 0 -ℤ to_z w64 (of_z w64 (to_z w32 (of_z w32 index)))) less_fits ∙ ap (λ (v : ℤ). pos 0 -ℤ v) wide_plain ∙ less_is index not_ahead

pub returns-then-relative_index-gt0 : goal.returns-then-relative_index-gt0
returns-then-relative_index-gt0 c =
    let i = c.args.relative_index in
    ahead_is i (ap (lt_z (pos 0)) (sym (to_z-of_z w32 i c.ranges.relative_index)) ∙ c.if-relative_index-gt0.true)

pub overflow_cast-wide : goal.overflow_cast-wide
overflow_cast-wide c = widened (goal.at.overflow_cast-wide c).Else-relative_index-gt0

pub overflow_sub-result : goal.overflow_sub-result
overflow_sub-result c = less_fits (goal.at.overflow_sub-result c).Else-relative_index-gt0

pub overflow_cast-result : goal.overflow_cast-result
overflow_cast-result c =
    subst (λ (v : ℤ). T (non_neg v) × Fits w64 (nat_abs v)) (sym (back_plain (goal.at.overflow_cast-result c).Else-relative_index-gt0))
    (tt, record { fits = omega (arith, back_small (index (goal.at.overflow_cast-result c).Else-relative_index-gt0) (small (goal.at.overflow_cast-result c).Else-relative_index-gt0)) })

pub returns : goal.returns
returns c = ap nat_abs (back_plain (goal.at.returns c).Else-relative_index-gt0)
