-- Row 26 of `corrected`: what an accepted call has passed, and that each of its tests refuses by itself. Assumes nothing.
use Rattle.std.specs.Prelude.{Ok}
use Rattle.std.proofs.Common.{◌≡◌, ℕ, zero, suc, ◌*◌, ◌<◌, Bool, true, false, cond, not, ◌&&◌, T, eqb, ltb, List, [], ◌∷◌, pos, sym, refl, ap, ◌∙◌, true≢false, arith, eqb→eq, lt-ltb}
use borrow.Author.Tests.{not-false}
use lib.Ieee.{Float, le, eq}
use lib.Ieee.Fits.{and_l, and_r}
use Rattle.common.specs.declared.deviation.Deviation.{Deviation}
use Rattle.refusal.specs.Refusal.{first_of}
use Rattle.common.specs.Deviation.{deviation_row, deviation_answer, zero64}
use Rattle.common.specs.WholeScores.{whole_float}
use Rattle.common.specs.Corrected.{reading_limit, length_limit, whole_within, correction_rows, corrected_statistic, corrected_of}

-- every test of row 26 is passed
pub record Accepted (s : Deviation) (wrong right : Float) : Type 0 where
  pub decay : eq s.discount zero64 ≡ true
  pub wrong_whole : whole_within reading_limit wrong ≡ true
  pub right_whole : whole_within reading_limit right ≡ true
  pub some : ltb s.count 1 ≡ false
  pub few : ltb length_limit s.count ≡ false
  pub weighed : eq s.weight (whole_float (pos s.count)) ≡ true
  pub sum_whole : whole_within (reading_limit * s.count) s.sum ≡ true
  pub squares_whole : whole_within (reading_limit * reading_limit * s.count) s.sum_squared ≡ true
  pub squares_up : le zero64 s.sum_squared ≡ true

-- where they are, the row is 0, and the answer a statistic
pub passed_rows : (s : Deviation) (wrong right : Float) → Accepted s wrong right → 0 ≡ first_of (correction_rows s wrong right)
unfolding correction_rows
passed_rows s wrong right a =
    rw (a.decay, a.wrong_whole, a.right_whole, a.some, a.few, a.weighed, a.sum_whole, a.squares_whole, a.squares_up)

pub accepted : (s : Deviation) (wrong right : Float) → Accepted s wrong right → corrected_of s wrong right ≡ Ok (corrected_statistic s wrong right)
unfolding corrected_of
accepted s wrong right a = ap (λ (n : ℕ). deviation_answer n (corrected_statistic s wrong right)) (sym (passed_rows s wrong right a))

-- and the other way round
passed : (b : Bool) (n : ℕ) → cond b 26 n ≡ 0 → (b ≡ false) × (n ≡ 0)
passed true n h = absurd (omega arith)
passed false n h = (refl, h)

pub rows_passed : (s : Deviation) (wrong right : Float) → first_of (correction_rows s wrong right) ≡ 0 → Accepted s wrong right
unfolding correction_rows
rows_passed s wrong right h0 =
    let h1 = passed _ _ h0 in
    let h2 = passed _ _ h1.1 in
    let h3 = passed _ _ h2.1 in
    let h4 = passed _ _ h3.1 in
    let h5 = passed _ _ h4.1 in
    let h6 = passed _ _ h5.1 in
    let h7 = passed _ _ h6.1 in
    let h8 = passed _ _ h7.1 in
    let h9 = passed _ _ h8.1 in
    record {
      decay = not-false _ h1.0;
      wrong_whole = not-false _ h2.0;
      right_whole = not-false _ h3.0;
      some = h4.0;
      few = h5.0;
      weighed = not-false _ h6.0;
      sum_whole = not-false _ h7.0;
      squares_whole = not-false _ h8.0;
      squares_up = not-false _ h9.0;
    }

answered_row : (n : ℕ) (s : Deviation) → deviation_row (deviation_answer n s) ≡ n
answered_row zero s = refl
answered_row (suc n) s = refl

-- an answer that is a statistic says that row 26 was passed
pub corrected_passed : (s t : Deviation) (wrong right : Float) → corrected_of s wrong right ≡ Ok t → Accepted s wrong right
unfolding corrected_of
corrected_passed s t wrong right h =
    rows_passed s wrong right (sym (answered_row (first_of (correction_rows s wrong right)) (corrected_statistic s wrong right)) ∙ ap deviation_row h)

-- ---- one test that holds: every row is 26, so that whatever stands before it does not matter

abbrev all_are : ℕ → List (Bool × ℕ) → Bool
all_are n [] = true
all_are n (r ∷ rs) = eqb r.1 n && all_are n rs

abbrev test_at : List (Bool × ℕ) → ℕ → Bool
test_at [] i = false
test_at (r ∷ rs) zero = r.0
test_at (r ∷ rs) (suc i) = test_at rs i

either : (b : Bool) {n x y : ℕ} → n ≡ x → n ≡ y → n ≡ cond b x y
either true p q = p
either false p q = q

hit : (n : ℕ) (rows : List (Bool × ℕ)) (i : ℕ) → T (all_are n rows) → test_at rows i ≡ true → n ≡ first_of rows
hit n [] i a h = absurd (true≢false (sym h))
hit n (r ∷ rs) zero a h = rw h (sym (eqb→eq r.1 n (and_l (eqb r.1 n) (all_are n rs) a)))
hit n (r ∷ rs) (suc i) a h = either r.0 (sym (eqb→eq r.1 n (and_l (eqb r.1 n) (all_are n rs) a))) (hit n rs i (and_r (eqb r.1 n) (all_are n rs) a) h)

-- a callee's answer, turned by `!`
turned : {r w : Bool} {b : Bool} → r ≡ w → not r ≡ b → not w ≡ b
turned e h = rw e at h

pub told : {r w : Bool} → r ≡ w → not r ≡ false → w ≡ true
told e h = not-false _ (turned e h)

pub by_decay : (s : Deviation) (wrong right : Float) → not (eq s.discount zero64) ≡ true → 26 ≡ first_of (correction_rows s wrong right)
unfolding correction_rows
by_decay s wrong right h = hit 26 (correction_rows s wrong right) 0 tt h

pub by_wrong : (s : Deviation) (wrong right : Float) {r : Bool} → r ≡ whole_within reading_limit wrong → not r ≡ true → 26 ≡ first_of (correction_rows s wrong right)
unfolding correction_rows
by_wrong s wrong right e h = hit 26 (correction_rows s wrong right) 1 tt (turned e h)

pub by_right : (s : Deviation) (wrong right : Float) {r : Bool} → r ≡ whole_within reading_limit right → not r ≡ true → 26 ≡ first_of (correction_rows s wrong right)
unfolding correction_rows
by_right s wrong right e h = hit 26 (correction_rows s wrong right) 2 tt (turned e h)

pub by_none : (s : Deviation) (wrong right : Float) → s.count < 1 → 26 ≡ first_of (correction_rows s wrong right)
unfolding correction_rows
by_none s wrong right h = hit 26 (correction_rows s wrong right) 3 tt (lt-ltb _ _ h)

pub by_many : (s : Deviation) (wrong right : Float) → length_limit < s.count → 26 ≡ first_of (correction_rows s wrong right)
unfolding correction_rows
by_many s wrong right h = hit 26 (correction_rows s wrong right) 4 tt (lt-ltb _ _ h)

pub by_weight : (s : Deviation) (wrong right : Float) → not (eq s.weight (whole_float (pos s.count))) ≡ true → 26 ≡ first_of (correction_rows s wrong right)
unfolding correction_rows
by_weight s wrong right h = hit 26 (correction_rows s wrong right) 5 tt h

pub by_sum : (s : Deviation) (wrong right : Float) {r : Bool} → r ≡ whole_within (reading_limit * s.count) s.sum → not r ≡ true → 26 ≡ first_of (correction_rows s wrong right)
unfolding correction_rows
by_sum s wrong right e h = hit 26 (correction_rows s wrong right) 6 tt (turned e h)

pub by_squares : (s : Deviation) (wrong right : Float) {r : Bool} → r ≡ whole_within (reading_limit * reading_limit * s.count) s.sum_squared → not r ≡ true → 26 ≡ first_of
    (correction_rows s wrong right)
unfolding correction_rows
by_squares s wrong right e h = hit 26 (correction_rows s wrong right) 7 tt (turned e h)

pub by_negative : (s : Deviation) (wrong right : Float) → not (le zero64 s.sum_squared) ≡ true → 26 ≡ first_of (correction_rows s wrong right)
unfolding correction_rows
by_negative s wrong right h = hit 26 (correction_rows s wrong right) 8 tt h
