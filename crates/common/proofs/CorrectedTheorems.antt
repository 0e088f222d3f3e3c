-- The theorems on one odd reading put right, as specs/Corrected.antt states them: the answer is the list's, what moves and what stays, and the mean. Assumes nothing.
use Rattle.std.specs.Prelude.{Ok}
use Rattle.std.proofs.Common.{◌≡◌, ℕ, ◌+◌, ◌*◌, ◌^◌, ◌≤◌, Bool, true, false, T, List, [], ◌∷◌, ◌++◌, length, ℤ, pos, ◌+ℤ◌, ◌-ℤ◌, ◌*ℤ◌, neg_ℤ, nat_abs, sym, refl, ap, ◌∙◌, subst, arith, lit≤, ltb-false, le-ltb, eq-eqb}
use lib.Ieee.{Float, fin, binary64, up, down, le, eq}
use lib.Ieee.Exact.{HasValue}
use lib.Ieee.Bits.{is_true}
use lib.Ieee.Order.{le_of_values}
use Rattle.common.specs.declared.deviation.Deviation.{Deviation}
use Rattle.common.specs.Deviation.{count_limit, zero64, empty_with, step_of, mean_of}
use Rattle.common.specs.WholeScores.{whole_float, statistic_after}
use Rattle.common.specs.Corrected.{reading_limit, length_limit, whole_within, integer_of, corrected_statistic, corrected_of, AllWhole, updates, CorrectedIsTheLists}
use Rattle.common.specs.Corrected.{Moved, CorrectedMoves, RaisedNeverLowersTheMean}
use Rattle.common.proofs.WholeFloats.{whole_value, size_sum}
use Rattle.common.proofs.WholeValues.{whole_is, integer_small, own_within, own_integer}
use Rattle.common.proofs.DeviationLaws.{update_accepted, step_count, zero_is, holding}
use Rattle.common.proofs.WholeLists.{sum_of, squares_of, list_holds, sum_small, square_small, squares_small, sum_exchanged, squares_exchanged, swapped_whole}
use Rattle.common.proofs.WholeLists.{swapped_length, some_length}
use Rattle.common.proofs.CorrectedRows.{Accepted, accepted, corrected_passed}
use Rattle.common.proofs.MeanOrder.{size_negated, mean_raised, raised}

eq_self : (x : Float) (s : Bool) (a c : ℕ) → HasValue x s a c → eq x x ≡ true
unfolding eq
eq_self (fin true m e) s a c v = rw (eq-eqb (m * up e * down e) (m * up e * down e) refl)
eq_self (fin false m e) s a c v = rw (eq-eqb (m * up e * down e) (m * up e * down e) refl)
eq_self lib.Ieee.nan s a c v = elim v [ ]
eq_self (lib.Ieee.inf _) s a c v = elim v [ ]

-- a list's statistic passes row 26
list_accepted : (d : Float) (xs : List Float) (wrong right : Float) → eq d zero64 ≡ true → 1 ≤ length xs → length xs ≤ length_limit → AllWhole xs
    → T (whole_within reading_limit wrong) → T (whole_within reading_limit right) → Accepted (holding d (length xs) (sum_of xs) (squares_of xs)) wrong right
list_accepted d xs wrong right e O N h W R =
    let n = length xs in
    let S = sum_small xs h in
    let Q = squares_small xs h in
    let q : nat_abs (squares_of xs) ≤ 4294967296 * n = subst (λ (z : ℤ). nat_abs z ≤ 4294967296 * n) (sym Q.1) Q.2 in
    let zero_value : HasValue zero64 false 0 1 = subst (λ (x : Float). HasValue x false 0 1) (sym zero_is) (whole_value binary64 (pos 0) (lit≤ tt)) in
    let q-value = whole_value binary64 (pos Q.0) (omega (arith, Q.2)) in
    let up : T (le zero64 (whole_float (pos Q.0))) = le_of_values zero64 (whole_float (pos Q.0)) 0 1 Q.0 1 (lit≤ tt) (lit≤ tt) zero_value q-value (omega arith) in
    record {
      decay = e;
      wrong_whole = is_true _ W;
      right_whole = is_true _ R;
      some = le-ltb n 1 O;
      few = le-ltb length_limit n N;
      weighed = eq_self (whole_float (pos n)) false n 1 (whole_value binary64 (pos n) (omega arith));
      sum_whole = is_true _ (own_within binary64 (reading_limit * n) (sum_of xs) (omega arith) S);
      squares_whole = is_true _ (own_within binary64 (reading_limit * reading_limit * n) (squares_of xs) (omega arith) q);
      squares_up = is_true _ (subst (λ (z : ℤ). T (le zero64 (whole_float z))) (sym Q.1) up);
    }

-- what it does to whole numbers that the statistic holds
correction_moves : (d : Float) (n : ℕ) (a q : ℤ) (wrong right : Float) → nat_abs a ≤ 2 ^ 53 → nat_abs q ≤ 2 ^ 53
    → corrected_statistic (holding d n a q) wrong right
    ≡ holding d n (a +ℤ (integer_of right -ℤ integer_of wrong)) (q +ℤ (integer_of right *ℤ integer_of right -ℤ integer_of wrong *ℤ integer_of wrong))
unfolding corrected_statistic
correction_moves d n a q wrong right A Q =
    λ i.
    holding d n (own_integer binary64 a A i +ℤ (integer_of right -ℤ integer_of wrong))
    (own_integer binary64 q Q i +ℤ (integer_of right *ℤ integer_of right -ℤ integer_of wrong *ℤ integer_of wrong))

-- For every list of 1 to 1,048,576 whole readings and every place in it: from the list's statistic and the reading at that place (or the other zero),
-- the answer is bit for bit the statistic of the list with the right one there.
pub corrected_list : (d : Float) (ys zs : List Float) (held wrong right : Float) → eq d zero64 ≡ true → length (ys ++ held ∷ zs) ≤ length_limit → AllWhole (ys ++ held ∷ zs)
    → T (whole_within reading_limit wrong) → T (whole_within reading_limit right) → integer_of held ≡ integer_of wrong
    → corrected_of (statistic_after (empty_with d) (ys ++ held ∷ zs)) wrong right ≡ Ok (statistic_after (empty_with d) (ys ++ right ∷ zs))
corrected_list d ys zs held wrong right e N h W R same =
    let xs = ys ++ held ∷ zs in
    let new = ys ++ right ∷ zs in
    let n = length xs in
    let len = swapped_length ys zs held right in
    let before = list_holds d xs e N h in
    let after = list_holds d new e (subst (λ (k : ℕ). k ≤ length_limit) (sym len) N) (swapped_whole ys zs held right h R) in
    let a = list_accepted d xs wrong right e (some_length ys zs held) N h W R in
    let S = sum_small xs h in
    let Q = squares_small xs h in
    let q : nat_abs (squares_of xs) ≤ 2 ^ 53 = subst (λ (z : ℤ). nat_abs z ≤ 2 ^ 53) (sym Q.1) (omega (arith, Q.2)) in
    let r = integer_of right in
    let moves : holding d n (sum_of xs +ℤ (r -ℤ integer_of wrong)) (squares_of xs +ℤ (r *ℤ r -ℤ integer_of wrong *ℤ integer_of wrong)) ≡ holding d (length new) (sum_of new) (squares_of new) =
    (λ i. holding d (sym len i) (sum_of xs +ℤ (r -ℤ sym same i)) (squares_of xs +ℤ (r *ℤ r -ℤ sym same i *ℤ sym same i)))
    ∙ (λ i. holding d (length new) (sym (sum_exchanged ys zs held right) i) (sym (squares_exchanged ys zs held right) i)) in
    ap (λ (s : Deviation). corrected_of s wrong right) before
    ∙ accepted (holding d n (sum_of xs) (squares_of xs)) wrong right a
    ∙ ap Ok (correction_moves d n (sum_of xs) (squares_of xs) wrong right (omega arith) q ∙ moves ∙ sym after)

-- the same of the calls themselves
updates_fed : (s : Deviation) (xs : List Float) → s.count + length xs ≤ count_limit → updates s xs ≡ Ok (statistic_after s xs)
unfolding updates statistic_after
updates_fed s [] h = refl
updates_fed s (x ∷ xs) h = rw (update_accepted s x (omega arith)) (updates_fed (step_of s x) xs (omega (arith, step_count s x)))

at_place : (ys zs : List Float) (x : Float) → AllWhole (ys ++ x ∷ zs) → T (whole_within reading_limit x)
at_place [] zs x h = h.0
at_place (y ∷ ys) zs x h = at_place ys zs x h.1

pub corrected_is_the_lists : CorrectedIsTheLists
corrected_is_the_lists d ys zs wrong right s e N h R made =
    let old = ys ++ wrong ∷ zs in
    let new = ys ++ right ∷ zs in
    let before = updates_fed (empty_with d) old (omega arith) in
    let same : Ok s ≡ Ok (statistic_after (empty_with d) old) = sym made ∙ before in
    let s_is : s ≡ statistic_after (empty_with d) old = cc in
    let len = swapped_length ys zs wrong right in
    ap (λ (t : Deviation). corrected_of t wrong right) s_is
    ∙ corrected_list d ys zs wrong wrong right (is_true (eq d zero64) e) N h (at_place ys zs wrong h) R refl
    ∙ sym (updates_fed (empty_with d) new (omega arith))

-- ---- the sums move by exactly the change

statistic_moved : (s : Deviation) (wrong right : Float) → Accepted s wrong right → Moved s (corrected_statistic s wrong right) wrong right
unfolding corrected_statistic
statistic_moved s wrong right a =
    let n = s.count in
    let N : n ≤ length_limit = ltb-false length_limit n a.few in
    let r = integer_of right in
    let w = integer_of wrong in
    let R = integer_small reading_limit right (subst T (sym a.right_whole) tt) in
    let W = integer_small reading_limit wrong (subst T (sym a.wrong_whole) tt) in
    let S = integer_small (reading_limit * n) s.sum (subst T (sym a.sum_whole) tt) in
    let Q = integer_small (4294967296 * n) s.sum_squared (subst T (sym a.squares_whole) tt) in
    let sum = integer_of s.sum +ℤ (r -ℤ w) in
    let squares = integer_of s.sum_squared +ℤ (r *ℤ r -ℤ w *ℤ w) in
    let small : nat_abs sum ≤ 2 ^ 53 = omega (arith, size_sum (integer_of s.sum) (r -ℤ w), size_sum r (neg_ℤ w), size_negated w) in
    let small² : nat_abs squares ≤ 2 ^ 53 =
    omega (arith, size_sum (integer_of s.sum_squared) (r *ℤ r -ℤ w *ℤ w), size_sum (r *ℤ r) (neg_ℤ (w *ℤ w)), size_negated (w *ℤ w), square_small r R, square_small w W) in
    record {
      whole_sum = own_within binary64 (2 ^ 53) sum small small;
      sum_moved = own_integer binary64 sum small;
      sum_zero = zero_plus sum small;
      whole_squares = own_within binary64 (2 ^ 53) squares small² small²;
      squares_moved = own_integer binary64 squares small²;
      squares_zero = zero_plus squares small²;
      weight_kept = refl;
      count_kept = refl;
      decay_kept = refl;
    }
  where
    zero_plus : (z : ℤ) → nat_abs z ≤ 2 ^ 53 → integer_of (whole_float z) ≡ pos 0 → whole_float z ≡ zero64
    zero_plus z h e = ap (λ (y : ℤ). whole_float y) (sym (own_integer binary64 z h) ∙ e) ∙ sym zero_is

-- an accepted call's answer
answer_is : (s t : Deviation) (wrong right : Float) → corrected_of s wrong right ≡ Ok t → Accepted s wrong right × (corrected_statistic s wrong right ≡ t)
answer_is s t wrong right h =
    let a = corrected_passed s t wrong right h in
    let same : Ok (corrected_statistic s wrong right) ≡ Ok t = sym (accepted s wrong right a) ∙ h in
    (a, cc)

pub corrected_moves : CorrectedMoves
corrected_moves s t wrong right h =
    let a = answer_is s t wrong right h in
    subst (λ (x : Deviation). Moved s x wrong right) a.1 (statistic_moved s wrong right a.0)

-- ---- the mean

pub raised_never_lowers_the_mean : RaisedNeverLowersTheMean
raised_never_lowers_the_mean s t wrong right h up =
    let a = answer_is s t wrong right h in
    let w = whole_is reading_limit wrong (subst T (sym a.0.wrong_whole) tt) in
    let r = whole_is reading_limit right (subst T (sym a.0.right_whole) tt) in
    let k = raised wrong right w r up in
    subst (λ (x : Deviation). T (le (mean_of s) (mean_of x))) a.1 (mean_raised s wrong right k.0 a.0 k.1)
