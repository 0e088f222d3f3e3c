-- The statistic of a list of whole readings, −0 among them, with decay 0: it holds their number, sum and sum of squares exactly; and what one reading's change does to these. Assumes nothing.
use Rattle.std.proofs.Common.{◌≡◌, ℕ, suc, ◌+◌, ◌*◌, ◌^◌, ◌≤◌, true, T, List, [], ◌∷◌, ◌++◌, map, length, ℤ, pos, negsuc, ◌+ℤ◌, ◌-ℤ◌, ◌*ℤ◌, neg_ℤ, nat_abs, sym, refl, ap, ◌∙◌, subst, le_trans, add-zero, mul-le-mul, zero-add, arith, lit≤}
use lib.IntN.{+ℤ_assoc, +ℤ_comm, +ℤ_idr, +ℤ_idl, +ℤ_invr}
use lib.Ieee.{Float, binary64, add, mul, eq}
use Rattle.common.specs.declared.deviation.Deviation.{Deviation}
use Rattle.common.specs.Deviation.{zero64, one64, statistic, empty_with, factor_of, step_of}
use Rattle.common.specs.WholeScores.{whole_float, statistic_after, total, total_of_squares}
use Rattle.common.specs.Corrected.{reading_limit, length_limit, whole_within, integer_of, AllWhole}
use Rattle.common.proofs.WholeFloats.{mul_whole_one, size_sum, size_square}
use Rattle.common.proofs.WholeValues.{Whole, whole_is, integer_small, own_within, own_integer, add_signed, square_signed}
use Rattle.common.proofs.DeviationLaws.{factor_none, one_is, zero_is, holding}

-- one update of an accumulated whole number, by a float that is a whole number
accumulated : (a : ℤ) (x g : Float) {b : ℕ} → nat_abs a ≤ 2 ^ 53 → g ≡ one64 → Whole b x → add binary64 (mul binary64 (whole_float a) g) x ≡ whole_float (a +ℤ integer_of x)
accumulated a x g A e w =
    ap (λ (y : Float). add binary64 (mul binary64 (whole_float a) y) x) (e ∙ one_is)
    ∙ ap (λ (y : Float). add binary64 y x) (mul_whole_one binary64 a A (lit≤ tt))
    ∙ add_signed binary64 a x A w

-- an integer's own float is a whole number: for the one and the square that an update adds
own : (z : ℤ) → nat_abs z ≤ 2 ^ 53 → Whole (2 ^ 53) (whole_float z)
own z h = whole_is (2 ^ 53) (whole_float z) (own_within binary64 (2 ^ 53) z h h)

step_holds : (d : Float) (n : ℕ) (a q : ℤ) (x : Float) → eq d zero64 ≡ true → n ≤ 2 ^ 53 → nat_abs a ≤ 2 ^ 53 → nat_abs q ≤ 2 ^ 53 → T (whole_within reading_limit x)
    → step_of (holding d n a q) x ≡ holding d (n + 1) (a +ℤ integer_of x) (q +ℤ integer_of x *ℤ integer_of x)
unfolding step_of
step_holds d n a q x e N A Q h =
    let f = factor_none d n e in
    let w = whole_is reading_limit x h in
    let z = integer_of x in
    let Z = integer_small reading_limit x h in
    let square : nat_abs (z *ℤ z) ≤ 2 ^ 53 = subst (λ (k : ℕ). k ≤ 2 ^ 53) (sym (size_square z)) (le_trans (mul-le-mul Z Z) (lit≤ tt)) in
    let W : add binary64 (mul binary64 (whole_float (pos n)) (factor_of d n)) one64 ≡ whole_float (pos (n + 1)) =
    ap (λ (y : Float). add binary64 (mul binary64 (whole_float (pos n)) (factor_of d n)) y) one_is
    ∙ accumulated (pos n) (whole_float (pos 1)) (factor_of d n) N f (own (pos 1) (lit≤ tt))
    ∙ ap (λ (k : ℤ). whole_float (pos n +ℤ k)) (own_integer binary64 (pos 1) (lit≤ tt)) in
    let S : add binary64 (mul binary64 (whole_float a) (factor_of d n)) x ≡ whole_float (a +ℤ z) = accumulated a x (factor_of d n) A f w in
    let R : add binary64 (mul binary64 (whole_float q) (factor_of d n)) (mul binary64 x x) ≡ whole_float (q +ℤ z *ℤ z) =
    ap (λ (y : Float). add binary64 (mul binary64 (whole_float q) (factor_of d n)) y) (square_signed binary64 x w)
    ∙ accumulated q (whole_float (z *ℤ z)) (factor_of d n) Q f (own (z *ℤ z) square)
    ∙ ap (λ (k : ℤ). whole_float (q +ℤ k)) (own_integer binary64 (z *ℤ z) square) in
    λ i. statistic d (W i) (S i) (R i) (n + 1)

-- the whole numbers of a list, and their squares, added up
abbrev pub sum_of : List Float → ℤ
sum_of xs = total (map integer_of xs)

abbrev pub squares_of : List Float → ℤ
squares_of xs = total_of_squares (map integer_of xs)

pub square_small : (z : ℤ) → nat_abs z ≤ 65536 → nat_abs (z *ℤ z) ≤ 4294967296
square_small z Z = subst (λ (k : ℕ). k ≤ 4294967296) (sym (size_square z)) (mul-le-mul Z Z)

more_holds : (d : Float) (xs : List Float) (n : ℕ) (a q : ℤ) → eq d zero64 ≡ true → n + length xs ≤ length_limit → nat_abs a ≤ 65536 * n → nat_abs q ≤ 4294967296 * n → AllWhole xs
    → statistic_after (holding d n a q) xs ≡ holding d (n + length xs) (a +ℤ sum_of xs) (q +ℤ squares_of xs)
unfolding statistic_after total total_of_squares
more_holds d [] n a q e N A Q h = λ i. holding d (sym (add-zero n) i) (sym (+ℤ_idr a) i) (sym (+ℤ_idr q) i)
more_holds d (x ∷ xs) n a q e N A Q h =
    let z = integer_of x in
    let Z = integer_small reading_limit x h.0 in
    let Z² = square_small z Z in
    let A' : nat_abs (a +ℤ z) ≤ 65536 * (n + 1) = omega (arith, size_sum a z) in
    let Q' : nat_abs (q +ℤ z *ℤ z) ≤ 4294967296 * (n + 1) = omega (arith, size_sum q (z *ℤ z)) in
    ap (λ (s : Deviation). statistic_after s xs) (step_holds d n a q x e (omega arith) (omega arith) (omega arith) h.0)
    ∙ more_holds d xs (n + 1) (a +ℤ z) (q +ℤ z *ℤ z) e (omega arith) A' Q' h.1
    ∙ λ i. holding d (count n (length xs) i) (+ℤ_assoc a z (sum_of xs) i) (+ℤ_assoc q (z *ℤ z) (squares_of xs) i)
  where
    count : (n k : ℕ) → n + 1 + k ≡ n + suc k
    count n k = omega arith

pub list_holds : (d : Float) (xs : List Float) → eq d zero64 ≡ true → length xs ≤ length_limit → AllWhole xs
    → statistic_after (empty_with d) xs ≡ holding d (length xs) (sum_of xs) (squares_of xs)
list_holds d xs e N h =
    ap (λ (x : Float). statistic_after (statistic d x x x 0) xs) zero_is
    ∙ more_holds d xs 0 (pos 0) (pos 0) e (omega arith) (lit≤ tt) (lit≤ tt) h
    ∙ λ i. holding d (zero-add (length xs) i) (+ℤ_idl (sum_of xs) i) (+ℤ_idl (squares_of xs) i)

-- ---- the sums of a list: their sizes, and what one element's change does to them

pub sum_small : (xs : List Float) → AllWhole xs → nat_abs (sum_of xs) ≤ 65536 * length xs
unfolding total
sum_small [] h = lit≤ tt
sum_small (x ∷ xs) h = omega (arith, size_sum (integer_of x) (sum_of xs), integer_small reading_limit x h.0, sum_small xs h.1)

square_pos : (z : ℤ) → (k : ℕ) × (z *ℤ z ≡ pos k)
square_pos (pos n) = (n * n, refl)
square_pos (negsuc n) = (suc n * suc n, refl)

pub squares_small : (xs : List Float) → AllWhole xs → (k : ℕ) × (squares_of xs ≡ pos k) × (k ≤ 4294967296 * length xs)
unfolding total_of_squares
squares_small [] h = (0, refl, lit≤ tt)
squares_small (x ∷ xs) h =
    let a = square_pos (integer_of x) in
    let b = squares_small xs h.1 in
    let s : a.0 ≤ 4294967296 = subst (λ (z : ℤ). nat_abs z ≤ 4294967296) a.1 (square_small (integer_of x) (integer_small reading_limit x h.0)) in
    (a.0 + b.0, λ i. a.1 i +ℤ b.1 i, omega (arith, b.2))

-- z out, r in
exchanged : (z r t : ℤ) → r +ℤ t ≡ z +ℤ t +ℤ (r -ℤ z)
exchanged z r t =
    sym
    ((λ i. +ℤ_comm z t i +ℤ +ℤ_comm r (neg_ℤ z) i)
    ∙ +ℤ_assoc t z (neg_ℤ z +ℤ r)
    ∙ ap (λ (y : ℤ). t +ℤ y) (sym (+ℤ_assoc z (neg_ℤ z) r) ∙ ap (λ (y : ℤ). y +ℤ r) (+ℤ_invr z) ∙ +ℤ_idl r)
    ∙ +ℤ_comm t r)

moved : (y t c : ℤ) → y +ℤ (t +ℤ c) ≡ y +ℤ t +ℤ c
moved y t c = sym (+ℤ_assoc y t c)

pub sum_exchanged : (ys zs : List Float) (wrong right : Float) → sum_of (ys ++ right ∷ zs) ≡ sum_of (ys ++ wrong ∷ zs) +ℤ (integer_of right -ℤ integer_of wrong)
unfolding total
sum_exchanged [] zs wrong right = exchanged (integer_of wrong) (integer_of right) (sum_of zs)
sum_exchanged (y ∷ ys) zs wrong right =
    ap (λ (t : ℤ). integer_of y +ℤ t) (sum_exchanged ys zs wrong right) ∙ moved (integer_of y) (sum_of (ys ++ wrong ∷ zs)) (integer_of right -ℤ integer_of wrong)

pub squares_exchanged : (ys zs : List Float) (wrong right : Float)
    → squares_of (ys ++ right ∷ zs) ≡ squares_of (ys ++ wrong ∷ zs) +ℤ (integer_of right *ℤ integer_of right -ℤ integer_of wrong *ℤ integer_of wrong)
unfolding total_of_squares
squares_exchanged [] zs wrong right = exchanged (integer_of wrong *ℤ integer_of wrong) (integer_of right *ℤ integer_of right) (squares_of zs)
squares_exchanged (y ∷ ys) zs wrong right =
    ap (λ (t : ℤ). integer_of y *ℤ integer_of y +ℤ t) (squares_exchanged ys zs wrong right)
    ∙ moved (integer_of y *ℤ integer_of y) (squares_of (ys ++ wrong ∷ zs)) (integer_of right *ℤ integer_of right -ℤ integer_of wrong *ℤ integer_of wrong)

-- ---- the list with another reading in one place

pub swapped_whole : (ys zs : List Float) (held right : Float) → AllWhole (ys ++ held ∷ zs) → T (whole_within reading_limit right) → AllWhole (ys ++ right ∷ zs)
swapped_whole [] zs held right h r = (r, h.1)
swapped_whole (y ∷ ys) zs held right h r = (h.0, swapped_whole ys zs held right h.1 r)

pub swapped_length : (ys zs : List Float) (held right : Float) → length (ys ++ right ∷ zs) ≡ length (ys ++ held ∷ zs)
swapped_length [] zs held right = refl
swapped_length (y ∷ ys) zs held right = ap suc (swapped_length ys zs held right)

pub some_length : (ys zs : List Float) (held : Float) → 1 ≤ length (ys ++ held ∷ zs)
some_length [] zs held = omega arith
some_length (y ∷ ys) zs held = omega arith
