-- Laws of the running statistic for the crates above: what an update does to discount and count and when it is refused, that every number of a step
-- fits binary64, and `exact_sums`: with discount 0, whole-number scores are summed exactly. Assumes nothing.
use Rattle.std.specs.Prelude.{Ok, Err}
use Rattle.std.proofs.Common.{◌≡◌, ℕ, suc, ◌+◌, ◌*◌, ◌^◌, ◌<◌, ◌≤◌, true, T, List, [], ◌∷◌, map, length, ℤ, pos, ◌+ℤ◌, ◌*ℤ◌, nat_abs, sym, refl, ap, ◌∙◌, subst, le_trans, add-zero, mul-le-mul, zero-add, arith, lit≤, lt-ltb, le-leb}
use native.Mathlib.Decide.{dec_lt}
use borrow.Author.Tests.{lt-leb}
use lib.IntN.{+ℤ_assoc, +ℤ_idr, +ℤ_idl}
use lib.Ieee.{Float, binary64, add, mul, eq, of_int, of_bits, round, fits}
use lib.Ieee.Fits.{add-fits}
use Rattle.common.specs.declared.deviation.Deviation.{Deviation}
use Rattle.common.specs.Deviation.{zero64, one64, count_limit, statistic, empty_with, factor_of, next_factor, step_by, update_by, step_of, deviation_update}
use Rattle.common.specs.WholeScores.{whole_float, statistic_after, total, total_of_squares, AllWithin}
use Rattle.common.proofs.WholeFloats.{add_whole, mul_whole_one, square_whole, size_sum, size_square}

-- ---- update

pub step_discount : (s : Deviation) (x : Float) → (step_of s x).discount ≡ s.discount
unfolding step_of
step_discount s x = refl

pub step_count : (s : Deviation) (x : Float) → (step_of s x).count ≡ s.count + 1
unfolding step_of
step_count s x = refl

pub update_accepted : (s : Deviation) (x : Float) → s.count < count_limit → deviation_update s x ≡ Ok (step_of s x)
unfolding deviation_update
update_accepted s x h = rw (lt-leb count_limit s.count h)

pub update_refused : (s : Deviation) (x : Float) → count_limit ≤ s.count → deviation_update s x ≡ Err 18
unfolding deviation_update
update_refused s x h = rw (le-leb count_limit s.count h)

-- ---- update by a factor that is given

pub next_factor_lem : (d : Float) (n : ℕ) → n < count_limit → next_factor d n ≡ factor_of d n
unfolding next_factor
next_factor_lem d n h = rw (lt-ltb n count_limit h)

pub step_by_lem : (s : Deviation) (x : Float) → step_by (factor_of s.discount s.count) s x ≡ step_of s x
unfolding step_by step_of
step_by_lem s x = refl

-- with its own factor it is the step
pub update_by_accepted : (f : Float) (s : Deviation) (x : Float) → f ≡ factor_of s.discount s.count → s.count < count_limit → update_by f s x ≡ Ok (step_of s x)
unfolding update_by
update_by_accepted f s x e h = rw (lt-leb count_limit s.count h) (ap Ok (ap (λ (g : Float). step_by g s x) e ∙ step_by_lem s x))

pub update_by_refused : (f : Float) (s : Deviation) (x : Float) → count_limit ≤ s.count → update_by f s x ≡ Err 18
unfolding update_by
update_by_refused f s x h = rw (le-leb count_limit s.count h)

-- and so is update with the factor of the next one
pub update_by_next : (s : Deviation) (x : Float) → update_by (next_factor s.discount s.count) s x ≡ deviation_update s x
update_by_next s x = by_count (dec_lt s.count count_limit)
  where
    by_count : Dec (s.count < count_limit) → update_by (next_factor s.discount s.count) s x ≡ deviation_update s x
    by_count (yes h) = update_by_accepted _ s x (next_factor_lem s.discount s.count h) h ∙ sym (update_accepted s x h)
    by_count (no h) = update_by_refused _ s x (omega arith) ∙ sym (update_refused s x (omega arith))

pub fed_discount : (s : Deviation) (xs : List Float) → (statistic_after s xs).discount ≡ s.discount
unfolding statistic_after
fed_discount s [] = refl
fed_discount s (x ∷ xs) = fed_discount (step_of s x) xs ∙ step_discount s x

pub fed_count_lem : (s : Deviation) (xs : List Float) → (statistic_after s xs).count ≡ s.count + length xs
unfolding statistic_after
fed_count_lem s [] = sym (add-zero s.count)
fed_count_lem s (x ∷ xs) = omega (arith, fed_count_lem (step_of s x) xs, step_count s x)

-- ---- every number is an f64

pub record Fits (s : Deviation) : Type 0 where
  pub weight : T (fits binary64 s.weight)
  pub sum : T (fits binary64 s.sum)
  pub squares : T (fits binary64 s.sum_squared)

pub step_fits : (s : Deviation) (x : Float) → Fits (step_of s x)
unfolding step_of
step_fits s x = record { weight = add-fits binary64 _ _; sum = add-fits binary64 _ _; squares = add-fits binary64 _ _ }

-- ---- exact sums: discount 0 (either zero), scores of size at most 65,536, at most 2 ^ 20 of them

-- with discount 0 the factor is 1
pub factor_none : (d : Float) (n : ℕ) → eq d zero64 ≡ true → factor_of d n ≡ one64
unfolding factor_of
factor_none d n e = rw e

pub one_is : one64 ≡ whole_float (pos 1)
unfolding of_bits of_int round
one_is = refl

pub zero_is : zero64 ≡ whole_float (pos 0)
unfolding of_bits of_int round
zero_is = refl

-- one update of an accumulated whole number
accumulated : (a b : ℤ) → nat_abs a ≤ 2 ^ 53 → nat_abs b ≤ 2 ^ 53 → add binary64 (mul binary64 (whole_float a) one64) (whole_float b) ≡ whole_float (a +ℤ b)
accumulated a b A B =
    ap (λ (x : Float). add binary64 (mul binary64 (whole_float a) x) (whole_float b)) one_is
    ∙ ap (λ (x : Float). add binary64 x (whole_float b)) (mul_whole_one binary64 a A (lit≤ tt))
    ∙ add_whole binary64 a b A B

-- the statistic that holds n scores with the sum a and the sum of squares q
abbrev pub holding : Float → ℕ → ℤ → ℤ → Deviation
holding d n a q = statistic d (whole_float (pos n)) (whole_float a) (whole_float q) n

step_whole : (d : Float) (n : ℕ) (a q z : ℤ) → eq d zero64 ≡ true → n ≤ 2 ^ 53 → nat_abs a ≤ 2 ^ 53 → nat_abs q ≤ 2 ^ 53 → nat_abs z ≤ 65536
    → step_of (holding d n a q) (whole_float z) ≡ holding d (n + 1) (a +ℤ z) (q +ℤ z *ℤ z)
unfolding step_of
step_whole d n a q z e N A Q Z =
    let f = factor_none d n e in
    let small : nat_abs z ≤ 2 ^ 53 = omega arith in
    let square : nat_abs (z *ℤ z) ≤ 2 ^ 53 = subst (λ (k : ℕ). k ≤ 2 ^ 53) (sym (size_square z)) (le_trans (mul-le-mul Z Z) (lit≤ tt)) in
    let w : add binary64 (mul binary64 (whole_float (pos n)) (factor_of d n)) one64 ≡ whole_float (pos (n + 1)) =
    (λ i. add binary64 (mul binary64 (whole_float (pos n)) (f i)) (one_is i)) ∙ accumulated (pos n) (pos 1) N (lit≤ tt) in
    let s : add binary64 (mul binary64 (whole_float a) (factor_of d n)) (whole_float z) ≡ whole_float (a +ℤ z) =
    (λ i. add binary64 (mul binary64 (whole_float a) (f i)) (whole_float z)) ∙ accumulated a z A small in
    let r : add binary64 (mul binary64 (whole_float q) (factor_of d n)) (mul binary64 (whole_float z) (whole_float z)) ≡ whole_float (q +ℤ z *ℤ z) =
    (λ i. add binary64 (mul binary64 (whole_float q) (f i)) (square_whole binary64 z small i)) ∙ accumulated q (z *ℤ z) Q square in
    λ i. statistic d (w i) (s i) (r i) (n + 1)

more_exact : (d : Float) (zs : List ℤ) (n : ℕ) (a q : ℤ) → eq d zero64 ≡ true → n + length zs ≤ 1048576 → nat_abs a ≤ 65536 * n → nat_abs q ≤ 4294967296 * n → AllWithin 65536 zs
    → statistic_after (holding d n a q) (map whole_float zs) ≡ holding d (n + length zs) (a +ℤ total zs) (q +ℤ total_of_squares zs)
unfolding statistic_after total total_of_squares
more_exact d [] n a q e N A Q h = λ i. holding d (sym (add-zero n) i) (sym (+ℤ_idr a) i) (sym (+ℤ_idr q) i)
more_exact d (z ∷ zs) n a q e N A Q h =
    let Z = h.0 in
    let square : nat_abs (z *ℤ z) ≤ 4294967296 = subst (λ (k : ℕ). k ≤ 4294967296) (sym (size_square z)) (mul-le-mul Z Z) in
    let A' : nat_abs (a +ℤ z) ≤ 65536 * (n + 1) = omega (arith, size_sum a z) in
    let Q' : nat_abs (q +ℤ z *ℤ z) ≤ 4294967296 * (n + 1) = omega (arith, size_sum q (z *ℤ z)) in
    ap (λ (s : Deviation). statistic_after s (map whole_float zs)) (step_whole d n a q z e (omega arith) (omega arith) (omega arith) Z)
    ∙ more_exact d zs (n + 1) (a +ℤ z) (q +ℤ z *ℤ z) e (omega arith) A' Q' h.1
    ∙ λ i. holding d (count n (length zs) i) (+ℤ_assoc a z (total zs) i) (+ℤ_assoc q (z *ℤ z) (total_of_squares zs) i)
  where
    count : (n k : ℕ) → n + 1 + k ≡ n + suc k
    count n k = omega arith

-- The weight is the number of the scores, the sum their sum and the squares the sum of their squares, each as the f64 that is exactly it, a zero being +0.
pub exact_sums : (d : Float) (zs : List ℤ) → eq d zero64 ≡ true → length zs ≤ 1048576 → AllWithin 65536 zs
    → statistic_after (empty_with d) (map whole_float zs) ≡ statistic d (whole_float (pos (length zs))) (whole_float (total zs)) (whole_float (total_of_squares zs)) (length zs)
exact_sums d zs e N h =
    ap (λ (x : Float). statistic_after (statistic d x x x 0) (map whole_float zs)) zero_is
    ∙ more_exact d zs 0 (pos 0) (pos 0) e (omega arith) (lit≤ tt) (lit≤ tt) h
    ∙ λ i. holding d (zero-add (length zs) i) (+ℤ_idl (total zs) i) (+ℤ_idl (total_of_squares zs) i)
