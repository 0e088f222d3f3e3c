-- One odd reading put right (document 02, #111): the statistic of a list with one reading changed, from the statistic alone, and what is proved of it. Definitions only.
use Rattle.std.specs.Prelude.{◌≡◌, Result, Ok, Err, ℕ, ◌*◌, ◌/◌, ◌%◌, ◌^◌, ◌≤◌, Bool, true, false, not, ◌&&◌, T, List, [], ◌∷◌, ◌++◌, length, ℤ, pos, ◌+ℤ◌, ◌-ℤ◌, ◌*ℤ◌, neg_ℤ, ◌==◌, nat_le, nat_lt, Float}
use Rattle.std.specs.Float.{nan, inf, fin}
use Rattle.std.specs.Float.Ieee.{up, down, eq, le}
use Rattle.refusal.specs.Refusal.{first_of}
use Rattle.common.specs.declared.deviation.Deviation.{Deviation}
use Rattle.common.specs.Deviation.{zero64, statistic, deviation_answer, empty_with, deviation_update, mean_of}
use Rattle.common.specs.WholeScores.{whole_float}

-- "both whole-number f32 of size at most 65,536"
abbrev pub reading_limit : ℕ
reading_limit = 65536

-- "For every list of 1 to 1,048,576 such readings"
abbrev pub length_limit : ℕ
length_limit = 1048576

-- ---- whole numbers among the floats

abbrev pub signed_integer : Bool → ℕ → ℤ
signed_integer false n = pos n
signed_integer true n = neg_ℤ (pos n)

-- finite, with nothing after the point, and of size at most b; -0 is the whole number 0
unfoldable pub whole_within : ℕ → Float → Bool
whole_within b nan = false
whole_within b (inf s) = false
whole_within b (fin s m e) = m * up e % down e == 0 && nat_le (m * up e / down e) b

-- the whole number that such a float is
unfoldable pub integer_of : Float → ℤ
integer_of nan = pos 0
integer_of (inf s) = pos 0
integer_of (fin s m e) = signed_integer s (m * up e / down e)

-- ---- row 26

-- "26: decay not 0, a reading not a whole number or outside the range, count outside 1 to 1,048,576, weight other than count, sum not a whole number of size at most
-- 65,536 × count, or squares not one from 0 to 65,536 × 65,536 × count"
unfoldable pub correction_rows : Deviation → Float → Float → List (Bool × ℕ)
correction_rows s wrong right =
    (not (eq s.discount zero64), 26)
    ∷ (not (whole_within reading_limit wrong), 26)
    ∷ (not (whole_within reading_limit right), 26)
    ∷ (nat_lt s.count 1, 26)
    ∷ (nat_lt length_limit s.count, 26)
    ∷ (not (eq s.weight (whole_float (pos s.count))), 26)
    ∷ (not (whole_within (reading_limit * s.count) s.sum), 26)
    ∷ (not (whole_within (reading_limit * reading_limit * s.count) s.sum_squared), 26)
    ∷ (not (le zero64 s.sum_squared), 26)
    ∷ []

-- ---- the answer

-- "The sum moves by exactly the change and the squares by exactly the change of the squares, in whole numbers, a zero being +0; weight and count keep their value".
-- The decay stays too. (The float of the integer 0 is +0.)
unfoldable pub corrected_statistic : Deviation → Float → Float → Deviation
corrected_statistic s wrong right =
    let w = integer_of wrong in
    let r = integer_of right in
    statistic s.discount s.weight
    (whole_float (integer_of s.sum +ℤ (r -ℤ w)))
    (whole_float (integer_of s.sum_squared +ℤ (r *ℤ r -ℤ w *ℤ w)))
    s.count

unfoldable pub corrected_of : Deviation → Float → Float → Result Deviation ℕ
corrected_of s wrong right = deviation_answer (first_of (correction_rows s wrong right)) (corrected_statistic s wrong right)

-- ---- what is proved of it, besides that the code gives `corrected_of`: the theorems stand in proofs/CorrectedTheorems.antt

-- every reading "such": a whole number of size at most 65,536
abbrev pub AllWhole : List Float → Type 0
AllWhole [] = Unit {0}
AllWhole (x ∷ xs) = T (whole_within reading_limit x) × AllWhole xs

abbrev pub onward : Result Deviation ℕ → (Deviation → Result Deviation ℕ) → Result Deviation ℕ
onward (Ok s) next = next s
onward (Err n) next = Err n

-- a list's statistic: one call of `update` for each reading, the first one first; a refusal ends it
unfoldable pub updates : Deviation → List Float → Result Deviation ℕ
updates s [] = Ok s
updates s (x ∷ xs) = onward (deviation_update s x) (λ t. updates t xs)

-- "For every list of 1 to 1,048,576 such readings and every place in it that holds the wrong one, if the statistic is the list's, the answer is bit for bit that of
-- the list with the true one there." The list is ys, the wrong one, zs: so no list is empty, and every place is met. Decay −0 counts as 0.
abbrev pub CorrectedIsTheLists : Type 0
CorrectedIsTheLists =
    (decay : Float) (ys zs : List Float) (wrong right : Float) (s : Deviation)
    → T (eq decay zero64) → length (ys ++ wrong ∷ zs) ≤ length_limit → AllWhole (ys ++ wrong ∷ zs) → T (whole_within reading_limit right)
    → updates (empty_with decay) (ys ++ wrong ∷ zs) ≡ Ok s
    → corrected_of s wrong right ≡ updates (empty_with decay) (ys ++ right ∷ zs)

-- "The sum moves by exactly the change and the squares by exactly the change of the squares, in whole numbers, a zero being +0; weight and count keep their value"
pub record Moved (s t : Deviation) (wrong right : Float) : Type 0 where
  pub whole_sum : T (whole_within (2 ^ 53) t.sum)
  pub sum_moved : integer_of t.sum ≡ integer_of s.sum +ℤ (integer_of right -ℤ integer_of wrong)
  pub sum_zero : integer_of t.sum ≡ pos 0 → t.sum ≡ zero64
  pub whole_squares : T (whole_within (2 ^ 53) t.sum_squared)
  pub squares_moved : integer_of t.sum_squared ≡ integer_of s.sum_squared +ℤ (integer_of right *ℤ integer_of right -ℤ integer_of wrong *ℤ integer_of wrong)
  pub squares_zero : integer_of t.sum_squared ≡ pos 0 → t.sum_squared ≡ zero64
  pub weight_kept : t.weight ≡ s.weight
  pub count_kept : t.count ≡ s.count
  pub decay_kept : t.discount ≡ s.discount

-- of every accepted call, whether or not the statistic is a list's
abbrev pub CorrectedMoves : Type 0
CorrectedMoves = (s t : Deviation) (wrong right : Float) → corrected_of s wrong right ≡ Ok t → Moved s t wrong right

-- "a raised reading never lowers the mean": IEEE's ≤ of the two readings, and of the two means
abbrev pub RaisedNeverLowersTheMean : Type 0
RaisedNeverLowersTheMean = (s t : Deviation) (wrong right : Float) → corrected_of s wrong right ≡ Ok t → T (le wrong right) → T (le (mean_of s) (mean_of t))
