-- How a call is refused: document 01, 'Numbers the mechanic may see': "Checked in this order".
use Rattle.std.specs.Prelude.{ℕ, zero, suc, Bool, cond, List, [], ◌∷◌, Result, Ok, Err}
use Rattle.refusal.specs.declared.Refusal.{Refusal}
use Rattle.refusal.specs.declared.Refusal.TheVariants.{StreamingImpute, NoChannels, NoShingle, TooLarge, WeightsOrCodes, Decay, StartAboveStop, StartTooLarge, WeightWithoutMethod, InputLength, NotFinite, TimeFalls, PointLength, RelativeIndex, NothingToDrain, ForecastShape, BoundsCrossed, CounterLimit, Form, TooShort, ImputeMarks, Withheld, Signal, AlignTimes, StrandingsRange, NotCorrectable, OtherCodes, GapFalls}

-- a call's rows in their order, each with its test and its number: the number of the first row whose test holds, 0 where none does
abbrev pub first_of : List (Bool × ℕ) → ℕ
first_of [] = 0
first_of (r ∷ rs) = cond r.0 r.1 (first_of rs)

module _ {ℓ} {A : Type ℓ} where
  -- by the number of the row: the first where none refuses, else the second
  abbrev pub accepted : ℕ → A → A → A
  accepted zero a b = a
  accepted (suc n) a b = b

-- "No.": the number of each row
abbrev pub number_of : Refusal → ℕ
number_of StreamingImpute = 1
number_of NoChannels = 2
number_of NoShingle = 3
number_of TooLarge = 4
number_of WeightsOrCodes = 5
number_of Decay = 6
number_of StartAboveStop = 7
number_of StartTooLarge = 8
number_of WeightWithoutMethod = 9
number_of InputLength = 10
number_of NotFinite = 11
number_of TimeFalls = 12
number_of PointLength = 13
number_of RelativeIndex = 14
number_of NothingToDrain = 15
number_of ForecastShape = 16
number_of BoundsCrossed = 17
number_of CounterLimit = 18
number_of Form = 19
number_of TooShort = 20
number_of ImputeMarks = 21
number_of Withheld = 22
number_of Signal = 23
number_of AlignTimes = 24
number_of StrandingsRange = 25
number_of NotCorrectable = 26
number_of OtherCodes = 27
number_of GapFalls = 28

module _ {A : Type 0} where
  -- "each returns the number only": the number of a call's row, 0 for none
  abbrev pub row_of : Result A Refusal → ℕ
  row_of (Ok a) = 0
  row_of (Err r) = number_of r

  -- an answer with the number in place of the refusal
  abbrev pub numbered : Result A Refusal → Result A ℕ
  numbered (Ok a) = Ok a
  numbered (Err r) = Err (number_of r)
