-- What the crates above cite of a refused call: no refusal has the number 0, and what `?` hands on has the number of what it was given. Assumes nothing.
use Rattle.std.proofs.Common.{◌≡◌, ℕ, zero, suc, ◌<◌, refl, ap, lit≤, arith, Result, Ok, Err, IsErrAnd}
use Rattle.refusal.specs.declared.Refusal.{Refusal}
use Rattle.refusal.specs.declared.Refusal.TheVariants.{StreamingImpute, NoChannels, NoShingle, TooLarge, WeightsOrCodes, Decay, StartAboveStop, StartTooLarge, WeightWithoutMethod, InputLength, NotFinite, TimeFalls, PointLength, RelativeIndex, NothingToDrain, ForecastShape, BoundsCrossed, CounterLimit, Form, TooShort, ImputeMarks, Withheld, Signal, AlignTimes, StrandingsRange, NotCorrectable, OtherCodes, GapFalls}
use Rattle.refusal.specs.Refusal.{accepted, number_of, row_of, numbered}

-- a refusal's number is not 0
pub is_numbered : (e : Refusal) → 0 < number_of e
is_numbered StreamingImpute = lit≤ tt
is_numbered NoChannels = lit≤ tt
is_numbered NoShingle = lit≤ tt
is_numbered TooLarge = lit≤ tt
is_numbered WeightsOrCodes = lit≤ tt
is_numbered Decay = lit≤ tt
is_numbered StartAboveStop = lit≤ tt
is_numbered StartTooLarge = lit≤ tt
is_numbered WeightWithoutMethod = lit≤ tt
is_numbered InputLength = lit≤ tt
is_numbered NotFinite = lit≤ tt
is_numbered TimeFalls = lit≤ tt
is_numbered PointLength = lit≤ tt
is_numbered RelativeIndex = lit≤ tt
is_numbered NothingToDrain = lit≤ tt
is_numbered ForecastShape = lit≤ tt
is_numbered BoundsCrossed = lit≤ tt
is_numbered CounterLimit = lit≤ tt
is_numbered Form = lit≤ tt
is_numbered TooShort = lit≤ tt
is_numbered ImputeMarks = lit≤ tt
is_numbered Withheld = lit≤ tt
is_numbered Signal = lit≤ tt
is_numbered AlignTimes = lit≤ tt
is_numbered StrandingsRange = lit≤ tt
is_numbered NotCorrectable = lit≤ tt
is_numbered OtherCodes = lit≤ tt
is_numbered GapFalls = lit≤ tt

module _ {A : Type 0} where
  -- by a number that is not 0 the second of two answers
  pub refused_is : (e : Refusal) (n : ℕ) (a b : A) → number_of e ≡ n → accepted n a b ≡ b
  refused_is e zero a b h = absurd (omega (arith, h, is_numbered e))
  refused_is e (suc n) a b h = refl

  -- what `?` hands on has the number of what it was given
  pub handed_on : (e : Refusal) (r : Result A Refusal) → IsErrAnd r (λ d. d ≡ e) → row_of r ≡ number_of e
  handed_on e (Ok a) h = absurd h
  handed_on e (Err d) h = ap number_of h

  pub handed_on_numbered : (e : Refusal) (r : Result A Refusal) → IsErrAnd r (λ d. d ≡ e) → numbered r ≡ Err (number_of e)
  handed_on_numbered e (Ok a) h = absurd h
  handed_on_numbered e (Err d) h = ap (λ (x : Refusal). Err (number_of x)) h
