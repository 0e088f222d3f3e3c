-- `common::deviation::moved` meets its contract: from +0 on every step is the float of a whole number (`moved_whole`). Assumes nothing.
use Rattle.std.proofs.Common.{◌≡◌, ◌+ℤ◌, ◌-ℤ◌, ap, ◌∙◌, lit≤}
use lib.Ieee.{Float, binary64, add, sub}
use Rattle.common.specs.Deviation.{zero64}
use Rattle.common.specs.WholeScores.{whole_float}
use Rattle.common.specs.Corrected.{integer_of}
use Rattle.common.specs.Steps.Whole.{Summand}
use Rattle.common.proofs.DeviationLaws.{zero_is}
use Rattle.common.proofs.WholeValues.{whole_is, moved_whole}
use Rattle.common.proofs.deviation.moved.Goals as goal

exact : (x put taken : Float) → Summand x → Summand put → Summand taken
    → sub binary64 (add binary64 (add binary64 zero64 x) put) taken ≡ whole_float (integer_of x +ℤ (integer_of put -ℤ integer_of taken))
exact x put taken X P Q =
    ap (λ (y : Float). sub binary64 (add binary64 (add binary64 y x) put) taken) zero_is
    ∙ moved_whole binary64 x put taken 4503599627370496 4503599627370496 4503599627370496 (whole_is _ x X) (whole_is _ put P) (whole_is _ taken Q) (lit≤ tt)

pub returns : goal.returns
returns c = exact _ _ _ c.requires.0 c.requires.1 c.requires.2
