-- `alignment::size` meets its contract: the three tests decide the sign.
use lib.Ieee.Fits.{sub-fits}
use lib.Ieee.{binary32, sub, div, of_bits}
use Rattle.series.specs.Gaps.{difference_size}
use Rattle.series.proofs.AlignmentLaws.Absolute.{above_zero, below_zero, at_zero, else_not_a_number}
use Rattle.series.proofs.alignment.size.Goals as goal

pub returns-then-z : goal.returns-then-z
unfolding difference_size
returns-then-z c = above_zero (sub binary32 c.args.x c.args.y) c.if-z.true

pub returns-then-z-2 : goal.returns-then-z-2
unfolding difference_size
returns-then-z-2 c = below_zero (sub binary32 c.args.x c.args.y) c.if-z-2.true

pub returns-then-z-3 : goal.returns-then-z-3
unfolding difference_size
returns-then-z-3 c =
    let a = c.args in
    at_zero (sub binary32 a.x a.y) (sub-fits binary32 a.x a.y) c.if-z-3.true

pub returns : goal.returns
unfolding difference_size div of_bits
returns c =
    let a = c.args in
    else_not_a_number (sub binary32 a.x a.y) c.if-z.false c.if-z-2.false c.if-z-3.false
