-- `settling::step::last_of` meets its contract. Assumes nothing.
use lib.Ieee.{nan, of_bits}
use Rattle.settling.proofs.StepLaws.{last_got}
use Rattle.settling.proofs.step.last_of.Goals as goal

pub returns : goal.returns
unfolding of_bits
returns c = rw (c.unwrap_or.ensures, c.copied.ensures, c.last.ensures.value) (last_got c.args.v.now nan)
