-- `numeric::root::nearest_root` meets its contract: each way is a law of `Roots.antt`. Assumes nothing.
use Rattle.std.proofs.Common.{sym, ◌∙◌}
use lib.Ieee.{of_bits}
use Rattle.numeric.proofs.Roots.{root_of_scaled, positive_below, root_infinite, root_zero, root_none}
use Rattle.numeric.proofs.root.nearest_root.Goals as goal

pub scale-s-requires : goal.scale-s-requires
scale-s-requires c = positive_below c.args.x _ c.if-x.true c.if-x-2.true

pub returns-then-x-3 : goal.returns-then-x-3
returns-then-x-3 c = root_zero c.args.x c.if-x-3.true

pub returns-then-x-2 : goal.returns-then-x-2
returns-then-x-2 c = let s = c.scale-s in c.assembled.ensures ∙ sym (root_of_scaled c.args.x s.result.m s.result.e s.ensures)

pub returns-else-x-2 : goal.returns-else-x-2
returns-else-x-2 c = root_infinite c.args.x c.if-x.true c.if-x-2.false

pub returns-else-x-3 : goal.returns-else-x-3
unfolding of_bits
returns-else-x-3 c = root_none c.args.x c.if-x.false c.if-x-3.false
