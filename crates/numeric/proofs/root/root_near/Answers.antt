-- `numeric::root::root_near` meets its contract: as `nearest_root` does, where the guess was right, and else by what that promises. Assumes nothing.
use Rattle.std.proofs.Common.{sym, ◌∙◌}
use Rattle.numeric.proofs.Roots.{root_of_scaled, positive_below}
use Rattle.numeric.proofs.root.root_near.Goals as goal

pub scale-s-requires : goal.scale-s-requires
scale-s-requires c = positive_below c.args.x _ c.if-x.true c.if-x-2.true

pub returns-in-Some : goal.returns-in-Some
returns-in-Some c =
    let s = c.scale-s in
    c.assembled.ensures ∙ sym (root_of_scaled c.args.x s.result.m s.result.e s.ensures)
