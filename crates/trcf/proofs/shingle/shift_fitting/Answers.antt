-- What the two copies leave is the block shifted in.
use Rattle.trcf.proofs.ShingleLaws.{shift_in_place}
use Rattle.trcf.proofs.shingle.shift_fitting.Goals as goal

pub returns : goal.returns
returns g c =
    shift_in_place c.args.s.now c.args.p.now _ _ c.requires c.copy_within.ensures.len c.copy_within.ensures.after c.copy_from_slice.ensures.after
