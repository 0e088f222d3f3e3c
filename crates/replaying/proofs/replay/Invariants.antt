-- What holds in the loop of `replaying::replay`: the closure may still be called.
use Rattle.std.proofs.Common.{length, ◌-◌}
use denote.Param.Always.{always_mut}
use Rattle.replaying.proofs.replay.Given as goal

abbrev pub invariant-loop-at : goal.invariant-loop-at
invariant-loop-at g l = always_mut g.F.FnMut l.initial.agrees → always_mut g.F.FnMut l.agrees

abbrev pub decreases-loop-at : goal.decreases-loop-at
decreases-loop-at g l = length l.text - l.at
