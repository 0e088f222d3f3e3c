-- What holds in the loops of `trcf::passes::last_pass`.
use mathlib.Core.Path.{◌≡◌}
use Rattle.trcf.specs.Steps.Passes.{lasts}
use Rattle.trcf.proofs.passes.last_pass.Given as goal

abbrev pub invariant-loop-i : goal.invariant-loop-i
invariant-loop-i l = l.s ≡ lasts l.i l.initial.s l.d l.slow l.count l.a
