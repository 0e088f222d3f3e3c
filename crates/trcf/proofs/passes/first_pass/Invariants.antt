-- What holds in the loops of `trcf::passes::first_pass`.
use mathlib.Core.Path.{◌≡◌}
use Rattle.trcf.specs.Steps.Passes.{firsts, radicands}
use Rattle.trcf.proofs.passes.first_pass.Given as goal

abbrev pub invariant-loop-i : goal.invariant-loop-i
invariant-loop-i l =
    (l.s ≡ firsts l.i l.initial.s l.d l.decay l.count l.input l.previous) × (l.a ≡ radicands l.i l.initial.a l.initial.s l.d l.decay l.count l.input l.previous)
