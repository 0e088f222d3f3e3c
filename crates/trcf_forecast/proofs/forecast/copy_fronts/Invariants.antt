-- What holds in the loop of `trcf_forecast::forecast::copy_fronts`.
use mathlib.Core.Path.{◌≡◌}
use mathlib.Core.List.{◌++◌}
use Prim.Native.Nat.{◌*◌}
use lib.ListN.{length, drop}
use Rattle.trcf.specs.Preprocessor.{fronts}
use Rattle.trcf_forecast.proofs.forecast.copy_fronts.Given as goal

abbrev pub invariant-loop-i : goal.invariant-loop-i
invariant-loop-i l = (l.dst ≡ fronts l.a l.m l.i l.src ++ drop (l.i * l.m) l.initial.dst) × (length l.dst ≡ length l.initial.dst)
