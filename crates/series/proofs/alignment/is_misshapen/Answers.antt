-- `alignment::is_misshapen` meets its contract.
use mathlib.Core.Path.{refl}
use native.Mathlib.Omega.{arith}
use native.Mathlib.Nat.{mul-le-mul_left}
use lib.ListN.{length}
use Rattle.series.specs.Alignment.{readings_misshapen}
use Rattle.series.proofs.alignment.is_misshapen.Goals as goal

pub overflow_mul-result : goal.overflow_mul-result
overflow_mul-result c = omega (arith, mul-le-mul_left (length c.args.times.now) c.requires)

pub returns : goal.returns
unfolding readings_misshapen
returns c = refl
