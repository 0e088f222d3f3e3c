-- `alignment::room_row` meets its contract.
use Rattle.std.proofs.lemmas.Bool.Decides.{nat_tests}
use native.Mathlib.Omega.{arith}
use Rattle.series.specs.Steps.AlignmentRows.{room_row}
use Rattle.series.proofs.alignment.room_row.Goals as goal

pub returns-then-gaps_out-d-clause-value : goal.returns-then-gaps_out-d-clause-value
unfolding room_row
returns-then-gaps_out-d-clause-value c = grind (arith, nat_tests)

pub returns-else-gaps_out-d-clause-value : goal.returns-else-gaps_out-d-clause-value
unfolding room_row
returns-else-gaps_out-d-clause-value c = grind (arith, nat_tests)
