-- `alignment::readings_row` meets its contract: each test on the way decides a part of the row.
use Rattle.std.proofs.lemmas.Bool.Decides.{nat_tests}
use Rattle.series.proofs.AlignmentLaws.Rows.{shaped}
use Rattle.series.specs.Steps.AlignmentRows.{readings_row}
use lib.ListN.{length}
use native.Mathlib.Omega.{arith}
use mathlib.Core.Path.{sym, ◌∙◌}
use Rattle.series.proofs.alignment.readings_row.Goals as goal

pub returns-then-d-eq0-clause-value : goal.returns-then-d-eq0-clause-value
unfolding readings_row
returns-then-d-eq0-clause-value c = grind (arith, nat_tests)

pub returns-then-d-gt-CHANNEL_LIMIT-clause-value : goal.returns-then-d-gt-CHANNEL_LIMIT-clause-value
unfolding readings_row
returns-then-d-gt-CHANNEL_LIMIT-clause-value c = grind (arith, nat_tests)

pub returns-then-is_misshapen-clause-value : goal.returns-then-is_misshapen-clause-value
unfolding readings_row
returns-then-is_misshapen-clause-value c = grind (arith, nat_tests)

pub returns-then-is_unusable-clause-value : goal.returns-then-is_unusable-clause-value
unfolding readings_row
returns-then-is_unusable-clause-value c = grind (arith, nat_tests)

pub returns-clause-value : goal.returns-clause-value
unfolding readings_row
returns-clause-value c = grind (arith, nat_tests)

pub returns-clause-readings_shaped : goal.returns-clause-readings_shaped
returns-clause-readings_shaped c =
    let a = c.args in
    record {
      few = omega arith;
      left = shaped a.d a.left_cells (length a.left_times.now) (sym c.is_misshapen.ensures ∙ c.if-is_misshapen.false);
      right = shaped a.d a.right_cells (length a.right_times.now) (sym c.is_misshapen-else-is_misshapen.ensures ∙ c.if-is_misshapen-2.false);
    }
