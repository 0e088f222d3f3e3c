-- `snapshot_save::save::lists_length` meets its contract. Assumes nothing.
use Rattle.snapshot.proofs.SaveLaws.{list_size, few_lines}
use lib.ListN.{length}
use native.Mathlib.Omega.{arith}
use Rattle.snapshot_save.proofs.save.lists_length.Goals as goal

pub overflow_mul-result-2 : goal.overflow_mul-result-2
overflow_mul-result-2 c = let a = c.args in let l = a.lists in omega (arith, few_lines (length l.initial_timestamps.now) a.d (omega arith) (omega arith))

pub overflow_add-result-3 : goal.overflow_add-result-3
overflow_add-result-3 c = let a = c.args in let l = a.lists in omega (arith, few_lines (length l.initial_timestamps.now) a.d (omega arith) (omega arith))

pub returns : goal.returns
returns c = let a = c.args in let l = a.lists in omega (
  arith,
  list_size a.d l.statistics.now l.last_shingled_input.now l.last_shingled_point.now l.previous_timestamps.now l.initial_values.now l.initial_timestamps.now (omega arith),
  few_lines
      (length l.initial_timestamps.now) a.d (omega arith) (omega arith),
)
