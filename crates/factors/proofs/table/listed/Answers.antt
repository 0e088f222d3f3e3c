-- `factors::table::listed` meets its contract: an entry by the table's rule, and 0 past it. Assumes nothing.
use mathlib.Core.Path.{sym}
use native.Mathlib.Omega.{arith}
use Rattle.factors.proofs.Entries.{listed_is, listed_past}
use Rattle.factors.proofs.table.listed.Goals as goal

pub returns-then-count-lt-LENGTH : goal.returns-then-count-lt-LENGTH
returns-then-count-lt-LENGTH c = listed_is c.args.count c.if-count-lt-LENGTH.true

pub returns-else-count-lt-LENGTH : goal.returns-else-count-lt-LENGTH
returns-else-count-lt-LENGTH c = sym (listed_past c.args.count (omega arith))
