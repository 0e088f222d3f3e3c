-- `access::rights::may` meets its contract: by the table's test, and the cell. Assumes nothing.
use mathlib.Core.Path.{sym, ◌∙◌}
use Rattle.access.proofs.Laws.{no_table, by_cells, and_true}
use Rattle.access.proofs.rights.may.Goals as goal

pub returns-then-has_role : goal.returns-then-has_role
returns-then-has_role c = c.is_granted.ensures ∙ and_true _ ∙ by_cells _ _ _ (sym c.has_role.ensures ∙ c.if-has_role.true)

pub returns-else-has_role : goal.returns-else-has_role
returns-else-has_role c = c.if-has_role.false ∙ no_table _ _ _ (sym c.has_role.ensures ∙ c.if-has_role.false)
