-- `access::rights::may_point` meets its contract: by the table's test, and the two cells. Assumes nothing.
use mathlib.Core.Path.{sym, ◌∙◌}
use mathlib.Core.List.{[], ◌∷◌}
use Rattle.access.specs.declared.rights.Right.TheVariants.{SEE, LEARN}
use Rattle.access.proofs.Laws.{no_table, by_cells, no_first, by_second}
use Rattle.access.proofs.rights.may_point.Goals as goal
use Rattle.access.proofs.rights.may_point.Goals.{then-has_role, else-has_role}

pub returns-then-is_granted : goal.returns-then-is_granted
returns-then-is_granted c =
    let a = c.args in
    elim c.if-has_role.branch [
      | then-has_role w ↦ c.is_granted-then-is_granted.ensures
          ∙ by_second a.table.now a.role SEE LEARN (sym w.is_granted.ensures ∙ sym w.value-is ∙ c.if-is_granted.true)
          ∙ by_cells _ _ (SEE ∷ LEARN ∷ []) (sym c.has_role.ensures ∙ w.if-has_role.true)
      | else-has_role w ↦ absurd (cc)
    ]

pub returns-else-is_granted : goal.returns-else-is_granted
returns-else-is_granted c =
    let a = c.args in
    elim c.if-has_role.branch [
      | then-has_role w ↦ c.if-is_granted.false
          ∙ no_first a.table.now a.role SEE LEARN (sym w.is_granted.ensures ∙ sym w.value-is ∙ c.if-is_granted.false)
          ∙ by_cells _ _ (SEE ∷ LEARN ∷ []) (sym c.has_role.ensures ∙ w.if-has_role.true)
      | else-has_role w ↦ w.value-is ∙ w.if-has_role.false ∙ no_table _ _ (SEE ∷ LEARN ∷ []) (sym c.has_role.ensures ∙ w.if-has_role.false)
    ]
