-- The table computed, and instances of isolation: what cell decides what, and what is no table. Assumes nothing.
use Prim.Native.Nat.{ℕ}
use mathlib.Core.Path.{◌≡◌, refl}
use mathlib.Core.Bool.{true, false}
use mathlib.Core.List.{List, [], ◌∷◌, ◌++◌}
use lib.ListN.{replicate}
use Rattle.std.specs.Prelude.{Ok}
use Rattle.trcf.specs.View.{no_head, outcome}
use Rattle.snapshot.specs.Save.{save_outcome as saved}
use Rattle.access.specs.declared.rights.Right.TheVariants.{SEE, LEARN, SAVE, RESTORE}
use Rattle.access.specs.Access.{granted, every_right}
use Rattle.access.specs.Entries.{drain_by, save_by, restore_by, seen_by, status_numbers, withheld_status}
use Rattle.access.specs.Isolation.{no_lent}
use Rattle.access.proofs.Isolation.{isolation, shut}

-- role 0 everything, role 1 sees, role 2 learns and saves, role 3 restores
abbrev table : List ℕ
table =
    1 ∷ 1 ∷ 1 ∷ 1
    ∷ 1 ∷ 0 ∷ 0 ∷ 0
    ∷ 0 ∷ 1 ∷ 1 ∷ 0
    ∷ 0 ∷ 0 ∷ 0 ∷ 1
    ∷ []

-- each cell decides its right, and no other
example_sees : granted table 1 (SEE ∷ []) ≡ true
unfolding granted
example_sees = refl

example_not_learns : granted table 1 (LEARN ∷ []) ≡ false
unfolding granted
example_not_learns = refl

example_learns : granted table 2 (LEARN ∷ []) ≡ true
unfolding granted
example_learns = refl

example_saves : granted table 2 (SAVE ∷ []) ≡ true
unfolding granted
example_saves = refl

example_not_restores : granted table 2 (RESTORE ∷ []) ≡ false
unfolding granted
example_not_restores = refl

example_restores : granted table 3 (RESTORE ∷ []) ≡ true
unfolding granted
example_restores = refl

-- point needs both
example_point_both : granted table 0 (SEE ∷ LEARN ∷ []) ≡ true
unfolding granted
example_point_both = refl

example_point_sees_alone : granted table 1 (SEE ∷ LEARN ∷ []) ≡ false
unfolding granted
example_point_sees_alone = refl

example_point_learns_alone : granted table 2 (SEE ∷ LEARN ∷ []) ≡ false
unfolding granted
example_point_learns_alone = refl

-- "role above 3"
example_role_3 : granted every_right 3 (SEE ∷ []) ≡ true
unfolding granted
example_role_3 = refl

example_role_4 : granted every_right 4 (SEE ∷ []) ≡ false
unfolding granted
example_role_4 = refl

example_role_last : granted every_right 18446744073709551615 (SEE ∷ []) ≡ false
unfolding granted
example_role_last = refl

-- "a table not of 16 cells"
example_fifteen : granted (replicate 15 1) 0 (SEE ∷ []) ≡ false
unfolding granted
example_fifteen = refl

example_seventeen : granted (replicate 17 1) 0 (SEE ∷ []) ≡ false
unfolding granted
example_seventeen = refl

-- "or a cell other than 0 or 1": the last one, which role 0 does not ask for
example_cell_2 : granted (replicate 15 1 ++ (2 ∷ [])) 0 (SEE ∷ []) ≡ false
unfolding granted
example_cell_2 = refl

-- ---- isolation at this table: role 1 neither drains nor saves nor restores, and role 3 does not see

shut_learn : granted table 1 (LEARN ∷ []) ≡ false
unfolding granted
shut_learn = refl

shut_save : granted table 1 (SAVE ∷ []) ≡ false
unfolding granted
shut_save = refl

shut_restore : granted table 1 (RESTORE ∷ []) ≡ false
unfolding granted
shut_restore = refl

shut_see : granted table 3 (SEE ∷ []) ≡ false
unfolding granted
shut_see = refl

example_withheld_drain : drain_by table 1 no_head no_lent ≡ outcome 22 no_head no_lent
example_withheld_drain = (isolation.withheld table 1).drains no_head no_lent shut_learn

example_withheld_save : save_by table 1 no_head no_lent (7 ∷ []) ≡ saved 22 0 (7 ∷ [])
example_withheld_save = (isolation.withheld table 1).saves no_head no_lent (7 ∷ []) shut_save

example_isolated_restore : restore_by table 1 (1 ∷ []) [] no_lent ≡ restore_by table 1 (2 ∷ 3 ∷ []) [] no_lent
example_isolated_restore = (isolation.isolated table 1 no_head no_head no_lent no_lent).restores (1 ∷ []) (2 ∷ 3 ∷ []) [] shut_restore

example_withheld_numbers : seen_by table 3 (status_numbers no_head) ≡ withheld_status
example_withheld_numbers = shut table 3 (SEE ∷ []) (Ok (status_numbers no_head)) withheld_status shut_see
