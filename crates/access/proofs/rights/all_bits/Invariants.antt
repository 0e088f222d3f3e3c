-- What holds in the loops of `access::rights::all_bits`.
use mathlib.Core.Bool.{◌&&◌}
use mathlib.Core.Path.{◌≡◌}
use lib.Dec.{ltb}
use lib.ListN.{drop}
use Rattle.access.specs.Access.{bits}
use Rattle.access.proofs.rights.all_bits.Given as goal

-- the largest so far and what is left to be looked at decide
abbrev pub invariant-loop-cell : goal.invariant-loop-cell
invariant-loop-cell l = bits l.table ≡ ltb l.largest 2 && bits (drop l.cell-index l.table)
