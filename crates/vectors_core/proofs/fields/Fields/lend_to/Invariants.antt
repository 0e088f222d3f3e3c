-- What holds in the loop of `vectors_core::fields::Fields::lend_to`: each round adds the old value.
use Rattle.std.proofs.Common.{◌≡◌}
use Rattle.std.specs.Prelude.{All}
use Rattle.arrayvec.specs.ArrayVec.{array_vec_len}
use Rattle.vectors_core.proofs.fields.Fields.lend_to.Given as goal

abbrev pub invariant-loop : goal.invariant-loop
invariant-loop g l = All (λ x. x ≡ g.T.Lent.OLD) l.list.items × (array_vec_len l.list ≡ l.counter)
