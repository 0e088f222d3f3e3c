-- What holds in the loop of `vectors_core::fields::Fields::read_to`: fields are only read, and each round adds one number.
use Rattle.std.proofs.Common.{◌≡◌, ◌≤◌, length}
use Rattle.std.specs.Prelude.{IsTrue}
use Rattle.arrayvec.specs.ArrayVec.{array_vec_len}
use Rattle.vectors_core.proofs.fields.Fields.read_to.Given as goal

abbrev pub invariant-loop : goal.invariant-loop
invariant-loop g l = (length l.self.rest.now ≤ length l.initial.self.rest.now) × (IsTrue l.self.good → IsTrue l.initial.self.good) × (array_vec_len l.list ≡ l.counter)
