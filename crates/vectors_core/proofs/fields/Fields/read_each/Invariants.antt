-- What holds in the loop of `vectors_core::fields::Fields::read_each`: fields are only read.
use Rattle.std.proofs.Common.{◌≡◌, ◌≤◌, length}
use Rattle.vectors_core.proofs.fields.Fields.read_each.Given as goal

abbrev pub invariant-loop-x : goal.invariant-loop-x
invariant-loop-x g l = (length l.self.rest.now ≤ length l.initial.self.rest.now) × (l.self.good ≡ l.initial.self.good)
