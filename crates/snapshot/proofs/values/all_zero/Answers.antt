-- The test of each number.
use Rattle.std.proofs.Common.{rules, refl}
use Rattle.std.proofs.lemmas.List.Recursion.{and_is}
use lib.Dec.{eqb}
use Rattle.snapshot.specs.Read.{zeros}
use Rattle.snapshot.proofs.values.all_zero.Goals as goal

pub returns : goal.returns
returns c = and_is zeros (λ x. eqb x 0) refl (λ _ _. refl) c.args.times.now 0 _ (search rules) (search rules)
