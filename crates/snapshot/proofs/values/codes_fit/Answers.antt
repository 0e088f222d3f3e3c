-- The test of each number.
use Rattle.std.proofs.Common.{rules, refl}
use Rattle.std.proofs.lemmas.List.Recursion.{and_is}
use lib.Dec.{leb}
use Rattle.trcf.specs.Settings.{code_max}
use Rattle.snapshot.specs.Read.{all_codes}
use Rattle.snapshot.proofs.values.codes_fit.Goals as goal

pub returns : goal.returns
returns c = and_is all_codes (λ x. leb x code_max) refl (λ _ _. refl) c.args.w.now 0 _ (search rules) (search rules)
