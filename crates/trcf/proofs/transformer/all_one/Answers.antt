-- The test of each weight.
use Rattle.std.proofs.Common.{rules, refl}
use Rattle.std.proofs.lemmas.List.Recursion.{and_is}
use lib.Ieee.{nan, eq}
use Rattle.trcf.specs.Settings.{all_one}
use Rattle.trcf.specs.Transformer.{one32}
use Rattle.trcf.proofs.transformer.all_one.Goals as goal

pub returns : goal.returns
unfolding all_one
returns c = and_is all_one (λ x. eq x one32) refl (λ _ _. refl) c.args.w.now nan _ (search rules) (search rules)
