-- The test of each number.
use Rattle.std.specs.Float.{float_is_finite}
use Rattle.std.proofs.Common.{List, ◌∷◌, ◌≡◌, ◌&&◌, rules, refl}
use Rattle.std.proofs.lemmas.List.Recursion.{and_is}
use lib.Ieee.{Float, nan, inf, fin}
use Rattle.trcf.specs.Calls.{finite}
use Rattle.trcf_rows.proofs.rows.all_finite.Goals as goal

finite_cons : (x : Float) (xs : List Float) → finite (x ∷ xs) ≡ float_is_finite x && finite xs
unfolding finite float_is_finite
finite_cons nan xs = refl
finite_cons (inf s) xs = refl
finite_cons (fin s m e) xs = refl

pub returns : goal.returns
unfolding finite
returns c = and_is finite float_is_finite refl finite_cons c.args.x.now nan _ (search rules) (search rules)
