-- `settling::run::note_reading` meets its contract. Assumes nothing.
use mathlib.Core.Path.{◌≡◌, refl}
use mathlib.Core.Bool.{Bool, true, false}
use Prim.Native.Nat.{ℕ}
use Rattle.std.specs.Prelude.{Option, Some, None}
use Rattle.std.specs.Bool.{then_some}
use Rattle.std.specs.Option.{option_or}
use Rattle.settling.specs.Settling.{first_ready, note}
use Rattle.settling.specs.Steps.{option_of}
use Rattle.settling.proofs.run.note_reading.Goals as goal

first_is : (r : Option ℕ) (b : Bool) (i : ℕ) → option_of (option_or r (then_some b i)) ≡ first_ready (option_of r) b i
first_is (Some j) b i = refl
first_is None true i = refl
first_is None false i = refl

pub returns : goal.returns
unfolding note
returns c = rw (c.or.ensures, c.then_some.ensures, c.keep_larger.ensures, first_is c.args.s.ready c.args.ready c.args.i)
