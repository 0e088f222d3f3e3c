-- `snapshot::limits::time_width` meets its contract. Assumes nothing.
use mathlib.Core.Path.{◌≡◌, refl, ap, ◌∙◌}
use mathlib.Core.Bool.{Bool, true, false, cond}
use Prim.Native.Nat.{ℕ}
use mir.Val.{bool_byte}
use Rattle.snapshot.proofs.limits.time_width.Goals as goal

byte_of : (b : Bool) → bool_byte b ≡ cond {A = ℕ} b 1 0
byte_of true = refl
byte_of false = refl

pub is_augmented-requires : goal.is_augmented-requires
is_augmented-requires c = tt

pub returns : goal.returns
returns c = c.from.ensures ∙ byte_of c.is_augmented.result ∙ ap (λ (b : Bool). cond {A = ℕ} b 1 0) c.is_augmented.ensures
