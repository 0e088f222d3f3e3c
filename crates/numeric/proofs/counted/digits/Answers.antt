-- `numeric::counted::digits` meets its contract: what the root's pattern says of an exact root is `upper_digits`. Assumes nothing.
use Rattle.std.proofs.Common.{ℕ, ◌+◌, ◌*◌, ◌/◌, ◌%◌, ◌^◌, not, T, sym, ap, ◌∙◌, subst}
use lib.Ieee.{Float, binary64, is_nan, to_bits}
use Rattle.numeric.specs.Digits.{digits_tried}
use Rattle.numeric.proofs.Roots.{digits_of_scaled, positive_below, digits_none, digits_infinite, root_real, upper_digits}
use Rattle.numeric.proofs.counted.digits.Goals as goal
use Rattle.numeric.proofs.counted.digits.Goals.{else-x-via-then-x+else-x-2, else-x-via-else-x}

pub scale-s-requires : goal.scale-s-requires
scale-s-requires c = positive_below c.args.x _ c.if-x.true c.if-x-2.true

pub float_to_bits-upper : goal.float_to_bits-upper
float_to_bits-upper c =
    let s = c.scale-s in
    subst (λ (r : Float). T (not (is_nan r))) (sym c.nearest_root.ensures) (root_real c.args.x s.result.m s.result.e s.ensures)

pub tried-requires-clause-by_index : goal.tried-requires-clause-by_index
tried-requires-clause-by_index c =
    λ b w.
    let s = c.scale-s in
    ap (λ (r : Float). to_bits binary64 r % 2 ^ 52 / 2 ^ 26 + 2 ^ 26) c.nearest_root.ensures
    ∙ upper_digits c.args.x s.result.m s.result.e s.ensures b (w ∙ c.radicand.ensures.value)

pub returns-then-x-2 : goal.returns-then-x-2
returns-then-x-2 c =
    let s = c.scale-s in
    c.tried.ensures ∙ ap (λ (n : ℕ). digits_tried (n * 2 ^ 54)) c.radicand.ensures.value ∙ sym (digits_of_scaled c.args.x s.result.m s.result.e s.ensures)

pub returns-else-x : goal.returns-else-x
returns-else-x c =
    elim c.else-x.branch [
      | else-x-via-then-x+else-x-2 w ↦ digits_infinite c.args.x w.if-x.true w.if-x-2.false
      | else-x-via-else-x w ↦ digits_none c.args.x w.if-x.false
    ]
