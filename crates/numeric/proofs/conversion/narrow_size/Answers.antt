-- `numeric::conversion::narrow_size` meets its contract: `narrow_size` of `Fields.antt` for a normal f32, and else what `narrow_fields` promises. Assumes nothing.
use Rattle.std.proofs.Common.{arith}
use Rattle.numeric.proofs.Fields.{narrow_size}
use Rattle.numeric.proofs.conversion.narrow_size.Goals as goal

pub overflow_sub-y : goal.overflow_sub-y
overflow_sub-y c = let h = c.is_normal.ensures c.if-is_normal.true in omega arith

pub returns-then-is_normal : goal.returns-then-is_normal
returns-then-is_normal c =
    let h = c.is_normal.ensures c.if-is_normal.true in
    λ s. rw c.nearest_24.ensures (narrow_size s c.args.y h.0 h.1)
