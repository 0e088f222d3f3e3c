-- `numeric::conversion::narrow_fields` meets its contract: each arm is a law of `Fields.antt`. Assumes nothing.
use Rattle.std.proofs.Common.{◌≡◌, ◌+◌, ◌^◌, ◌≤◌, arith}
use Rattle.numeric.proofs.Near.{closest_up}
use Rattle.numeric.proofs.Fields.{narrow_0, narrow_zero, narrow_sub, narrow_normal, narrow_over, narrow_inf}
use Rattle.numeric.proofs.conversion.narrow_fields.Goals as goal

pub overflow_add-result : goal.overflow_add-result
overflow_add-result c =
    let a = c in
    let q : c.nearest-in-897-to-1150.result ≤ 2 ^ 24 = rw c.nearest-in-897-to-1150.ensures (closest_up (c.args.t + 2 ^ 52) 29 (2 ^ 24) (omega arith)) in
    omega arith

pub returns-in-0 : goal.returns-in-0
returns-in-0 c = λ s. rw c.in-0.is (narrow_0 s c.args.t c.requires.t_bound)

pub returns-in-1-to-872 : goal.returns-in-1-to-872
returns-in-1-to-872 c =
    let a = c in
    λ s. narrow_zero s c.args.t c.requires.t_bound c.args.x (omega arith) (omega arith) (omega arith)

pub returns-in-873-to-896 : goal.returns-in-873-to-896
returns-in-873-to-896 c =
    let a = c in
    λ s. rw c.nearest.ensures (narrow_sub s c.args.t c.requires.t_bound c.args.x (omega arith) (omega arith) (omega arith))

pub returns-in-897-to-1150 : goal.returns-in-897-to-1150
returns-in-897-to-1150 c =
    let a = c in
    λ s. rw c.nearest-in-897-to-1150.ensures (narrow_normal s c.args.t c.requires.t_bound c.args.x (omega arith) (omega arith) (omega arith) (omega arith))

pub returns-in-1151-to-2046 : goal.returns-in-1151-to-2046
returns-in-1151-to-2046 c =
    let a = c in
    λ s. narrow_over s c.args.t c.requires.t_bound c.args.x (omega arith) (omega arith) (omega arith)

pub returns-in_default : goal.returns-in_default
returns-in_default c =
    let a = c in
    let e : c.args.x ≡ 2047 = omega arith in
    λ s. narrow_inf s c.args.x c.args.t e (c.requires.t_value e)
