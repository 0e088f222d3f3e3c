-- `settle_core::field::signal_of` meets its contract. Assumes nothing.
use mathlib.Core.Path.{◌≡◌, sym, ap, ◌∙◌}
use mathlib.Core.Bool.{true, false}
use mir.Syntax.{w128}
use mir.Val.{to_z, of_z}
use Rattle.std.specs.Prelude.{Option}
use Rattle.std.specs.Option.{option_map}
use Rattle.std.proofs.Common.{rules}
use Rattle.settling.specs.Steps.{signal_of, option_of}
use Rattle.settling.specs.Settling.{signal, in_limits}
use Rattle.settling.specs.declared.signal.Signal as held
use Rattle.settle_core.specs.Input.{limited}
use Rattle.settle_core.proofs.FieldLaws.{no_place, no_readings, limited_is}
use Rattle.settle_core.proofs.field.signal_of.Goals as goal

pub returns-in_err-ok : goal.returns-in_err-ok
returns-in_err-ok c =
    let a = c.args in
    let p : to_z w128 (of_z w128 a.place) ≡ a.place = search rules in
    ap (λ (r : Option held.Signal). option_of (option_map signal_of r)) c.from_residual.ensures
    ∙ no_place a.base a.ramp a.ripple a.jump (to_z w128 (of_z w128 a.place)) a.readings c.try_from.result c.try_from.ensures c.in_err-ok.ensures.value
    ∙ (λ i. limited a.base a.ramp a.ripple a.jump (p i) a.readings)

pub returns-in_err-ok-2 : goal.returns-in_err-ok-2
returns-in_err-ok-2 c =
    let a = c.args in
    let n : to_z w128 (of_z w128 a.readings) ≡ a.readings = search rules in
    ap (λ (r : Option held.Signal). option_of (option_map signal_of r)) c.from_residual-in_err-ok-2.ensures
    ∙ no_readings a.base a.ramp a.ripple a.jump a.place (to_z w128 (of_z w128 a.readings)) c.try_from-2.result c.try_from-2.ensures c.in_err-ok-2.ensures.value
    ∙ (λ i. limited a.base a.ramp a.ripple a.jump a.place (n i))

pub returns-then-in_limits : goal.returns-then-in_limits
returns-then-in_limits c =
    let a = c.args in
    let u = c.in_ok-ok.field-0 in
    let v = c.in_ok-ok-2.field-0 in
    let b : to_z w128 (of_z w128 a.base) ≡ a.base = search rules in
    let r : to_z w128 (of_z w128 a.ramp) ≡ a.ramp = search rules in
    let q : to_z w128 (of_z w128 a.ripple) ≡ a.ripple = search rules in
    let j : to_z w128 (of_z w128 a.jump) ≡ a.jump = search rules in
    let p : to_z w128 (of_z w128 a.place) ≡ a.place = search rules in
    let n : to_z w128 (of_z w128 a.readings) ≡ a.readings = search rules in
    let t : in_limits (signal (to_z w128 (of_z w128 a.base)) (to_z w128 (of_z w128 a.ramp)) (to_z w128 (of_z w128 a.ripple)) (to_z w128 (of_z w128 a.jump)) u v) ≡ true =
    sym c.in_limits.ensures ∙ c.if-in_limits.true in
    sym (rw t)
    ∙ limited_is _ _ _ _ _ _ c.try_from.result c.try_from-2.result u v c.try_from.ensures c.try_from-2.ensures c.in_ok-ok.ensures.value c.in_ok-ok-2.ensures.value
    ∙ (λ i. limited (b i) (r i) (q i) (j i) (p i) (n i))

pub returns-else-in_limits : goal.returns-else-in_limits
returns-else-in_limits c =
    let a = c.args in
    let u = c.in_ok-ok.field-0 in
    let v = c.in_ok-ok-2.field-0 in
    let b : to_z w128 (of_z w128 a.base) ≡ a.base = search rules in
    let r : to_z w128 (of_z w128 a.ramp) ≡ a.ramp = search rules in
    let q : to_z w128 (of_z w128 a.ripple) ≡ a.ripple = search rules in
    let j : to_z w128 (of_z w128 a.jump) ≡ a.jump = search rules in
    let p : to_z w128 (of_z w128 a.place) ≡ a.place = search rules in
    let n : to_z w128 (of_z w128 a.readings) ≡ a.readings = search rules in
    let t : in_limits (signal (to_z w128 (of_z w128 a.base)) (to_z w128 (of_z w128 a.ramp)) (to_z w128 (of_z w128 a.ripple)) (to_z w128 (of_z w128 a.jump)) u v) ≡ false =
    sym c.in_limits.ensures ∙ c.if-in_limits.false in
    sym (rw t)
    ∙ limited_is _ _ _ _ _ _ c.try_from.result c.try_from-2.result u v c.try_from.ensures c.try_from-2.ensures c.in_ok-ok.ensures.value c.in_ok-ok-2.ensures.value
    ∙ (λ i. limited (b i) (r i) (q i) (j i) (p i) (n i))
