-- `settle_core::field::fields_at` meets its contract. Assumes nothing.
use mathlib.Core.Path.{◌≡◌, sym, ap, ◌∙◌}
use mir.Syntax.{w128}
use mir.Val.{to_z, of_z}
use Rattle.std.proofs.Common.{rules}
use Rattle.std.specs.Prelude.{Option}
use Rattle.std.specs.Option.{option_map}
use Rattle.settling.specs.Steps.{signal_of, option_of}
use Rattle.settling.specs.declared.signal.Signal as held
use Rattle.settle_core.specs.Input.{fields_of, limited}
use Rattle.settle_core.proofs.FieldLaws.{stops, goes_on, null_end, null_not}
use Rattle.settle_core.proofs.field.fields_at.Goals as goal

pub returns-in_err-base : goal.returns-in_err-base
unfolding fields_of
returns-in_err-base c =
    let a = c.args in
    let t = a.text.now in
    ap (λ (r : Option held.Signal). option_of (option_map signal_of r)) c.from_residual.ensures
    ∙ sym (stops t (a.at) 9 _ c.in_err-base.ensures.text_value)

pub returns-in_err-ramp : goal.returns-in_err-ramp
unfolding fields_of
returns-in_err-ramp c =
    let a = c.args in
    let t = a.text.now in
    let p1 = c.in_ok-base in
    ap (λ (r : Option held.Signal). option_of (option_map signal_of r)) c.from_residual-in_err-ramp.ensures
    ∙ sym (goes_on t (a.at) 9 _ p1.base.value p1.base.next p1.ensures.text_value
    ∙ stops t (p1.base.next) 9 _ c.in_err-ramp.ensures.text_value)

pub returns-in_err-ripple : goal.returns-in_err-ripple
unfolding fields_of
returns-in_err-ripple c =
    let a = c.args in
    let t = a.text.now in
    let p1 = c.in_ok-base in
    let p2 = c.in_ok-ramp in
    ap (λ (r : Option held.Signal). option_of (option_map signal_of r)) c.from_residual-in_err-ripple.ensures
    ∙ sym (goes_on t (a.at) 9 _ p1.base.value p1.base.next p1.ensures.text_value
    ∙ goes_on t (p1.base.next) 9 _ p2.ramp.value p2.ramp.next p2.ensures.text_value
    ∙ stops t (p2.ramp.next) 9 _ c.in_err-ripple.ensures.text_value)

pub returns-in_err-jump : goal.returns-in_err-jump
unfolding fields_of
returns-in_err-jump c =
    let a = c.args in
    let t = a.text.now in
    let p1 = c.in_ok-base in
    let p2 = c.in_ok-ramp in
    let p3 = c.in_ok-ripple in
    ap (λ (r : Option held.Signal). option_of (option_map signal_of r)) c.from_residual-in_err-jump.ensures
    ∙ sym (goes_on t (a.at) 9 _ p1.base.value p1.base.next p1.ensures.text_value
    ∙ goes_on t (p1.base.next) 9 _ p2.ramp.value p2.ramp.next p2.ensures.text_value
    ∙ goes_on t (p2.ramp.next) 9 _ p3.ripple.value p3.ripple.next p3.ensures.text_value
    ∙ stops t (p3.ripple.next) 9 _ c.in_err-jump.ensures.text_value)

pub returns-in_err-place : goal.returns-in_err-place
unfolding fields_of
returns-in_err-place c =
    let a = c.args in
    let t = a.text.now in
    let p1 = c.in_ok-base in
    let p2 = c.in_ok-ramp in
    let p3 = c.in_ok-ripple in
    let p4 = c.in_ok-jump in
    ap (λ (r : Option held.Signal). option_of (option_map signal_of r)) c.from_residual-in_err-place.ensures
    ∙ sym (goes_on t (a.at) 9 _ p1.base.value p1.base.next p1.ensures.text_value
    ∙ goes_on t (p1.base.next) 9 _ p2.ramp.value p2.ramp.next p2.ensures.text_value
    ∙ goes_on t (p2.ramp.next) 9 _ p3.ripple.value p3.ripple.next p3.ensures.text_value
    ∙ goes_on t (p3.ripple.next) 9 _ p4.jump.value p4.jump.next p4.ensures.text_value
    ∙ stops t (p4.jump.next) 9 _ c.in_err-place.ensures.text_value)

pub returns-in_err-readings : goal.returns-in_err-readings
unfolding fields_of
returns-in_err-readings c =
    let a = c.args in
    let t = a.text.now in
    let p1 = c.in_ok-base in
    let p2 = c.in_ok-ramp in
    let p3 = c.in_ok-ripple in
    let p4 = c.in_ok-jump in
    let p5 = c.in_ok-place in
    ap (λ (r : Option held.Signal). option_of (option_map signal_of r)) c.from_residual-in_err-readings.ensures
    ∙ sym (goes_on t (a.at) 9 _ p1.base.value p1.base.next p1.ensures.text_value
    ∙ goes_on t (p1.base.next) 9 _ p2.ramp.value p2.ramp.next p2.ensures.text_value
    ∙ goes_on t (p2.ramp.next) 9 _ p3.ripple.value p3.ripple.next p3.ensures.text_value
    ∙ goes_on t (p3.ripple.next) 9 _ p4.jump.value p4.jump.next p4.ensures.text_value
    ∙ goes_on t (p4.jump.next) 9 _ p5.place.value p5.place.next p5.ensures.text_value
    ∙ stops t (p5.place.next) 10 _ c.in_err-readings.ensures.text_value)

pub returns-then-readings-text : goal.returns-then-readings-text
unfolding fields_of
returns-then-readings-text c =
    let a = c.args in
    let t = a.text.now in
    let p1 = c.in_ok-base in
    let p2 = c.in_ok-ramp in
    let p3 = c.in_ok-ripple in
    let p4 = c.in_ok-jump in
    let p5 = c.in_ok-place in
    let p6 = c.in_ok-readings in
    sym (goes_on t (a.at) 9 _ p1.base.value p1.base.next p1.ensures.text_value
    ∙ goes_on t (p1.base.next) 9 _ p2.ramp.value p2.ramp.next p2.ensures.text_value
    ∙ goes_on t (p2.ramp.next) 9 _ p3.ripple.value p3.ripple.next p3.ensures.text_value
    ∙ goes_on t (p3.ripple.next) 9 _ p4.jump.value p4.jump.next p4.ensures.text_value
    ∙ goes_on t (p4.jump.next) 9 _ p5.place.value p5.place.next p5.ensures.text_value
    ∙ goes_on t (p5.place.next) 10 _ p6.readings.value p6.readings.next p6.ensures.text_value
    ∙ rw (null_not t p6.readings.next c.if-readings-text.true p6.ensures.next_in_bounds))

pub returns : goal.returns
unfolding fields_of
returns c =
    let a = c.args in
    let t = a.text.now in
    let p1 = c.in_ok-base in
    let p2 = c.in_ok-ramp in
    let p3 = c.in_ok-ripple in
    let p4 = c.in_ok-jump in
    let p5 = c.in_ok-place in
    let p6 = c.in_ok-readings in
    let z1 : to_z w128 (of_z w128 p1.base.value) ≡ p1.base.value = search rules in
    let z2 : to_z w128 (of_z w128 p2.ramp.value) ≡ p2.ramp.value = search rules in
    let z3 : to_z w128 (of_z w128 p3.ripple.value) ≡ p3.ripple.value = search rules in
    let z4 : to_z w128 (of_z w128 p4.jump.value) ≡ p4.jump.value = search rules in
    let z5 : to_z w128 (of_z w128 p5.place.value) ≡ p5.place.value = search rules in
    let z6 : to_z w128 (of_z w128 p6.readings.value) ≡ p6.readings.value = search rules in
    c.signal_of.ensures
    ∙ sym (goes_on t (a.at) 9 _ p1.base.value p1.base.next p1.ensures.text_value
    ∙ goes_on t (p1.base.next) 9 _ p2.ramp.value p2.ramp.next p2.ensures.text_value
    ∙ goes_on t (p2.ramp.next) 9 _ p3.ripple.value p3.ripple.next p3.ensures.text_value
    ∙ goes_on t (p3.ripple.next) 9 _ p4.jump.value p4.jump.next p4.ensures.text_value
    ∙ goes_on t (p4.jump.next) 9 _ p5.place.value p5.place.next p5.ensures.text_value
    ∙ goes_on t (p5.place.next) 10 _ p6.readings.value p6.readings.next p6.ensures.text_value
    ∙ rw (null_end t p6.readings.next c.if-readings-text.false) (λ i. limited (sym z1 i) (sym z2 i) (sym z3 i) (sym z4 i) (sym z5 i) (sym z6 i)))
