-- `trcf::output::transform_fitting` meets its contract: by its callees' promises, the time's number after the channels'. Assumes nothing.
use native.Mathlib.Omega.{arith}
use mathlib.Core.Path.{sym, ap, ◌∙◌}
use Prim.Native.Nat.{◌≤◌, ◌<◌}
use native.Mathlib.Nat.{le-mul_of_pos_right}
use lib.ListN.{length, length-drop, length-take}
use Rattle.trcf.specs.Settings.{block, transformer}
use Rattle.trcf.specs.Transformer.{transformed}
use Rattle.trcf.specs.Preprocessor.{transformed_after}
use Rattle.trcf.specs.View.{settings_of}
use Rattle.trcf.proofs.OutputLaws.{timed, untimed, transformed_free, newest_part, block_augmented}
use Rattle.trcf.proofs.TransformerLaws.{transformed_length}
use Rattle.trcf.proofs.output.transform_fitting.Goals as goal

pub overflow_sub-n : goal.overflow_sub-n
overflow_sub-n c =
    let at_pre = c.requires in
    let m = le-mul_of_pos_right c.args.head.transformer.input_length at_pre.bounded.k_pos in
    omega (arith, at_pre)

pub transform_into-requires : goal.transform_into-requires
unfolding block
transform_into-requires c =
    let at_pre = c.requires in
    let m = le-mul_of_pos_right c.args.head.transformer.input_length at_pre.bounded.k_pos in
    record {
      sound = record { some = omega (arith, at_pre); few = omega (arith, at_pre); room = omega (arith, at_pre) };
      input_len = omega (arith, at_pre);
      previous_len = simp (length-drop, length-take) (omega (arith, at_pre));
      input_length_in_bounds = omega (arith, at_pre);
    }

pub bounds-output-d : goal.bounds-output-d
bounds-output-d c =
    let c8 = c in
    let b = block_augmented (settings_of c.args.head)
    (sym c.is_augmented.ensures ∙ c.if-is_augmented.true) in
    omega (arith, c.transform_into.auto, c.requires)

pub returns-then-is_augmented : goal.returns-then-is_augmented
unfolding transformed_after
returns-then-is_augmented c =
    let c8 = c in
    let at_pre = c.requires in
    let a = c.args in
    let m = le-mul_of_pos_right a.head.transformer.input_length at_pre.bounded.k_pos in
    let k : a.head.transformer.input_length ≤ length a.inputs.now = omega (arith, at_pre) in
    let g = sym c.is_augmented.ensures ∙ c.if-is_augmented.true in
    let b = block_augmented (settings_of a.head) g in
    let h : a.head.transformer.input_length < length a.output.now = omega (arith, at_pre) in
    rw (c.transform_into.ensures, c.time_element.ensures, c.previous_time-p.ensures)
    (timed (settings_of a.head) a.output.now _ _ _ (transformed_free a.head a.s.now a.input.now _ ∙ ap
    (transformed (transformer (settings_of a.head) 0 a.s.now) a.input.now) (newest_part a.inputs.now a.head.transformer.input_length k)) (transformed_length _ _ _) g h)

pub returns-else-is_augmented : goal.returns-else-is_augmented
unfolding transformed_after
returns-else-is_augmented c =
    let c8 = c in
    let at_pre = c.requires in
    let a = c.args in
    let m = le-mul_of_pos_right a.head.transformer.input_length at_pre.bounded.k_pos in
    let k : a.head.transformer.input_length ≤ length a.inputs.now = omega (arith, at_pre) in
    rw c.transform_into.ensures (untimed (settings_of a.head) a.output.now _ _ _
    (transformed_free a.head a.s.now a.input.now _ ∙ ap (transformed (transformer (settings_of a.head) 0 a.s.now) a.input.now)
    (newest_part a.inputs.now a.head.transformer.input_length k)) (sym c.is_augmented.ensures ∙ c.if-is_augmented.false))
