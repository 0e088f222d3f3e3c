-- `trcf::output::scale_fitting` meets its contract: by its callees' promises, the time's number after the channels'. Assumes nothing.
use native.Mathlib.Omega.{arith}
use mathlib.Core.Path.{sym, ◌∙◌}
use Prim.Native.Nat.{◌<◌}
use lib.ListN.{length}
use Rattle.trcf.specs.Settings.{block}
use Rattle.trcf.specs.Preprocessor.{scale_of}
use Rattle.trcf.specs.View.{settings_of}
use Rattle.trcf.proofs.OutputLaws.{timed, untimed, scales_free, block_augmented}
use Rattle.trcf.proofs.TransformerLaws.{scales_length}
use Rattle.trcf.proofs.output.scale_fitting.Goals as goal

pub scale_into-requires : goal.scale_into-requires
unfolding block
scale_into-requires c = record { sound = record { some = omega arith; few = omega arith; room = omega arith }; input_length_in_bounds = omega arith }

pub bounds-output-d : goal.bounds-output-d
bounds-output-d c =
    let c8 = c in
    let b = block_augmented (settings_of c.args.head) (sym c.is_augmented.ensures ∙ c.if-is_augmented.true) in
    omega (arith, c.scale_into.auto, c.requires)

pub returns-then-is_augmented : goal.returns-then-is_augmented
unfolding scale_of
returns-then-is_augmented c =
    let c8 = c in
    let a = c.args in
    let g = sym c.is_augmented.ensures ∙ c.if-is_augmented.true in
    let b = block_augmented (settings_of a.head) g in
    let h : a.head.transformer.input_length < length a.output.now = omega (arith, c.requires) in
    rw (c.scale_into.ensures, c.time_scale.ensures)
    (timed (settings_of a.head) a.output.now _ _ _ (scales_free a.head a.s.now) (scales_length _) g h)

pub returns-else-is_augmented : goal.returns-else-is_augmented
unfolding scale_of
returns-else-is_augmented c =
    let c8 = c in
    let a = c.args in
    rw c.scale_into.ensures (untimed (settings_of a.head) a.output.now _ _ _ (scales_free a.head a.s.now)
    (sym c.is_augmented.ensures ∙ c.if-is_augmented.false))
