-- `trcf::output::shift_fitting` meets its contract: by its callees' promises, the time's number after the channels'. Assumes nothing.
use native.Mathlib.Omega.{arith}
use mathlib.Core.Path.{sym, ◌∙◌}
use Prim.Native.Nat.{◌<◌}
use lib.ListN.{length}
use Rattle.trcf.specs.Settings.{block}
use Rattle.trcf.specs.Preprocessor.{shift_of}
use Rattle.trcf.specs.View.{settings_of}
use Rattle.trcf.proofs.OutputLaws.{timed, untimed, shifts_free, block_augmented}
use Rattle.trcf.proofs.TransformerLaws.{shifts_length}
use Rattle.trcf.proofs.output.shift_fitting.Goals as goal

pub shift_into-requires : goal.shift_into-requires
unfolding block
shift_into-requires c = record { sound = record { some = omega arith; few = omega arith; room = omega arith }; input_length_in_bounds = omega arith }

pub bounds-output-d : goal.bounds-output-d
bounds-output-d c =
    let c8 = c in
    let b = block_augmented (settings_of c.args.head) (sym c.is_augmented.ensures ∙ c.if-is_augmented.true) in
    omega (arith, c.shift_into.auto, c.requires)

pub returns-then-is_augmented : goal.returns-then-is_augmented
unfolding shift_of
returns-then-is_augmented c =
    let c8 = c in
    let a = c.args in
    let g = sym c.is_augmented.ensures ∙ c.if-is_augmented.true in
    let b = block_augmented (settings_of a.head) g in
    let h : a.head.transformer.input_length < length a.output.now = omega (arith, c.requires) in
    rw (c.shift_into.ensures, c.time_shift.ensures, c.last_time.ensures)
    (timed (settings_of a.head) a.output.now _ _ _ (shifts_free a.head a.s.now) (shifts_length _) g h)

pub returns-else-is_augmented : goal.returns-else-is_augmented
unfolding shift_of
returns-else-is_augmented c =
    let c8 = c in
    let a = c.args in
    rw c.shift_into.ensures (untimed (settings_of a.head) a.output.now _ _ _ (shifts_free a.head a.s.now)
    (sym c.is_augmented.ensures ∙ c.if-is_augmented.false))
