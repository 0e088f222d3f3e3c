-- `snapshot_save::save::save_parts` meets its contract. Assumes nothing.
use Rattle.snapshot.proofs.SaveLaws.{fitted_not, fitted_is}
use Rattle.snapshot.proofs.WriteLaws.{wrote_then}
use Rattle.snapshot.specs.Steps.TwoParts.{head_bytes, list_bytes}
use Rattle.trcf.specs.View.{settings_of}
use lib.ListN.{length-append}
use mathlib.Core.List.{◌++◌}
use native.Mathlib.Omega.{arith}
use Prim.Native.Nat.{◌+◌}
use Rattle.snapshot_save.proofs.save.save_parts.Goals as goal

pub overflow_add-l : goal.overflow_add-l
overflow_add-l c = omega (arith, c.lists_length.ensures.upper_bound, c.head_length.ensures.upper_bound)

pub returns-then-out-l : goal.returns-then-out-l
returns-then-out-l c =
    let a = c.args in
    let l = a.lists in
    let h = a.head in
    let p = head_bytes (settings_of h) h.values_seen h.internal_timestamp h.transformer.count in
    let q = list_bytes h.transformer.input_length l.statistics.now l.last_shingled_input.now l.last_shingled_point.now l.previous_timestamps.now l.initial_values.now l.initial_timestamps.now in
    fitted_not (p ++ q) a.out.now (c.head_length.result + c.lists_length.result)
    (omega (arith, length-append p q, c.lists_length.ensures.value, c.head_length.ensures.value)) c.if-out-l.true

pub write_head-p-requires : goal.write_head-p-requires
write_head-p-requires c = omega (arith, c.lists_length.ensures.value, c.head_length.ensures.value, c.if-out-l.false)

pub write_lists-requires : goal.write_lists-requires
write_lists-requires c =
    record {
      d_in_bounds = c.requires.input_length_in_bounds;
      initial_in_bounds = omega (
        arith,
        c.lists_length.ensures.value,
        c.head_length.ensures.value,
        c.if-out-l.false,
        c.write_head-p.ensures.place,
        c.write_head-p.ensures.kept,
      );
    }

pub returns : goal.returns
returns c =
    let a = c.args in
    let l = a.lists in
    let h = a.head in
    let p = head_bytes (settings_of h) h.values_seen h.internal_timestamp h.transformer.count in
    let q = list_bytes h.transformer.input_length l.statistics.now l.last_shingled_input.now l.last_shingled_point.now l.previous_timestamps.now l.initial_values.now l.initial_timestamps.now in
    fitted_is (p ++ q) a.out.now _ (c.head_length.result + c.lists_length.result) _
    (omega (arith, length-append p q, c.lists_length.ensures.value, c.head_length.ensures.value)) c.if-out-l.false
    (wrote_then c.write_head-p.ensures c.write_lists.ensures)
