-- `snapshot_save::save::write_lists` meets its contract. Assumes nothing.
use Rattle.snapshot.proofs.SaveLaws.{list_split}
use Rattle.snapshot.proofs.WriteLaws.{wrote_then}
use Rattle.snapshot.specs.Steps.TwoParts.{list_bytes}
use native.Mathlib.Omega.{arith}
use Rattle.snapshot_save.proofs.save.write_lists.Goals as goal

pub dev_lines-p-requires : goal.dev_lines-p-requires
dev_lines-p-requires c =
    let a = c.args in
    let l = a.lists in
    omega (
      arith,
      list_split a.d l.statistics.now l.last_shingled_input.now l.last_shingled_point.now l.previous_timestamps.now l.initial_values.now l.initial_timestamps.now,
      c.requires.initial_in_bounds,
    )

pub singles_line-q-requires : goal.singles_line-q-requires
singles_line-q-requires c =
    let a = c.args in
    let l = a.lists in
    omega (
      arith,
      list_split a.d l.statistics.now l.last_shingled_input.now l.last_shingled_point.now l.previous_timestamps.now l.initial_values.now l.initial_timestamps.now,
      c.requires.initial_in_bounds,
      c.dev_lines-p.ensures.place,
      c.dev_lines-p.ensures.kept,
    )

pub singles_line-r-requires : goal.singles_line-r-requires
singles_line-r-requires c =
    let a = c.args in
    let l = a.lists in
    omega (
      arith,
      list_split a.d l.statistics.now l.last_shingled_input.now l.last_shingled_point.now l.previous_timestamps.now l.initial_values.now l.initial_timestamps.now,
      c.requires.initial_in_bounds,
      c.dev_lines-p.ensures.place,
      c.dev_lines-p.ensures.kept,
      c.singles_line-q.ensures.place,
      c.singles_line-q.ensures.kept,
    )

pub tim_line-s-requires : goal.tim_line-s-requires
tim_line-s-requires c =
    let a = c.args in
    let l = a.lists in
    omega (
      arith,
      list_split a.d l.statistics.now l.last_shingled_input.now l.last_shingled_point.now l.previous_timestamps.now l.initial_values.now l.initial_timestamps.now,
      c.requires.initial_in_bounds,
      c.dev_lines-p.ensures.place,
      c.dev_lines-p.ensures.kept,
      c.singles_line-q.ensures.place,
      c.singles_line-q.ensures.kept,
      c.singles_line-r.ensures.place,
      c.singles_line-r.ensures.kept,
    )

pub buf_lines-requires : goal.buf_lines-requires
buf_lines-requires c =
    let a = c.args in
    let l = a.lists in
    record {
      d_in_bounds = c.requires.d_in_bounds;
      times_in_bounds = omega (
        arith,
        list_split a.d l.statistics.now l.last_shingled_input.now l.last_shingled_point.now l.previous_timestamps.now l.initial_values.now l.initial_timestamps.now,
        c.requires.initial_in_bounds,
        c.dev_lines-p.ensures.place,
        c.dev_lines-p.ensures.kept,
        c.singles_line-q.ensures.place,
        c.singles_line-q.ensures.kept,
        c.singles_line-r.ensures.place,
        c.singles_line-r.ensures.kept,
        c.tim_line-s.ensures.place,
        c.tim_line-s.ensures.kept,
      );
    }

pub returns : goal.returns
unfolding list_bytes
returns c = wrote_then c.dev_lines-p.ensures (wrote_then c.singles_line-q.ensures (wrote_then c.singles_line-r.ensures (wrote_then c.tim_line-s.ensures c.buf_lines.ensures)))
