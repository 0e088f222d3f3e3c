-- `snapshot_save::save::write_head` meets its contract. Assumes nothing.
use Rattle.snapshot.proofs.SaveLaws.{head_split}
use Rattle.snapshot.proofs.WriteLaws.{wrote_then}
use Rattle.snapshot.specs.Steps.TwoParts.{head_bytes}
use Rattle.trcf.specs.View.{settings_of}
use lib.Seq.{length-take-le}
use lib.ListN.{length}
use mathlib.Core.Path.{◌≡◌, sym}
use native.Mathlib.Omega.{arith}
use Rattle.snapshot_save.proofs.save.write_head.Goals as goal

pub set_line-p-requires : goal.set_line-p-requires
set_line-p-requires c =
    let h = c.args.head in
    let w = h.transformer.weights in
    let d = h.transformer.input_length in
    let z : length w ≡ 16 = c.well_formed.1.0.1.1.0.1.1.1.1.1.0.1.0.1 in
    omega (arith, head_split (settings_of h) h.values_seen h.internal_timestamp h.transformer.count, c.requires.count_in_bounds)

pub slice_bounds-weights-end : goal.slice_bounds-weights-end
slice_bounds-weights-end c =
    let h = c.args.head in
    let w = h.transformer.weights in
    let d = h.transformer.input_length in
    let z : length w ≡ 16 = c.well_formed.1.0.1.1.0.1.1.1.1.1.0.1.0.1 in
    omega (arith, z)

pub slice_bounds-singles_line-end : goal.slice_bounds-singles_line-end
slice_bounds-singles_line-end c =
    let h = c.args.head in
    let w = h.transformer.weights in
    let d = h.transformer.input_length in
    let z : length w ≡ 16 = c.well_formed.1.0.1.1.0.1.1.1.1.1.0.1.0.1 in
    sym (length-take-le d w (omega (arith, z)))

pub singles_line-q-requires : goal.singles_line-q-requires
singles_line-q-requires c =
    let h = c.args.head in
    let w = h.transformer.weights in
    let d = h.transformer.input_length in
    let z : length w ≡ 16 = c.well_formed.1.0.1.1.0.1.1.1.1.1.0.1.0.1 in
    omega (arith, head_split (settings_of h) h.values_seen h.internal_timestamp h.transformer.count, c.requires.count_in_bounds, c.set_line-p.ensures.place, c.set_line-p.ensures.kept)

pub write_codes-r-requires : goal.write_codes-r-requires
write_codes-r-requires c =
    let h = c.args.head in
    let w = h.transformer.weights in
    let d = h.transformer.input_length in
    let z : length w ≡ 16 = c.well_formed.1.0.1.1.0.1.1.1.1.1.0.1.0.1 in
    record {
      input_length_bound = c.requires.input_length_bound;
      head_in_bounds = omega (
        arith,
        head_split
            (settings_of h) h.values_seen h.internal_timestamp h.transformer.count,
        c.requires.count_in_bounds,
        c.set_line-p.ensures.place,
        c.set_line-p.ensures.kept,
        c.singles_line-q.ensures.place,
        c.singles_line-q.ensures.kept,
      );
    }

pub cnt_line-requires : goal.cnt_line-requires
cnt_line-requires c =
    let h = c.args.head in
    let w = h.transformer.weights in
    let d = h.transformer.input_length in
    let z : length w ≡ 16 = c.well_formed.1.0.1.1.0.1.1.1.1.1.0.1.0.1 in
    omega (
      arith,
      head_split (settings_of h) h.values_seen h.internal_timestamp h.transformer.count,
      c.requires.count_in_bounds,
      c.set_line-p.ensures.place,
      c.set_line-p.ensures.kept,
      c.singles_line-q.ensures.place,
      c.singles_line-q.ensures.kept,
      c.write_codes-r.ensures.place,
      c.write_codes-r.ensures.kept,
    )

pub returns : goal.returns
unfolding head_bytes
returns c =
    let h = c.args.head in
    let w = h.transformer.weights in
    let d = h.transformer.input_length in
    let z : length w ≡ 16 = c.well_formed.1.0.1.1.0.1.1.1.1.1.0.1.0.1 in
    wrote_then c.set_line-p.ensures (wrote_then c.singles_line-q.ensures (wrote_then c.write_codes-r.ensures c.cnt_line.ensures))
