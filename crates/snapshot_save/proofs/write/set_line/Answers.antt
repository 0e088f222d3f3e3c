-- `snapshot_save::write::set_line` meets its contract. Assumes nothing.
use Rattle.snapshot.proofs.LineBytes.{set_size, five_size, set_bytes_lem}
use Rattle.snapshot.proofs.WriteLaws.{wrote_then, wrote_is, float_length}
use lib.Ieee.{binary32, binary64}
use lib.ListN.{length}
use mathlib.Core.Path.{ap}
use Rattle.trcf.specs.View.{settings_of}
use Rattle.snapshot.proofs.SaveLaws.{set_lined}
use native.Mathlib.Omega.{arith}
use Rattle.snapshot_save.proofs.write.set_line.Goals as goal

pub write_name-p-requires : goal.write_name-p-requires
write_name-p-requires c =
    let h = c.args.head in
    let l = c.from-letter in
    let m = c.from-method in
    let e = set_lined (settings_of h) l.result m.result l.ensures m.ensures in
    omega (
      arith,
      ap length e,
      set_size l.result m.result h.transformer.input_length h.shingle_size h.start_normalization h.stop_normalization h.transformer.transform_decay h.weight_time,
      five_size m.result h.transformer.input_length h.shingle_size h.start_normalization h.stop_normalization,
      float_length binary64 h.transformer.transform_decay,
      float_length binary32 h.weight_time,
    )

pub write_byte-q-requires : goal.write_byte-q-requires
write_byte-q-requires c =
    let h = c.args.head in
    let l = c.from-letter in
    let m = c.from-method in
    let e = set_lined (settings_of h) l.result m.result l.ensures m.ensures in
    omega (
      arith,
      ap length e,
      set_size l.result m.result h.transformer.input_length h.shingle_size h.start_normalization h.stop_normalization h.transformer.transform_decay h.weight_time,
      five_size m.result h.transformer.input_length h.shingle_size h.start_normalization h.stop_normalization,
      float_length binary64 h.transformer.transform_decay,
      float_length binary32 h.weight_time,
    )

pub write_byte-s-requires : goal.write_byte-s-requires
write_byte-s-requires c =
    let h = c.args.head in
    let l = c.from-letter in
    let m = c.from-method in
    let e = set_lined (settings_of h) l.result m.result l.ensures m.ensures in
    omega (
      arith,
      ap length e,
      set_size l.result m.result h.transformer.input_length h.shingle_size h.start_normalization h.stop_normalization h.transformer.transform_decay h.weight_time,
      five_size m.result h.transformer.input_length h.shingle_size h.start_normalization h.stop_normalization,
      float_length binary64 h.transformer.transform_decay,
      float_length binary32 h.weight_time,
    )

pub tabs-t-requires : goal.tabs-t-requires
tabs-t-requires c =
    let h = c.args.head in
    let l = c.from-letter in
    let m = c.from-method in
    let e = set_lined (settings_of h) l.result m.result l.ensures m.ensures in
    omega (
      arith,
      ap length e,
      set_size l.result m.result h.transformer.input_length h.shingle_size h.start_normalization h.stop_normalization h.transformer.transform_decay h.weight_time,
      five_size m.result h.transformer.input_length h.shingle_size h.start_normalization h.stop_normalization,
      float_length binary64 h.transformer.transform_decay,
      float_length binary32 h.weight_time,
    )

pub tab-u-requires : goal.tab-u-requires
tab-u-requires c =
    let h = c.args.head in
    let l = c.from-letter in
    let m = c.from-method in
    let e = set_lined (settings_of h) l.result m.result l.ensures m.ensures in
    omega (
      arith,
      ap length e,
      set_size l.result m.result h.transformer.input_length h.shingle_size h.start_normalization h.stop_normalization h.transformer.transform_decay h.weight_time,
      five_size m.result h.transformer.input_length h.shingle_size h.start_normalization h.stop_normalization,
      float_length binary64 h.transformer.transform_decay,
      float_length binary32 h.weight_time,
    )

pub tab-v-requires : goal.tab-v-requires
tab-v-requires c =
    let h = c.args.head in
    let l = c.from-letter in
    let m = c.from-method in
    let e = set_lined (settings_of h) l.result m.result l.ensures m.ensures in
    omega (
      arith,
      ap length e,
      set_size l.result m.result h.transformer.input_length h.shingle_size h.start_normalization h.stop_normalization h.transformer.transform_decay h.weight_time,
      five_size m.result h.transformer.input_length h.shingle_size h.start_normalization h.stop_normalization,
      float_length binary64 h.transformer.transform_decay,
      float_length binary32 h.weight_time,
    )

pub write_byte-requires : goal.write_byte-requires
write_byte-requires c =
    let h = c.args.head in
    let l = c.from-letter in
    let m = c.from-method in
    let e = set_lined (settings_of h) l.result m.result l.ensures m.ensures in
    omega (
      arith,
      ap length e,
      set_size l.result m.result h.transformer.input_length h.shingle_size h.start_normalization h.stop_normalization h.transformer.transform_decay h.weight_time,
      five_size m.result h.transformer.input_length h.shingle_size h.start_normalization h.stop_normalization,
      float_length binary64 h.transformer.transform_decay,
      float_length binary32 h.weight_time,
    )

pub returns : goal.returns
returns c =
    let h = c.args.head in
    let l = c.from-letter in
    let m = c.from-method in
    let e = set_lined (settings_of h) l.result m.result l.ensures m.ensures in
    wrote_is e (wrote_is (set_bytes_lem l.result m.result h.transformer.input_length h.shingle_size h.start_normalization h.stop_normalization h.transformer.transform_decay h.weight_time) (wrote_then c.write_name-p.ensures (wrote_then c.write_byte-q.ensures
    (wrote_then c.write_byte-s.ensures (wrote_then c.tabs-t.ensures (wrote_then c.tab-u.ensures (wrote_then c.tab-v.ensures c.write_byte.ensures)))))))
