-- `snapshot_save::save::write_codes` meets its contract. Assumes nothing.
use native.Mathlib.Omega.{arith}
use mathlib.Core.Path.{◌≡◌, sym, ap, ◌∙◌}
use Prim.Native.Nat.{ℕ}
use mathlib.Core.List.{List}
use lib.ListN.{length, take}
use Rattle.snapshot.specs.Text.{chn_line}
use Rattle.snapshot.specs.Read.{bytes_of_line}
use Rattle.snapshot.proofs.WriteLaws.{wrote_is}
use lib.Seq.{length-take-le}
use Rattle.snapshot_save.proofs.save.write_codes.Goals as goal

pub slice_bounds-chn_line-end : goal.slice_bounds-chn_line-end
slice_bounds-chn_line-end c =
    let h = c.args.head in
    let d = h.transformer.input_length in
    let W = c.widened-wide in
    let z : length W.result ≡ 16 = ap length W.ensures ∙ c.well_formed.1.1.0.1.1.1.1.1.1.1.1.1.1.1.0.1.0.1 in
    let m = length-take-le d W.result (omega (arith, z, c.requires.input_length_bound)) in
    sym m

pub chn_line-requires : goal.chn_line-requires
chn_line-requires c = rw c.widened-wide.ensures c.requires.head_in_bounds

pub returns : goal.returns
returns c =
    let d = c.args.head.transformer.input_length in
    wrote_is (ap (λ (w : List ℕ). bytes_of_line (chn_line (take d w))) c.widened-wide.ensures) c.chn_line.ensures
