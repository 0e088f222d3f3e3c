-- `snapshot_save::save::head_length` meets its contract. Assumes nothing.
use Rattle.snapshot.proofs.SaveLaws.{head_size}
use Rattle.snapshot.specs.Text.{whole}
use Rattle.trcf.specs.View.{settings_of}
use lib.Seq.{length-take-le}
use lib.ListN.{length}
use mathlib.Core.Path.{◌≡◌, ap}
use native.Mathlib.Omega.{arith}
use Prim.Native.Nat.{ℕ}
use Rattle.snapshot_save.proofs.save.head_length.Goals as goal

pub returns : goal.returns
returns c =
    let h = c.args.head in
    let w = h.transformer.weights in
    let d = h.transformer.input_length in
    let z : length w ≡ 16 = c.well_formed.0.1.1.0.1.1.1.1.1.0.1.0.1 in
    omega (
      arith,
      head_size (settings_of h) h.values_seen h.internal_timestamp h.transformer.count,
      length-take-le d w (omega arith),
      c.codes_length.ensures.value,
      ap (λ (n : ℕ). length (whole n)) c.from.ensures,
    )
