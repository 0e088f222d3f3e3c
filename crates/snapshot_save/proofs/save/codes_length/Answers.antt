-- `snapshot_save::save::codes_length` meets its contract. Assumes nothing.
use native.Mathlib.Omega.{arith}
use mathlib.Core.Path.{◌≡◌, sym, ap, ◌∙◌}
use Prim.Native.Nat.{ℕ}
use mathlib.Core.List.{List, map}
use lib.ListN.{length, take}
use Rattle.snapshot.specs.Text.{whole}
use Rattle.snapshot.specs.Steps.Write.{tabbed}
use lib.Seq.{length-take-le}
use Rattle.snapshot_save.proofs.save.codes_length.Goals as goal

pub slice_bounds-wholes_length-end : goal.slice_bounds-wholes_length-end
slice_bounds-wholes_length-end c =
    let h = c.args.head in
    let d = h.transformer.input_length in
    let W = c.widened-wide in
    let z : length W.result ≡ 16 = ap length W.ensures ∙ c.well_formed.0.1.1.1.1.1.1.1.1.1.1.1.0.1.0.1 in
    let m = length-take-le d W.result (omega (arith, z, c.requires)) in
    sym m

pub wholes_length-requires : goal.wholes_length-requires
wholes_length-requires c =
    let h = c.args.head in
    let d = h.transformer.input_length in
    let W = c.widened-wide in
    let z : length W.result ≡ 16 = ap length W.ensures ∙ c.well_formed.0.1.1.1.1.1.1.1.1.1.1.1.0.1.0.1 in
    let m = length-take-le d W.result (omega (arith, z, c.requires)) in
    omega (arith, m, c.requires)

pub returns : goal.returns
returns c =
    let d = c.args.head.transformer.input_length in
    record { value = c.wholes_length.ensures.value ∙ ap (λ (w : List ℕ). length (tabbed (map whole (take d w)))) c.widened-wide.ensures; upper_bound = c.wholes_length.ensures.upper_bound }
