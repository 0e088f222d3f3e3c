-- `capi::head::write_front` meets its contract: the numbers, and the weights after them. Assumes nothing.
use mathlib.Core.Path.{◌≡◌, ap, ◌∙◌}
use lib.ListN.{length, length-map}
use lib.Ieee.{binary32, to_bits}
use Rattle.capi.proofs.HeadLaws.{weights_stored}
use Rattle.capi.proofs.head.write_front.Goals as goal

pub returns : goal.returns
returns c =
    let v = c.write_weights in
    let w = c.args.head.transformer.weights in
    let z : length w ≡ 16 = c.well_formed.1.0.1.1.0.1.1.1.1.1.0.1.0.1 in
    weights_stored c.args.words.now _ c.args.head _ c.write_numbers.ensures v.ensures (ap length v.ensures ∙ length-map w (to_bits binary32) ∙ z)
