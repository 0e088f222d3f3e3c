-- `capi::head::write_head` meets its contract: the front, and the codes after it. Assumes nothing.
use mathlib.Core.Path.{◌≡◌, ap, ◌∙◌}
use lib.ListN.{length}
use Rattle.capi.proofs.HeadLaws.{codes_stored}
use Rattle.capi.proofs.head.write_head.Goals as goal

pub returns : goal.returns
returns c =
    let a = c.args in
    let h = a.head in
    let v = c.write_codes in
    let y : length h.transformer.weights ≡ 16 = c.well_formed.1.0.1.1.0.1.1.1.1.1.0.1.0.1 in
    let z : length h.codes ≡ 16 = c.well_formed.1.0.1.1.1.1.1.1.1.1.1.1.1.0.1.0.1 in
    codes_stored a.words.now _ h _ y c.write_front.ensures v.ensures (ap length v.ensures ∙ z)
