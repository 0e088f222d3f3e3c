-- `capi::head::write_numbers` meets its contract: twelve words. Assumes nothing.
use native.Mathlib.Omega.{arith}
use Rattle.capi.proofs.HeadLaws.{numbers_stored}
use Rattle.capi.proofs.head.write_numbers.Goals as goal

pub returns : goal.returns
returns c =
    let a = c.args in
    numbers_stored a.words.now a.head (omega (arith, c.requires)) c.mode_number.ensures
    c.from.ensures c.double_bits.ensures c.single_bits.ensures
