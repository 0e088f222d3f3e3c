-- `capi::getters::tell_numbers` meets its contract: ten numbers, where they fit. Assumes nothing.
use native.Mathlib.Omega.{arith}
use Rattle.capi.specs.Calls.{numbers_told}
use Rattle.capi.proofs.CallLaws.{flag_from, list_many, list_fit}
use Rattle.capi.proofs.NumberLaws.{numbers_stored}
use Rattle.capi.proofs.getters.tell_numbers.Goals as goal

pub returns-then-output-lt10 : goal.returns-then-output-lt10
returns-then-output-lt10 c =
    let a = c.args in
    list_many (numbers_told a.answer) a.output.now c.if-output-lt10.true

pub returns : goal.returns
returns c =
    let a = c.args in
    list_fit (numbers_told a.answer) a.output.now (omega (arith, c.if-output-lt10.false))
    (numbers_stored a.output.now a.answer (omega (arith, c.if-output-lt10.false)) (flag_from a.answer.ready c.from.ensures) c.from-2.ensures c.mode_number.ensures)
