-- `vectors_core::digits::hexadecimal_number` meets its contract: each round adds one digit. Assumes nothing.
use Rattle.std.proofs.Common.{arith}
use Rattle.std.proofs.lemmas.Int.Digits.{digits_value_more}
use Rattle.std.proofs.lemmas.List.Sums.{fold_more}
use Rattle.vectors_core.specs.Digits as Spec
use Rattle.vectors_core.proofs.digits.hexadecimal_number.Goals as goal

pub loop-b-preserved : goal.loop-b-preserved
loop-b-preserved c =
    let text = c.args.text.now in
    let step = fold_more (λ value b. Spec.with_hexadecimal value (Spec.digit b)) 0 text c.loop-b.b-index 0 c.loop-b-test.true in
    let more = digits_value_more 16 text c.loop-b.b-index c.loop-b-test.true in (
      rw (step, ← c.loop-b.invariant.0, ← c.digit.ensures.value) c.with_hexadecimal-digits.ensures.value,
      λ good.
          let kept = c.with_hexadecimal-digits.ensures.good good in
          let before = c.loop-b.invariant.1 kept.0 in
          let small = kept.1 in
          (before.0, omega (arith, more, before.1, c.digit.ensures.known (omega arith), kept.2)),
    )
