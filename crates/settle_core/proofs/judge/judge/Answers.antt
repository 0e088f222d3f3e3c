-- `settle_core::judge::judge` meets its contract. Assumes nothing.
use Prim.Native.Nat.{ℕ}
use mathlib.Core.Path.{refl, sym, ap, ◌∙◌}
use native.Mathlib.Omega.{arith}
use lib.ListN.{drop, length-set}
use borrow.Author.Tests.{not-true, not-false}
use Rattle.settle_core.proofs.JudgeLaws.{none_opens, handed_refusal, first_fault, first_pair, read_so_far, read_closed, read_all_lem, read_fault, read_pair}
use Rattle.settle_core.proofs.judge.judge.Goals as goal

pub returns-then-not-opens_at-clause-result_value : goal.returns-then-not-opens_at-clause-result_value
returns-then-not-opens_at-clause-result_value c =
    let o = c.opens_at in
    none_opens c.args.text.now (sym o.ensures ∙ not-true o.result (cc))

pub returns-in_err-first-clause-result_value : goal.returns-in_err-first-clause-result_value
returns-in_err-first-clause-result_value c =
    let o = c.opens_at in
    let r = c.from_residual in
    handed_refusal _ r.result r.ensures.1 ∙ first_fault c.args.text.now (sym o.ensures ∙ not-false o.result (cc)) _ c.in_err-first.ensures.text_value

pub loop-n-init : goal.loop-n-init
loop-n-init c =
    let o = c.opens_at in
    let t = c.args.text.now in
    let p = c.in_ok-first in
    (first_pair t (sym o.ensures ∙ not-false o.result (cc)) p.first.pair _ (drop p.first.next t) refl p.ensures.text_value, p.ensures.next_in_bounds, refl)

pub returns-then-not-opens_at-2-clause-result_value : goal.returns-then-not-opens_at-2-clause-result_value
returns-then-not-opens_at-2-clause-result_value c =
    let o = c.opens_at-in-loop-n in
    let l = c.loop-n in
    c.signalled.ensures.result_value ∙ read_closed l.pairs l.n (drop l.at c.args.text.now) (sym o.ensures ∙ not-true o.result (cc)) ∙ sym l.invariant.0

pub returns-in_err-read-clause-result_value : goal.returns-in_err-read-clause-result_value
returns-in_err-read-clause-result_value c =
    let o = c.opens_at-in-loop-n in
    let r = c.from_residual-in_err-read in
    let l = c.loop-n in
    handed_refusal _ r.result r.ensures.1
    ∙ read_fault l.pairs l.n (drop l.at c.args.text.now) (omega arith) (sym o.ensures ∙ not-false o.result (cc)) _ c.in_err-read.ensures.text_value
    ∙ sym l.invariant.0

pub loop-n-preserved : goal.loop-n-preserved
loop-n-preserved c =
    let o = c.opens_at-in-loop-n in
    let t = c.args.text.now in
    let l = c.loop-n in
    let p = c.in_ok-read in (
      l.invariant.0 ∙ sym (read_pair l.pairs l.n (drop l.at t) (omega arith) (sym o.ensures ∙ not-false o.result (cc)) (omega (arith, l.invariant.2)) p.read.pair
          (drop p.read.next t) p.ensures.text_value),
      p.ensures.next_in_bounds,
      length-set l.pairs l.n _ ∙ l.invariant.2,
    )

pub returns-clause-result_value : goal.returns-clause-result_value
returns-clause-result_value c =
    let l = c.loop-n in
    c.signalled-2.ensures.result_value ∙ read_all_lem l.pairs 8 (drop l.at c.args.text.now) (omega arith)
    ∙ ap (λ (n : ℕ). read_so_far l.pairs n (drop l.at c.args.text.now)) (omega arith) ∙ sym l.invariant.0
