-- `settle_core::pair::pair_at` meets its contract. Assumes nothing.
use mathlib.Core.Path.{◌≡◌, ap, ◌∙◌}
use mathlib.Core.List.{List}
use Prim.Native.Nat.{ℕ}
use lib.ListN.{drop}
use Rattle.bench_core.specs.Line.{kept_of}
use Rattle.bench_core.specs.Bench.{zero_codes}
use Rattle.trcf.specs.View.{settings_from}
use Rattle.settle_core.specs.Input.{Scanned, line_of, settings_by, pair_by}
use Rattle.settle_core.proofs.JudgeLaws.{handed_fault, set_refused, weights_refused, both_lines}
use Rattle.settle_core.proofs.pair.pair_at.Goals as goal

pub returns-in_err-set-clause-text_value : goal.returns-in_err-set-clause-text_value
returns-in_err-set-clause-text_value c =
    let a = c.args in
    let t = a.text.now in
    let r = c.from_residual in
    let s = c.in_err-set.ensures.text_value in
    handed_fault _ r.result r.ensures.1 19 s.0 t ∙ set_refused (drop a.at t) s.1

pub returns-in_err-weights-clause-text_value : goal.returns-in_err-weights-clause-text_value
returns-in_err-weights-clause-text_value c =
    let a = c.args in
    let t = a.text.now in
    let u : List ℕ = drop a.at t in
    let r = c.from_residual-in_err-weights in
    let s = c.in_ok-set.ensures.text_value in
    let w = c.in_err-weights.ensures.text_value in
    let q : drop c.in_ok-set.set.next t ≡ (line_of u).rest = ap (λ (x : Scanned). x.rest) s.0 in
    handed_fault _ r.result r.ensures.1 19 w.0 t ∙ weights_refused u s.1 (drop c.in_ok-set.set.next t) q w.1

pub returns-clause-text_value : goal.returns-clause-text_value
returns-clause-text_value c =
    let a = c.args in
    let t = a.text.now in
    let u : List ℕ = drop a.at t in
    let s = c.in_ok-set.ensures.text_value in
    let w = c.in_ok-weights.ensures.text_value in
    let set = c.in_ok-set.set in
    let weights = c.in_ok-weights.weights in
    let q : drop set.next t ≡ (line_of u).rest = ap (λ (x : Scanned). x.rest) s.0 in
    c.settings_of.ensures.by_index t
    ∙ (λ j. pair_by (settings_from (c.builder_from.ensures j) (kept_of weights.line) (zero_codes (c.builder_from.ensures j))) (drop weights.next t))
    ∙ (λ j. pair_by (settings_by (s.0 j).line (w.0 j).line) (w.0 j).rest)
    ∙ both_lines u s.1 (drop set.next t) q w.1
