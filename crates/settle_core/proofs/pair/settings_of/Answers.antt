-- `settle_core::pair::settings_of` meets its contract. Assumes nothing.
use mathlib.Core.Path.{refl, sym, ap, ◌∙◌}
use native.Mathlib.Nat.{le_refl}
use Rattle.std.proofs.Common.{rules}
use lib.ListN.{drop}
use Rattle.bench_core.specs.Line.{kept_of}
use Rattle.bench_core.specs.Bench.{zero_codes}
use Rattle.trcf.specs.View.{settings_from}
use Rattle.settling.specs.Settling.{pair_row}
use Rattle.settle_core.proofs.JudgeLaws.{handed_fault, pair_refused, handed_is, pair_taken_lem}
use Rattle.settle_core.proofs.pair.settings_of.Goals as goal

pub returns-in_err-pair_row : goal.returns-in_err-pair_row
returns-in_err-pair_row c =
    let a = c.args in
    let k = c.kept-n in
    let m = c.code_count-m in
    let r = c.from_residual in
    let q = c.in_err-pair_row.ensures ∙ ap pair_row (handed_is a.builder a.w k.result m.result k.ensures.value m.ensures.value m.ensures.upper_bound) in
    record {
      by_index = λ t. handed_fault _ r.result r.ensures.1 _ refl t ∙ pair_refused (settings_from a.builder (kept_of a.w) (zero_codes a.builder)) _ q (drop a.next t);
      next_le_next = search rules;
    }

pub returns : goal.returns
returns c =
    let a = c.args in
    let k = c.kept-n in
    let m = c.code_count-m in
    let q = c.in_ok-pair_row.ensures ∙ ap pair_row (handed_is a.builder a.w k.result m.result k.ensures.value m.ensures.value m.ensures.upper_bound) in
    record {
      by_index = λ t. pair_taken_lem a.builder a.w k.result m.result k.ensures.value m.ensures.value m.ensures.upper_bound (sym q) _ (drop a.next t);
      next_le_next = le_refl a.next;
    }
