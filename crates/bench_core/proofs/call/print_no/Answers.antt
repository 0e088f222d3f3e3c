use Prim.Native.Nat.{ℕ}
use mathlib.Core.Path.{ap, ◌∙◌}
use native.Mathlib.Omega.{arith}
use Rattle.bench_core.proofs.PrintLaws.{told, no_fits}
use Rattle.bench_core.specs.Bench.{no_text, prints}
use Rattle.bench_core.proofs.call.print_no.Goals as goal

pub returns : goal.returns
unfolding no_text
returns c =
    let n = c.from.result in
    let out = c.args.out.now in
    told (no_text n) out c.whole_line.result (omega (arith, no_fits n (omega arith), c.requires)) c.whole_line.ensures c.unwrap_or.ensures
    ∙ ap (λ (m : ℕ). prints (no_text m) out) c.from.ensures
