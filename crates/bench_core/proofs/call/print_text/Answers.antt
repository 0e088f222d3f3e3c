use Rattle.bench_core.specs.Bench.{output, prints}
use Rattle.refusal.specs.Lent.{over}
use lib.ListN.{length, drop}
use mathlib.Core.List.{◌++◌}
use Rattle.bench_core.proofs.call.print_text.Goals as goal

pub returns : goal.returns
unfolding prints over
returns c =
    let a = c.args in
    λ j. output (length a.text.now) (c.copy_from_slice.ensures.after j ++ drop (length a.text.now) a.out.now)
