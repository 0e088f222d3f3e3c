-- `settle_core::settle::print_all` meets its contract. Assumes nothing.
use mathlib.Core.Path.{◌≡◌, ap, ◌∙◌}
use mathlib.Core.List.{List, map}
use lib.ListN.{length}
use lib.Seq.{take-length}
use native.Mathlib.Omega.{arith}
use Prim.Native.Nat.{ℕ}
use Rattle.snapshot.proofs.WriteLaws.{wrote_then, wrote_is}
use Rattle.settling.specs.Steps.{signal_of}
use Rattle.settle_core.specs.Settle.{line_texts}
use Rattle.settle_core.specs.Steps.{pair_settings}
use Rattle.settle_core.specs.declared.pair.Pair.{Pair}
use Rattle.settle_core.proofs.PrintLaws.{wrote_none, lines_of, lines_more}
use Rattle.settle_core.proofs.settle.print_all.Goals as goal

pub loop-i-init : goal.loop-i-init
loop-i-init c = (wrote_none, omega arith)

pub loop-i-preserved : goal.loop-i-preserved
loop-i-preserved c =
    let a = c.args in
    let l = c.loop-i in
    let p = c.print_pair-at in
    (wrote_is (lines_more a.pairs.now (signal_of a.signal) l.i _ (omega arith)) (wrote_then l.invariant.0 p.ensures.wrote), omega (arith, p.ensures.upper_bound, l.invariant.1))

pub returns : goal.returns
returns c =
    let a = c.args in
    let l = c.loop-i in
    let e : l.i ≡ length a.pairs.now = omega arith in
    record {
      wrote = wrote_is (ap (λ (n : ℕ). lines_of a.pairs.now (signal_of a.signal) n) e
          ∙ ap (λ (ps : List Pair). line_texts 1 (map pair_settings ps) (signal_of a.signal)) (take-length a.pairs.now)) l.invariant.0;
      upper_bound = omega (arith, l.invariant.1, c.requires.count_bound);
    }
