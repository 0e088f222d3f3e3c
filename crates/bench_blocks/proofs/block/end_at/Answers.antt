-- `bench_blocks::block::end_at` meets its contract. Assumes nothing.
use mathlib.Core.Path.{◌≡◌, subst}
use native.Mathlib.Omega.{arith}
use Prim.Native.Nat.{◌+◌, ◌-◌}
use lib.ListN.{length, take, drop}
use Rattle.std.specs.Prelude.{Result}
use Rattle.refusal.specs.declared.Refusal.{Refusal}
use Rattle.bench_core.specs.Bench.{finished_from, finish_of}
use Rattle.bench_core.specs.declared.step.Printed.{Printed}
use Rattle.bench_blocks.proofs.EndLaws.{closed_at, finish_taken}
use Rattle.bench_blocks.proofs.block.end_at.Goals as goal

pub unwrap-requires : goal.unwrap-requires
unwrap-requires c =
    let a = c.args in
    finish_taken a.b a.text.now a.next a.out.now a.at c.requires.at_in_bounds c.finish-last.result _ c.finish-last.ensures

pub returns : goal.returns
returns c =
    let a = c.args in
    let s = c.finish-last in
    let e = subst (λ (r : Result Printed Refusal). finished_from r a.b s.new.out
    ≡ finish_of a.b (take (length a.text.now - a.next) (drop a.next a.text.now)) (take (a.at + 65536 - a.at) (drop a.at a.out.now)))
    c.unwrap.ensures s.ensures in
    closed_at a.b a.text.now a.next a.out.now a.at c.requires.at_in_bounds s.new.out e (omega (arith, s.auto))
