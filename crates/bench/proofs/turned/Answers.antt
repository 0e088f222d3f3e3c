-- `bench::turned` meets its contract. Assumes nothing.
use mathlib.Core.Path.{subst}
use native.Mathlib.Omega.{arith}
use lib.ListN.{length}
use Prim.Native.Nat.{◌≤◌}
use Rattle.std.specs.Prelude.{Result, IfOk}
use Rattle.refusal.specs.declared.Refusal.{Refusal}
use Rattle.trcf.specs.View.{lent}
use Rattle.bench_blocks.specs.Turns.{turn_by}
use Rattle.bench_blocks.specs.declared.turn.TurnResult.{TurnResult}
use Rattle.bench_blocks.proofs.TurnLaws.{Goes, turn_goes, turn_taken, stand_least}
use Rattle.bench.proofs.turned.Goals as goal

pub unwrap-turned-requires : goal.unwrap-turned-requires
unwrap-turned-requires g c =
    let a = c.args in
    let m = a.memory.now in
    turn_taken a.run
    (lent m.statistics m.last_shingled_input m.last_shingled_point m.previous_timestamps m.initial_values m.initial_timestamps)
    m.point a.text.now a.got a.out.now (omega (arith, c.requires.in_bounds_2)) c.requires.in_bounds c.requires.got_in_bounds
    c.turn-t.result _ _ _ _ c.turn-t.ensures.out_after

pub slice_bounds-write_all-end : goal.slice_bounds-write_all-end
slice_bounds-write_all-end g c =
    let t = c.turn-t in
    let w = subst (λ (r : Result TurnResult Refusal). IfOk r (λ (x : TurnResult). x.written ≤ length t.new.out)) c.unwrap-turned.ensures t.ensures.written_in_bounds in
    omega (arith, w)

pub returns : goal.returns
returns g c =
    let a = c.args in
    let m = a.memory.now in
    let t = c.turn-t in
    let goes = turn_goes a.run
    (lent m.statistics m.last_shingled_input m.last_shingled_point m.previous_timestamps m.initial_values m.initial_timestamps)
    m.point a.text.now a.got a.out.now (omega (arith, c.requires.in_bounds_2)) c.requires.in_bounds c.requires.got_in_bounds
    (turn_by c.turn-t.result a.run
    (lent t.new.statistics t.new.last_shingled_input t.new.last_shingled_point t.new.previous_timestamps t.new.initial_values t.new.initial_timestamps)
    t.new.point t.new.text t.new.out) t.ensures.out_after in
    let kept = subst (λ (r : Result TurnResult Refusal). IfOk r (λ (x : TurnResult). x.run.kept ≤ length t.new.text)) c.unwrap-turned.ensures t.ensures.kept_in_bounds in
    let rest = subst (λ (r : Result TurnResult Refusal). Goes a.run a.got (turn_by r a.run
    (lent t.new.statistics t.new.last_shingled_input t.new.last_shingled_point t.new.previous_timestamps t.new.initial_values t.new.initial_timestamps)
    t.new.point t.new.text t.new.out)) c.unwrap-turned.ensures goes in
    record {
      kept_in_bounds = omega (arith, t.auto, kept);
      kept_bound = λ f. rest.rest f;
      kept_bound_2 = λ f. omega (arith, rest.less f, stand_least a.run.kept a.got a.run.full);
    }
