-- `snapshot::judge::fields` meets its contract. Assumes nothing.
use native.Mathlib.Omega.{arith}
use mathlib.Core.Path.{sym}
use lib.ListN.{drop}
use Rattle.std.proofs.lemmas.List.{set-get_or}
use Rattle.snapshot.proofs.JudgeLaws.{sofar_none, sofar_step, sofar_stop, sofar_done, left_stop, left_done}
use Rattle.snapshot.proofs.judge.fields.Goals as goal

pub loop-slot-init : goal.loop-slot-init
loop-slot-init g c = sofar_none g.T.Cell.read (drop c.args.at c.args.text.now) c.args.out.now

pub loop-slot-preserved : goal.loop-slot-preserved
loop-slot-preserved g c =
    let L = c.loop-slot in
    sofar_step g.T.Cell.read _ _ _ L.out L.slot-index (drop L.p c.args.text.now) L.invariant (omega arith) _ _ (sym c.in-Some.ensures)

pub returns-in_default : goal.returns-in_default
returns-in_default g c =
    let L = c.loop-slot in
    let z = drop L.p c.args.text.now in
    let e = sym c.in_default.ensures in
    rw (set-get_or L.out L.slot-index c.slot-item.result) (record {
      told = sofar_stop g.T.Cell.read _ _ _ L.out L.slot-index z L.invariant (omega arith) e;
      kept = L.invariant.long;
      left = left_stop g.T.Cell.read _ _ _ L.out L.slot-index z L.invariant (omega arith) e;
    })

pub returns-after-loop-slot : goal.returns-after-loop-slot
returns-after-loop-slot g c =
    let L = c.loop-slot in
    let z = drop L.p c.args.text.now in
    record {
      told = sofar_done g.T.Cell.read _ _ _ L.out L.slot-index z L.invariant (omega arith);
      kept = L.invariant.long;
      left = left_done g.T.Cell.read _ _ _ L.out L.slot-index z L.invariant (omega arith);
    }
