-- `snapshot_save::write::whole_length` meets its contract. Assumes nothing.
use native.Mathlib.Omega.{arith}
use mathlib.Core.Path.{ap}
use lib.ListN.{length}
use Rattle.snapshot.proofs.WriteLaws.{whole_more_length, whole_less, whole_pos, whole_short}
use Rattle.snapshot_save.proofs.write.whole_length.Goals as goal

pub loop-m-init : goal.loop-m-init
loop-m-init c = omega arith

pub overflow_add-l : goal.overflow_add-l
overflow_add-l c = omega (arith, whole_short c.args.n (omega arith), whole_pos c.loop-m.m)

pub loop-m-smaller : goal.loop-m-smaller
loop-m-smaller c = omega arith

pub loop-m-preserved : goal.loop-m-preserved
loop-m-preserved c = omega (arith, whole_more_length c.loop-m.m c.loop-m-test.true)

pub returns : goal.returns
returns c = omega (arith, ap length (whole_less c.loop-m.m (omega (arith, c.loop-m-test.false))), whole_short c.args.n (omega arith))
