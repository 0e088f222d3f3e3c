use native.Mathlib.Omega.{arith}
use mathlib.Core.Path.{refl}
use Rattle.refusal.proofs.RefusalLaws.{is_numbered}
use Rattle.bench_core.proofs.TurnLaws.{save_refused, save_done}
use Rattle.trcf.specs.View.{lent_by}
use Rattle.bench_core.proofs.call.call_save.Goals as goal

pub returns-in-Ok : goal.returns-in-Ok
returns-in-Ok c =
    let a = c.args in
    save_done c.every_right.result c.every_right.ensures a.head (lent_by a.lists) a.out.now c.in-Ok.ensures refl

pub returns-in-Err : goal.returns-in-Err
returns-in-Err c =
    let a = c.args in
    save_refused c.every_right.result c.every_right.ensures a.head (lent_by a.lists) a.out.now c.in-Err.ensures (λ z. absurd (omega (arith, z, is_numbered c.in-Err.refusal))) c.print_no.ensures
