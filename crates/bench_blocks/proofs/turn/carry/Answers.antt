-- `bench_blocks::turn::carry` meets its contract. Assumes nothing.
use mathlib.Core.Path.{◌∙◌}
use Rattle.bench_blocks.proofs.CarryLaws.{moved_front}
use Rattle.bench_blocks.proofs.turn.carry.Goals as goal

pub returns : goal.returns
returns c =
    let a = c.args in
    c.copy_within.ensures.after ∙ moved_front a.text.now a.from a.n c.requires
