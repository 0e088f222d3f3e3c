-- `trcf::passes::feed_first` meets its contract: three statistics fed one after the other; the second stands elsewhere than the first. Assumes nothing.
use mathlib.Core.List.{List}
use mathlib.Core.Path.{ap, ◌∙◌}
use native.Mathlib.Omega.{arith}
use lib.Ieee.{Float}
use Prim.Native.Nat.{◌+◌}
use Rattle.common.specs.declared.deviation.Deviation.{Deviation}
use Rattle.common.specs.Deviation.{step_of}
use Rattle.trcf.specs.Transformer.{statistic_at}
use Rattle.trcf.specs.Steps.Passes.{radicand_of, first_at}
use Rattle.trcf.proofs.PassLaws.{step_other}
use Rattle.trcf.proofs.passes.feed_first.Goals as goal

pub returns : goal.returns
unfolding first_at
returns c =
    let c8 = c in
    let c16 = c in
    let a = c.args in
    let one = c.feed_one-value.ensures in
    let two = c.feed_one-difference.ensures in
    let three = c.feed_one.ensures in
    let after : List Float → Float = λ q. radicand_of (step_of (statistic_at q (a.i + a.d) a.decay a.count) a.dx) in record {
      value_value = rw (c.radicand.ensures, one.value);
      difference_value = c.radicand-2.ensures ∙ ap radicand_of two.value ∙ ap after one.s_after ∙ ap (λ (q : Deviation). radicand_of (step_of q a.dx))
          (step_other a.s.now a.i a.decay a.count a.x (a.i + a.d) a.decay (λ e. omega arith));
      s_after = rw
          (three.s_after, c.mean-mean.ensures, two.value, two.s_after, one.s_after);
    }
