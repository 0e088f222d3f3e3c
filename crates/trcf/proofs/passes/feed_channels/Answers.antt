-- `trcf::passes::feed_channels` meets its contract: the passes one after the other, and the law that they feed what the channels would one by one. Assumes nothing.
use mathlib.Core.List.{map}
use mathlib.Core.Path.{sym, ap, ◌∙◌}
use Rattle.numeric.specs.Root.{root_of}
use Rattle.trcf.specs.Transformer.{slow_decay}
use Rattle.trcf.specs.Steps.Passes.{lasts}
use Rattle.trcf.proofs.PassLaws.{fed_in_passes}
use Rattle.trcf.proofs.passes.feed_channels.Goals as goal

pub returns : goal.returns
returns c =
    let c8 = c in
    let c16 = c in
    let p = c.args in
    let h = c.requires in
    let first = c.first_pass.ensures in
    let roots = c.sqrt_each.ensures ∙ ap (map root_of) first.a_after in
    let law = fed_in_passes p.d p.decay p.count p.input.now p.previous.now p.a.now p.s.now h.d_bound.2 in
    record { s_after = c.last_pass.ensures ∙ (λ t. lasts p.d (first.s_after t) p.d (slow_decay p.decay) p.count (roots t)) ∙ sym law; a_after = roots }
