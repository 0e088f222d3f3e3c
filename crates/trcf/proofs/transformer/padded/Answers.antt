-- The copy over an array of `empty`, where it fits.
use Rattle.std.proofs.Common.{◌≡◌, ◌+◌, length, replicate, arith, ◌∙◌}
use Rattle.trcf.specs.Lengths.{where_fits, within}
use Rattle.trcf.proofs.ShingleLaws.{paste_over}
use Rattle.trcf.proofs.transformer.padded.Goals as goal

pub returns : goal.returns
returns g c =
    let v = c.args.values.now in
    let all = replicate 16 c.args.empty in
    let e : 0 + length v ≡ length v = omega arith in
    c.copy_in.ensures ∙ (λ i. where_fits (within (e i) 16) (paste_over all v i) all)
