-- `capi::head::head_of` meets its contract: word by word. Assumes nothing.
use Rattle.capi.proofs.HeadLaws.{head_made}
use Rattle.capi.proofs.head.head_of.Goals as goal

pub returns : goal.returns
returns c =
    let w = c.args.words.now in
    head_made w c.mode_of.ensures c.method_of.ensures c.double_of.ensures c.single_of.ensures
    c.weights_of.ensures c.codes_of.ensures
