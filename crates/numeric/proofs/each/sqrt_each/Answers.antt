-- `numeric::each::sqrt_each` meets its contract: the invariant is that the first i numbers have become their roots. Assumes nothing.
use Rattle.std.proofs.Common.{◌≡◌, ℕ, List, length, get_or, set, refl, ap, ◌∙◌, add-one, arith, length-set}
use lib.Ieee.{Float, nan}
use Rattle.numeric.specs.Root.{root_of}
use Rattle.numeric.proofs.EachLaws.{rooted_to, rooted_next, rooted_all}
use Rattle.numeric.proofs.each.sqrt_each.Goals as goal

pub loop-i-init : goal.loop-i-init
loop-i-init c = (refl, refl)

pub loop-i-preserved : goal.loop-i-preserved
loop-i-preserved c =
    let L = c.loop-i in
    let l = c.args.x.now in
    let at : List Float → List Float = λ q. set q L.i (root_of (get_or q L.i nan)) in
    let put = ap (λ (r : Float). set L.x L.i r) c.root_near.ensures in
    (rw add-one (put ∙ ap at L.invariant.0 ∙ rooted_next L.i l), simp length-set L.invariant.1)

pub returns : goal.returns
returns c =
    let L = c.loop-i in
    let l = c.args.x.now in
    let e : L.i ≡ length l = omega arith in
    L.invariant.0 ∙ ap (λ (n : ℕ). rooted_to n l) e ∙ rooted_all l
