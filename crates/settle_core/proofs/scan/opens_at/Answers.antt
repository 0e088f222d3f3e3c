-- `settle_core::scan::opens_at` meets its contract. Assumes nothing.
use mathlib.Core.Path.{◌≡◌, ap, ◌∙◌}
use native.Mathlib.Omega.{arith}
use Prim.Native.Nat.{ℕ, ◌+◌, ◌-◌}
use lib.ListN.{take, drop}
use Rattle.bench_core.specs.declared.line.Name.{Name}
use Rattle.bench_core.specs.declared.line.Name.TheVariants.{Set}
use Rattle.bench_core.specs.Line.{is_named, name_of}
use Rattle.bench_core.specs.Bench.{cell_length}
use Rattle.settle_core.specs.Input.{opens}
use Rattle.settle_core.proofs.ScanLaws.{rest_is}
use Rattle.settle_core.proofs.scan.opens_at.Goals as goal

pub returns : goal.returns
unfolding opens
returns c =
    let a = c.args in
    let n = c.cell_end-n in
    let e : n.result ≡ cell_length (drop a.at a.text.now) = n.ensures.value ∙ ap cell_length (rest_is a.text.now a.at) in
    let q : a.at + n.result - a.at ≡ cell_length (drop a.at a.text.now) = omega (arith, e) in
    c.is_named.ensures ∙ ap (λ (m : Name). is_named m Set) (c.name_of.ensures ∙ ap (λ (k : ℕ). name_of (take k (drop a.at a.text.now))) q)
