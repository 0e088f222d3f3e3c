-- `snapshot::field::whole` meets its contract. Assumes nothing.
use Prim.Native.Nat.{ℕ, suc, ◌<◌}
use native.Mathlib.Omega.{arith}
use native.Mathlib.Numerals.{add-one}
use mathlib.Core.Path.{◌≡◌, refl, sym, ap, ◌∙◌}
use lib.ListN.{length, drop, get_or}
use Rattle.snapshot.specs.Steps.Scan.{scan}
use Rattle.snapshot.proofs.ScanLaws.{none_at, some_at, none_lead, scan_yes, scan_low, scan_high, scan_big}
use Rattle.snapshot.proofs.field.whole.Goals as goal
use Rattle.snapshot.proofs.field.whole.Goals.{then-b-lt48-via-then-b-lt48, then-b-lt48-via-else-b-lt48+then-b-gt57}

pub returns-then-not-leads : goal.returns-then-not-leads
returns-then-not-leads c = none_lead c.args.c.now (sym c.leads.ensures ∙ c.if-not-leads.true)

pub loop-x-init : goal.loop-x-init
loop-x-init c = (sym c.leads.ensures ∙ c.if-not-leads.false, refl)

pub returns-then-b-lt48 : goal.returns-then-b-lt48
returns-then-b-lt48 c =
    let v = c.args.c.now in
    let n = c.loop-x.n in
    let i = c.loop-x.x-index in
    let h : i < length v = c.loop-x-test.true in
    let b : c.from-b.result ≡ get_or v i 0 = c.from-b.ensures in
    none_at v n i c.loop-x.invariant.0 c.loop-x.invariant.1 (elim c.then-b-lt48.branch [
      | then-b-lt48-via-then-b-lt48 w ↦ scan_low n i v h (omega (arith, b, w.if-b-lt48.true))
      | then-b-lt48-via-else-b-lt48+then-b-gt57 w ↦ scan_high n i v h (omega (arith, b, w.if-b-gt57.true))
    ])

pub returns-in_err-m : goal.returns-in_err-m
returns-in_err-m c =
    let v = c.args.c.now in
    let n = c.loop-x.n in
    let i = c.loop-x.x-index in
    let h : i < length v = c.loop-x-test.true in
    let b : c.from-b.result ≡ get_or v i 0 = c.from-b.ensures in
    rw c.from_residual.ensures (none_at v n i c.loop-x.invariant.0 c.loop-x.invariant.1 (scan_big n i v h (omega arith) (omega arith) (omega (arith, c.in_err-m.ensures))))

pub returns-in_err-n : goal.returns-in_err-n
returns-in_err-n c =
    let v = c.args.c.now in
    let n = c.loop-x.n in
    let i = c.loop-x.x-index in
    let h : i < length v = c.loop-x-test.true in
    let b : c.from-b.result ≡ get_or v i 0 = c.from-b.ensures in
    rw c.from_residual-in_err-n.ensures
    (none_at v n i c.loop-x.invariant.0 c.loop-x.invariant.1 (scan_big n i v h (omega arith) (omega arith) (omega (arith, c.in_ok-m.ensures, c.in_err-n.ensures))))

pub loop-x-preserved : goal.loop-x-preserved
loop-x-preserved c =
    let at-loop = c.loop-x in
    let at_from = c.from-b in
    let v = c.args.c.now in
    let n = at-loop.n in
    let i = at-loop.x-index in
    let h : i < length v = c.loop-x-test.true in
    let b : at_from.result ≡ get_or v i 0 = at_from.ensures in
    (at-loop.invariant.0, at-loop.invariant.1 ∙ scan_yes n i v h (omega arith) (omega arith) (omega arith) ∙ rw (add-one i) (ap (λ (x : ℕ). scan x (drop (suc i) v)) (omega arith)))

pub returns : goal.returns
returns c = some_at c.args.c.now c.loop-x.n c.loop-x.x-index c.loop-x.invariant.0 c.loop-x.invariant.1 c.loop-x-test.false
