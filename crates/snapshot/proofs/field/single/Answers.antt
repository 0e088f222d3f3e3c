-- `snapshot::field::single` meets its contract. Assumes nothing.
use native.Mathlib.Omega.{arith}
use mathlib.Core.Path.{◌≡◌, sym, ap, ◌∙◌}
use lib.Ieee.{binary32, of_bits, to_bits}
use Rattle.snapshot.specs.Scan.{single_of}
use Rattle.snapshot.specs.declared.field.Field.TheVariants.{Single}
use Rattle.snapshot.proofs.HexLaws.{bad_sized, in_width, read_back, not_back}
use Rattle.snapshot.proofs.field.single.Goals as goal

pub returns-in_default : goal.returns-in_default
returns-in_default c = sym (ap single_of (bad_sized binary32 c.args.c.now c.in_default.ensures))

pub returns-then-single_bits-n : goal.returns-then-single_bits-n
returns-then-single_bits-n c =
    let v = c.args.c.now in
    let n = c.in-Some.n in
    let e = c.in-Some.ensures in
    let s : c.single_of-x.result ≡ of_bits binary32 n = c.single_of-x.ensures ∙ ap (of_bits binary32) (omega (arith, in_width binary32 v n e)) in
    ap Single s ∙ sym (ap single_of (read_back binary32 v n e (ap (to_bits binary32) (sym s) ∙ sym c.single_bits.ensures ∙ c.if-single_bits-n.true)))

pub returns-else-single_bits-n : goal.returns-else-single_bits-n
returns-else-single_bits-n c =
    let v = c.args.c.now in
    let n = c.in-Some.n in
    let e = c.in-Some.ensures in
    let s : c.single_of-x.result ≡ of_bits binary32 n = c.single_of-x.ensures ∙ ap (of_bits binary32) (omega (arith, in_width binary32 v n e)) in
    sym (ap single_of (not_back binary32 v n e (λ q. c.if-single_bits-n.false (c.single_bits.ensures ∙ ap (to_bits binary32) s ∙ q))))
