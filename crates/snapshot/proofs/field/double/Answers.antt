-- `snapshot::field::double` meets its contract. Assumes nothing.
use mathlib.Core.Path.{◌≡◌, sym, ap, ◌∙◌}
use lib.Ieee.{binary64, of_bits, to_bits}
use Rattle.snapshot.specs.Scan.{double_of}
use Rattle.snapshot.specs.declared.field.Field.TheVariants.{Double}
use Rattle.snapshot.proofs.HexLaws.{bad_sized, read_back, not_back}
use Rattle.snapshot.proofs.field.double.Goals as goal

pub returns-in_default : goal.returns-in_default
returns-in_default c = sym (ap double_of (bad_sized binary64 c.args.c.now c.in_default.ensures))

pub returns-then-double_bits-n : goal.returns-then-double_bits-n
returns-then-double_bits-n c =
    let v = c.args.c.now in
    let n = c.in-Some.n in
    let e = c.in-Some.ensures in
    let s : c.double_of-x.result ≡ of_bits binary64 n = c.double_of-x.ensures in
    ap Double s ∙ sym (ap double_of (read_back binary64 v n e (ap (to_bits binary64) (sym s) ∙ sym c.double_bits.ensures ∙ c.if-double_bits-n.true)))

pub returns-else-double_bits-n : goal.returns-else-double_bits-n
returns-else-double_bits-n c =
    let v = c.args.c.now in
    let n = c.in-Some.n in
    let e = c.in-Some.ensures in
    let s : c.double_of-x.result ≡ of_bits binary64 n = c.double_of-x.ensures in
    sym (ap double_of (not_back binary64 v n e (λ q. c.if-double_bits-n.false (c.double_bits.ensures ∙ ap (to_bits binary64) s ∙ q))))
