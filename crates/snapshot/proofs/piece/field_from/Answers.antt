-- `snapshot::piece::field_from` meets its contract. Assumes nothing.
use Prim.Native.Nat.{◌+◌}
use native.Mathlib.Omega.{arith}
use mathlib.Core.Path.{◌≡◌}
use lib.ListN.{drop, length-drop}
use Rattle.snapshot.specs.Steps.Likely.{likely}
use Rattle.snapshot.specs.Steps.Scan.{kind_number}
use Rattle.snapshot.proofs.FieldEnds.{likely_fits, from_good, from_bad}
use Rattle.snapshot.proofs.piece.field_from.Goals as goal

pub parse-field-requires : goal.parse-field-requires
parse-field-requires c =
    let s = c.args in
    let e : c.likely_end-end.result ≡ s.from + likely (kind_number s.kind) (drop s.from s.text.now) = c.likely_end-end.ensures in
    record { from_le_to = omega arith; to_in_bounds = omega (arith, likely_fits (kind_number s.kind) s.from s.text.now, length-drop s.from s.text.now, c.requires) }

pub returns-in_default : goal.returns-in_default
returns-in_default c =
    let s = c.args in
    let e = c.likely_end-end in
    from_good (kind_number s.kind) s.from s.text.now c.parse-field.result e.result e.ensures c.parse-field.ensures c.in_default.not-Bad

pub returns : goal.returns
returns c =
    let s = c.args in
    let e = c.likely_end-end in
    let f = c.parse-field in
    from_bad (kind_number s.kind) s.from s.text.now f.result e.result e.ensures f.ensures c.in-Bad.is c.field_end.result c.field_end.ensures
