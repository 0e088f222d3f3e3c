-- `snapshot_save::write::list_line` meets its contract. Assumes nothing.
use native.Mathlib.Omega.{arith}
use lib.ListN.{length, length-append}
use mathlib.Core.List.{[], ◌∷◌, ◌++◌, map}
use mathlib.Core.Path.{◌≡◌}
use Rattle.snapshot.specs.Steps.Write.{tabbed}
use Rattle.snapshot.proofs.WriteLaws.{wrote_then}
use Rattle.snapshot_save.proofs.write.list_line.Goals as goal

pub write_name-p-requires : goal.write_name-p-requires
write_name-p-requires g c =
    let a = c.args in
    let h : length a.name ≡ 3 = omega arith in
    omega (arith, h, length-append a.name (tabbed (map g.T.Cell.text a.v.now) ++ (10 ∷ [])), c.requires)

pub tabs-q-requires : goal.tabs-q-requires
tabs-q-requires g c =
    let a = c.args in
    let h : length a.name ≡ 3 = omega arith in
    let t = tabbed (map g.T.Cell.text a.v.now) in
    omega (arith, h, length-append a.name (t ++ (10 ∷ [])), length-append t (10 ∷ []), c.requires, c.write_name-p.ensures.place, c.write_name-p.ensures.kept)

pub write_byte-requires : goal.write_byte-requires
write_byte-requires g c =
    let a = c.args in
    let h : length a.name ≡ 3 = omega arith in
    let t = tabbed (map g.T.Cell.text a.v.now) in
    omega (
      arith,
      h,
      length-append a.name (t ++ (10 ∷ [])),
      length-append t (10 ∷ []),
      c.requires,
      c.write_name-p.ensures.place,
      c.write_name-p.ensures.kept,
      c.tabs-q.ensures.place,
      c.tabs-q.ensures.kept,
    )

pub returns : goal.returns
returns g c = wrote_then c.write_name-p.ensures (wrote_then c.tabs-q.ensures c.write_byte.ensures)
