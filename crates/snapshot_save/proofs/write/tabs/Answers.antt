-- `snapshot_save::write::tabs` meets its contract. Assumes nothing.
use Prim.Native.Nat.{ℕ, ◌+◌, ◌<◌}
use native.Mathlib.Numerals.{add-one}
use mathlib.Core.Path.{◌≡◌, ap, sym, ◌∙◌}
use mathlib.Core.List.{List, ◌∷◌, map}
use lib.ListN.{length, drop, get_or, drop_of_length-le}
use lib.Seq.{drop-cons}
use Rattle.snapshot.specs.Steps.Write.{tabbed}
use Rattle.snapshot.proofs.WriteLaws.{left_step, left_done}
use Rattle.snapshot_save.proofs.write.tabs.Goals as goal

pub loop-x-preserved : goal.loop-x-preserved
loop-x-preserved g c =
    let L = c.loop-x in
    let v = c.args.v.now in
    let i = L.x-index in
    let x = c.x-item.result in
    let h : i < length v = c.loop-x-test.true in
    let e : drop i v ≡ x ∷ drop (i + 1) v =
    drop-cons v i x h ∙ ap (λ (k : ℕ). get_or v i x ∷ drop k v) (sym (add-one i)) ∙ ap (λ (y : g.row.T.Denot). y ∷ drop (i + 1) v) (sym c.x-item.is) in
    left_step (9 ∷ g.T.Cell.text x) (tabbed (map g.T.Cell.text (drop (i + 1) v))) L.invariant (ap (λ (l : List g.row.T.Denot). tabbed (map g.T.Cell.text l)) e) c.tab-p.ensures

pub returns : goal.returns
returns g c =
    let v = c.args.v.now in
    left_done c.loop-x.invariant (ap (λ (l : List g.row.T.Denot). tabbed (map g.T.Cell.text l)) (drop_of_length-le v c.loop-x-test.false))
