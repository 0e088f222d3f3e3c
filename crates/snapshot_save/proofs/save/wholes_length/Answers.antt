-- `snapshot_save::save::wholes_length` meets its contract. Assumes nothing.
use Rattle.snapshot.proofs.WriteLaws.{whole_short}
use Rattle.snapshot.specs.Steps.Write.{tabbed}
use Rattle.snapshot.specs.Text.{whole}
use lib.Seq.{drop-cons}
use lib.ListN.{length, drop, get_or, length-append, drop_of_length-le}
use mathlib.Core.List.{List, ◌∷◌, map}
use mathlib.Core.Path.{◌≡◌, ap, sym, ◌∙◌}
use native.Mathlib.Numerals.{add-one}
use native.Mathlib.Omega.{arith}
use Prim.Native.Nat.{ℕ, ◌+◌, ◌≤◌, ◌<◌}
use Rattle.snapshot_save.proofs.save.wholes_length.Goals as goal

pub loop-n-init : goal.loop-n-init
loop-n-init c = (omega arith, omega arith)

pub overflow_add-l : goal.overflow_add-l
overflow_add-l c = omega (arith, whole_short (get_or c.args.v.now c.loop-n.n-index 0) (omega (arith, c.type_inv.v c.loop-n.n-index)))

pub overflow_add-l-in-loop-n : goal.overflow_add-l-in-loop-n
overflow_add-l-in-loop-n c = omega (arith, c.whole_length.ensures.value, whole_short (get_or c.args.v.now c.loop-n.n-index 0) (omega (arith, c.type_inv.v c.loop-n.n-index)))

pub loop-n-preserved : goal.loop-n-preserved
loop-n-preserved c =
    let L = c.loop-n in
    let v = c.args.v.now in
    let h : L.n-index < length v = c.loop-n-test.true in
    let e : drop L.n-index v ≡ get_or v L.n-index 0 ∷ drop (L.n-index + 1) v = drop-cons v L.n-index 0 h ∙ ap (λ (k : ℕ). get_or v L.n-index 0 ∷ drop k v) (sym (add-one L.n-index)) in
    let g : length (whole (get_or v L.n-index 0)) ≤ 20 = whole_short (get_or v L.n-index 0) (omega (arith, c.type_inv.v L.n-index)) in (
      omega (
        arith,
        c.whole_length.ensures.value,
        ap (λ (l : List ℕ). length (tabbed (map whole l))) e,
        length-append (whole (get_or v L.n-index 0)) (tabbed (map whole
            (drop (L.n-index + 1) v))),
      ),
      omega (arith, c.whole_length.ensures.value),
    )

pub returns : goal.returns
returns c = omega (arith, ap (λ (l : List ℕ). length (tabbed (map whole l))) (drop_of_length-le c.args.v.now c.loop-n-test.false))
