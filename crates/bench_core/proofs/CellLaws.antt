-- Where a cell ends. Assumes nothing.
use Prim.Native.Nat.{ℕ, suc, ◌+◌, ◌≤◌, ◌<◌}
use native.Mathlib.Numerals.{add-one}
use mathlib.Core.Path.{◌≡◌, ap}
use mathlib.Core.Bool.{cond}
use mathlib.Core.List.{List}
use lib.Dec.{eqb}
use lib.ListN.{length, drop, get_or, drop_of_length-le}
use lib.Seq.{drop-cons}
use Rattle.bench_core.specs.Bench.{cell_length}

pub cell_next : (t : List ℕ) (i : ℕ) → i < length t
    → cell_length (drop i t) ≡ cond (eqb (get_or t i 0) 9) 0 (cond (eqb (get_or t i 0) 10) 0 (suc (cell_length (drop (i + 1) t))))
cell_next t i h = rw (add-one i) (ap cell_length (drop-cons t i 0 h))

pub none_left : (t : List ℕ) (i : ℕ) → length t ≤ i → cell_length (drop i t) ≡ 0
none_left t i h = rw (drop_of_length-le t h)
