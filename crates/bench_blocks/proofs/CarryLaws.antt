-- Bytes moved to the front of the memory that they stand in. Assumes nothing.
use Prim.Native.Nat.{ℕ, ◌+◌, ◌-◌, ◌≤◌}
use native.Mathlib.Omega.{arith}
use mathlib.Core.Path.{◌≡◌, ap, ◌∙◌}
use mathlib.Core.List.{List, ◌++◌}
use lib.ListN.{length, take, drop, length-drop}
use lib.Seq.{length-take-le}
use Rattle.std.specs.List.{copy_within}
use Rattle.refusal.specs.Lent.{over}

pub moved_front : (text : List ℕ) (from n : ℕ) → from + n ≤ length text → copy_within text from (from + n) 0 ≡ over text (take n (drop from text))
unfolding over
moved_front text from n h =
    let k : from + n - from ≡ n = omega arith in
    let l : length (take n (drop from text)) ≡ n = length-take-le n (drop from text) (simp length-drop (omega arith)) in
    let e : 0 + n ≡ length (take n (drop from text)) = omega (arith, l) in
    ap (λ (i : ℕ). take i (drop from text) ++ drop (0 + i) text) k ∙ ap (λ (i : ℕ). take n (drop from text) ++ drop i text) e
