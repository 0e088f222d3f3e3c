-- `rangevector::zero_front` meets its contract. The front is overwritten, the rest stays. Assumes nothing.
use mathlib.Core.Path.{◌≡◌}
use mathlib.Core.List.{List, ◌++◌}
use Prim.Native.Nat.{ℕ, ◌≤◌}
use lib.ListN.{length, take, drop, replicate, length-replicate}
use lib.Seq.{length-take-le}
use Rattle.refusal.specs.Lent.{over}
use Rattle.ranges.proofs.rangevector.zero_front.Goals as goal

pub fill-requires : goal.fill-requires
fill-requires g c = g.met.T.Width.clones _

written : {A : Type 0} (list front : List A) (n : ℕ) (x z : A) → n ≤ length list → front ≡ replicate (length (take n list)) x → x ≡ z
    → front ++ drop n list ≡ over list (replicate n z)
unfolding over
written list front n x z h filled e = rw (filled, length-take-le n list h, e, length-replicate n z)

pub returns : goal.returns
returns g c = written _ _ _ _ _ c.requires (c.fill.ensures.after (g.met.T.Width.clone_is _)) c.zero.ensures
