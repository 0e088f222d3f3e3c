-- The numbers of a signal within their limits, and a reading of it. Assumes nothing.
use Prim.Native.Nat.{ℕ, ◌+◌, ◌-◌, ◌*◌, ◌%◌, ◌≤◌}
use native.Mathlib.Omega.{arith}
use mathlib.Core.Path.{◌≡◌, refl, sym, ap, ◌∙◌}
use mathlib.Core.Bool.{Bool, true, false, cond, ◌&&◌, true≢false}
use lib.Dec.{leb, eqb}
use lib.IntN.{ℤ, pos, negsuc, neg_ℤ, ◌+ℤ◌, ◌*ℤ◌}
use lib.Signed.{◌≤ℤ◌}
use lib.Ieee.{Float, binary32, of_int}
use borrow.Author.Tests.{leb-true}
use mir.Syntax.{w128}
use mir.Val.{to_z, of_z}
use Rattle.std.proofs.lemmas.Int.{ints}
use Rattle.settling.specs.Settling.{Signal, integer_size, in_limits, signal_value, value_at}
use Rattle.settling.specs.Steps.{signal_of}
use Rattle.settling.specs.declared.signal.Signal as held

-- ---- limits

and_left : (a b : Bool) → a && b ≡ true → a ≡ true
and_left true b h = refl
and_left false b h = h

and_right : (a b : Bool) → a && b ≡ true → b ≡ true
and_right true b h = h
and_right false b h = absurd (true≢false (sym h))

pub record Limited (g : held.Signal) : Type 0 where
  pub base : integer_size g.base ≤ 1000
  pub ramp : integer_size g.ramp ≤ 1000
  pub ripple : integer_size g.ripple ≤ 1000
  pub jump : integer_size g.jump ≤ 1000
  pub readings : g.readings ≤ 1000

small : (x : ℤ) (b : Bool) → leb (integer_size x) 1000 && b ≡ true → integer_size x ≤ 1000
small x b h = leb-true (integer_size x) 1000 (and_left (leb (integer_size x) 1000) b h)

pub limited : (g : held.Signal) → in_limits (signal_of g) ≡ true → Limited g
unfolding in_limits
limited g h =
    let a = and_right (leb (integer_size g.base) 1000) _ h in
    let b = and_right (leb (integer_size g.ramp) 1000) _ a in
    let c = and_right (leb (integer_size g.ripple) 1000) _ b in
    let d = and_right (leb (integer_size g.jump) 1000) _ c in
    let e = and_right (leb g.place 1000) _ d in
    record {
      base = small g.base _ h;
      ramp = small g.ramp _ a;
      ripple = small g.ripple _ b;
      jump = small g.jump _ c;
      readings = leb-true g.readings 1000 (and_right (leb 1 g.readings) (leb g.readings 1000) e);
    }

-- a number of a size, between its bounds
pub record Between (n : ℕ) (x : ℤ) : Type 0 where
  pub low : neg_ℤ (pos n) ≤ℤ x
  pub high : x ≤ℤ pos n

pub between : (n : ℕ) (x : ℤ) → integer_size x ≤ n → Between n x
between n (pos m) h = record { low = omega (arith, ints); high = omega (arith, ints) }
between n (negsuc m) h = record { low = omega (arith, ints); high = omega (arith, ints) }

-- a machine's number of that size is the number
pub held_whole : (x : ℤ) → integer_size x ≤ 1000 → to_z w128 (of_z w128 x) ≡ x
held_whole x h = let b = between 1000 x h in omega (arith, ints)

-- the parts of a reading's number, which stay far within a machine's numbers
pub record Parts (g : held.Signal) (r q p : ℤ) : Type 0 where
  pub base : Between 1000 g.base
  pub risen : Between 1000000 r
  pub ripple : Between 1000 q
  pub jump : Between 1000 p

module _ (g : held.Signal) (r q p : ℤ) (h : in_limits (signal_of g) ≡ true) (er : integer_size r ≤ 1000000)
    (eq : integer_size q ≤ integer_size (to_z w128 (of_z w128 g.ripple))) (ep : integer_size p ≤ integer_size (to_z w128 (of_z w128 g.jump))) where
  pub parts : Parts g r q p
  parts =
      let l = limited g h in
      let a : integer_size q ≤ 1000 = omega (arith, l.ripple, rw (held_whole g.ripple l.ripple) at eq) in
      let b : integer_size p ≤ 1000 = omega (arith, l.jump, rw (held_whole g.jump l.jump) at ep) in
      record { base = between 1000 g.base l.base; risen = between 1000000 r er; ripple = between 1000 q a; jump = between 1000 p b }

-- ---- a reading

pub reading_is : (g : held.Signal) (i : ℕ) → in_limits (signal_of g) ≡ true → (r q p z : ℤ)
    → r ≡ to_z w128 (of_z w128 g.ramp) *ℤ pos i → q ≡ cond (eqb (i % 2) 1) (to_z w128 (of_z w128 g.ripple)) (pos 0) → p ≡ cond (leb g.place i) (to_z w128 (of_z w128 g.jump)) (pos 0)
    → z ≡ g.base +ℤ r +ℤ q +ℤ p → (x : Float) → x ≡ of_int binary32 z → x ≡ value_at (signal_of g) i
unfolding value_at signal_value
reading_is g i h r q p z er eq ep ez x ex =
    let l = limited g h in
    let er' = rw (held_whole g.ramp l.ramp) at er in
    let eq' = rw (held_whole g.ripple l.ripple) at eq in
    let ep' = rw (held_whole g.jump l.jump) at ep in
    ex ∙ ap (of_int binary32) (ez ∙ (λ j. g.base +ℤ er' j +ℤ eq' j +ℤ ep' j))
