-- With an output of ROOM bytes or more a call that stops for the output has read a byte at least. Assumes nothing.
use Prim.Native.Nat.{ℕ, zero, suc, ◌+◌, ◌≤◌, ◌<◌}
use native.Mathlib.Omega.{arith}
use mathlib.Core.Path.{◌≡◌, refl}
use mathlib.Core.Bool.{Bool, true, false, cond, false≢true}
use mathlib.Core.List.{List, [], ◌++◌}
use borrow.Author.Tests.{eqb-false, le-ltb}
use lib.Dec.{ltb, eqb}
use lib.ListN.{length, drop}
use lib.Ieee.{Float}
use Rattle.trcf.specs.View.{Lent}
use Rattle.bench_core.specs.declared.step.Bench.{Bench}
use Rattle.bench_core.specs.Bench.{room, Stepped, bench_step}
use Rattle.bench_core.specs.Run.{blank, shown}
use Rattle.bench_blocks.specs.Blocks.{TextBlock, text_block, cells_of, ends_with, block_of}
use Rattle.bench_blocks.proofs.RunLaws.{long_blank}
use Rattle.bench_blocks.proofs.PlaceLaws.{step_out}

-- no byte is given back
ahead : (n m : ℕ) (b : Bench) (lists : Lent) (y : List Float) (text : List ℕ) (next : ℕ) (w : List ℕ) → next ≤ (cells_of n m b lists y text next w).read
ahead zero m b lists y text next w = omega arith
ahead (suc n) m b lists y text next w =
    let s : Stepped = bench_step b lists y (drop next text) blank in
    go (ltb m (length w + room)) (eqb s.next 0) (ahead n m s.left.bench s.left.lent s.left.point text (next + s.next) (w ++ shown s.left.out))
  where
    go : (p q : Bool)
        → (let s = bench_step b lists y (drop next text) blank in
        next + s.next ≤ (cells_of n m s.left.bench s.left.lent s.left.point text (next + s.next) (w ++ shown s.left.out)).read
        → next
        ≤ (cond p (text_block b lists y next w true)
        (cond q (text_block b lists y next w false) (cells_of n m s.left.bench s.left.lent s.left.point text (next + s.next) (w ++ shown s.left.out)))).read)
    go true q i = omega arith
    go false true i = omega arith
    go false false i = omega (arith, i)

module _ (b : Bench) (lists : Lent) (y : List Float) (text : List ℕ) (m : ℕ) where
  -- a call that stops for the output has read something
  pub full_ahead : room ≤ m → (cells_of (suc (length text)) m b lists y text 0 []).full ≡ true → (0 < length text) × (0 < (cells_of (suc (length text)) m b lists y text 0 []).read)
  full_ahead h f =
      let s : Stepped = bench_step b lists y text blank in
      go (eqb s.next 0) refl (ahead (length text) m s.left.bench s.left.lent s.left.point text (0 + s.next) (shown s.left.out)) f
    where
      t : ltb m 65536 ≡ false
      t = le-ltb m 65536 h

      go : (q : Bool) → eqb (bench_step b lists y text blank).next 0 ≡ q
          → (let s = bench_step b lists y text blank in
          let r = cells_of (length text) m s.left.bench s.left.lent s.left.point text (0 + s.next) (shown s.left.out) in
          0 + s.next ≤ r.read
          → (cond (ltb m 65536) (text_block b lists y 0 [] true) (cond q (text_block b lists y 0 [] false) r)).full ≡ true
          → (0 < length text) × (0 < (cond (ltb m 65536) (text_block b lists y 0 [] true) (cond q (text_block b lists y 0 [] false) r)).read))
      go true e i f = absurd (false≢true (rw t at f))
      go false e i f =
          let z = eqb-false (bench_step b lists y text blank).next 0 e in
          let k = (step_out b lists y text blank long_blank).within in
          (omega (arith, z, k), rw t (omega (arith, z, i)))

  -- the same of a whole block, at the end of the input or not
  pub block_ahead : (q : Bool) → room ≤ m → (block_of b lists y text q m).full ≡ true → (0 < length text) × (0 < (block_of b lists y text q m).read)
  unfolding block_of
  block_ahead q h = go (cells_of (suc (length text)) m b lists y text 0 []) q (cells_of (suc (length text)) m b lists y text 0 []).full refl (full_ahead h)
    where
      go : (s : TextBlock) (q p : Bool) → s.full ≡ p → (s.full ≡ true → (0 < length text) × (0 < s.read))
          → (ends_with q p s text).full ≡ true → (0 < length text) × (0 < (ends_with q p s text).read)
      go s false p k i f = i f
      go s true true k i f = i f
      go s true false k i f = absurd (false≢true f)
