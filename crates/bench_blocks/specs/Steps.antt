-- What the private steps of a block promise each other: one cell, the end of the input, and the cells of a block.
use Rattle.std.specs.Prelude.{ℕ, ◌+◌, ◌≤◌, ◌≡◌, false, List, ◌++◌, length, take, drop, Float}
use Rattle.trcf.specs.View.{Lent}
use Rattle.bench_core.specs.Bench.{bench_step, finish_of}
use Rattle.bench_core.specs.Run.{blank, shown}
use Rattle.bench_core.specs.declared.step.Bench.{Bench}
use Rattle.bench_blocks.specs.Blocks.{TextBlock, BlockPrinted, prints_block}

-- one cell of the text t: n bytes are read, and m are written to the output from place `at` on
pub record Placed (b : Bench) (lists : Lent) (y : List Float) (t out : List ℕ) (at : ℕ) (b' : Bench) (lists' : Lent) (y' : List Float) (out' : List ℕ) (n m : ℕ) : Type 0 where
  pub bench : b' ≡ (bench_step b lists y t blank).left.bench
  pub lent : lists' ≡ (bench_step b lists y t blank).left.lent
  pub point : y' ≡ (bench_step b lists y t blank).left.point
  pub next : n ≡ (bench_step b lists y t blank).next
  pub count : m ≡ length (shown (bench_step b lists y t blank).left.out)
  pub text : take (at + m) out' ≡ take at out ++ shown (bench_step b lists y t blank).left.out
  pub behind : drop (at + m) out' ≡ drop (at + m) out
  pub within : n ≤ length t
  pub fits : m ≤ 65536

-- the end of the input after t: m bytes are written to the output from place `at` on
pub record Closed (b : Bench) (t out : List ℕ) (at : ℕ) (b' : Bench) (out' : List ℕ) (m : ℕ) : Type 0 where
  pub bench : b' ≡ (finish_of b t blank).left.bench
  pub count : m ≡ length (shown (finish_of b t blank).left.out)
  pub text : take (at + m) out' ≡ take at out ++ shown (finish_of b t blank).left.out
  pub behind : drop (at + m) out' ≡ drop (at + m) out
  pub fits : m ≤ 65536

-- a call leaves the block r of the text, laid over the output
pub record Handed (r : TextBlock) (text out : List ℕ) (g : BlockPrinted) : Type 0 where
  pub same : g ≡ prints_block r out
  pub read : g.read ≤ length text
  pub fits : g.out.length ≤ length out
  pub room : g.full ≡ false → g.out.length + 65536 ≤ length out
