-- What the bench prints for a whole input: step after step until nothing more is read, and then the end of the input. The program `bench` makes these steps
-- block by block; where its blocks end does not matter (the crate bench_blocks).
use Rattle.std.specs.Prelude.{ℕ, zero, suc, true, false, List, [], ◌++◌, eqb, length, take, drop, replicate, Float}
use Rattle.common.specs.Deviation.{zero64}
use Rattle.trcf.specs.Transformer.{zero32}
use Rattle.trcf.specs.View.{Lent, lent}
use Rattle.bench_core.specs.Bench.{Output, room, fresh_bench, bench_step, finish_of}
use Rattle.bench_core.specs.declared.step.Bench.{Bench}

-- room for the bench's limits, d 4, k 64 and start 500
abbrev pub bench_memory : Lent
bench_memory = lent (replicate 75 zero64) (replicate 256 zero32) (replicate 320 zero32) (replicate 64 0) (replicate 2000 zero32) (replicate 500 0)

abbrev pub blank : List ℕ
blank = replicate room 0

abbrev pub shown : Output → List ℕ
shown o = take o.length o.bytes

-- at most n steps: each reads a byte at least
abbrev pub printed_from : ℕ → Bench → Lent → List Float → List ℕ → List ℕ
printed_from zero b lists y t = []
printed_from (suc n) b lists y t =
    let s = bench_step b lists y t blank in
    elim (eqb s.next 0) [
      | true ↦ shown (finish_of b t blank).left.out
      | false ↦ shown s.left.out ++ printed_from n s.left.bench s.left.lent s.left.point (drop s.next t)
    ]

unfoldable pub printed : List ℕ → List ℕ
printed t = printed_from (suc (length t)) fresh_bench bench_memory (replicate 320 zero32) t
