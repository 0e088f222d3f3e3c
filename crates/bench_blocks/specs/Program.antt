-- Every run of the program `bench` on an input. That its loop makes these steps is seen by reading crates/bench/src/main.rt; what each step does is proved.
use Rattle.std.specs.Prelude.{ℕ, ◌+◌, ◌<◌, ◌≡◌, true, false, List, [], ◌++◌, length, take, replicate, Float}
use Rattle.trcf.specs.Transformer.{zero32}
use Rattle.trcf.specs.View.{Lent}
use Rattle.bench_core.specs.Run.{bench_memory, shown}
use Rattle.bench_core.specs.declared.step.Phase.TheVariants.{Ended}
use Rattle.bench_blocks.specs.Turns.{first_run, TurnResult, turn_of}
use Rattle.bench_blocks.specs.Whole.{whole_prints}
use Rattle.bench_blocks.specs.declared.turn.Run.{Run}

-- From a run, with what is lent and the text, on an input that is still to be read: `all` is written.
pub data Program : Run → Lent → List Float → List ℕ → List ℕ → List ℕ → Type 0 where
  -- the next bytes of the input, one at least and as many as you like, are read to the text after those that are kept; then a turn
  reads : {r : Run} {lists : Lent} {y : List Float} {text input all : List ℕ} (new later text' out w : List ℕ) (t : TurnResult)
      → r.full ≡ false
      → 0 < length new
      → input ≡ new ++ later
      → take (r.kept + length new) text' ≡ take r.kept text ++ new
      → t ≡ turn_of r lists y text' (length new) out
      → t.row ≡ 0
      → all ≡ shown t.out ++ w
      → Program t.run t.lent t.point t.text later w
      → Program r lists y text input all
  -- the input is at its end: a turn with no bytes
  ends : {r : Run} {lists : Lent} {y : List Float} {text input all : List ℕ} (out w : List ℕ) (t : TurnResult)
      → r.full ≡ false
      → input ≡ []
      → t ≡ turn_of r lists y text 0 out
      → t.row ≡ 0
      → all ≡ shown t.out ++ w
      → Program t.run t.lent t.point t.text [] w
      → Program r lists y text input all
  -- the last turn stopped because the output was nearly full: a turn without a read
  again : {r : Run} {lists : Lent} {y : List Float} {text input all : List ℕ} (got : ℕ) (out w : List ℕ) (t : TurnResult)
      → r.full ≡ true
      → t ≡ turn_of r lists y text got out
      → t.row ≡ 0
      → all ≡ shown t.out ++ w
      → Program t.run t.lent t.point t.text input w
      → Program r lists y text input all
  -- the bench is at its end: nothing more is read or written
  program_ends : {r : Run} {lists : Lent} {y : List Float} {text input all : List ℕ} → r.bench.phase ≡ Ended → all ≡ [] → Program r lists y text input all

-- THE CLAIM (proved as proofs/ProgramLaws.blocks-print): whatever blocks an input arrives in, what is written is what its lines print.
abbrev pub BlocksPrint : Type 0
BlocksPrint = (text input all : List ℕ) → Program first_run bench_memory (replicate 320 zero32) text input all → all ≡ whole_prints input
