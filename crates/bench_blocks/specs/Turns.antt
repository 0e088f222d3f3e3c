-- One turn of the program `bench`: the bytes that a read brought, after those that are kept of the block before, and what is kept of both.
use Rattle.std.specs.Prelude.{ℕ, ◌+◌, ◌-◌, Bool, true, false, cond, List, eqb, ltb, leb, length, take, drop, Float, Result, Ok, Err}
use Rattle.refusal.specs.Lent.{over}
use Rattle.refusal.specs.Refusal.{number_of}
use Rattle.refusal.specs.declared.Refusal.{Refusal}
use Rattle.trcf.specs.View.{Lent}
use Rattle.bench_core.specs.Bench.{Output, output, room, fresh_bench, cell_kept}
use Rattle.bench_core.specs.declared.step.Bench.{Bench}
use Rattle.bench_blocks.specs.Blocks.{block_of, BlockPrinted, prints_block}
use Rattle.bench_blocks.specs.declared.turn.Run.{Run}
use Rattle.bench_blocks.specs.declared.turn.TurnResult.{TurnResult as Turned}

abbrev pub run_with : Bench → ℕ → Bool → Run
run_with b k f = record { bench = b; kept = k; full = f }

-- a run that has read nothing
abbrev pub first_run : Run
first_run = run_with fresh_bench 0 false

-- row 20: an output of less than `room` bytes, a text that the kept bytes could fill, or one shorter than what should stand in it
abbrev pub unfit : ℕ → ℕ → ℕ → ℕ → Bool
unfit kept got size space = cond (ltb space room) true (cond (leb size 24) true (cond (ltb size kept) true (ltb (size - kept) got)))

-- the bytes that stand in the text: after a turn that stopped for the output, no new ones
abbrev pub bytes_in_text : ℕ → ℕ → Bool → ℕ
bytes_in_text kept got full = cond full kept (kept + got)

-- a read that brings nothing is the end of the input
abbrev pub ends_at : ℕ → Bool → Bool
ends_at got full = cond full false (eqb got 0)

-- what is kept of n bytes that are not read: all where the turn stopped for the output; else no cell ends in them, and 24 are enough
abbrev pub bytes_kept : ℕ → Bool → ℕ
bytes_kept n full = cond full n (cell_kept n)

-- what a turn leaves: the row, the run, what is lent, and what is to be written
pub record TurnResult : Type 0 where
  pub row : ℕ
  pub run : Run
  pub lent : Lent
  pub point : List Float
  pub text : List ℕ
  pub out : Output

abbrev pub turn_result : ℕ → Run → Lent → List Float → List ℕ → Output → TurnResult
turn_result row r lists y text o = record { row = row; run = r; lent = lists; point = y; text = text; out = o }

-- … by what a call of `turn` answers: after a refusal the run and all that is lent are as they were, and nothing is to be written
abbrev pub turn_by : Result Turned Refusal → Run → Lent → List Float → List ℕ → List ℕ → TurnResult
turn_by (Ok t) r lists y text out = turn_result 0 t.run lists y text (output t.written out)
turn_by (Err e) r lists y text out = turn_result (number_of e) r lists y text (output 0 out)

-- after a block g of the first n bytes of the text, what is kept moves to the front
abbrev pub carried : List ℕ → ℕ → BlockPrinted → TurnResult
carried text n g =
    let k = bytes_kept (n - g.read) g.full in
    turn_result 0 (run_with g.bench k g.full) g.lent g.point (over text (take k (drop g.read text))) g.out

unfoldable pub turn_of : Run → Lent → List Float → List ℕ → ℕ → List ℕ → TurnResult
turn_of r lists y text got out =
    let n = bytes_in_text r.kept got r.full in
    cond (unfit r.kept got (length text) (length out)) (turn_result 20 r lists y text (output 0 out))
    (carried text n (prints_block (block_of r.bench lists y (take n text) (ends_at got r.full) (length out)) out))
