-- Whatever blocks an input arrives in, the program writes what the input prints. Assumes nothing.
use Prim.Native.Nat.{ℕ, zero, suc, ◌+◌, ◌-◌, ◌≤◌}
use native.Mathlib.Omega.{arith}
use mathlib.Core.Path.{◌≡◌, refl, sym, ap, subst, ◌∙◌}
use mathlib.Core.Bool.{Bool, true, false, cond, false≢true}
use mathlib.Core.List.{List, [], ◌∷◌, ◌++◌, append_assoc, append-nil}
use borrow.Author.Tests.{ltb-true, ne_eqb}
use lib.Dec.{ltb}
use lib.ListN.{length, take, drop, replicate, length-drop}
use lib.Seq.{length-take-le, take_all, take-nil, take-take, take_at}
use lib.Ieee.{Float}
use Rattle.refusal.specs.Lent.{over}
use Rattle.trcf.specs.Transformer.{zero32}
use Rattle.trcf.specs.View.{Lent}
use Rattle.bench_core.specs.Bench.{cell_length, room, finish_by, finish_of, begun, prints, no_text, output, end_result, end_of}
use Rattle.bench_core.specs.Run.{bench_memory, blank, shown, printed}
use Rattle.bench_core.specs.declared.step.Bench.{Bench}
use Rattle.bench_core.specs.declared.step.Phase.{Phase}
use Rattle.bench_core.specs.declared.step.Phase.TheVariants.{WantsSet, WantsWeights, Running, Ended}
use Rattle.bench_blocks.specs.Blocks.{TextBlock, cells_of, ends_with, block_of, prints_block}
use Rattle.bench_blocks.specs.Turns.{first_run, unfit, bytes_in_text, ends_at, bytes_kept, TurnResult, turn_result, carried, turn_of}
use Rattle.bench_blocks.specs.Program.{Program, reads, ends, again, program_ends as stops, BlocksPrint}
use Rattle.bench_blocks.specs.declared.turn.Run.{Run}
use Rattle.bench_blocks.proofs.OutLaws.{shown_prints}
use Rattle.bench_blocks.proofs.ReadLaws.{reads_on, reads_cut}
use Rattle.bench_blocks.proofs.RunLaws.{block_law, block_none, again_law, end_law}
use Rattle.bench_blocks.proofs.WholeLaws.{over_reads, reads_whole, printed_whole}
use Rattle.bench_blocks.proofs.TurnLaws.{unfit_false}

-- ---- lists

drop_take : (i n : ℕ) (l : List ℕ) → drop i (take n l) ≡ take (n - i) (drop i l)
drop_take zero n l = let k : n ≡ n - 0 = omega arith in ap (λ (j : ℕ). take j l) k
drop_take (suc i) n [] = ap (drop (suc i)) (take-nil n) ∙ sym (take-nil (n - suc i))
drop_take (suc i) zero (x ∷ l) = let k : 0 ≡ 0 - suc i = omega arith in ap (λ (j : ℕ). take j (drop i l)) k
drop_take (suc i) (suc n) (x ∷ l) = let k : n - i ≡ suc n - suc i = omega arith in drop_take i n l ∙ ap (λ (j : ℕ). take j (drop i l)) k

-- ---- what is kept reads on like all that is not read

module _ (b : Bench) (lists : Lent) (y : List Float) (text : List ℕ) (n read : ℕ) (h : n ≤ length text) (later : List ℕ) where
  moved_front : (k : ℕ) → k ≤ n - read → take k (over text (take k (drop read text))) ≡ take k (drop read (take n text))
  unfolding over
  moved_front k i =
      let v : List ℕ = drop read text in
      take_at (take k v) (drop (length (take k v)) text) k (length-take-le k v (simp length-drop (omega arith)))
      ∙ sym (take-take k (n - read) v i)
      ∙ ap (take k) (sym (drop_take read n text))

  rest_length : length (drop read (take n text)) ≡ n - read
  rest_length = ap length (drop_take read n text) ∙ length-take-le (n - read) (drop read text) (simp length-drop (omega arith))

  pub kept_reads : (full : Bool) → (full ≡ false → cell_length (drop read (take n text)) ≡ length (drop read (take n text)))
      → (let k = bytes_kept (n - read) full in
      reads_on b lists y [] (take k (over text (take k (drop read text))) ++ later) ≡ reads_on b lists y [] (drop read (take n text) ++ later))
  kept_reads true none =
      ap (λ (u : List ℕ). reads_on b lists y [] (u ++ later))
      (moved_front (n - read) (omega arith) ∙ take_all (n - read) (drop read (take n text)) (omega (arith, rest_length)))
  kept_reads false none = go (ltb 24 (n - read)) refl
    where
      rest : List ℕ
      rest = drop read (take n text)

      go : (p : Bool) → ltb 24 (n - read) ≡ p
          → reads_on b lists y [] (take (cond p 24 (n - read)) (over text (take (cond p 24 (n - read)) (drop read text))) ++ later) ≡ reads_on b lists y [] (rest ++ later)
      go true e =
          ap (λ (u : List ℕ). reads_on b lists y [] (u ++ later)) (moved_front 24 (omega (arith, ltb-true 24 (n - read) e)))
          ∙ reads_cut b lists y 24 rest later (omega arith) (none refl)
      go false e =
          ap (λ (u : List ℕ). reads_on b lists y [] (u ++ later))
          (moved_front (n - read) (omega arith) ∙ take_all (n - read) rest (omega (arith, rest_length)))

-- ---- the end of the input ends the bench

finish_over : (b : Bench) (c : List ℕ) → (finish_of b c blank).left.bench.phase ≡ Ended
unfolding finish_of
finish_over b c = go (ltb (length blank) room) refl b.phase
  where
    go : (q : Bool) → ltb (length blank) room ≡ q → (p : Phase) → (finish_by p b c blank).bench.phase ≡ Ended
    go q e WantsSet = refl
    go q e WantsWeights = refl
    go q e Running = by (begun b.line.name c)
      where
        by : (s : Bool) → (cond s (end_result (end_of b) (prints (no_text 19) blank)) (end_result (end_of b) (output 0 blank))).bench.phase ≡ Ended
        by true = refl
        by false = refl
    go q e Ended = refl

end_over : (b : Bench) (lists : Lent) (y : List Float) (text : List ℕ) (m : ℕ) → (block_of b lists y text true m).full ≡ false → (block_of b lists y text true m).bench.phase ≡ Ended
unfolding block_of
end_over b lists y text m = go (cells_of (suc (length text)) m b lists y text 0 []) (cells_of (suc (length text)) m b lists y text 0 []).full refl
  where
    go : (s : TextBlock) (q : Bool) → s.full ≡ q → (ends_with true q s text).full ≡ false → (ends_with true q s text).bench.phase ≡ Ended
    go s true k f = absurd (false≢true (sym f ∙ k))
    go s false k f = finish_over s.bench (drop s.read text)

-- ---- a turn

-- what stands at the front of the text after a turn, with what is still to come, prints what the turn leaves to print
record Leaves (r : Run) (lists : Lent) (y : List Float) (said input later : List ℕ) (t : TurnResult) : Type 0 where
  all : reads_on r.bench lists y [] input ≡ said ++ reads_on t.run.bench t.lent t.point [] (take t.run.kept t.text ++ later)
  shows : shown t.out ≡ said

module _ (r : Run) (lists : Lent) (y : List Float) (text out : List ℕ) where
  -- with n bytes in the text, and more to come
  leaves_open : (n : ℕ) → n ≤ length text → (later : List ℕ)
      → (let g = block_of r.bench lists y (take n text) false (length out) in
      Leaves r lists y g.text (take n text ++ later) later (carried text n (prints_block g out)))
  leaves_open n h later =
      let g : TextBlock = block_of r.bench lists y (take n text) false (length out) in
      record {
        all =
            block_law r.bench lists y (take n text) (length out) g refl later
            ∙ ap (λ (u : List ℕ). g.text ++ u)
            (sym (kept_reads g.bench g.lent g.point text n g.read h later g.full (block_none r.bench lists y (take n text) (length out))));
        shows = shown_prints g.text out;
      }

  -- at the end of the input
  leaves_end : (n : ℕ) → n ≤ length text
      → (let g = block_of r.bench lists y (take n text) true (length out) in
      Leaves r lists y g.text (take n text) [] (carried text n (prints_block g out)))
  leaves_end n h = go g.full refl
    where
      g : TextBlock
      g = block_of r.bench lists y (take n text) true (length out)

      go : (q : Bool) → g.full ≡ q → Leaves r lists y g.text (take n text) [] (carried text n (prints_block g out))
      go true e =
          record {
            all =
                again_law r.bench lists y (take n text) (length out) g refl e
                ∙ ap (λ (u : List ℕ). g.text ++ u)
                (sym (kept_reads g.bench g.lent g.point text n g.read h [] g.full (λ f. absurd (false≢true (sym f ∙ e)))));
            shows = shown_prints g.text out;
          }
      go false e =
          record {
            all =
                end_law r.bench lists y (take n text) (length out) g refl e
                ∙ sym (append-nil g.text)
                ∙ ap (λ (u : List ℕ). g.text ++ u)
                (sym (over_reads g.lent g.point (take (bytes_kept (n - g.read) g.full) (over text (take (bytes_kept (n - g.read) g.full) (drop g.read text))) ++ []) g.bench []
                (end_over r.bench lists y (take n text) (length out) e)));
            shows = shown_prints g.text out;
          }

-- ---- a run

-- a turn that is done: the bytes that stand in the text, and what it is
module _ (r : Run) (lists : Lent) (y : List Float) (text : List ℕ) (got : ℕ) (out : List ℕ) (t : TurnResult) (e : t ≡ turn_of r lists y text got out) (z : t.row ≡ 0) where
  abbrev stand : ℕ
  stand = bytes_in_text r.kept got r.full

  record Done : Type 0 where
    is : t ≡ carried text (bytes_in_text r.kept got r.full) (prints_block (block_of r.bench lists y (take (bytes_in_text r.kept got r.full) text) (ends_at got r.full) (length out)) out)
    within : r.kept + got ≤ length text

  done : Done
  unfolding turn_of
  done = go (unfit r.kept got (length text) (length out)) refl e
    where
      g : TurnResult
      g = carried text stand (prints_block (block_of r.bench lists y (take stand text) (ends_at got r.full) (length out)) out)

      go : (q : Bool) → unfit r.kept got (length text) (length out) ≡ q → t ≡ cond q (turn_result 20 r lists y text (output 0 out)) g → Done
      go true i k = absurd (omega (arith, z, ap (λ (u : TurnResult). u.row) k))
      go false i k = record { is = k; within = (unfit_false r.kept got (length text) (length out) i).2 }

-- what a turn shows, with what the turns after it write
turn_prints : (r : Run) (lists : Lent) (y : List Float) (said input later : List ℕ) (t : TurnResult) → Leaves r lists y said input later t
    → (all w : List ℕ) → all ≡ shown t.out ++ w
    → w ≡ reads_on t.run.bench t.lent t.point [] (take t.run.kept t.text ++ later)
    → all ≡ reads_on r.bench lists y [] input
turn_prints r lists y said input later t l all w a i = a ∙ (λ j. l.shows j ++ i j) ∙ sym l.all

pub program_law : {r : Run} {lists : Lent} {y : List Float} {text input all : List ℕ}
    → Program r lists y text input all → all ≡ reads_on r.bench lists y [] (take r.kept text ++ input)
program_law {r} {lists} {y} {text} {input} {all} (reads new later text' out w t f n i m e z a p) =
    let d = done r lists y text' (length new) out t e z in
    let k : ℕ = r.kept + length new in
    let s : t ≡ carried text' k (prints_block (block_of r.bench lists y (take k text') false (length out)) out) =
    d.is
    ∙ (λ j.
    carried text' (bytes_in_text r.kept (length new) (f j))
    (prints_block (block_of r.bench lists y (take (bytes_in_text r.kept (length new) (f j)) text') (ends_at (length new) (f j)) (length out)) out))
    ∙ ap (λ (q : Bool). carried text' k (prints_block (block_of r.bench lists y (take k text') q (length out)) out)) (ne_eqb (length new) 0 (λ q. omega arith)) in
    let g : TextBlock = block_of r.bench lists y (take k text') false (length out) in
    let l : Leaves r lists y g.text (take k text' ++ later) later t =
    subst (Leaves r lists y g.text (take k text' ++ later) later) (sym s) (leaves_open r lists y text' out k d.within later) in
    turn_prints r lists y g.text (take k text' ++ later) later t l all w a (program_law p)
    ∙ ap (reads_on r.bench lists y [])
    (ap (λ (u : List ℕ). u ++ later) m ∙ append_assoc (take r.kept text) new later ∙ ap (λ (u : List ℕ). take r.kept text ++ u) (sym i))
program_law {r} {lists} {y} {text} {input} {all} (ends out w t f i e z a p) =
    let d = done r lists y text 0 out t e z in
    let k : ℕ = r.kept + 0 in
    let s : t ≡ carried text k (prints_block (block_of r.bench lists y (take k text) true (length out)) out) =
    d.is
    ∙ (λ j. carried text (bytes_in_text r.kept 0 (f j)) (prints_block (block_of r.bench lists y (take (bytes_in_text r.kept 0 (f j)) text) (ends_at 0 (f j)) (length out)) out)) in
    let g : TextBlock = block_of r.bench lists y (take k text) true (length out) in
    let l : Leaves r lists y g.text (take k text) [] t =
    subst (Leaves r lists y g.text (take k text) []) (sym s) (leaves_end r lists y text out k d.within) in
    let c : k ≡ r.kept = omega arith in
    turn_prints r lists y g.text (take k text) [] t l all w a (program_law p)
    ∙ ap (reads_on r.bench lists y [])
    (ap (λ (q : ℕ). take q text) c ∙ sym (append-nil (take r.kept text)) ∙ ap (λ (u : List ℕ). take r.kept text ++ u) (sym i))
program_law {r} {lists} {y} {text} {input} {all} (again got out w t f e z a p) =
    let d = done r lists y text got out t e z in
    let k : ℕ = r.kept in
    let s : t ≡ carried text k (prints_block (block_of r.bench lists y (take k text) false (length out)) out) =
    d.is
    ∙ (λ j. carried text (bytes_in_text r.kept got (f j)) (prints_block (block_of r.bench lists y (take (bytes_in_text r.kept got (f j)) text) (ends_at got (f j)) (length out)) out)) in
    let g : TextBlock = block_of r.bench lists y (take k text) false (length out) in
    let l : Leaves r lists y g.text (take k text ++ input) input t =
    subst (Leaves r lists y g.text (take k text ++ input) input) (sym s) (leaves_open r lists y text out k (omega (arith, d.within)) input) in
    turn_prints r lists y g.text (take k text ++ input) input t l all w a (program_law p)
program_law {r} {lists} {y} {text} {input} {all} (stops e a) = a ∙ sym (over_reads lists y (take r.kept text ++ input) r.bench [] e)

-- Whatever blocks an input arrives in, what is written is what its lines print.
pub blocks_print : BlocksPrint
blocks_print text input all p = program_law p ∙ reads_whole input

-- step after step on the whole input (bench_core/specs/Run) is the same
pub blocks_printed : (text input all : List ℕ) → Program first_run bench_memory (replicate 320 zero32) text input all → all ≡ printed input
blocks_printed text input all p = blocks_print text input all p ∙ sym (printed_whole input)
