-- A turn, from what its parts promise; and what it leaves for the next one. Assumes nothing.
use Prim.Native.Nat.{ℕ, ◌+◌, ◌-◌, ◌≤◌, ◌<◌}
use native.Mathlib.Omega.{arith}
use mathlib.Core.Path.{◌≡◌, refl, sym, ap, subst, ◌∙◌}
use mathlib.Core.Bool.{Bool, true, false, cond, false≢true}
use mathlib.Core.List.{List}
use borrow.Author.Tests.{ltb-false, leb-false, le-ltb, lt-leb}
use lib.Dec.{ltb, leb}
use lib.ListN.{length, take, drop}
use lib.Seq.{length-take-le}
use lib.Ieee.{Float}
use Rattle.refusal.specs.Lent.{over}
use Rattle.trcf.specs.View.{Lent}
use Rattle.bench_core.specs.Bench.{output, room}
use Rattle.bench_blocks.specs.Blocks.{TextBlock, block_of, BlockPrinted, prints_block}
use Rattle.bench_blocks.specs.Turns.{run_with, unfit, bytes_in_text, ends_at, bytes_kept, TurnResult, turn_result, carried, turn_by, turn_of}
use Rattle.bench_blocks.specs.declared.turn.Run.{Run}
use Rattle.bench_blocks.specs.declared.turn.TurnResult.{TurnResult as Turned}
use Rattle.std.specs.Prelude.{Result, Ok, Err}
use Rattle.std.specs.Result.{IsOk}
use Rattle.refusal.specs.declared.Refusal.{Refusal}
use Rattle.refusal.specs.Refusal.{number_of}
use Rattle.refusal.proofs.RefusalLaws.{is_numbered}
use Rattle.bench_blocks.proofs.AheadLaws.{block_ahead}

module _ (r : Run) (lists : Lent) (y : List Float) (text : List ℕ) (got : ℕ) (out : List ℕ) where
  pub turn_refused : (u : Bool) → u ≡ unfit r.kept got (length text) (length out) → u ≡ true
      → turn_result 20 r lists y text (output 0 out) ≡ turn_of r lists y text got out
  unfolding turn_of
  turn_refused u e t = rw (sym e ∙ t)

  -- a block g of the n bytes that stand in the text, of which k are kept
  pub turn_done : (u : Bool) → u ≡ unfit r.kept got (length text) (length out) → u ≡ false
      → (n : ℕ) → n ≡ bytes_in_text r.kept got r.full
      → (q : Bool) → q ≡ ends_at got r.full
      → (g : BlockPrinted) → g ≡ prints_block (block_of r.bench lists y (take n text) q (length out)) out
      → (k : ℕ) → k ≡ bytes_kept (n - g.read) g.full
      → (text' : List ℕ) → text' ≡ over text (take k (drop g.read text))
      → turn_result 0 (run_with g.bench k g.full) g.lent g.point text' g.out ≡ turn_of r lists y text got out
  unfolding turn_of
  turn_done u e t n en q eq g eg k ek text' et =
      ap (λ (v : List ℕ). turn_result 0 (run_with g.bench k g.full) g.lent g.point v g.out) et
      ∙ ap (λ (i : ℕ). turn_result 0 (run_with g.bench i g.full) g.lent g.point (over text (take i (drop g.read text))) g.out) ek
      ∙ ap (carried text n) eg
      ∙ (λ j. carried text (en j) (prints_block (block_of r.bench lists y (take (en j) text) (eq j) (length out)) out))
      ∙ rw (sym e ∙ t)

-- ---- the memory does

pub fits_false : (kept got size space : ℕ) → room ≤ space → 24 < size → kept + got ≤ size → unfit kept got size space ≡ false
fits_false kept got size space a b c = rw (le-ltb space 65536 a, lt-leb size 24 b, le-ltb size kept (omega arith), le-ltb (size - kept) got (omega arith))

pub unfit_false : (kept got size space : ℕ) → unfit kept got size space ≡ false → (room ≤ space) × (24 < size) × (kept + got ≤ size)
unfit_false kept got size space e = go (ltb space room) refl (leb size 24) refl (ltb size kept) refl (ltb (size - kept) got) refl e
  where
    go : (p : Bool) → ltb space room ≡ p → (q : Bool) → leb size 24 ≡ q → (s : Bool) → ltb size kept ≡ s → (t : Bool) → ltb (size - kept) got ≡ t
        → cond p true (cond q true (cond s true t)) ≡ false → (room ≤ space) × (24 < size) × (kept + got ≤ size)
    go true a q b s c t d f = absurd (false≢true (sym f))
    go false a true b s c t d f = absurd (false≢true (sym f))
    go false a false b true c t d f = absurd (false≢true (sym f))
    go false a false b false c true d f = absurd (false≢true (sym f))
    go false a false b false c false d f =
        (ltb-false space 65536 a, leb-false size 24 b, omega (arith, ltb-false size kept c, ltb-false (size - kept) got d))

-- ---- what is kept

pub rest_least : (n : ℕ) → bytes_kept n false ≤ 24
rest_least n = by (ltb 24 n) refl
  where
    by : (p : Bool) → ltb 24 n ≡ p → cond p 24 n ≤ 24
    by true e = omega arith
    by false e = ltb-false 24 n e

-- ---- what a turn leaves for the next one

pub record Goes (r : Run) (got : ℕ) (t : TurnResult) : Type 0 where
  pub row : t.row ≡ 0
  pub rest : t.run.full ≡ false → t.run.kept ≤ 24
  pub less : t.run.full ≡ true → t.run.kept < bytes_in_text r.kept got r.full

pub stand_least : (kept got : ℕ) (full : Bool) → bytes_in_text kept got full ≤ kept + got
stand_least kept got true = omega arith
stand_least kept got false = omega arith

pub turn_goes : (r : Run) (lists : Lent) (y : List Float) (text : List ℕ) (got : ℕ) (out : List ℕ)
    → room ≤ length out → 24 < length text → r.kept + got ≤ length text → (t : TurnResult) → t ≡ turn_of r lists y text got out → Goes r got t
unfolding turn_of
turn_goes r lists y text got out a b c t e = subst (Goes r got) (sym s) goes
  where
    n : ℕ
    n = bytes_in_text r.kept got r.full

    g : TextBlock
    g = block_of r.bench lists y (take n text) (ends_at got r.full) (length out)

    s : t ≡ carried text n (prints_block g out)
    s =
        e
        ∙ ap (λ (q : Bool). cond q (turn_result 20 r lists y text (output 0 out)) (carried text n (prints_block g out)))
        (fits_false r.kept got (length text) (length out) a b c)

    goes : Goes r got (carried text n (prints_block g out))
    goes =
        record {
          row = refl;
          rest = λ f. subst (λ (q : Bool). bytes_kept (n - g.read) q ≤ 24) (sym f) (rest_least (n - g.read));
          less = λ f.
              let h = block_ahead r.bench lists y (take n text) (length out) (ends_at got r.full) a f in
              let k : length (take n text) ≡ n = length-take-le n text (omega (arith, stand_least r.kept got r.full)) in
              subst (λ (q : Bool). bytes_kept (n - g.read) q < n) (sym f) (omega (arith, h.0, h.1, k));
        }

-- the memory does, so the turn is done
pub turn_taken : (r : Run) (lists : Lent) (y : List Float) (text : List ℕ) (got : ℕ) (out : List ℕ)
    → room ≤ length out → 24 < length text → r.kept + got ≤ length text → (t : Result Turned Refusal) (lists' : Lent) (y' : List Float) (text' out' : List ℕ)
    → turn_by t r lists' y' text' out' ≡ turn_of r lists y text got out → IsOk t
turn_taken r lists y text got out a b c (Ok t) lists' y' text' out' e = refl
turn_taken r lists y text got out a b c (Err k) lists' y' text' out' e =
    let f : number_of k ≡ 0 = (turn_goes r lists y text got out a b c (turn_by (Err k) r lists' y' text' out') e).row in
    absurd (omega (arith, is_numbered k, f))
