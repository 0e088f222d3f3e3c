-- A block of the input: what one call reads of it, and all that it prints.
use Rattle.std.specs.Prelude.{ℕ, zero, suc, ◌+◌, Bool, true, false, cond, List, [], ◌++◌, eqb, ltb, length, drop, Float}
use Rattle.trcf.specs.View.{Lent}
use Rattle.bench_core.specs.Bench.{Output, prints, room, bench_step, finish_of}
use Rattle.bench_core.specs.Run.{blank, shown}
use Rattle.bench_core.specs.declared.step.Bench.{Bench}

-- what a block leaves: the bench, the lists, the last point; the bytes that are read; all that is printed; and whether the output is nearly full
pub record TextBlock : Type 0 where
  pub bench : Bench
  pub lent : Lent
  pub point : List Float
  pub read : ℕ
  pub text : List ℕ
  pub full : Bool

abbrev pub text_block : Bench → Lent → List Float → ℕ → List ℕ → Bool → TextBlock
text_block b lists y n w f = record { bench = b; lent = lists; point = y; read = n; text = w; full = f }

-- at most n cells of the text from place `next` on, after what is printed already, w, into an output of m bytes
abbrev pub cells_of : ℕ → ℕ → Bench → Lent → List Float → List ℕ → ℕ → List ℕ → TextBlock
cells_of zero m b lists y text next w = text_block b lists y next w true
cells_of (suc n) m b lists y text next w =
    let s = bench_step b lists y (drop next text) blank in
    cond (ltb m (length w + room)) (text_block b lists y next w true)
    (cond (eqb s.next 0) (text_block b lists y next w false)
    (cells_of n m s.left.bench s.left.lent s.left.point text (next + s.next) (w ++ shown s.left.out)))

-- the end of the input, where no cell is left in the text
abbrev pub ends_with : Bool → Bool → TextBlock → List ℕ → TextBlock
ends_with false full r text = r
ends_with true true r text = r
ends_with true false r text =
    let s = finish_of r.bench (drop r.read text) blank in
    text_block s.left.bench r.lent r.point (length text) (r.text ++ shown s.left.out) false

-- a block of text, into an output of m bytes; `ends` where the input ends with it
unfoldable pub block_of : Bench → Lent → List Float → List ℕ → Bool → ℕ → TextBlock
block_of b lists y text ends m =
    let r = cells_of (suc (length text)) m b lists y text 0 [] in
    ends_with ends r.full r text

-- what is left of a call: the block, with its text printed to the output
pub record BlockPrinted : Type 0 where
  pub bench : Bench
  pub lent : Lent
  pub point : List Float
  pub read : ℕ
  pub out : Output
  pub full : Bool

abbrev pub block_printed : Bench → Lent → List Float → ℕ → Output → Bool → BlockPrinted
block_printed b lists y n o f = record { bench = b; lent = lists; point = y; read = n; out = o; full = f }

abbrev pub prints_block : TextBlock → List ℕ → BlockPrinted
prints_block r out = block_printed r.bench r.lent r.point r.read (prints r.text out) r.full
