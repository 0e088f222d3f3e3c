-- Where the blocks of an input end, and when the output is written, does not matter. Assumes nothing.
use Prim.Native.Nat.{ℕ, zero, suc, ◌+◌, ◌≤◌, ◌<◌}
use native.Mathlib.Omega.{arith}
use native.Mathlib.Numerals.{add-one}
use mathlib.Core.Path.{◌≡◌, refl, sym, ap, subst, ◌∙◌}
use mathlib.Core.Bool.{Bool, true, false, cond, false≢true}
use mathlib.Core.List.{List, [], ◌++◌, append_assoc, append-nil}
use borrow.Author.Tests.{eqb-true, eqb-false, ne_eqb}
use lib.Dec.{ltb, eqb}
use lib.ListN.{length, take, drop, get_or, length-replicate}
use lib.Seq.{drop-drop}
use lib.Ieee.{Float}
use Rattle.trcf.specs.View.{Lent}
use Rattle.bench_core.specs.declared.step.Bench.{Bench}
use Rattle.bench_core.specs.Bench.{LineResult, cell_length, room, bench_step, finish_by, finish_of}
use Rattle.bench_core.specs.Run.{blank, shown}
use Rattle.bench_blocks.specs.Blocks.{TextBlock, text_block, cells_of, ends_with, block_of}
use Rattle.bench_blocks.proofs.ReadLaws.{cell_heard, reads_on, at_most, step_none, step_read, reads_cell, reads_end}

pub long_blank : length blank ≡ 65536
long_blank = length-replicate {A = ℕ} 65536 0

pub roomy : room ≤ length blank
roomy = omega (arith, length-replicate {A = ℕ} 65536 0)

pub ended : (b : Bench) (c : List ℕ) → shown (finish_of b c blank).left.out ≡ shown (finish_by b.phase b c blank).out
unfolding finish_of
ended b c = refl

-- a block r of the text, after which `rest` comes, leaves the rest of what v says
pub record Splits (v text rest : List ℕ) (r : TextBlock) : Type 0 where
  pub all : v ≡ r.text ++ reads_on r.bench r.lent r.point [] (drop r.read text ++ rest)
  pub none : r.full ≡ false → cell_length (drop r.read text) ≡ length (drop r.read text)

cells_law : (n m : ℕ) (b : Bench) (lists : Lent) (y : List Float) (text : List ℕ) (next : ℕ) (w rest : List ℕ)
    → Splits (w ++ reads_on b lists y [] (drop next text ++ rest)) text rest (cells_of n m b lists y text next w)
cells_law zero m b lists y text next w rest = record { all = refl; none = λ e. absurd (false≢true (sym e)) }
cells_law (suc n) m b lists y text next w rest =
    go (ltb m (length w + room)) (eqb (cell_length (drop next text)) (length (drop next text))) refl (λ c l z i v. cells_law n m c l z text i v rest)
  where
    go : (p q : Bool) → eqb (cell_length (drop next text)) (length (drop next text)) ≡ q
        → ((c : Bench) (l : Lent) (z : List Float) (i : ℕ) (v : List ℕ) → Splits (v ++ reads_on c l z [] (drop i text ++ rest)) text rest (cells_of n m c l z text i v))
        → Splits (w ++ reads_on b lists y [] (drop next text ++ rest)) text rest
        (cond p (text_block b lists y next w true)
        (cond (eqb (bench_step b lists y (drop next text) blank).next 0) (text_block b lists y next w false)
        (cells_of n m (bench_step b lists y (drop next text) blank).left.bench (bench_step b lists y (drop next text) blank).left.lent
        (bench_step b lists y (drop next text) blank).left.point text (next + (bench_step b lists y (drop next text) blank).next)
        (w ++ shown (bench_step b lists y (drop next text) blank).left.out))))
    go true q e ih = record { all = refl; none = λ f. absurd (false≢true (sym f)) }
    go false true e ih =
        let k : cell_length (drop next text) ≡ length (drop next text) = eqb-true (cell_length (drop next text)) (length (drop next text)) e in
        rw (step_none b lists y blank roomy (drop next text) k) (record { all = refl; none = λ f. k })
    go false false e ih =
        let t : List ℕ = drop next text in
        let k : cell_length (drop next text) < length (drop next text) = omega (arith, at_most (drop next text), eqb-false (cell_length (drop next text)) (length (drop next text)) e) in
        let h : LineResult = cell_heard b lists y blank (take (cell_length t) t) (get_or t (cell_length t) 0) in
        let i = ih h.bench h.lent h.point (next + (cell_length t + 1)) (w ++ shown h.out) in
        let same : drop (suc (cell_length t)) t ≡ drop (next + (cell_length t + 1)) text =
        drop-drop (suc (cell_length t)) next text ∙ ap (λ (j : ℕ). drop (next + j) text) (sym (add-one (cell_length t))) in
        let p =
        ap (λ (u : List ℕ). w ++ u) (reads_cell b lists y t rest k ∙ ap (λ (u : List ℕ). shown h.out ++ reads_on h.bench h.lent h.point [] (u ++ rest)) same)
        ∙ sym (append_assoc w (shown h.out) (reads_on h.bench h.lent h.point [] (drop (next + (cell_length t + 1)) text ++ rest))) in
        rw (step_read b lists y blank roomy (drop next text) k, ne_eqb (cell_length (drop next text) + 1) 0 (λ f. omega arith))
        (record { all = p ∙ i.all; none = i.none })

-- ---- a call

module _ (b : Bench) (lists : Lent) (y : List Float) (text : List ℕ) (m : ℕ) where
  pub splits : (rest : List ℕ) → Splits (reads_on b lists y [] (text ++ rest)) text rest (cells_of (suc (length text)) m b lists y text 0 [])
  splits rest = cells_law (suc (length text)) m b lists y text 0 [] rest

  pub block_law : (r : TextBlock) → r ≡ block_of b lists y text false m → (rest : List ℕ)
      → reads_on b lists y [] (text ++ rest) ≡ r.text ++ reads_on r.bench r.lent r.point [] (drop r.read text ++ rest)
  unfolding block_of
  block_law r e rest =
      subst (λ (q : TextBlock). reads_on b lists y [] (text ++ rest) ≡ q.text ++ reads_on q.bench q.lent q.point [] (drop q.read text ++ rest)) (sym e) (splits rest).all

  -- where a call does not stop for the output, no cell ends in what it leaves: of that 24 bytes are enough
  pub block_none : (block_of b lists y text false m).full ≡ false
      → (let r = block_of b lists y text false m in cell_length (drop r.read text) ≡ length (drop r.read text))
  unfolding block_of
  block_none f = (splits []).none f

  pub again_law : (r : TextBlock) → r ≡ block_of b lists y text true m → r.full ≡ true
      → reads_on b lists y [] text ≡ r.text ++ reads_on r.bench r.lent r.point [] (drop r.read text ++ [])
  unfolding block_of
  again_law r e f = go (cells_of (suc (length text)) m b lists y text 0 []) (cells_of (suc (length text)) m b lists y text 0 []).full e (splits [])
    where
      go : (s : TextBlock) (q : Bool) → r ≡ ends_with true q s text → Splits (reads_on b lists y [] (text ++ [])) text [] s
          → reads_on b lists y [] text ≡ r.text ++ reads_on r.bench r.lent r.point [] (drop r.read text ++ [])
      go s true i l =
          ap (reads_on b lists y []) (sym (append-nil text))
          ∙ l.all
          ∙ ap (λ (u : TextBlock). u.text ++ reads_on u.bench u.lent u.point [] (drop u.read text ++ [])) (sym i)
      go s false i l = absurd (false≢true (sym (ap (λ (u : TextBlock). u.full) i) ∙ f))

  pub end_law : (r : TextBlock) → r ≡ block_of b lists y text true m → r.full ≡ false → reads_on b lists y [] text ≡ r.text
  unfolding block_of
  end_law r e f = go (cells_of (suc (length text)) m b lists y text 0 []) (cells_of (suc (length text)) m b lists y text 0 []).full refl e (splits [])
    where
      go : (s : TextBlock) (q : Bool) → s.full ≡ q → r ≡ ends_with true q s text → Splits (reads_on b lists y [] (text ++ [])) text [] s
          → reads_on b lists y [] text ≡ r.text
      go s true k i l = absurd (false≢true (sym f ∙ ap (λ (u : TextBlock). u.full) i ∙ k))
      go s false k i l =
          ap (reads_on b lists y []) (sym (append-nil text))
          ∙ l.all
          ∙ ap (λ (u : List ℕ). s.text ++ reads_on s.bench s.lent s.point [] u) (append-nil (drop s.read text))
          ∙ ap (λ (u : List ℕ). s.text ++ u) (reads_end s.bench s.lent s.point (drop s.read text) (l.none k) ∙ sym (ended s.bench (drop s.read text)))
          ∙ ap (λ (u : TextBlock). u.text) (sym i)
