-- The end of the input at its place, and a whole block. Assumes nothing.
use Prim.Native.Nat.{ℕ, suc, ◌+◌, ◌-◌, ◌≤◌}
use native.Mathlib.Omega.{arith}
use mathlib.Core.Path.{◌≡◌, refl, sym, ap, subst, ◌∙◌}
use mathlib.Core.Bool.{Bool, true, false, not, false≢true}
use mathlib.Core.List.{List, [], ◌++◌}
use borrow.Author.Tests.{le-ltb}
use lib.ListN.{length, take, drop, length-append, length-take, length-drop, take-append-drop}
use lib.Seq.{take_all, take-append_seam, drop-append_seam, drop-drop}
use lib.Ieee.{Float}
use Rattle.refusal.specs.Lent.{over}
use Rattle.trcf.specs.View.{Lent}
use Rattle.bench_core.specs.declared.step.Bench.{Bench}
use Rattle.std.specs.Prelude.{Result, Ok, Err}
use Rattle.std.specs.Result.{IsOk}
use Rattle.refusal.specs.declared.Refusal.{Refusal}
use Rattle.refusal.specs.Refusal.{number_of}
use Rattle.refusal.proofs.RefusalLaws.{is_numbered}
use Rattle.bench_core.specs.declared.step.Printed.{Printed}
use Rattle.bench_core.specs.Bench.{output, prints, end_result, Finished, finished, finished_from, finish_of}
use Rattle.bench_core.specs.Run.{bench_memory, blank, shown}
use Rattle.bench_blocks.specs.Blocks.{TextBlock, cells_of, ends_with, block_of, BlockPrinted, block_printed, prints_block}
use Rattle.bench_blocks.specs.Steps.{Handed, Closed}
use Rattle.bench_blocks.proofs.OutLaws.{end_out}
use Rattle.bench_blocks.proofs.RunLaws.{long_blank}
use Rattle.bench_blocks.proofs.PlaceLaws.{w_fits, laid_text, laid_behind}

finish_out : (b : Bench) (t out : List ℕ) → length out ≡ 65536
    → finish_of b t out ≡ finished 0 0 (end_result (finish_of b t blank).left.bench (prints (shown (finish_of b t blank).left.out) out))
unfolding finish_of
finish_out b t out r =
    rw (le-ltb (length out) 65536 (omega arith)) (ap (finished 0 0) (end_out out blank (r ∙ sym long_blank) b bench_memory [] t))

module _ (b : Bench) (text : List ℕ) (next : ℕ) (out : List ℕ) (at : ℕ) (h : at + 65536 ≤ length out) where
  pub closed_at : (bytes : List ℕ) {b' : Bench} {row n m : ℕ}
      → finished row n (end_result b' (output m bytes)) ≡ finish_of b (take (length text - next) (drop next text)) (take (at + 65536 - at) (drop at out))
      → length bytes ≡ length (take (at + 65536 - at) (drop at out))
      → Closed b (drop next text) out at b' (take at out ++ (bytes ++ drop (at + 65536 - at) (drop at out))) m
  unfolding prints
  closed_at bytes {b'} {row} {n} {m} e z =
      let k : at + 65536 - at ≡ 65536 = omega arith in
      let t : take (length text - next) (drop next text) ≡ drop next text = take_all (length text - next) (drop next text) (simp length-drop (omega arith)) in
      let l : length (take 65536 (drop at out)) ≡ 65536 = simp (length-take, length-drop) (omega arith) in
      let f = e ∙ (λ j. finish_of b (t j) (take (k j) (drop at out))) ∙ finish_out b (drop next text) (take 65536 (drop at out)) l in
      let w : List ℕ = shown (finish_of b (drop next text) blank).left.out in
      let i : m ≡ length w = ap (λ (s : Finished). s.left.out.length) f in
      let g : bytes ≡ over (take 65536 (drop at out)) w = ap (λ (s : Finished). s.left.out.bytes) f in
      let s : length bytes ≡ 65536 = z ∙ ap (λ (i : ℕ). length (take i (drop at out))) k ∙ l in
      let o : take at out ++ (bytes ++ drop (at + 65536 - at) (drop at out)) ≡ take at out ++ (bytes ++ drop 65536 (drop at out)) =
      ap (λ (i : ℕ). take at out ++ (bytes ++ drop i (drop at out))) k in
      record {
        bench = ap (λ (s : Finished). s.left.bench) f;
        count = i;
        text = rw (o, i) (laid_text out at h w bytes g s);
        behind = rw (o, i) (laid_behind out at h w bytes g s);
        fits = subst (λ (u : ℕ). u ≤ 65536) (sym i) (w_fits out at h w bytes g s);
      }

  -- the part of the output has room, so the end is taken
  pub finish_taken : (r : Result Printed Refusal) (bytes : List ℕ)
      → finished_from r b bytes ≡ finish_of b (take (length text - next) (drop next text)) (take (at + 65536 - at) (drop at out)) → IsOk r
  finish_taken (Ok p) bytes e = refl
  finish_taken (Err k) bytes e =
      let m : at + 65536 - at ≡ 65536 = omega arith in
      let z : length (take (at + 65536 - at) (drop at out)) ≡ 65536 = rw m (simp (length-take, length-drop) (omega arith)) in
      let f : number_of k ≡ 0 =
      ap (λ (s : Finished). s.row) (e ∙ finish_out b (take (length text - next) (drop next text)) (take (at + 65536 - at) (drop at out)) z) in
      absurd (omega (arith, is_numbered k, f))

-- ---- a block

not_true : (q : Bool) → not q ≡ true → q ≡ false
not_true true e = absurd (false≢true e)
not_true false e = refl

not_false : (q : Bool) → not q ≡ false → q ≡ true
not_false true e = refl
not_false false e = absurd (false≢true (sym e))

module _ (b : Bench) (lists : Lent) (y : List Float) (text out : List ℕ) (ends : Bool) (g : BlockPrinted)
    (h : Handed (cells_of (suc (length text)) (length out) b lists y text 0 []) text out g) where
  pub block_open : not ends ≡ true → g ≡ prints_block (block_of b lists y text ends (length out)) out
  unfolding block_of
  block_open e =
      h.same
      ∙ ap (λ (q : Bool). prints_block (ends_with q (cells_of (suc (length text)) (length out) b lists y text 0 []).full (cells_of (suc (length text)) (length out) b lists y text 0 []) text) out)
      (sym (not_true ends e))

  pub block_full : not ends ≡ false → g.full ≡ true → g ≡ prints_block (block_of b lists y text ends (length out)) out
  unfolding block_of
  block_full e f =
      h.same
      ∙ (λ j. prints_block (ends_with (sym (not_false ends e) j) ((sym f ∙ ap (λ (u : BlockPrinted). u.full) h.same) j) (cells_of (suc (length text)) (length out) b lists y text 0 []) text) out)

  pub block_closed : not ends ≡ false → g.full ≡ false → (b' : Bench) (out' : List ℕ) (m : ℕ) → Closed g.bench (drop g.read text) g.out.bytes g.out.length b' out' m
      → block_printed b' g.lent g.point (length text) (output (g.out.length + m) out') false ≡ prints_block (block_of b lists y text ends (length out)) out
  unfolding block_of prints over
  block_closed e f b' out' m p =
      let r : TextBlock = cells_of (suc (length text)) (length out) b lists y text 0 [] in
      let w : List ℕ = r.text in
      let v : List ℕ = shown (finish_of r.bench (drop r.read text) blank).left.out in
      let at : ℕ = g.out.length in
      let q : finish_of g.bench (drop g.read text) blank ≡ finish_of r.bench (drop r.read text) blank =
      λ j. finish_of (h.same j).bench (drop (h.same j).read text) blank in
      let a : at ≡ length w = ap (λ (u : BlockPrinted). u.out.length) h.same in
      let o : g.out.bytes ≡ w ++ drop (length w) out = ap (λ (u : BlockPrinted). u.out.bytes) h.same in
      let c : m ≡ length v = p.count ∙ ap (λ (s : Finished). length (shown s.left.out)) q in
      let t : take (at + m) out' ≡ w ++ v =
      p.text
      ∙ (λ j. take (a j) (o j) ++ shown (q j).left.out)
      ∙ ap (λ (u : List ℕ). u ++ v) (take-append_seam w (drop (length w) out)) in
      let n : at + m ≡ length (w ++ v) = omega (arith, length-append w v) in
      let d : drop (at + m) out' ≡ drop (length (w ++ v)) out =
      p.behind
      ∙ sym (drop-drop m at g.out.bytes)
      ∙ ap (drop m) ((λ j. drop (a j) (o j)) ∙ drop-append_seam w (drop (length w) out) ∙ ap (λ (u : ℕ). drop u out) (sym a))
      ∙ drop-drop m at out
      ∙ ap (λ (u : ℕ). drop u out) n in
      let x : out' ≡ (w ++ v) ++ drop (length (w ++ v)) out = sym (take-append-drop (at + m) out') ∙ (λ j. t j ++ d j) in
      (λ j. block_printed ((p.bench ∙ ap (λ (s : Finished). s.left.bench) q) j) (h.same j).lent (h.same j).point (length text) (output (n j) (x j)) false)
      ∙ (λ j. prints_block (ends_with (sym (not_false ends e) j) ((sym f ∙ ap (λ (u : BlockPrinted). u.full) h.same) j) r text) out)
