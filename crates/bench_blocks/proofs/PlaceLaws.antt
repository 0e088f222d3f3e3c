-- A cell at its place in a text, printed at its place in an output. Assumes nothing.
use Prim.Native.Nat.{ℕ, ◌+◌, ◌-◌, ◌≤◌, ◌<◌}
use native.Mathlib.Omega.{arith}
use mathlib.Core.Path.{◌≡◌, refl, sym, ap, subst, ◌∙◌}
use mathlib.Core.Bool.{Bool, true, false, cond}
use mathlib.Core.List.{List, ◌++◌, append_assoc}
use borrow.Author.Tests.{eqb-true, eqb-false}
use lib.Dec.{eqb}
use lib.ListN.{length, take, drop, get_or, length-append, length-take, length-drop, take-append-drop}
use lib.Seq.{take-append-add, drop-append-add, take-append_seam, drop-append_seam, drop-append-le, drop-drop, length-take-le, take_all}
use lib.Ieee.{Float}
use Rattle.refusal.specs.Lent.{over}
use Rattle.trcf.specs.View.{Lent}
use Rattle.bench_core.specs.Line.{cell_of}
use Rattle.bench_core.specs.declared.step.Bench.{Bench}
use Rattle.std.specs.Prelude.{Result, Ok, Err}
use Rattle.std.specs.Result.{IsOk}
use Rattle.refusal.specs.declared.Refusal.{Refusal}
use Rattle.refusal.specs.Refusal.{number_of}
use Rattle.refusal.proofs.RefusalLaws.{is_numbered}
use Rattle.bench_core.specs.declared.step.StepResult.{StepResult}
use Rattle.bench_core.specs.Bench.{output, prints, line_result, line_gives, cell_length, Stepped, stepped, bench_step, with_line, stepped_by}
use Rattle.bench_core.specs.Run.{blank, shown}
use Rattle.bench_blocks.specs.Steps.{Placed}
use Rattle.bench_blocks.proofs.OutLaws.{reply_of, speaks}
use Rattle.bench_blocks.proofs.OutLaws.{silent, line_out}
use Rattle.bench_blocks.proofs.ReadLaws.{cell_heard, at_most, step_none, step_read}
use Rattle.bench_blocks.proofs.RunLaws.{roomy, long_blank}

-- ---- a step on any output of ROOM bytes

module _ (b : Bench) (lists : Lent) (y : List Float) (t : List ℕ) (out : List ℕ) (r : length out ≡ 65536) where
  cell_out : (c : List ℕ) (x : ℕ) → cell_heard b lists y out c x ≡ speaks (reply_of (cell_heard b lists y blank c x)) out
  cell_out c x = go (eqb x 9)
    where
      go : (p : Bool)
          → cond p (line_result (with_line b (cell_of b.line c)) lists y (output 0 out)) (line_gives b (cell_of b.line c) lists y out)
          ≡ speaks (reply_of (cond p (line_result (with_line b (cell_of b.line c)) lists y (output 0 blank)) (line_gives b (cell_of b.line c) lists y blank))) out
      go true = silent (with_line b (cell_of b.line c)) lists y out blank
      go false = line_out out blank (r ∙ sym long_blank) b lists y (cell_of b.line c)

  pub record Same (s : Stepped) : Type 0 where
    pub same : bench_step b lists y t out ≡ stepped 0 s.next (speaks (reply_of s.left) out)
    pub within : s.next ≤ length t

  pub step_out : Same (bench_step b lists y t blank)
  step_out = go (eqb (cell_length t) (length t)) refl
    where
      go : (q : Bool) → eqb (cell_length t) (length t) ≡ q → Same (bench_step b lists y t blank)
      go true e =
          let k : cell_length t ≡ length t = eqb-true (cell_length t) (length t) e in
          rw (step_none b lists y blank roomy t k)
          (record {
            same = step_none b lists y out (omega arith) t k ∙ ap (stepped 0 0) (silent b lists y out blank);
            within = omega arith;
          })
      go false e =
          let k : cell_length t < length t = omega (arith, at_most t, eqb-false (cell_length t) (length t) e) in
          rw (step_read b lists y blank roomy t k)
          (record {
            same =
                step_read b lists y out (omega arith) t k
                ∙ ap (stepped 0 (cell_length t + 1)) (cell_out (take (cell_length t) t) (get_or t (cell_length t) 0));
            within = omega arith;
          })

-- ---- what is laid over a part of the output

module _ (out : List ℕ) (at : ℕ) (h : at + 65536 ≤ length out) (w bytes : List ℕ) (e : bytes ≡ over (take 65536 (drop at out)) w) (z : length bytes ≡ 65536) where
  pub w_fits : length w ≤ 65536
  unfolding over
  w_fits = omega (arith, ap length e, length-append w (drop (length w) (take 65536 (drop at out))))

  at_long : length (take at out) ≡ at
  at_long = length-take-le at out (omega arith)

  pub laid_text : take (at + length w) (take at out ++ (bytes ++ drop 65536 (drop at out))) ≡ take at out ++ w
  unfolding over
  laid_text =
      ap (λ (n : ℕ). take (n + length w) (take at out ++ (bytes ++ drop 65536 (drop at out)))) (sym at_long)
      ∙ take-append-add (take at out) (bytes ++ drop 65536 (drop at out)) (length w)
      ∙ ap (λ (u : List ℕ). take at out ++ take (length w) (u ++ drop 65536 (drop at out))) e
      ∙ ap (λ (u : List ℕ). take at out ++ take (length w) u) (append_assoc w (drop (length w) (take 65536 (drop at out))) (drop 65536 (drop at out)))
      ∙ ap (λ (u : List ℕ). take at out ++ u) (take-append_seam w (drop (length w) (take 65536 (drop at out)) ++ drop 65536 (drop at out)))

  pub laid_behind : drop (at + length w) (take at out ++ (bytes ++ drop 65536 (drop at out))) ≡ drop (at + length w) out
  unfolding over
  laid_behind =
      let d : List ℕ = drop at out in
      ap (λ (n : ℕ). drop (n + length w) (take at out ++ (bytes ++ drop 65536 d))) (sym at_long)
      ∙ drop-append-add (take at out) (bytes ++ drop 65536 d) (length w)
      ∙ ap (λ (u : List ℕ). drop (length w) (u ++ drop 65536 d)) e
      ∙ ap (drop (length w)) (append_assoc w (drop (length w) (take 65536 d)) (drop 65536 d))
      ∙ drop-append_seam w (drop (length w) (take 65536 d) ++ drop 65536 d)
      ∙ sym (drop-append-le (length w) (take 65536 d) (drop 65536 d) (simp (length-take, length-drop) (omega (arith, w_fits))))
      ∙ ap (drop (length w)) (take-append-drop 65536 d)
      ∙ drop-drop (length w) at out

-- ---- a cell at its place

module _ (b : Bench) (lists : Lent) (y : List Float) (t out : List ℕ) (at : ℕ) (h : at + 65536 ≤ length out) where
  pub placed : {b' : Bench} {lists' : Lent} {y' : List Float} {row n m : ℕ} (bytes out' : List ℕ)
      → stepped row n (line_result b' lists' y' (output m bytes)) ≡ bench_step b lists y t (take 65536 (drop at out))
      → length bytes ≡ 65536
      → out' ≡ take at out ++ (bytes ++ drop 65536 (drop at out))
      → Placed b lists y t out at b' lists' y' out' n m
  unfolding prints
  placed {b'} {lists'} {y'} {row} {n} {m} bytes out' e z o =
      let k : length (take 65536 (drop at out)) ≡ 65536 = simp (length-take, length-drop) (omega arith) in
      let q = step_out b lists y t (take 65536 (drop at out)) k in
      let f = e ∙ q.same in
      let w : List ℕ = shown (bench_step b lists y t blank).left.out in
      let i : m ≡ length w = ap (λ (s : Stepped). s.left.out.length) f in
      let g : bytes ≡ over (take 65536 (drop at out)) w = ap (λ (s : Stepped). s.left.out.bytes) f in
      record {
        bench = ap (λ (s : Stepped). s.left.bench) f;
        lent = ap (λ (s : Stepped). s.left.lent) f;
        point = ap (λ (s : Stepped). s.left.point) f;
        next = ap (λ (s : Stepped). s.next) f;
        count = i;
        text = rw (o, i) (laid_text out at h w bytes g z);
        behind = rw (o, i) (laid_behind out at h w bytes g z);
        within = subst (λ (u : ℕ). u ≤ length t) (sym (ap (λ (s : Stepped). s.next) f)) q.within;
        fits = subst (λ (u : ℕ). u ≤ 65536) (sym i) (w_fits out at h w bytes g z);
      }

-- the same, over the parts as the code lends them
module _ (b : Bench) (lists : Lent) (y : List Float) (text : List ℕ) (next : ℕ) (out : List ℕ) (at : ℕ) (h : at + 65536 ≤ length out) where
  -- the part of the output has room, so the step is taken
  pub step_taken : (r : Result StepResult Refusal) (lists' : Lent) (y' : List Float) (bytes : List ℕ)
      → stepped_by r b lists' y' bytes ≡ bench_step b lists y (take (length text - next) (drop next text)) (take (at + 65536 - at) (drop at out)) → IsOk r
  step_taken (Ok s) lists' y' bytes e = refl
  step_taken (Err k) lists' y' bytes e =
      let m : at + 65536 - at ≡ 65536 = omega arith in
      let z : length (take (at + 65536 - at) (drop at out)) ≡ 65536 = rw m (simp (length-take, length-drop) (omega arith)) in
      let q = step_out b lists y (take (length text - next) (drop next text)) (take (at + 65536 - at) (drop at out)) z in
      let f : number_of k ≡ 0 = ap (λ (s : Stepped). s.row) (e ∙ q.same) in
      absurd (omega (arith, is_numbered k, f))

  pub placed_at : (bytes : List ℕ) {b' : Bench} {lists' : Lent} {y' : List Float} {row n m : ℕ}
      → stepped row n (line_result b' lists' y' (output m bytes)) ≡ bench_step b lists y (take (length text - next) (drop next text)) (take (at + 65536 - at) (drop at out))
      → length bytes ≡ length (take (at + 65536 - at) (drop at out))
      → Placed b lists y (drop next text) out at b' lists' y' (take at out ++ (bytes ++ drop (at + 65536 - at) (drop at out))) n m
  placed_at bytes {b'} {lists'} {y'} {row} {n} {m} e z =
      let k : at + 65536 - at ≡ 65536 = omega arith in
      let t : take (length text - next) (drop next text) ≡ drop next text = take_all (length text - next) (drop next text) (simp length-drop (omega arith)) in
      let l : length (take 65536 (drop at out)) ≡ 65536 = simp (length-take, length-drop) (omega arith) in
      placed b lists y (drop next text) out at h bytes (take at out ++ (bytes ++ drop (at + 65536 - at) (drop at out)))
      (e ∙ (λ j. bench_step b lists y (t j) (take (k j) (drop at out))))
      (z ∙ ap (λ (i : ℕ). length (take i (drop at out))) k ∙ l)
      (ap (λ (i : ℕ). take at out ++ (bytes ++ drop i (drop at out))) k)
