-- The loop over the cells of a block. Assumes nothing.
use Prim.Native.Nat.{ℕ, zero, suc, ◌+◌, ◌-◌, ◌≤◌, ◌<◌}
use native.Mathlib.Omega.{arith}
use mathlib.Core.Path.{◌≡◌, refl, sym, ap, subst, ◌∙◌}
use mathlib.Core.Bool.{Bool, true, false, cond, false≢true}
use mathlib.Core.List.{List, [], ◌++◌, append-nil}
use borrow.Author.Tests.{eqb-true, eqb-false, eq-eqb, ne_eqb, le-ltb, lt-ltb}
use lib.Dec.{ltb, eqb}
use lib.ListN.{length, take, drop, length-drop, take-append-drop}
use lib.Seq.{length-take-le, drop-drop}
use lib.Ieee.{Float}
use Rattle.refusal.specs.Lent.{over}
use Rattle.trcf.specs.View.{Lent}
use Rattle.bench_core.specs.declared.step.Bench.{Bench}
use Rattle.bench_core.specs.Bench.{output, prints, line_result, cell_length, room, Stepped, stepped, bench_step}
use Rattle.bench_core.specs.Run.{blank, shown}
use Rattle.bench_blocks.specs.Blocks.{TextBlock, text_block, cells_of, block_printed, prints_block}
use Rattle.bench_blocks.specs.Steps.{Placed, Handed}
use Rattle.bench_blocks.proofs.ReadLaws.{at_most, step_none, step_read}
use Rattle.bench_blocks.proofs.RunLaws.{roomy, long_blank}
use Rattle.bench_blocks.proofs.PlaceLaws.{step_out}

-- ---- enough turns

fuel : (n k m : ℕ) (b : Bench) (lists : Lent) (y : List Float) (text : List ℕ) (next : ℕ) (w : List ℕ) → length text - next < n → length text - next < k
    → cells_of n m b lists y text next w ≡ cells_of k m b lists y text next w
fuel zero k m b lists y text next w h g = absurd (omega arith)
fuel (suc n) zero m b lists y text next w h g = absurd (omega arith)
fuel (suc n) (suc k) m b lists y text next w h g =
    let s : Stepped = bench_step b lists y (drop next text) blank in
    go (ltb m (length w + room)) (eqb s.next 0) refl
    (λ i j. fuel n k m s.left.bench s.left.lent s.left.point text (next + s.next) (w ++ shown s.left.out) i j)
  where
    go : (p q : Bool) → eqb (bench_step b lists y (drop next text) blank).next 0 ≡ q
        → (let s = bench_step b lists y (drop next text) blank in
        (length text - (next + s.next) < n → length text - (next + s.next) < k
        → cells_of n m s.left.bench s.left.lent s.left.point text (next + s.next) (w ++ shown s.left.out)
        ≡ cells_of k m s.left.bench s.left.lent s.left.point text (next + s.next) (w ++ shown s.left.out))
        → cond p (text_block b lists y next w true)
        (cond q (text_block b lists y next w false) (cells_of n m s.left.bench s.left.lent s.left.point text (next + s.next) (w ++ shown s.left.out)))
        ≡ cond p (text_block b lists y next w true)
        (cond q (text_block b lists y next w false) (cells_of k m s.left.bench s.left.lent s.left.point text (next + s.next) (w ++ shown s.left.out))))
    go true q e ih = refl
    go false true e ih = refl
    go false false e ih =
        let z = eqb-false (bench_step b lists y (drop next text) blank).next 0 e in
        let i = (step_out b lists y (drop next text) blank long_blank).within in
        let l = length-drop next text in
        ih (omega (arith, z, i, l)) (omega (arith, z, i, l))

-- nothing is read where no cell ends
idle : (b : Bench) (lists : Lent) (y : List Float) (t : List ℕ) → (bench_step b lists y t blank).next ≡ 0 → bench_step b lists y t blank ≡ stepped 0 0 (line_result b lists y (output 0 blank))
idle b lists y t z = go (eqb (cell_length t) (length t)) refl
  where
    go : (q : Bool) → eqb (cell_length t) (length t) ≡ q → bench_step b lists y t blank ≡ stepped 0 0 (line_result b lists y (output 0 blank))
    go true e = step_none b lists y blank roomy t (eqb-true (cell_length t) (length t) e)
    go false e =
        let k : cell_length t < length t = omega (arith, at_most t, eqb-false (cell_length t) (length t) e) in
        absurd (omega (arith, z, ap (λ (s : Stepped). s.next) (step_read b lists y blank roomy t k)))

-- ---- where the loop stands

pub record Stands (b₀ : Bench) (lists₀ : Lent) (y₀ : List Float) (text out₀ : List ℕ) (b : Bench) (lists : Lent) (y : List Float) (out : List ℕ) (next at : ℕ) : Type 0 where
  pub read : next ≤ length text
  pub fits : at ≤ length out
  pub size : length out ≡ length out₀
  pub behind : drop at out ≡ drop at out₀
  pub same : cells_of (suc (length text)) (length out₀) b₀ lists₀ y₀ text 0 [] ≡ cells_of (suc (length text - next)) (length out₀) b lists y text next (take at out)

module _ (b₀ : Bench) (lists₀ : Lent) (y₀ : List Float) (text out₀ : List ℕ) where
  pub stands_first : Stands b₀ lists₀ y₀ text out₀ b₀ lists₀ y₀ out₀ 0 0
  stands_first =
      let k : length text ≡ length text - 0 = omega arith in
      record {
        read = omega arith;
        fits = omega arith;
        size = refl;
        behind = refl;
        same = ap (λ (n : ℕ). cells_of (suc n) (length out₀) b₀ lists₀ y₀ text 0 []) k;
      }

  module _ (b : Bench) (lists : Lent) (y : List Float) (out : List ℕ) (next at : ℕ) (a : Stands b₀ lists₀ y₀ text out₀ b lists y out next at) where
    at_length : length (take at out) ≡ at
    at_length = length-take-le at out a.fits

    laid_all : output at out ≡ prints (take at out) out₀
    unfolding prints over
    laid_all =
        let o : out ≡ take at out ++ drop (length (take at out)) out₀ =
        sym (take-append-drop at out) ∙ ap (λ (u : List ℕ). take at out ++ u) (a.behind ∙ ap (λ (n : ℕ). drop n out₀) (sym at_length)) in
        λ j. output (sym at_length j) (o j)

    pub stands_full : length out - at < 65536
        → Handed (cells_of (suc (length text)) (length out₀) b₀ lists₀ y₀ text 0 []) text out₀ (block_printed b lists y next (output at out) true)
    stands_full h =
        let t : ltb (length out₀) (length (take at out) + 65536) ≡ true = lt-ltb (length out₀) (length (take at out) + 65536) (omega (arith, at_length, a.size)) in
        let e : cells_of (suc (length text)) (length out₀) b₀ lists₀ y₀ text 0 [] ≡ text_block b lists y next (take at out) true = a.same ∙ rw t in
        record {
          same = (λ j. block_printed b lists y next (laid_all j) true) ∙ ap (λ (r : TextBlock). prints_block r out₀) (sym e);
          read = a.read;
          fits = omega (arith, a.fits, a.size);
          room = λ e. absurd (false≢true (sym e));
        }

    module _ (r : 65536 ≤ length out - at) (b' : Bench) (lists' : Lent) (y' : List Float) (out' : List ℕ) (n m : ℕ)
        (p : Placed b lists y (drop next text) out at b' lists' y' out' n m) (z : length out' ≡ length out) where
      roomed : ltb (length out₀) (length (take at out) + 65536) ≡ false
      roomed = le-ltb (length out₀) (length (take at out) + 65536) (omega (arith, at_length, a.size, a.fits))

      pub stands_idle : n ≡ 0
          → Handed (cells_of (suc (length text)) (length out₀) b₀ lists₀ y₀ text 0 []) text out₀ (block_printed b' lists' y' next (output at out') false)
      stands_idle k =
          let f = idle b lists y (drop next text) (sym p.next ∙ k) in
          let e : cells_of (suc (length text)) (length out₀) b₀ lists₀ y₀ text 0 [] ≡ text_block b lists y next (take at out) false =
          a.same ∙ rw (roomed, eq-eqb (bench_step b lists y (drop next text) blank).next 0 (sym p.next ∙ k)) in
          let i : m ≡ 0 = p.count ∙ ap (λ (s : Stepped). length (shown s.left.out)) f in
          let j : at + m ≡ at = omega arith in
          let t : take at out' ≡ take at out =
          ap (λ (u : ℕ). take u out') (sym j) ∙ p.text ∙ ap (λ (s : Stepped). take at out ++ shown s.left.out) f ∙ append-nil (take at out) in
          let d : drop at out' ≡ drop at out = ap (λ (u : ℕ). drop u out') (sym j) ∙ p.behind ∙ ap (λ (u : ℕ). drop u out) j in
          let o : out' ≡ out = sym (take-append-drop at out') ∙ (λ v. t v ++ d v) ∙ take-append-drop at out in
          let x : b' ≡ b = p.bench ∙ ap (λ (s : Stepped). s.left.bench) f in
          let l : lists' ≡ lists = p.lent ∙ ap (λ (s : Stepped). s.left.lent) f in
          let q : y' ≡ y = p.point ∙ ap (λ (s : Stepped). s.left.point) f in
          record {
            same =
                (λ v. block_printed (x v) (l v) (q v) next (output at (o v)) false)
                ∙ (λ v. block_printed b lists y next (laid_all v) false)
                ∙ ap (λ (r : TextBlock). prints_block r out₀) (sym e);
            read = a.read;
            fits = omega (arith, a.fits, a.size);
            room = λ e. omega (arith, a.fits, a.size);
          }

      pub stands_next : (n ≡ 0 → ⊥) → Stands b₀ lists₀ y₀ text out₀ b' lists' y' out' (next + n) (at + m)
      stands_next k =
          let s : Stepped = bench_step b lists y (drop next text) blank in
          let w : n ≤ length text - next = subst (λ (u : ℕ). n ≤ u) (length-drop next text) p.within in
          let e : cells_of (suc (length text - next)) (length out₀) b lists y text next (take at out)
          ≡ cells_of (length text - next) (length out₀) s.left.bench s.left.lent s.left.point text (next + s.next) (take at out ++ shown s.left.out) =
          rw (roomed, ne_eqb (bench_step b lists y (drop next text) blank).next 0 (λ i. k (p.next ∙ i))) in
          let f : cells_of (length text - next) (length out₀) s.left.bench s.left.lent s.left.point text (next + s.next) (take at out ++ shown s.left.out)
          ≡ cells_of (length text - next) (length out₀) b' lists' y' text (next + n) (take (at + m) out') =
          λ v. cells_of (length text - next) (length out₀) (sym p.bench v) (sym p.lent v) (sym p.point v) text (next + sym p.next v) (sym p.text v) in
          record {
            read = omega (arith, a.read);
            fits = omega (arith, a.fits, p.fits);
            size = z ∙ a.size;
            behind = p.behind ∙ sym (drop-drop m at out) ∙ ap (drop m) a.behind ∙ drop-drop m at out₀;
            same =
                a.same
                ∙ e
                ∙ f
                ∙ fuel (length text - next) (suc (length text - (next + n))) (length out₀) b' lists' y' text (next + n) (take (at + m) out') (omega (arith, a.read)) (omega arith);
          }
