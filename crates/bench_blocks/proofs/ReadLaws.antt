-- An input byte by byte: what a step reads, and what it leaves to be read. Assumes nothing.
use Prim.Native.Nat.{ℕ, zero, suc, ◌+◌, ◌≤◌, ◌<◌}
use native.Mathlib.Omega.{arith}
use mathlib.Core.Path.{◌≡◌, refl, sym, ap, ◌∙◌}
use mathlib.Core.Bool.{Bool, true, false, cond, ◌||◌}
use mathlib.Core.List.{List, [], ◌∷◌, ◌++◌, append_assoc, append-nil}
use borrow.Author.Tests.{ne_eqb, eq-eqb, le-ltb, ltb-true, ltb-false}
use lib.Dec.{ltb, eqb}
use lib.ListN.{length, take, drop, get_or, length-append, length-take}
use lib.Seq.{take_all, take-take, length-take-le, split_at}
use lib.Ieee.{Float}
use Rattle.trcf.specs.View.{Lent}
use Rattle.bench_core.specs.Line.{cell_of}
use Rattle.bench_core.specs.declared.line.Line.{Line}
use Rattle.bench_core.specs.declared.step.Bench.{Bench}
use Rattle.bench_core.specs.declared.step.Phase.{Phase}
use Rattle.bench_core.specs.declared.step.Phase.TheVariants.{WantsSet, WantsWeights, Running, Ended}
use Rattle.bench_core.specs.Bench.{output, LineResult, line_result, line_gives, cell_length, cell_kept, cell_step, room, stepped, with_line, bench_step, finish_by}
use Rattle.bench_core.specs.Run.{blank, shown}
use Rattle.bench_blocks.proofs.CutLaws.{cut_cell, long_alike}

-- ---- the definition

-- a tab or an LF
abbrev pub ends : ℕ → Bool
ends x = eqb x 9 || eqb x 10

-- what a cell c leaves that x ends
abbrev pub cell_heard : Bench → Lent → List Float → List ℕ → List ℕ → ℕ → LineResult
cell_heard b lists y out c x =
    cond (eqb x 9) (line_result (with_line b (cell_of b.line c)) lists y (output 0 out)) (line_gives b (cell_of b.line c) lists y out)

-- all that is printed from here on, where the bytes c of a cell are read and t is not
abbrev pub reads_on : Bench → Lent → List Float → List ℕ → List ℕ → List ℕ
reads_on b lists y c [] = shown (finish_by b.phase b c blank).out
reads_on b lists y c (x ∷ t) =
    let h = cell_heard b lists y blank c x in
    let r = reads_on h.bench h.lent h.point [] t in
    let s = reads_on b lists y (c ++ x ∷ []) t in
    cond (ends x) (shown h.out ++ r) s

-- ---- where a cell ends

open_first : (p q : Bool) (r n : ℕ) → cond p 0 (cond q 0 (suc r)) ≡ suc n → (p || q ≡ false) × (r ≡ n)
open_first true q r n h = absurd (omega arith)
open_first false true r n h = absurd (omega arith)
open_first false false r n h = (refl, omega arith)

pub at_most : (t : List ℕ) → cell_length t ≤ length t
at_most [] = omega arith
at_most (x ∷ t) = go (eqb x 9) (eqb x 10) (at_most t)
  where
    go : (p q : Bool) → cell_length t ≤ length t → cond p 0 (cond q 0 (suc (cell_length t))) ≤ suc (length t)
    go true q h = omega arith
    go false true h = omega arith
    go false false h = omega arith

start_open : (n : ℕ) (c : List ℕ) → cell_length c ≡ length c → cell_length (take n c) ≡ length (take n c)
start_open zero c h = refl
start_open (suc n) [] h = refl
start_open (suc n) (x ∷ c) h = go (eqb x 9) (eqb x 10) h (start_open n c)
  where
    go : (p q : Bool) → cond p 0 (cond q 0 (suc (cell_length c))) ≡ suc (length c) → (cell_length c ≡ length c → cell_length (take n c) ≡ length (take n c))
        → cond p 0 (cond q 0 (suc (cell_length (take n c)))) ≡ suc (length (take n c))
    go true q h ih = absurd (omega arith)
    go false true h ih = absurd (omega arith)
    go false false h ih = ap suc (ih (omega arith))

abbrev EndsAt : List ℕ → ℕ → Type 0
EndsAt t n = (cell_length (take n t) ≡ length (take n t)) × (ends (get_or t n 0) ≡ true)

cell_ends : (t : List ℕ) → cell_length t < length t → EndsAt t (cell_length t)
cell_ends [] h = absurd (omega arith)
cell_ends (x ∷ t) h = go (eqb x 9) refl (eqb x 10) refl (cell_ends t) h
  where
    go : (p : Bool) → eqb x 9 ≡ p → (q : Bool) → eqb x 10 ≡ q → (cell_length t < length t → EndsAt t (cell_length t))
        → cond p 0 (cond q 0 (suc (cell_length t))) < suc (length t) → EndsAt (x ∷ t) (cond p 0 (cond q 0 (suc (cell_length t))))
    go true e q f ih k = (refl, rw e)
    go false e true f ih k = (refl, rw (e, f))
    go false e false f ih k = let i = ih (omega arith) in (rw (e, f) (ap suc i.0), i.1)

kept_least : (n : ℕ) → cell_kept n ≤ n
kept_least n = by (ltb 24 n) refl
  where
    by : (p : Bool) → ltb 24 n ≡ p → cond p 24 n ≤ n
    by true e = omega (arith, ltb-true 24 n e)
    by false e = omega arith

-- ---- a step

module _ (b : Bench) (lists : Lent) (y : List Float) where
  both : (q : Bool) (m : ℕ) (g h : LineResult) → cond q (stepped 0 m g) (stepped 0 m h) ≡ stepped 0 m (cond q g h)
  both true m g h = refl
  both false m g h = refl

  cut_step : (l : Line) (t : List ℕ) (n : ℕ) → n ≤ length t → cell_of l (take (cell_kept n) t) ≡ cell_of l (take n t)
  cut_step l t n h =
      let k : length (take n t) ≡ n = length-take-le n t h in
      ap (cell_of l) (sym (take-take (cell_kept n) n t (kept_least n)))
      ∙ ap (λ (i : ℕ). cell_of l (take (cell_kept i) (take n t))) (sym k)
      ∙ cut_cell l (take n t)

  module _ (out : List ℕ) (r : room ≤ length out) (t : List ℕ) where
    pub step_none : cell_length t ≡ length t → bench_step b lists y t out ≡ stepped 0 0 (line_result b lists y (output 0 out))
    unfolding bench_step
    step_none e = rw (le-ltb (length out) 65536 r, eq-eqb (cell_length t) (length t) e)

    pub step_read : cell_length t < length t
        → bench_step b lists y t out ≡ stepped 0 (cell_length t + 1) (cell_heard b lists y out (take (cell_length t) t) (get_or t (cell_length t) 0))
    unfolding bench_step
    step_read h =
        rw (le-ltb (length out) 65536 r, ne_eqb (cell_length t) (length t) (λ e. omega arith))
        (ap (cell_step b lists y t out (cell_length t)) (cut_step b.line t (cell_length t) (omega arith))
        ∙ both (eqb (get_or t (cell_length t) 0) 9) (cell_length t + 1) (line_result (with_line b (cell_of b.line (take (cell_length t) t))) lists y (output 0 out))
        (line_gives b (cell_of b.line (take (cell_length t) t)) lists y out))

  -- ---- bytes in which no cell ends

  reads_open : (d c t : List ℕ) → cell_length d ≡ length d → reads_on b lists y c (d ++ t) ≡ reads_on b lists y (c ++ d) t
  reads_open [] c t h = ap (λ (u : List ℕ). reads_on b lists y u t) (sym (append-nil c))
  reads_open (x ∷ d) c t h =
      let k = open_first (eqb x 9) (eqb x 10) (cell_length d) (length d) h in
      rw k.0 (reads_open d (c ++ x ∷ []) t k.1 ∙ ap (λ (u : List ℕ). reads_on b lists y u t) (append_assoc c (x ∷ []) d))

  -- ---- the first cell of a text

  pub reads_cell : (t more : List ℕ) → cell_length t < length t
      → (let h = cell_heard b lists y blank (take (cell_length t) t) (get_or t (cell_length t) 0) in
      reads_on b lists y [] (t ++ more) ≡ shown h.out ++ reads_on h.bench h.lent h.point [] (drop (suc (cell_length t)) t ++ more))
  reads_cell t more h =
      let n = cell_length t in
      let k = cell_ends t h in
      ap (reads_on b lists y []) (ap (λ (u : List ℕ). u ++ more) (split_at t n 0 h) ∙ append_assoc (take n t) (get_or t n 0 ∷ drop (suc n) t) more)
      ∙ reads_open (take n t) [] (get_or t n 0 ∷ (drop (suc n) t ++ more)) k.0
      ∙ rw k.1

  pub reads_end : (t : List ℕ) → cell_length t ≡ length t → reads_on b lists y [] t ≡ shown (finish_by b.phase b t blank).out
  reads_end t e = ap (reads_on b lists y []) (sym (append-nil t)) ∙ reads_open t [] [] e

  -- ---- a long cell

  ends_alike : (out c d : List ℕ) → 24 ≤ length c → 24 ≤ length d → (p : Phase) → finish_by p b c out ≡ finish_by p b d out
  ends_alike out [] d h k p = absurd (omega arith)
  ends_alike out (x ∷ c) [] h k p = absurd (omega arith)
  ends_alike out (x ∷ c) (z ∷ d) h k WantsSet = refl
  ends_alike out (x ∷ c) (z ∷ d) h k WantsWeights = refl
  ends_alike out (x ∷ c) (z ∷ d) h k Running = refl
  ends_alike out (x ∷ c) (z ∷ d) h k Ended = refl

  reads_alike : (t c d : List ℕ) → 24 ≤ length c → 24 ≤ length d → reads_on b lists y c t ≡ reads_on b lists y d t
  reads_alike [] c d h k = ap (λ u. shown u.out) (ends_alike blank c d h k b.phase)
  reads_alike (x ∷ t) c d h k =
      let e = long_alike b.line c d h k in
      let i = reads_alike t (c ++ x ∷ []) (d ++ x ∷ []) (omega (arith, length-append c (x ∷ []))) (omega (arith, length-append d (x ∷ []))) in
      let g : cell_heard b lists y blank c x ≡ cell_heard b lists y blank d x =
      ap (λ (l : Line). cond (eqb x 9) (line_result (with_line b l) lists y (output 0 blank)) (line_gives b l lists y blank)) e in
      λ j. cond (ends x) (shown (g j).out ++ reads_on (g j).bench (g j).lent (g j).point [] t) (i j)

  -- of bytes in which no cell ends the first 24 are enough
  pub reads_cut : (n : ℕ) (c t : List ℕ) → 24 ≤ n → cell_length c ≡ length c → reads_on b lists y [] (take n c ++ t) ≡ reads_on b lists y [] (c ++ t)
  reads_cut n c t h e = go (ltb n (length c)) refl
    where
      go : (p : Bool) → ltb n (length c) ≡ p → reads_on b lists y [] (take n c ++ t) ≡ reads_on b lists y [] (c ++ t)
      go true k =
          let l : n < length c = ltb-true n (length c) k in
          reads_open (take n c) [] t (start_open n c e)
          ∙ reads_alike t (take n c) c (simp length-take (omega arith)) (omega arith)
          ∙ sym (reads_open c [] t e)
      go false k = ap (λ (u : List ℕ). reads_on b lists y [] (u ++ t)) (take_all n c (ltb-false n (length c) k))
