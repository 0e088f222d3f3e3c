-- What each line leaves, from what its parts promise. Assumes nothing.
use Prim.Native.Nat.{ℕ, zero, suc, ◌+◌, ◌≤◌, ◌<◌}
use native.Mathlib.Omega.{arith}
use mathlib.Core.Path.{◌≡◌, refl, sym, ap, ◌∙◌}
use mathlib.Core.Bool.{Bool, true, false}
use mathlib.Core.List.{List, ◌∷◌}
use borrow.Author.Tests.{lt-ltb, le-ltb, eq-eqb, ne_eqb}
use lib.ListN.{length, take, get_or, replicate}
use lib.Ieee.{Float}
use Rattle.trcf.specs.Preprocessor.{accepted}
use Rattle.std.specs.Prelude.{Result, Ok, Err}
use Rattle.std.specs.Result.{IsErrAnd}
use Rattle.refusal.specs.declared.Refusal.{Refusal}
use Rattle.refusal.specs.Refusal.{number_of}
use Rattle.refusal.proofs.RefusalLaws.{refused_is}
use Rattle.trcf.specs.Settings.{settings_row}
use Rattle.trcf.specs.View.{Lent, Outcome, outcome, head_outcome, or_else, no_head, build_of, settings_from}
use Rattle.trcf.specs.declared.head.Preprocessor.{Preprocessor}
use Rattle.trcf.specs.declared.head.PreprocessorBuilder.{PreprocessorBuilder}
use Rattle.bench_core.specs.Line.{cell_of, kept_count, kept_of}
use Rattle.bench_core.specs.declared.line.Line.{Line}
use Rattle.bench_core.specs.declared.step.Phase.{Phase}
use Rattle.bench_core.specs.declared.step.Phase.TheVariants.{Running}
use Rattle.bench_core.specs.declared.step.Bench.{Bench}
use Rattle.bench_core.specs.Bench.{bench, zero_codes, built_of, Output, output, prints, no_text, ready_for, end_of, CallPrinted, call_printed, LineResult, line_result, refused_by, limit_row}
use Rattle.bench_core.specs.Bench.{built_gives, build_gives, line_of_call, reading_gives, prints_call, point_result, learn_result, line_by, line_gives, EndResult, end_result, finish_by, finished}
use Rattle.bench_core.specs.Bench.{finish_of, cell_length, cell_kept, stepped, with_line, cell_step, bench_step}

pub kept_of_lem : (l : Line) (n : ℕ) → n ≡ kept_count l.count → take n l.singles ≡ kept_of l
unfolding kept_of
kept_of_lem l n e = ap (λ (m : ℕ). take m l.singles) e

-- a line that ends the run
pub refused_heard : (b : Bench) (out : List ℕ) (row : ℕ) (lists : Lent) (y : List Float) {b' : Bench} {o : Output}
    → end_result b' o ≡ end_result (end_of b) (prints (no_text row) out) → line_result b' lists y o ≡ refused_by row b lists y out
refused_heard b out row lists y e = ap (λ (s : EndResult). line_result s.bench lists y s.out) e

-- ---- rows 1 to 9, the limits, `build`

module _ (q : PreprocessorBuilder) (w : List Float) (lists : Lent) (cs : List ℕ) (k : cs ≡ zero_codes q) where
  bare_row : (row : ℕ) → row ≡ or_else (settings_row (settings_from q w cs)) (limit_row q)
      → row ≡ or_else (settings_row (settings_from q w (zero_codes q))) (limit_row q)
  bare_row row e = e ∙ ap (λ (u : List ℕ). or_else (settings_row (settings_from q w u)) (limit_row q)) k

  pub bare_refused : (c : Refusal) (r : Result Preprocessor Refusal) → IsErrAnd r (λ d. d ≡ c)
      → number_of c ≡ or_else (settings_row (settings_from q w cs)) (limit_row q) → head_outcome r no_head lists ≡ built_of q w lists
  unfolding built_of
  bare_refused c (Ok a) h e = absurd h
  bare_refused c (Err d) h e =
      sym (refused_is d (number_of d) (build_of (settings_from q w (zero_codes q)) lists) (outcome (number_of d) no_head lists) refl)
      ∙ ap (λ (i : ℕ). accepted i (build_of (settings_from q w (zero_codes q)) lists) (outcome i no_head lists)) (bare_row (number_of d) (ap number_of h ∙ e))

  pub bare_built : (o : Outcome) → 0 ≡ or_else (settings_row (settings_from q w cs)) (limit_row q) → o ≡ build_of (settings_from q w cs) lists → o ≡ built_of q w lists
  unfolding built_of
  bare_built o e p =
      p
      ∙ ap (λ (u : List ℕ). build_of (settings_from q w u) lists) k
      ∙ ap (λ (i : ℕ). accepted i (build_of (settings_from q w (zero_codes q)) lists) (outcome i no_head lists)) (bare_row 0 e)

module _ (b : Bench) (out : List ℕ) (l : Line) (lists : Lent) (y : List Float) {v : List Float} (k : v ≡ kept_of l) where
  built : (o : Outcome) → o ≡ built_of b.builder v lists → o ≡ built_of b.builder (kept_of l) lists
  built o e = e ∙ ap (λ (u : List Float). built_of b.builder u lists) k

  pub weights_refused : (c : Refusal) {l' : Lent} {b' : Bench} {o : Output} → outcome (number_of c) no_head l' ≡ built_of b.builder v lists
      → end_result b' o ≡ end_result (end_of b) (prints (no_text (number_of c)) out)
      → line_result b' l' y o ≡ build_gives b l lists y out
  unfolding build_gives
  weights_refused c {l'} e p =
      refused_heard b out (number_of c) l' y p ∙ sym (refused_is c (number_of c) _ (refused_by (number_of c) b l' y out) refl)
      ∙ ap (λ (q : Outcome). built_gives b q y out) (built _ e)

  pub weights_built : (h' : Preprocessor) {l' : Lent} {b' : Bench} → outcome 0 h' l' ≡ built_of b.builder v lists → b' ≡ ready_for Running b.builder b.head b.given
      → line_result (bench b'.phase b'.line b'.builder h' b'.given) l' y (output 0 out) ≡ build_gives b l lists y out
  unfolding build_gives
  weights_built h' {l'} e p =
      ap (λ (r : Bench). line_result (bench r.phase r.line r.builder h' r.given) l' y (output 0 out)) p
      ∙ ap (λ (u : Outcome). built_gives b u y out) (built _ e)

-- ---- by the name of the line, and by what the bench waits for

module _ (b : Bench) (l : Line) (lists : Lent) (y : List Float) (out : List ℕ) where
  pub line_by_lem : (p : Phase) → b.phase ≡ p → line_by p b l lists y out ≡ line_gives b l lists y out
  unfolding line_gives
  line_by_lem p e = ap (λ (q : Phase). line_by q b l lists y out) (sym e)

-- a call that was answered
pub call_told : (b : Bench) {b' : Bench} {h' : Preprocessor} {g' : Bool} {l' : Lent} {y' : List Float} {n m : ℕ} {out' : List ℕ} {t : CallPrinted}
    → call_printed h' g' l' y' (output n out') ≡ t → b' ≡ ready_for Running b.builder h' g' → m ≡ n → line_result b' l' y' (output m out') ≡ line_of_call b t
call_told b {b'} {h'} {g'} {l'} {y'} {n} {m} {out'} {t} e p q = (λ j. line_result (p j) l' y' (output (q j) out')) ∙ ap (line_of_call b) e

-- ---- a call line, by what it brings

module _ (b : Bench) (l : Line) (lists : Lent) (y : List Float) (out : List ℕ) (asks : Bool) {v : List Float} (k : v ≡ kept_of l)
    {b' : Bench} {h' : Preprocessor} {g' : Bool} {l' : Lent} {y' : List Float} {n m : ℕ} {out' : List ℕ} where
  pub point_read : asks ≡ true → call_printed h' g' l' y' (output n out') ≡ prints_call (point_result b.head b.given lists y v (get_or l.wholes 0 0)) out
      → b' ≡ ready_for Running b.builder h' g' → m ≡ n → line_result b' l' y' (output m out') ≡ reading_gives asks b l lists y out
  point_read w e p q =
      call_told b (e ∙ ap (λ (u : List Float). prints_call (point_result b.head b.given lists y u (get_or l.wholes 0 0)) out) k) p q
      ∙ ap (λ (i : Bool). reading_gives i b l lists y out) (sym w)

  pub learn_read : asks ≡ false → call_printed h' g' l' y' (output n out') ≡ prints_call (learn_result b.head b.given lists y v (get_or l.wholes 0 0)) out
      → b' ≡ ready_for Running b.builder h' g' → m ≡ n → line_result b' l' y' (output m out') ≡ reading_gives asks b l lists y out
  learn_read w e p q =
      call_told b (e ∙ ap (λ (u : List Float). prints_call (learn_result b.head b.given lists y u (get_or l.wholes 0 0)) out) k) p q
      ∙ ap (λ (i : Bool). reading_gives i b l lists y out) (sym w)

-- ---- the end of the input

module _ (b : Bench) (rest out : List ℕ) where
  pub finish_short : length out < 65536 → finished 20 0 (end_result b (output 0 out)) ≡ finish_of b rest out
  unfolding finish_of
  finish_short h = rw (lt-ltb (length out) 65536 h)

  pub finish_done : {s : EndResult} → 65536 ≤ length out → s ≡ finish_by b.phase b rest out → finished 0 0 s ≡ finish_of b rest out
  unfolding finish_of
  finish_done h e = rw (le-ltb (length out) 65536 h) (ap (finished 0 0) e)

-- ---- a step

module _ (b : Bench) (lists : Lent) (y : List Float) (text out : List ℕ) where
  pub step_short : length out < 65536 → stepped 20 0 (line_result b lists y (output 0 out)) ≡ bench_step b lists y text out
  unfolding bench_step
  step_short h = rw (lt-ltb (length out) 65536 h)

  module _ (h : 65536 ≤ length out) (n : ℕ) (e : n ≡ cell_length text) where
    pub step_none : n ≡ length text → stepped 0 0 (line_result b lists y (output 0 out)) ≡ bench_step b lists y text out
    unfolding bench_step
    step_none z = rw (le-ltb (length out) 65536 h, eq-eqb (cell_length text) (length text) (sym e ∙ z))

    module _ (z : n ≡ length text → ⊥) (k : ℕ) (q : k ≡ cell_kept n) {l : Line} (m : l ≡ cell_of b.line (take k text)) where
      stepping : cell_step b lists y text out n l ≡ bench_step b lists y text out
      unfolding bench_step
      stepping =
          (λ j. cell_step b lists y text out n (m j))
          ∙ ap (λ (i : ℕ). cell_step b lists y text out n (cell_of b.line (take i text))) q
          ∙ ap (λ (i : ℕ). cell_step b lists y text out i (cell_of b.line (take (cell_kept i) text))) e
          ∙ sym (rw (le-ltb (length out) 65536 h, ne_eqb (cell_length text) (length text) (λ p. z (e ∙ p))))

      pub step_tab : {b' : Bench} → get_or text n 0 ≡ 9 → b' ≡ with_line b l → stepped 0 (n + 1) (line_result b' lists y (output 0 out)) ≡ bench_step b lists y text out
      step_tab g p =
          (λ j. stepped 0 (n + 1) (line_result (p j) lists y (output 0 out))) ∙ rw (eq-eqb (get_or text n 0) 9 g) at stepping

      pub step_line : {r : LineResult} → (get_or text n 0 ≡ 9 → ⊥) → r ≡ line_gives b l lists y out → stepped 0 (n + 1) r ≡ bench_step b lists y text out
      step_line g p = (λ j. stepped 0 (n + 1) (p j)) ∙ rw (ne_eqb (get_or text n 0) 9 g) at stepping

-- zeros in front of zeros
pub take_zeros : (n d : ℕ) → d ≤ n → take d (replicate {A = ℕ} n 0) ≡ replicate d 0
take_zeros n zero h = refl
take_zeros zero (suc d) h = absurd (omega arith)
take_zeros (suc n) (suc d) h = ap (λ (l : List ℕ). 0 ∷ l) (take_zeros n d (omega arith))
