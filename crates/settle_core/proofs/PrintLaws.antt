-- Lines printed one after the other. Assumes nothing.
use Prim.Native.Nat.{ℕ, suc, ◌+◌, ◌-◌, ◌≤◌, ◌<◌}
use native.Mathlib.Omega.{arith}
use native.Mathlib.Numerals.{add-one}
use native.Mathlib.Nat.{add-zero}
use mathlib.Core.Path.{◌≡◌, refl, sym, ap, ◌∙◌}
use mathlib.Core.List.{List, [], ◌∷◌, ◌++◌, map, append-nil, append_assoc}
use borrow.Author.Tests.{le-ltb}
use lib.ListN.{length, take, drop, get_or, length-drop, drop_of_length-le}
use lib.Seq.{length-sets, sets-eq, drop-drop, take-suc, length-take-le}
use lib.Ieee.{Float}
use Rattle.std.specs.Prelude.{Result, Ok, Err, Option as Held, Some, None, is_some, IfOk}
use Rattle.std.specs.Option.{unwrap_or}
use Rattle.std.specs.Result.{result_unwrap_or}
use Rattle.refusal.specs.Lent.{over}
use Rattle.refusal.specs.Refusal.{row_of}
use Rattle.refusal.specs.declared.Refusal.{Refusal}
use Rattle.trcf.specs.Settings.{Settings, whole_max}
use Rattle.snapshot.specs.Text.{whole, named}
use Rattle.snapshot.specs.Read.{bytes_of_line}
use Rattle.snapshot.specs.Save.{SaveOutcome, save_outcome, saved_told, fitted}
use Rattle.snapshot.specs.Steps.Write.{stored, Wrote}
use Rattle.snapshot.proofs.WriteLaws.{whole_less, whole_short}
use Rattle.snapshot.proofs.PairLines.{number_size}
use Rattle.snapshot_save.specs.Line.{text_within, optional_field, optional_line}
use Rattle.bench_core.specs.Bench.{no_text}
use Rattle.settling.specs.Settling.{Signal, Noted, run_of}
use Rattle.settling.specs.Steps.{option_of, signal_of, noted_by}
use Rattle.settling.specs.declared.run.Settled.{Settled}
use Rattle.settle_core.specs.Input.{input_refused, input_of}
use Rattle.settle_core.specs.Settle.{or_never, largest_field, noted_line, line_texts, printed_by, settle_of}
use Rattle.settle_core.specs.Steps.{pair_settings, input_in}
use Rattle.settle_core.specs.declared.pair.Pair as kept
use Rattle.settle_core.specs.declared.judge.Judged.{Judged}
use Rattle.settle_core.proofs.JudgeLaws.{map_snoc}
use Rattle.settle_core.proofs.ScanLaws.{rest_is}

stored_length : (old : List ℕ) (at : ℕ) (b : List ℕ) → length (stored old at b) ≡ length old
unfolding stored
stored_length old at b = length-sets old at b

pub wrote_none : {at : ℕ} {old : List ℕ} → Wrote at [] old at old
unfolding stored
wrote_none {at} {old} = record { place = sym (add-zero at); bytes = refl; kept = refl }

-- ---- one line

last_field : (g : Held Float) (d : Float) → optional_field (is_some g) (unwrap_or g d) ≡ largest_field (option_of g)
last_field (Some x) d = refl
last_field None d = refl

-- "(n if never)"
ready_is : (g : Held ℕ) (n : ℕ) → unwrap_or g n ≡ or_never n (option_of g)
ready_is (Some i) n = refl
ready_is None n = refl

-- the number of a pair has one digit
pub noted_line_lem : (i n m : ℕ) (s : Settled) (o : Noted) (d : Float) → i ≤ 7 → m ≡ unwrap_or s.ready n → noted_by s ≡ o
    → bytes_of_line (optional_line (49 + i) m (is_some s.largest) (unwrap_or s.largest d)) ≡ noted_line (i + 1) n o
unfolding noted_line
noted_line_lem i n m s o d h em e =
    let w : (49 + i) ∷ [] ≡ whole (i + 1) = ap (λ (k : ℕ). k ∷ []) (omega arith) ∙ sym (whole_less (i + 1) (omega arith)) in
    let r : m ≡ or_never n o.ready = em ∙ ready_is s.ready n ∙ ap (λ (u : Noted). or_never n u.ready) e in
    let f : optional_field (is_some s.largest) (unwrap_or s.largest d) ≡ largest_field o.largest = last_field s.largest d ∙ ap (λ (u : Noted). largest_field u.largest) e in
    λ j. bytes_of_line (named (w j) (whole (r j) ∷ f j ∷ []))

-- the length that a call answers, none of a refusal
answered : (r : Result ℕ Refusal) (bytes : List ℕ) → save_outcome (row_of r) (result_unwrap_or r 0) bytes ≡ saved_told r bytes
answered (Ok n) bytes = refl
answered (Err k) bytes = refl

-- a line printed into the part of the output from a place on
module _ (out : List ℕ) (at : ℕ) (t bytes : List ℕ) (r : Result ℕ Refusal) (n : ℕ) (en : n ≡ result_unwrap_or r 0) (room : at + 32 ≤ length out) (few : length t ≤ 32)
    (e : saved_told r bytes ≡ text_within 32 t (take (length out - at) (drop at out))) where
  printed : save_outcome (row_of r) n bytes ≡ save_outcome 0 (length t) (over (drop at out) t)
  unfolding text_within
  printed =
      ap (λ (m : ℕ). save_outcome (row_of r) m bytes) en
      ∙ answered r bytes
      ∙ e ∙ ap (λ (l : List ℕ). text_within 32 t l) (rest_is out at)
      ∙ rw (le-ltb (length (drop at out)) 32 (simp length-drop (omega arith)))

  pub long_is : n ≡ length t
  long_is = ap (λ (o : SaveOutcome). o.length) printed

  new_is : take at out ++ (bytes ++ drop (length out - at) (drop at out)) ≡ stored out at t
  unfolding stored over
  new_is =
      let b : bytes ≡ t ++ drop (length t) (drop at out) = ap (λ (o : SaveOutcome). o.bytes) printed in
      let y : length (drop at out) ≤ length out - at = simp length-drop (omega arith) in
      let z : drop (length out - at) (drop at out) ≡ [] = drop_of_length-le (drop at out) y in
      (λ j. take at out ++ (b j ++ z j))
      ∙ ap (λ (l : List ℕ). take at out ++ l) (append-nil (t ++ drop (length t) (drop at out)))
      ∙ ap (λ (l : List ℕ). take at out ++ (t ++ l)) (drop-drop (length t) at out)
      ∙ sym (append_assoc (take at out) t (drop (at + length t) out))
      ∙ sym (sets-eq t out at (omega arith))

  pub line_printed : Wrote at t out (at + n) (take at out ++ (bytes ++ drop (length out - at) (drop at out)))
  line_printed =
      record {
        place = ap (λ (k : ℕ). at + k) long_is;
        bytes = new_is;
        kept = ap length new_is ∙ stored_length out at t;
      }

-- ---- all lines

lines_snoc : (k : ℕ) (a : List Settings) (s : Settings) (g : Signal)
    → line_texts k (a ++ (s ∷ [])) g ≡ line_texts k a g ++ noted_line (k + length a) g.readings (run_of s g).noted
lines_snoc k [] s g = append-nil _ ∙ ap (λ (i : ℕ). noted_line i g.readings (run_of s g).noted) (sym (add-zero k))
lines_snoc k (x ∷ a) s g =
    let e : suc k + length a ≡ k + suc (length a) = omega arith in
    ap (λ (l : List ℕ). noted_line k g.readings (run_of x g).noted ++ l)
    (lines_snoc (suc k) a s g ∙ ap (λ (i : ℕ). line_texts (suc k) a g ++ noted_line i g.readings (run_of s g).noted) e)
    ∙ sym (append_assoc (noted_line k g.readings (run_of x g).noted) (line_texts (suc k) a g) (noted_line (k + suc (length a)) g.readings (run_of s g).noted))

length_map : {A B : Type 0} (f : A → B) (l : List A) → length (map f l) ≡ length l
length_map f [] = refl
length_map f (x ∷ l) = ap suc (length_map f l)

-- the lines of the first i pairs
abbrev pub lines_of : List kept.Pair → Signal → ℕ → List ℕ
lines_of pairs g i = line_texts 1 (map pair_settings (take i pairs)) g

pub lines_more : (pairs : List kept.Pair) (g : Signal) (i : ℕ) (d : kept.Pair) → i < length pairs
    → lines_of pairs g i ++ noted_line (i + 1) g.readings (run_of (pair_settings (get_or pairs i d)) g).noted ≡ lines_of pairs g (i + 1)
lines_more pairs g i d h =
    let p : kept.Pair = get_or pairs i d in
    let a : take (i + 1) pairs ≡ take i pairs ++ (p ∷ []) = ap (λ (k : ℕ). take k pairs) (add-one i) ∙ take-suc pairs i d h in
    let l : 1 + length (map pair_settings (take i pairs)) ≡ i + 1 = omega (arith, length_map pair_settings (take i pairs), length-take-le i pairs (omega arith)) in
    sym (ap (λ (ps : List kept.Pair). line_texts 1 (map pair_settings ps) g) a
    ∙ ap (λ (ss : List Settings). line_texts 1 ss g) (map_snoc pair_settings (take i pairs) p)
    ∙ lines_snoc 1 (map pair_settings (take i pairs)) (pair_settings p) g
    ∙ ap (λ (k : ℕ). lines_of pairs g i ++ noted_line k g.readings (run_of (pair_settings p) g).noted) l)

-- ---- the whole

-- a line that fits is printed whole
refusal_fits : (t out new : List ℕ) (r : Result ℕ Refusal) → saved_told r new ≡ fitted t out → length t ≤ 256 → 256 ≤ length out
    → saved_told r new ≡ save_outcome 0 (length t) (over out t)
unfolding fitted
refusal_fits t out new r e few room = e ∙ rw (le-ltb (length out) (length t) (omega arith))

pub refusal_printed : (t out new : List ℕ) (r : Result ℕ Refusal) → saved_told r new ≡ fitted t out → length t ≤ 256 → 256 ≤ length out
    → (u : List ℕ) → t ≡ u → saved_told r new ≡ text_within 256 u out
unfolding text_within
refusal_printed t out new r e few room u q =
    refusal_fits t out new r e few room ∙ ap (λ (x : List ℕ). save_outcome 0 (length x) (over out x)) q ∙ sym (rw (le-ltb (length out) 256 room))

pub refusal_length : (t out new : List ℕ) (r : Result ℕ Refusal) → saved_told r new ≡ fitted t out → length t ≤ 256 → 256 ≤ length out → length new ≡ length out
    → IfOk r (λ n. n ≤ length new)
refusal_length t out new (Ok n) e few room z = let q : n ≡ length t = ap (λ (o : SaveOutcome). o.length) (refusal_fits t out new (Ok n) e few room) in omega arith
refusal_length t out new (Err k) e few room z = tt

pub no_short : (row : ℕ) → row ≤ whole_max → length (no_text row) ≤ 256
unfolding no_text
no_short row h = omega (arith, number_size 110 111 row, whole_short row h)

pub refusal_is : (t : List ℕ) (n : ℕ) → input_refused n ≡ input_of t → no_text n ≡ settle_of t
unfolding settle_of
refusal_is t n e = ap printed_by e

pub lines_are : (t : List ℕ) (r : Judged) → input_in (Ok r) ≡ input_of t → line_texts 1 (map pair_settings (take r.count r.pairs)) (signal_of r.signal) ≡ settle_of t
unfolding settle_of
lines_are t r e = ap printed_by e
