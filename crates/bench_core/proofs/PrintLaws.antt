-- What is printed fits the room of a step. Assumes nothing.
use Prim.Native.Nat.{ℕ, zero, suc, ◌+◌, ◌≤◌, min}
use native.Mathlib.Nat.{mul-le-mul, min-le_left}
use native.Mathlib.Omega.{arith}
use mathlib.Core.Path.{◌≡◌, refl, sym, ap, ◌∙◌}
use mathlib.Core.Bool.{Bool, true, false, cond, ◌||◌, false≢true}
use mathlib.Core.List.{List, [], ◌∷◌}
use borrow.Author.Tests.{le-ltb, ltb-false}
use lib.Dec.{ltb}
use lib.ListN.{length, take, length-take}
use Rattle.std.specs.Prelude.{Result, Ok, Err}
use Rattle.std.specs.Result.{result_unwrap_or}
use Rattle.std.proofs.lemmas.List.{take_min}
use Rattle.refusal.specs.declared.Refusal.{Refusal}
use lib.Ieee.{Float}
use Rattle.refusal.specs.Lent.{over}
use Rattle.trcf.specs.Types.{augments}
use Rattle.trcf.specs.Settings.{Settings, block, dimension, whole_max}
use Rattle.trcf.specs.View.{settings_of, head_row, head_table}
use Rattle.trcf.specs.Preprocessor.{accepted}
use Rattle.trcf.specs.declared.head.Preprocessor.{Preprocessor}
use Rattle.snapshot.specs.Text.{singles}
use Rattle.snapshot.specs.Read.{bytes_of_line}
use Rattle.snapshot.specs.Save.{SaveOutcome, save_outcome, saved_told, fitted}
use Rattle.snapshot.proofs.Accepted.{clear}
use Rattle.snapshot.proofs.WriteLaws.{whole_short}
use Rattle.snapshot.proofs.SaveLaws.{wide_of}
use Rattle.snapshot.proofs.PairLines.{pair_size, number_size}
use Rattle.bench_core.specs.Bench.{output, prints, no_text, point_text, dimension_of}

-- a line that fits is printed whole
pub printed : (t out : List ℕ) {new : List ℕ} {row n : ℕ} → length t ≤ length out → save_outcome row n new ≡ fitted t out → output n new ≡ prints t out
unfolding fitted prints
printed t out {new} {row} {n} h e =
    let q : fitted t out ≡ save_outcome 0 (length t) (over out t) = rw (le-ltb (length out) (length t) h) in
    ap (λ (o : SaveOutcome). output o.length o.bytes) (e ∙ q)

-- … by what the call that prints it answers
pub told : (t out : List ℕ) {new : List ℕ} {n : ℕ} (r : Result ℕ Refusal) → length t ≤ length out → saved_told r new ≡ fitted t out → n ≡ result_unwrap_or r 0
    → output n new ≡ prints t out
told t out {new} (Ok m) h e q = ap (λ (k : ℕ). output k new) q ∙ printed t out h e
told t out {new} (Err k) h e q = ap (λ (k : ℕ). output k new) q ∙ printed t out h e

pub no_fits : (row : ℕ) → row ≤ whole_max → length (no_text row) ≤ 24
unfolding no_text
no_fits row h = omega (arith, number_size 110 111 row, whole_short row h)

or_false : (a b : Bool) → a || b ≡ false → (a ≡ false) × (b ≡ false)
or_false false b e = (refl, e)
or_false true b e = absurd (false≢true (sym e))

few : (s : Settings) → head_row s ≡ 0 → dimension s ≤ 1088
unfolding head_row dimension block
few s e =
    let k = clear (head_table s) refl e in
    let q = or_false (ltb 16 s.d) (ltb 64 s.k) k.1.1.0 in
    let p : s.d ≤ 16 = ltb-false _ _ q.0 in
    let w : cond (augments s.mode) 1 0 ≤ 1 = wide_of (augments s.mode) _ refl in
    let b : s.d + cond (augments s.mode) 1 0 ≤ 17 = omega arith in
    let r : s.k ≤ 64 = ltb-false _ _ q.1 in
    mul-le-mul b r

dimension_few : (h : Preprocessor) → dimension_of h ≤ 1088
unfolding dimension_of
dimension_few h = go (head_row (settings_of h)) refl
  where
    go : (r : ℕ) → head_row (settings_of h) ≡ r → accepted r (dimension (settings_of h)) 0 ≤ 1088
    go zero e = few (settings_of h) e
    go (suc r) e = omega arith

pub point_fits_lem : (h : Preprocessor) (y : List Float) → length (point_text (take (dimension_of h) y)) ≤ 9795
unfolding point_text
point_fits_lem h y =
    omega (arith, pair_size 112 116 (take (dimension_of h) y), length-take (dimension_of h) y, min-le_left (dimension_of h) (length y), dimension_few h)

-- a point of which no more than is in use is printed
pub point_line : (h : Preprocessor) (y : List Float) (out : List ℕ) (a n : ℕ) {new : List ℕ} {m : ℕ} (r : Result ℕ Refusal) → 65536 ≤ length out
    → a ≡ dimension_of h → n ≡ min a (length y)
    → saved_told r new ≡ fitted (bytes_of_line (singles (112 ∷ 116 ∷ []) (take n y))) out → m ≡ result_unwrap_or r 0
    → output m new ≡ prints (point_text (take (dimension_of h) y)) out
unfolding point_text
point_line h y out a n r g d q e w =
    let k : take n y ≡ take (dimension_of h) y = ap (λ (i : ℕ). take i y) q ∙ take_min a y ∙ ap (λ (i : ℕ). take i y) d in
    let f : fitted (bytes_of_line (singles (112 ∷ 116 ∷ []) (take n y))) out ≡ fitted (point_text (take (dimension_of h) y)) out =
    ap (λ (v : List Float). fitted (bytes_of_line (singles (112 ∷ 116 ∷ []) v)) out) k in
    told (point_text (take (dimension_of h) y)) out r (omega (arith, point_fits_lem h y)) (e ∙ f) w
