-- What each call line leaves, from what the call promises. Assumes nothing.
use Prim.Native.Nat.{ℕ}
use mathlib.Core.Path.{◌≡◌, refl, sym, ap, ◌∙◌}
use mathlib.Core.Bool.{Bool, true, false}
use mathlib.Core.List.{List, [], ◌∷◌}
use lib.IntN.{pos}
use lib.ListN.{take, replicate}
use lib.Ieee.{Float}
use denote.Bor.{Bor}
use Rattle.std.specs.Prelude.{Option, Ok, Err, is_some}
use Rattle.std.specs.Bool.{then_some}
use Rattle.refusal.specs.declared.Refusal.{Refusal}
use Rattle.refusal.specs.Refusal.{number_of}
use Rattle.refusal.proofs.RefusalLaws.{refused_is}
use Rattle.trcf.specs.Transformer.{zero32}
use Rattle.trcf.specs.Calls.{Learn}
use Rattle.trcf.proofs.OutcomeLaws.{accepted_not}
use Rattle.trcf.specs.View.{Lent, Outcome, outcome, drain_of, pointed, point_after, LearnOutcome, processed_outcome, learn_nothing, learn_after, learn_call}
use Rattle.trcf.specs.declared.head.Preprocessor.{Preprocessor}
use Rattle.trcf.specs.declared.head.PostProcessed.{PostProcessed}
use Rattle.trcf_learn.specs.Given.{list_in}
use Rattle.snapshot.specs.Save.{save_of, save_outcome as saved}
use Rattle.access.specs.declared.rights.Right.TheVariants.{SEE, LEARN, SAVE}
use Rattle.access.specs.Access.{every_right}
use Rattle.access.specs.Entries.{point_by, learn_by, drain_by, save_by}
use Rattle.access.proofs.Laws.{as_every}
use Rattle.bench_core.specs.Bench.{Output, output, prints, no_text, ok_text, none_text, done_text, point_text, dimension_of, CallResult, call_result, call_printed, prints_call, point_result_by}
use Rattle.bench_core.specs.Bench.{point_result, learn_result, drain_result, save_printed, save_prints}

-- the text of a refusal
refused_text : (k : Refusal) → no_text (number_of k) ≡ done_text (number_of k)
unfolding done_text
refused_text k = sym (refused_is k (number_of k) ok_text (no_text (number_of k)) refl)

-- a list that is given, or none
pub same_learn : (x : List Float) (t : ℕ) (g : Bool) (s : Option (Bor (List Float))) (v : Bor (List Float)) (u a b c : List Float) → s ≡ then_some g v → v.now ≡ u
    → learn_call x t (is_some s) (list_in s) false [] zero32 (pos 0) a b c ≡ learn_call x t g u false [] zero32 (pos 0) a b c
same_learn x t g s v u a b c q w =
    ap (λ (o : Option (Bor (List Float))). learn_call x t (is_some o) (list_in o) false [] zero32 (pos 0) a b c) q
    ∙ given g
    ∙ ap (λ (n : List Float). learn_call x t g n false [] zero32 (pos 0) a b c) w
  where
    given : (p : Bool) → learn_call x t (is_some (then_some p v)) (list_in (then_some p v)) false [] zero32 (pos 0) a b c ≡ learn_call x t p v.now false [] zero32 (pos 0) a b c
    given true = refl
    given false = refl

-- the table has every right, so the guarded calls are the ones below
point_below : (table : List ℕ) → table ≡ every_right → (h : Preprocessor) (l : Lent) (x : List Float) (t : ℕ) (y : List Float)
    → point_by table 0 h l x t y ≡ point_after h l x t y
point_below table every h l x t y = as_every table (SEE ∷ LEARN ∷ []) (point_after h l x t y) (pointed 22 false h l y) every

module _ (table : List ℕ) (every : table ≡ every_right) (h : Preprocessor) (g : Bool) (l : Lent) (out : List ℕ) {l' : Lent} where
  drain_turn : (y : List Float) {row : ℕ} {n : Preprocessor} → outcome row n l' ≡ drain_by table 0 h l
      → prints_call (call_result n g l' y (done_text row)) out ≡ prints_call (drain_result h g l y) out
  unfolding drain_result
  drain_turn y e =
      ap (λ (q : Outcome). prints_call (call_result q.head g q.lent y (done_text q.row)) out) (e ∙ as_every table (LEARN ∷ []) (drain_of h l) (outcome 22 h l) every)

  pub drain_accepted : (y : List Float) (n : Preprocessor) → outcome 0 n l' ≡ drain_by table 0 h l
      → prints_call (call_result n g l' y ok_text) out ≡ prints_call (drain_result h g l y) out
  unfolding done_text
  drain_accepted y n e = drain_turn y e

  pub drain_refused : (y : List Float) (k : Refusal) → outcome (number_of k) h l' ≡ drain_by table 0 h l
      → prints_call (call_result h g l' y (no_text (number_of k))) out ≡ prints_call (drain_result h g l y) out
  drain_refused y k e = ap (λ (t : List ℕ). prints_call (call_result h g l' y t) out) (refused_text k) ∙ drain_turn y e

  module _ (x : List Float) (t : ℕ) (y : List Float) {y' : List Float} where
    pub point_refused : (k : Refusal) → pointed (number_of k) false h l' y' ≡ point_by table 0 h l x t y
        → prints_call (call_result h g l' y' (no_text (number_of k))) out ≡ prints_call (point_result h g l y x t) out
    unfolding point_result
    point_refused k e =
        let q = sym (refused_is k (number_of k) _ (call_result h g l' y' (no_text (number_of k))) refl) ∙ ap (point_result_by g) (e ∙ point_below table every h l x t y) in
        ap (λ (v : CallResult). prints_call v out) q

    pub point_absent : (n : Preprocessor) {f : Bool} {o : Output} → pointed 0 f n l' y' ≡ point_by table 0 h l x t y → f ≡ false → o ≡ prints none_text out
        → call_printed n g l' y' o ≡ prints_call (point_result h g l y x t) out
    unfolding point_result
    point_absent n e f p =
        let q = ap (point_result_by g) ((λ j. pointed 0 (sym f j) n l' y') ∙ e ∙ point_below table every h l x t y) in
        (λ j. call_printed n g l' y' (p j)) ∙ ap (λ (v : CallResult). prints_call v out) q

    pub point_given_lem : (n : Preprocessor) {f : Bool} {o : Output} → pointed 0 f n l' y' ≡ point_by table 0 h l x t y → f ≡ true
        → o ≡ prints (point_text (take (dimension_of n) y')) out
        → call_printed n true l' y' o ≡ prints_call (point_result h g l y x t) out
    unfolding point_result
    point_given_lem n e f p =
        let q = ap (point_result_by g) ((λ j. pointed 0 (sym f j) n l' y') ∙ e ∙ point_below table every h l x t y) in
        (λ j. call_printed n true l' y' (p j)) ∙ ap (λ (v : CallResult). prints_call v out) q

module _ (table : List ℕ) (every : table ≡ every_right) (h : Preprocessor) (g : Bool) (l : Lent) (out : List ℕ) (x : List Float) (t : ℕ) (y : List Float) (c : Learn)
    (m : c ≡ learn_call x t g (take (dimension_of h) y) false [] zero32 (pos 0) (replicate 17 zero32) (replicate 1 zero32) (replicate 1 zero32)) where
  learn_turn : (o : LearnOutcome) → o ≡ learn_by table 0 h l c → prints_call (call_result o.head g o.lent y (done_text o.row)) out ≡ prints_call (learn_result h g l y x t) out
  unfolding learn_result
  learn_turn o e =
      ap (λ (o : LearnOutcome). prints_call (call_result o.head g o.lent y (done_text o.row)) out)
      (e ∙ as_every table (LEARN ∷ []) (learn_after h l c) (learn_nothing 22 h l c) every ∙ ap (learn_after h l) m)

  pub learn_accepted : (p : PostProcessed) {l' : Lent} {dv ps ex : List Float} → processed_outcome (Ok p) h l' dv ps ex ≡ learn_by table 0 h l c
      → prints_call (call_result p.head g l' y ok_text) out ≡ prints_call (learn_result h g l y x t) out
  unfolding done_text
  learn_accepted p {l'} {dv} {ps} {ex} e = learn_turn (processed_outcome (Ok p) h l' dv ps ex) e

  pub learn_refused : (k : Refusal) {l' : Lent} {dv ps ex : List Float} → processed_outcome (Err k) h l' dv ps ex ≡ learn_by table 0 h l c
      → prints_call (call_result h g l' y (no_text (number_of k))) out ≡ prints_call (learn_result h g l y x t) out
  learn_refused k {l'} {dv} {ps} {ex} e =
      ap (λ (u : List ℕ). prints_call (call_result h g l' y u) out) (refused_text k) ∙ learn_turn (processed_outcome (Err k) h l' dv ps ex) e

pub save_refused : (table : List ℕ) → table ≡ every_right → (h : Preprocessor) (l : Lent) (out : List ℕ) {new : List ℕ} {row n : ℕ} {o : Output}
    → saved row n new ≡ save_by table 0 h l out → (row ≡ 0 → ⊥) → o ≡ prints (no_text row) new → o ≡ save_prints h l out
unfolding save_prints
save_refused table every h l out {new} {row} {n} e z p =
    p ∙ sym (accepted_not row (output n new) (prints (no_text row) new) z) ∙ ap save_printed (e ∙ as_every table (SAVE ∷ []) (save_of h l out) (saved 22 0 out) every)

pub save_done : (table : List ℕ) → table ≡ every_right → (h : Preprocessor) (l : Lent) (out : List ℕ) {new : List ℕ} {row n : ℕ}
    → saved row n new ≡ save_by table 0 h l out → row ≡ 0 → output n new ≡ save_prints h l out
unfolding save_prints
save_done table every h l out {new} {row} {n} e z =
    ap save_printed ((λ j. saved (sym z j) n new) ∙ e ∙ as_every table (SAVE ∷ []) (save_of h l out) (saved 22 0 out) every)
