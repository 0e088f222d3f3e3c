-- How the transformer's calls answer, by the number of the row that refuses them.
use Prim.Native.Nat.{ℕ, zero, suc, ◌*◌, ◌≤◌}
use mathlib.Core.Path.{◌≡◌, refl, sym, ap, ◌∙◌}
use mathlib.Core.List.{List, ◌++◌}
use native.Mathlib.Omega.{arith}
use lib.ListN.{length, take, drop, replicate, length-replicate}
use lib.Seq.{length-take-le}
use lib.Ieee.{Float}
use Rattle.std.specs.Prelude.{Result, Ok, Err}
use Rattle.std.specs.Result.{IsErrAnd}
use Rattle.refusal.specs.declared.Refusal.{Refusal}
use Rattle.refusal.specs.Refusal.{number_of, row_of, accepted}
use Rattle.refusal.proofs.RefusalLaws.{handed_on}
use Rattle.ranges.specs.RangeVector.{Ranges, range_outcome, range_answer}
use Rattle.ranges.proofs.RangeSteps.{refused, done}
use Rattle.trcf.proofs.NumberLaws.{number_zero, handed_not}
use Rattle.refusal.specs.Lent.{over}
use Rattle.trcf.specs.Transformer.{updated}
use Rattle.trcf.specs.TransformerCalls.{Made, made, made_from, transformer_output, transformer_answer, own}
use Rattle.trcf.specs.declared.transformer.WeightedTransformer.{WeightedTransformer}
use Rattle.trcf.proofs.TransformerLaws.{updated_length}

written_refused : (r n : ℕ) (l a : List Float) → r ≡ n → (r ≡ 0 → ⊥) → transformer_output r l ≡ transformer_answer n l a
written_refused r zero l a e taken = absurd (taken e)
written_refused r (suc n) l a e taken = ap (λ (k : ℕ). transformer_output k l) e

made_refused : (r n : ℕ) (h : WeightedTransformer) (l : List Float) (done : Made) → r ≡ n → (r ≡ 0 → ⊥) → made r h l ≡ accepted n done (made n h l)
made_refused r zero h l done e taken = absurd (taken e)
made_refused r (suc n) h l done e taken = ap (λ (k : ℕ). made k h l) e

-- a call of which a row refuses nothing
pub written_done : (n : ℕ) (l a o : List Float) → 0 ≡ n → o ≡ over l a → transformer_output 0 o ≡ transformer_answer n l a
written_done zero l a o e h = ap (transformer_output 0) h
written_done (suc n) l a o e h = absurd (omega arith)

pub made_done : (n : ℕ) (refused : Made) (t u : WeightedTransformer) (l m : List Float) → 0 ≡ n → t ≡ u → l ≡ m → made 0 t l ≡ accepted n (made 0 u m) refused
made_done zero refused t u l m e h p = λ i. made 0 (h i) (p i)
made_done (suc n) refused t u l m e h p = absurd (omega arith)

pub ranges_done : (n : ℕ) (old new left : Ranges) → 0 ≡ n → left ≡ new → range_outcome 0 left ≡ range_answer n old new
ranges_done n old new left e h = done 0 n old new left e refl h

-- what `?` hands on
pub written_err : (e : Refusal) (r : Result (Unit {0}) Refusal) (n : ℕ) (l a : List Float) → IsErrAnd r (λ d. d ≡ e) → number_of e ≡ n
    → transformer_output (row_of r) l ≡ transformer_answer n l a
written_err e r n l a h k = written_refused (row_of r) n l a (handed_on e r h ∙ k) (handed_not e r h)

pub made_err : (e : Refusal) (r : Result WeightedTransformer Refusal) (n : ℕ) (t : WeightedTransformer) (l : List Float) (done : Made) → IsErrAnd r (λ d. d ≡ e) → number_of e ≡ n
    → made_from r t l ≡ accepted n done (made n t l)
made_err e (Ok a) n t l done h k = absurd h
made_err e (Err d) n t l done h k = made_refused (number_of d) n t l done (ap number_of h ∙ k) (number_zero d)

pub ranges_err : (e : Refusal) (r : Result (Unit {0}) Refusal) (n : ℕ) (old new : Ranges) → IsErrAnd r (λ d. d ≡ e) → number_of e ≡ n
    → range_outcome (row_of r) old ≡ range_answer n old new
ranges_err e r n old new h k = refused (row_of r) n old new (handed_on e r h ∙ k) (handed_not e r h)

-- the front of a list, filled
pub cleared : (n : ℕ) (l ys : List Float) (x : Float) → n ≤ length l → ys ≡ replicate (length (take n l)) x → ys ++ drop n l ≡ over l (replicate n x)
unfolding over
cleared n l ys x h e =
    let k : length (take n l) ≡ n = length-take-le n l h in
    ap (λ (q : List Float). q ++ drop n l) (e ∙ ap (λ (m : ℕ). replicate m x) k)
    ∙ ap (λ (m : ℕ). replicate n x ++ drop m l) (sym (length-replicate n x))

-- and put back
pub updated_over : (h : WeightedTransformer) (l x p new : List Float) → 15 * h.input_length ≤ length l → new ≡ updated (own h l) x p
    → new ++ drop (15 * h.input_length) l ≡ over l (updated (own h l) x p)
unfolding over
updated_over h l x p new room e =
    let n : length (updated (own h l) x p) ≡ 15 * h.input_length = updated_length (own h l) x p ∙ length-take-le (15 * h.input_length) l room in
    rw (e, n)
