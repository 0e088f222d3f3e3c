-- `access::calls::post_process` meets its contract: what the demand answers, or the promise of the entry below. Assumes nothing.
use Prim.Native.Nat.{ℕ}
use mathlib.Core.Bool.{Bool, true, false, cond}
use mathlib.Core.List.{List, [], ◌∷◌}
use mathlib.Core.Path.{◌≡◌, ap, ◌∙◌}
use Rattle.std.specs.Prelude.{Err}
use Rattle.refusal.specs.Refusal.{number_of}
use Rattle.refusal.specs.declared.Refusal.{Refusal}
use Rattle.refusal.specs.declared.Refusal.TheVariants.{Withheld}
use Rattle.trcf.specs.Calls.{Learn}
use Rattle.trcf.specs.Preprocessor.{learned_nothing}
use Rattle.trcf.specs.Transformer.{zero32}
use Rattle.trcf.specs.View.{Lent, learn_outcome, learn_nothing, learn_after}
use Rattle.trcf.specs.declared.head.Preprocessor.{Preprocessor}
use Rattle.trcf.proofs.NumberLaws.{processed_err}
use Rattle.access.specs.declared.rights.Right.TheVariants.{LEARN}
use Rattle.access.specs.Access.{granted, allowed}
use Rattle.access.specs.Entries.{learn_by}
use Rattle.access.proofs.calls.post_process.Goals as goal

-- a learn that is refused by the demand is one whose right is withheld
withheld : (t : List ℕ) (role : ℕ) (h : Preprocessor) (l : Lent) (c : Learn) (e : Refusal) → Err e ≡ allowed (granted t role (LEARN ∷ []))
    → learn_outcome (number_of e) false false 0 zero32 h l c.deviations_out c.past_out c.expected_out ≡ learn_by t role h l c
unfolding learned_nothing
withheld t role h l c e q = go (granted t role (LEARN ∷ [])) q
  where
    go : (b : Bool) → Err e ≡ allowed b
        → learn_outcome (number_of e) false false 0 zero32 h l c.deviations_out c.past_out c.expected_out ≡ cond b (learn_after h l c) (learn_nothing 22 h l c)
    go true k = absurd (cc)
    go false k =
        let w : e ≡ Withheld = cc in
        ap (λ (r : Refusal). learn_outcome (number_of r) false false 0 zero32 h l c.deviations_out c.past_out c.expected_out) w

pub returns-in_err-demand : goal.returns-in_err-demand
returns-in_err-demand c =
    processed_err _ c.args.head _ c.from_residual.result _ _ _ c.from_residual.ensures.1
    ∙ withheld c.args.table.now c.args.role c.args.head _ _ _ c.in_err-demand.ensures
