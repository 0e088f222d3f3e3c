-- Isolation (#105). Assumes nothing.
use Prim.Native.Nat.{ℕ}
use mathlib.Core.Path.{◌≡◌, sym, ap, ◌∙◌}
use mathlib.Core.Bool.{Bool, false, cond}
use mathlib.Core.List.{List, [], ◌∷◌}
use Rattle.trcf.specs.Calls.{shingled_point, post_process, drain, invert_extrapolation, status}
use Rattle.trcf.specs.View.{Lent, no_head, Outcome, outcome, drain_of, pointed, point_after, learn_nothing, learn_after, written, write_of, status_given, status_after}
use Rattle.trcf.specs.Extrapolation.{extrapolation, extrapolation_of}
use Rattle.std.specs.Prelude.{Ok, Err}
use Rattle.refusal.specs.declared.Refusal.TheVariants.{Withheld as Shut}
use Rattle.trcf.specs.declared.head.Preprocessor.{Preprocessor}
use Rattle.snapshot.specs.Save.{save_of, save_outcome as saved}
use Rattle.snapshot.specs.Restore.{restore_of, restore_outcome as restored}
use Rattle.access.specs.declared.rights.Right.{Right}
use Rattle.access.specs.declared.rights.Right.TheVariants.{SEE, SAVE, RESTORE}
use Rattle.access.specs.Access.{needs, granted, guarded}
use Rattle.access.specs.Entries.{withheld_status, status_numbers}
use Rattle.access.specs.Isolation.{Withheld, Isolated, Isolation, point_shown, learn_shown}

module _ {A : Type 0} where
  -- what is withheld is what was said for it
  pub shut : (t : List ℕ) (role : ℕ) (rs : List Right) (below withheld : A) → granted t role rs ≡ false → guarded t role rs below withheld ≡ withheld
  shut t role rs below withheld e = ap (λ (b : Bool). cond b below withheld) e

  -- whatever stands below
  pub alike : (t : List ℕ) (role : ℕ) (rs : List Right) (x y withheld : A) → granted t role rs ≡ false
      → guarded t role rs x withheld ≡ guarded t role rs y withheld
  alike t role rs x y withheld e = shut t role rs x withheld e ∙ sym (shut t role rs y withheld e)

pub withheld : (t : List ℕ) (role : ℕ) → Withheld t role
withheld t role =
    record {
      points = λ h l x n out e. shut t role (needs (shingled_point x n out)) (point_after h l x n out) (pointed 22 false h l out) e;
      learns = λ h l c e. shut t role (needs (post_process c)) (learn_after h l c) (learn_nothing 22 h l c) e;
      drains = λ h l e. shut t role (needs drain) (drain_of h l) (outcome 22 h l) e;
      writes = λ h l c f out e. shut t role (needs c) (write_of h l c f out) (written 22 out) e;
      extrapolates = λ h st x ts c e. shut t role (needs (invert_extrapolation c)) (extrapolation_of h st x ts c) (extrapolation 22 c) e;
      tells = λ h l out e. shut t role (needs (status out)) (status_after h l out) (status_given withheld_status out) e;
      saves = λ h l out e. shut t role (SAVE ∷ []) (save_of h l out) (saved 22 0 out) e;
      restores = λ text codes l e. shut t role (RESTORE ∷ []) (restore_of text codes l) (restored 22 0 no_head l) e;
    }

module _ (t : List ℕ) (role : ℕ) (h g : Preprocessor) (l m : Lent) where
  pub isolated : Isolated t role h g l m
  isolated =
      let w = withheld t role in
      record {
        points = λ x n out e. ap point_shown (w.points h l x n out e) ∙ sym (ap point_shown (w.points g m x n out e));
        learns = λ c e. ap learn_shown (w.learns h l c e) ∙ sym (ap learn_shown (w.learns g m c e));
        drains = λ e. ap (λ (o : Outcome). o.row) (w.drains h l e) ∙ sym (ap (λ (o : Outcome). o.row) (w.drains g m e));
        writes = λ c f out e. w.writes h l c f out e ∙ sym (w.writes g m c f out e);
        extrapolates = λ st sy x y ts us c e. w.extrapolates h st x ts c e ∙ sym (w.extrapolates g sy y us c e);
        tells = λ out e. w.tells h l out e ∙ sym (w.tells g m out e);
        numbers = λ e. alike t role (SEE ∷ []) (Ok (status_numbers h)) (Ok (status_numbers g)) (Err Shut) e;
        counts = λ a b e. alike t role (SEE ∷ []) (Ok a) (Ok b) (Err Shut) e;
        readies = λ a b e. alike t role (SEE ∷ []) (Ok a) (Ok b) (Err Shut) e;
        methods = λ a b e. alike t role (SEE ∷ []) (Ok a) (Ok b) (Err Shut) e;
        modes = λ a b e. alike t role (SEE ∷ []) (Ok a) (Ok b) (Err Shut) e;
        saves = λ out e. w.saves h l out e ∙ sym (w.saves g m out e);
        restores = λ x y codes e. w.restores x codes l e ∙ sym (w.restores y codes l e);
      }

pub isolation : Isolation
isolation = record { withheld = withheld; isolated = isolated }
