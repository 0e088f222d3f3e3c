-- What `restore` over lent words is, by the promises of `restore`, of the words and of the place of the line.
use Prim.Native.Nat.{ℕ, ◌≤◌, ◌<◌}
use native.Mathlib.Omega.{arith}
use mathlib.Core.Path.{◌≡◌, refl, sym, ap, ◌∙◌}
use mathlib.Core.Bool.{Bool, true, false, ◌||◌, cond}
use mathlib.Core.List.{List, [], ◌∷◌}
use lib.ListN.{length}
use lib.Dec.{ltb, eqb}
use borrow.Author.Tests.{lt-ltb, le-ltb, ltb-false}
use Rattle.refusal.specs.Lent.{over}
use Rattle.trcf.specs.Preprocessor.{State, accepted, statistics_length}
use Rattle.trcf.specs.View.{Lent, lent_short, no_head}
use Rattle.trcf.specs.declared.head.Preprocessor.{Preprocessor}
use Rattle.snapshot.specs.Read.{taken, same, read}
use Rattle.snapshot.specs.Restore.{RestoreOutcome, restore_outcome, restored, restore_of}
use Rattle.snapshot.proofs.RoundTrip.{restored_only}
use Rattle.snapshot_restore.specs.declared.restore.RestoreError.{RestoreError}
use Rattle.snapshot_restore.specs.declared.restore.RestoreError.TheVariants.{Form, Refused}
use Rattle.snapshot_restore.specs.Told.{row_told}
use Rattle.trcf.proofs.NumberLaws.{number_zero}
use Rattle.capi.specs.Head.{words_of}
use Rattle.access.specs.declared.rights.Right.TheVariants.{RESTORE}
use Rattle.access.specs.Access.{granted}
use Rattle.access.specs.Entries.{restore_by}
use Rattle.capi.specs.Restore.{RestoreCalled, restore_called, nothing, restore_into, restore_at}

-- a text that is not taken up has a row
pub told_not : (e : RestoreError) → row_told e ≡ 0 → ⊥
told_not (Form b) z = absurd (omega (arith, z))
told_not (Refused r) z = number_zero r z

-- ---- by the words

module _ (t cs w : List ℕ) (l : Lent) (line : ℕ) {row bad : ℕ} {h : Preprocessor} {l' : Lent} {n : ℕ} where
  few : length w < 44 → restore_outcome row bad h l' ≡ restore_of t cs nothing → n ≡ cond (eqb row 19) bad line → restore_called row w l n ≡ restore_into t cs w l line
  unfolding restore_into
  few f p q = rw (lt-ltb (length w) 44 f, sym p) (ap (restore_called row w l) q)

  all : {w' : List ℕ} → 44 ≤ length w → restore_outcome row bad h l' ≡ restore_of t cs l → w' ≡ accepted row (over w (words_of h)) w → n ≡ cond (eqb row 19) bad line
      → restore_called row w' l' n ≡ restore_into t cs w l line
  unfolding restore_into
  all f p r q = rw (le-ltb (length w) 44 f, sym p) (λ j. restore_called row (r j) l' (q j))

-- ---- by the table

module _ (table : List ℕ) (role : ℕ) (t cs w : List ℕ) (l : Lent) (line : ℕ) {b : Bool} (m : b ≡ granted table role (RESTORE ∷ [])) where
  pub restore_withheld : b ≡ false → restore_called 22 w l line ≡ restore_at table role t cs w l line
  restore_withheld e = ap (λ (x : Bool). cond x (restore_into t cs w l line) (restore_called 22 w l line)) (sym e ∙ m)

  -- what the guarded entry gives is what the one below gives
  below : b ≡ true → (k : Lent) {o : RestoreOutcome} → o ≡ restore_by table role t cs k → o ≡ restore_of t cs k
  below e k p = p ∙ ap (λ (x : Bool). cond x (restore_of t cs k) (restore_outcome 22 0 no_head k)) (sym m ∙ e)

  into : b ≡ true → {o : RestoreCalled} → o ≡ restore_into t cs w l line → o ≡ restore_at table role t cs w l line
  into e p = p ∙ ap (λ (x : Bool). cond x (restore_into t cs w l line) (restore_called 22 w l line)) (sym e ∙ m)

  module _ (e : b ≡ true) {row bad : ℕ} {h : Preprocessor} {l' : Lent} {n : ℕ} where
    pub restore_few : length w < 44 → restore_outcome row bad h l' ≡ restore_by table role t cs nothing → n ≡ cond (eqb row 19) bad line
        → restore_called row w l n ≡ restore_at table role t cs w l line
    restore_few f p q = into e (few t cs w l line f (below e nothing p) q)

    pub restore_done : {w' : List ℕ} → 44 ≤ length w → restore_outcome row bad h l' ≡ restore_by table role t cs l → w' ≡ accepted row (over w (words_of h)) w
        → n ≡ cond (eqb row 19) bad line → restore_called row w' l' n ≡ restore_at table role t cs w l line
    restore_done f p r q = into e (all t cs w l line f (below e l p) r q)

-- "(27: codes differ from those expected, in number or value; after 19 …)": before 20, so however many words there are, and all is left as it was
pub other_codes : (table : List ℕ) (role : ℕ) → granted table role (RESTORE ∷ []) ≡ true → (t cs w : List ℕ) (l : Lent) (line : ℕ) (v : State)
    → read t ≡ taken v → same v.settings.codes cs ≡ false → restore_at table role t cs w l line ≡ restore_called 27 w l line
unfolding restore_into restore_of restored
other_codes table role g t cs w l line v e f = rw (g, e, f) (either (ltb (length w) 44))
  where
    either : (b : Bool) → cond b (restore_called 27 w l line) (restore_called 27 w l line) ≡ restore_called 27 w l line
    either true = refl
    either false = refl

-- with too few words no text is taken up
pub few_refuses : (t cs : List ℕ) → (restore_of t cs nothing).row ≡ 0 → ⊥
unfolding lent_short
few_refuses t cs e =
    let k = restored_only t cs nothing e in
    let s = k.state.settings in
    let h = ltb-false 0 (statistics_length s) (or_left (ltb 0 (statistics_length s)) _ k.room) in
    absurd (omega (arith, h))
  where
    or_left : (a b : Bool) → a || b ≡ false → a ≡ false
    or_left true b h = h
    or_left false b h = refl
