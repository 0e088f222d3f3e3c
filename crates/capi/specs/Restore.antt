-- `restore` over lent words: the head into its words, the bad line into its place. Row 20 of too few words stands with row 20 of the lists, after rows 19
-- and 27; 22 stands before all of them.
use Rattle.std.specs.Prelude.{ℕ, cond, List, [], ◌∷◌, length, ltb, eqb}
use Rattle.refusal.specs.Lent.{over}
use Rattle.trcf.specs.Preprocessor.{accepted}
use Rattle.trcf.specs.View.{Lent, lent}
use Rattle.snapshot.specs.Restore.{RestoreOutcome, restore_of}
use Rattle.access.specs.declared.rights.Right.TheVariants.{RESTORE}
use Rattle.access.specs.Access.{guarded}
use Rattle.capi.specs.Head.{words_of}
use Rattle.capi.specs.Calls.{Called, called}

pub record RestoreCalled : Type 0 where
  pub called : Called
  pub line : ℕ

-- the place of the line is written with row 19 only
abbrev pub restore_called : ℕ → List ℕ → Lent → ℕ → RestoreCalled
restore_called n w l line = record { called = called n w l; line = line }

abbrev pub line_told : RestoreOutcome → ℕ → ℕ
line_told o line = cond (eqb o.row 19) o.line line

-- lists that are too short for every text
abbrev pub nothing : Lent
nothing = lent [] [] [] [] [] []

-- the text, the codes that are expected, the words, what is lent and the place of the line
unfoldable pub restore_into : List ℕ → List ℕ → List ℕ → Lent → ℕ → RestoreCalled
restore_into t cs w l line =
    let o = restore_of t cs l in
    let few = restore_of t cs nothing in
    cond (ltb (length w) 44)
    (restore_called few.row w l (line_told few line))
    (restore_called o.row (accepted o.row (over w (words_of o.head)) w) o.lent (line_told o line))

-- with the table and the role before them: where it is withheld, neither the text nor the words are looked at
abbrev pub restore_at : List ℕ → ℕ → List ℕ → List ℕ → List ℕ → Lent → ℕ → RestoreCalled
restore_at table role t cs w l line = guarded table role (RESTORE ∷ []) (restore_into t cs w l line) (restore_called 22 w l line)
