-- `restore` (document 01: taken up): "taken up exactly when it has 01's form"; 19 with the bad line, 27 for other codes than are expected, 20 for what is lent.
use Rattle.std.specs.Prelude.{ℕ, cond, not, List}
use Rattle.trcf.specs.View.{Lent, lent_short, head_from, no_head, counted, written_over}
use Rattle.trcf.specs.declared.head.Preprocessor.{Preprocessor}
use Rattle.snapshot.specs.Read.{Read, taken, bad, same, read}

-- ---- what `restore` gives: row, bad line, head and the lent lists afterwards

pub record RestoreOutcome : Type 0 where
  pub row : ℕ
  pub line : ℕ
  pub head : Preprocessor
  pub lent : Lent

abbrev pub restore_outcome : ℕ → ℕ → Preprocessor → Lent → RestoreOutcome
restore_outcome row line h l = record { row = row; line = line; head = h; lent = l }

-- 19 with the bad line; 27 where the codes are not those expected, "in number or value"; 20 where a lent list is too short; each leaves all as it was.
-- Else the state that was read, "whatever they held before".
unfoldable pub restored : Read → List ℕ → Lent → RestoreOutcome
restored (bad n) cs l = restore_outcome 19 n no_head l
restored (taken w) cs l =
    cond (not (same w.settings.codes cs)) (restore_outcome 27 0 no_head l)
    (cond (lent_short w.settings l) (restore_outcome 20 0 no_head l) (restore_outcome 0 0 (counted (head_from w.settings) w) (written_over w l)))

unfoldable pub restore_of : List ℕ → List ℕ → Lent → RestoreOutcome
restore_of t cs l = restored (read t) cs l
