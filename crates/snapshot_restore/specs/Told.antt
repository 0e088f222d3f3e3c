-- What the code answers a text with, as the definition of taking up says it.
use Rattle.std.specs.Prelude.{ℕ, Result, Ok, Err}
use Rattle.refusal.specs.Refusal.{number_of}
use Rattle.trcf.specs.View.{Lent, no_head}
use Rattle.trcf.specs.declared.head.Preprocessor.{Preprocessor}
use Rattle.snapshot.specs.Restore.{RestoreOutcome, restore_outcome}
use Rattle.snapshot_restore.specs.declared.restore.RestoreError.{RestoreError}
use Rattle.snapshot_restore.specs.declared.restore.RestoreError.TheVariants.{Form, Refused}

-- 19 for what has not the form of a text
abbrev pub row_told : RestoreError → ℕ
row_told (Form bad) = 19
row_told (Refused r) = number_of r

-- the bad line, 0 where none is
abbrev pub line_told : RestoreError → ℕ
line_told (Form bad) = bad.line
line_told (Refused r) = 0

abbrev pub restore_told : Result Preprocessor RestoreError → Lent → RestoreOutcome
restore_told (Ok h) l = restore_outcome 0 0 h l
restore_told (Err e) l = restore_outcome (row_told e) (line_told e) no_head l
