-- `strandings` with its three numbers in lent ones (request #110). Refused, it leaves them as they were.
use Rattle.std.specs.Prelude.{ℕ}
use Rattle.trcf.specs.Preprocessor.{accepted}
use Rattle.stranding.specs.Counts.{RowCounts, row_counts, strandings_of}

-- the numbers that are lent, as an answer leaves them
abbrev pub strandings_told : ℕ → ℕ → ℕ → RowCounts → RowCounts
strandings_told w d s c = row_counts c.row (accepted c.row c.waiting w) (accepted c.row c.drained d) (accepted c.row c.stranded s)

unfoldable pub strandings_at : ℕ → ℕ → ℕ → ℕ → ℕ → RowCounts
strandings_at start calls w d s = strandings_told w d s (strandings_of start calls)
