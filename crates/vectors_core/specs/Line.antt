-- What a line that can agree begins and ends with.
use Rattle.std.specs.Prelude.{ℕ, ◌-◌, Bool, ◌&&◌, ◌||◌, List, eqb, leb, length, get_or}

-- one byte, a blank or an LF behind it, and an LF at the end
abbrev pub line_begun : List ℕ → Bool
line_begun line = leb 2 (length line) && (eqb (get_or line 1 0) 32 || eqb (get_or line 1 0) 10) && eqb (get_or line (length line - 1) 0) 10
