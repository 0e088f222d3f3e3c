-- A field as the code looks for its end: first where one of its kind would end.
use Rattle.std.specs.Prelude.{ℕ, ◌+◌, ◌*◌, ◌&&◌, cond, List, length, take, drop, get_or, leb, ltb}
use Rattle.snapshot.specs.Steps.Judge.{field_length}
use Rattle.snapshot.specs.Steps.Scan.{field_of}
use Rattle.snapshot.specs.declared.piece.Next.{Next}

-- how many bytes the field has at a guess: 8 a single and 16 a double where a tab or LF stands after them
abbrev pub likely : ℕ → List ℕ → ℕ
likely k l = cond (ltb k 2 && (ltb (k * 8 + 8) (length l) && leb (get_or l (k * 8 + 8) 0) 10)) (k * 8 + 8) (field_length l)

-- the field at the place p up to the next tab or LF, and the place after it
abbrev pub from_of : ℕ → ℕ → List ℕ → Next
from_of k p t = record { field = field_of k (take (field_length (drop p t)) (drop p t)); end = p + field_length (drop p t) }
