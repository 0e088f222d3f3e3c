-- A line that a program prints beside a snapshot, in the snapshot's fields.
use Rattle.std.specs.Prelude.{ℕ, Bool, cond, List, [], ◌∷◌, ltb, length, Float}
use Rattle.std.specs.Float.{binary32}
use Rattle.refusal.specs.Lent.{over}
use Rattle.snapshot.specs.Text.{whole, float, Line, named}
use Rattle.snapshot.specs.Save.{SaveOutcome, save_outcome}

-- an f32, or `-` where there is none
abbrev pub optional_field : Bool → Float → List ℕ
optional_field given x = cond given (float binary32 x) (45 ∷ [])

-- a line of a whole number and such a field, named by one letter
abbrev pub optional_line : ℕ → ℕ → Bool → Float → Line
optional_line a n given x = named (a ∷ []) (whole n ∷ optional_field given x ∷ [])

-- a text, with room for the longest of its kind: row 20 with nothing written, where out is shorter than n; what lies past the text keeps its contents
unfoldable pub text_within : ℕ → List ℕ → List ℕ → SaveOutcome
text_within n t out = cond (ltb (length out) n) (save_outcome 20 0 out) (save_outcome 0 (length t) (over out t))
