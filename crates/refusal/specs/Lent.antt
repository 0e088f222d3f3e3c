-- What is written into lent memory: document 01, 'Conditions of acceptance'.
use Rattle.std.specs.Prelude.{List, ◌++◌, length, drop}

module _ {A : Type 0} where
  -- "Bytes past an answer keep their old contents."
  unfoldable pub over : List A → List A → List A
  over old new = new ++ drop (length new) old
