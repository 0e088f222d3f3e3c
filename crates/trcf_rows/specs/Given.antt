-- A list that a learn may be given.
use Rattle.std.specs.Prelude.{List, [], Float, Option}
use Rattle.std.specs.Option.{option_copied, unwrap_or}
use denote.Bor.{Bor}

-- the list, and the empty one where none is given
abbrev pub list_in : Option (Bor (List Float)) → List Float
list_in v = unwrap_or (option_copied v) []
