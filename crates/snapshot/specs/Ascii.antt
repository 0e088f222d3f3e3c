-- Texts as a reader can read them: quoted. Only ASCII is meant.
use Rattle.std.specs.Prelude.{ℕ, List, [], ◌∷◌, ◌++◌}
use Prim.Native.Char.{code}
use Prim.Native.String.{String, [] as end, ◌∷◌ as ◌then◌}

-- the bytes of a text
abbrev pub ascii : String → List ℕ
ascii end = []
ascii (c then s) = code c ∷ ascii s

-- the bytes of some lines, each with its LF
abbrev pub text : List String → List ℕ
text [] = []
text (l ∷ ls) = ascii l ++ (10 ∷ text ls)
