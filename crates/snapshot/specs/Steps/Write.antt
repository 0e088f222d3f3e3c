-- What the writing promises: bytes stored from a place on. The rest of the lent bytes keeps its contents.
use Rattle.std.specs.Prelude.{ℕ, ◌+◌, ◌≡◌, List, [], ◌∷◌, ◌++◌, length, Float}
use Rattle.std.proofs.lemmas.List.Edits.{sets}
use Rattle.std.specs.Float.{binary32, binary64}
use Rattle.snapshot.specs.Text.{whole, float, tabbed_fields}

-- old with b stored from the place at on
unfoldable pub stored : List ℕ → ℕ → List ℕ → List ℕ
stored old at b = sets old at b

-- b was stored from at on, and r is the place after it
pub record Wrote (at : ℕ) (b old : List ℕ) (r : ℕ) (new : List ℕ) : Type 0 where
  pub place : r ≡ at + length b
  pub bytes : new ≡ stored old at b
  pub kept : length new ≡ length old

-- each field after its tab
abbrev pub tabbed : List (List ℕ) → List ℕ
tabbed [] = []
tabbed (f ∷ fs) = 9 ∷ (f ++ tabbed fs)

-- the fields of the `set` line, from the letter of the mode and the number of the method
abbrev pub set_fields : ℕ → ℕ → ℕ → ℕ → ℕ → ℕ → Float → Float → List (List ℕ)
set_fields letter method d k start stop decay weight_time =
    (letter ∷ []) ∷ whole method ∷ whole d ∷ whole k ∷ whole start ∷ whole stop ∷ float binary64 decay ∷ float binary32 weight_time ∷ []

abbrev pub set_bytes : ℕ → ℕ → ℕ → ℕ → ℕ → ℕ → Float → Float → List ℕ
set_bytes letter method d k start stop decay weight_time = 115 ∷ 101 ∷ 116 ∷ tabbed_fields (set_fields letter method d k start stop decay weight_time)
