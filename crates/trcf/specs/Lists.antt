-- Lists as the shingles and the answers need them.
use Rattle.std.specs.Prelude.{ℕ, zero, suc, ◌-◌, Bool, true, false, List, [], ◌∷◌, ◌++◌, length, take, drop}

module _ {A : Type 0} where
  -- f at each number below n
  abbrev pub tabulate : ℕ → (ℕ → A) → List A
  tabulate zero f = []
  tabulate (suc n) f = tabulate n f ++ (f n ∷ [])

  -- the last n
  unfoldable pub last_n : ℕ → List A → List A
  last_n n l = drop (length l - n) l

  -- the last, a where there is none
  abbrev pub last_or : A → List A → A
  last_or a [] = a
  last_or a (x ∷ xs) = last_or x xs

  abbrev pub null : List A → Bool
  null [] = true
  null (x ∷ xs) = false

  -- `shift_vector`: the front drops out, and p comes in at the end
  unfoldable pub shift_in : List A → List A → List A
  shift_in l p = drop (length p) l ++ p

  -- the last block is overwritten by p
  unfoldable pub overwrite : List A → List A → List A
  overwrite l p = take (length l - length p) l ++ p
