-- A list whose first n numbers have become their roots, and the rest not yet: what a loop over the list holds.
use Rattle.std.proofs.Common.{◌≡◌, ℕ, zero, suc, List, [], ◌∷◌, map, length, get_or, set, refl, ap}
use lib.Ieee.{Float, nan}
use Rattle.numeric.specs.Root.{root_of}

abbrev pub rooted_to : ℕ → List Float → List Float
rooted_to zero l = l
rooted_to (suc n) [] = []
rooted_to (suc n) (x ∷ xs) = root_of x ∷ rooted_to n xs

-- the number at n is still what it was, and its root makes the list's front one longer
pub rooted_next : (n : ℕ) (l : List Float) → set (rooted_to n l) n (root_of (get_or (rooted_to n l) n nan)) ≡ rooted_to (suc n) l
rooted_next zero [] = refl
rooted_next zero (x ∷ xs) = refl
rooted_next (suc n) [] = refl
rooted_next (suc n) (x ∷ xs) = ap (λ (q : List Float). root_of x ∷ q) (rooted_next n xs)

pub rooted_all : (l : List Float) → rooted_to (length l) l ≡ map root_of l
rooted_all [] = refl
rooted_all (x ∷ xs) = ap (λ (q : List Float). root_of x ∷ q) (rooted_all xs)
