-- Lists whose elements all have a property: what is read out of them, written into them, cut and joined.
use Prim.Native.Nat.{ℕ, zero, suc}
use lib.Dec.{T}
use mathlib.Core.Path.{◌≡◌, refl}
use mathlib.Core.List.{List, [], ◌∷◌, ◌++◌}
use native.Mathlib.Omega.{arith}
use lib.ListN.{length, get_or, set, take, drop, length-append}
use lib.Ieee.{Float, nan, inf, fin, binary32, fits}
use lib.Ieee.Fits.{round-fits, nan-fits, inf-fits}
use Rattle.numeric.specs.Narrow.{narrowed}
use Rattle.trcf.specs.Lists.{tabulate}
use Rattle.trcf.specs.Fit.{All}

module _ {A : Type 0} where
  pub all_append : (P : A → Type 0) (a b : List A) → All P a → All P b → All P (a ++ b)
  all_append P [] b h k = k
  all_append P (x ∷ xs) b h k = (h.0, all_append P xs b h.1 k)

  pub all_drop : (P : A → Type 0) (n : ℕ) (l : List A) → All P l → All P (drop n l)
  all_drop P zero l h = h
  all_drop P (suc n) [] h = tt
  all_drop P (suc n) (x ∷ xs) h = all_drop P n xs h.1

  pub all_take : (P : A → Type 0) (n : ℕ) (l : List A) → All P l → All P (take n l)
  all_take P zero l h = tt
  all_take P (suc n) [] h = tt
  all_take P (suc n) (x ∷ xs) h = (h.0, all_take P n xs h.1)

  pub all_set : (P : A → Type 0) (l : List A) (i : ℕ) (a : A) → P a → All P l → All P (set l i a)
  all_set P [] i a p h = tt
  all_set P (x ∷ xs) zero a p h = (p, h.1)
  all_set P (x ∷ xs) (suc i) a p h = (h.0, all_set P xs i a p h.1)

  pub all_get_d : (P : A → Type 0) (l : List A) (i : ℕ) (d : A) → P d → All P l → P (get_or l i d)
  all_get_d P [] i d p h = p
  all_get_d P (x ∷ xs) zero d p h = h.0
  all_get_d P (x ∷ xs) (suc i) d p h = all_get_d P xs i d p h.1

  pub all_tabulate : (P : A → Type 0) (n : ℕ) (f : ℕ → A) → ((i : ℕ) → P (f i)) → All P (tabulate n f)
  all_tabulate P zero f h = tt
  all_tabulate P (suc n) f h = all_append P (tabulate n f) (f n ∷ []) (all_tabulate P n f h) (h n, tt)

  pub tabulate_length : (n : ℕ) (f : ℕ → A) → length (tabulate n f) ≡ n
  tabulate_length zero f = refl
  tabulate_length (suc n) f = omega (arith, length-append (tabulate n f) (f n ∷ []), tabulate_length n f)

pub narrowed_fits : (x : Float) → T (fits binary32 (narrowed x))
unfolding narrowed
narrowed_fits nan = nan-fits binary32
narrowed_fits (inf s) = inf-fits binary32 s
narrowed_fits (fin s m e) = round-fits binary32 s _ _
