-- Small laws of tests and of lists that the others here lean on.
use Prim.Native.Nat.{ℕ, zero, suc}
use native.Mathlib.Omega.{arith}
use mathlib.Core.Path.{◌≡◌, refl, sym, ◌∙◌}
use mathlib.Core.Bool.{Bool, true, false, not, ◌&&◌, ◌||◌, false≢true}
use mathlib.Core.List.{List, [], ◌∷◌, ◌++◌}
use lib.ListN.{length, take, drop, replicate}
use lib.Ieee.{Float, nan, inf, fin}
use Rattle.trcf.specs.Settings.{All}
use Rattle.trcf.specs.Calls.{finite}

-- ---- tests

pub and_left : (a b : Bool) → a && b ≡ true → a ≡ true
and_left true b h = refl
and_left false b h = h

pub and_right : (a b : Bool) → a && b ≡ true → b ≡ true
and_right true b h = h
and_right false b h = absurd (false≢true h)

pub clash : {X : Type 0} (b : Bool) → b ≡ true → b ≡ false → X
clash b p q = absurd (false≢true (sym q ∙ p))

-- `not a || b`: b where a
pub if_of : (a b : Bool) → not a || b ≡ true → a ≡ true → b ≡ true
if_of true b h e = h
if_of false b h e = absurd (false≢true e)

pub to_if : (a b : Bool) → (a ≡ true → b ≡ true) → not a || b ≡ true
to_if true b h = h refl
to_if false b h = refl

-- ---- lists

pub nil : {A : Type 0} (l : List A) → length l ≡ 0 → l ≡ []
nil [] h = refl
nil (x ∷ xs) h = absurd (omega arith)

module _ {A : Type 0} (P : A → Type 0) where
  pub all_append : (a b : List A) → All P a → All P b → All P (a ++ b)
  all_append [] b h k = k
  all_append (x ∷ xs) b h k = (h.0, all_append xs b h.1 k)

  pub all_drop : (n : ℕ) (l : List A) → All P l → All P (drop n l)
  all_drop zero l h = h
  all_drop (suc n) [] h = tt
  all_drop (suc n) (x ∷ xs) h = all_drop n xs h.1

  pub all_take : (n : ℕ) (l : List A) → All P l → All P (take n l)
  all_take zero l h = tt
  all_take (suc n) [] h = tt
  all_take (suc n) (x ∷ xs) h = (h.0, all_take n xs h.1)

  pub all_replicate : (n : ℕ) (a : A) → P a → All P (replicate n a)
  all_replicate zero a h = tt
  all_replicate (suc n) a h = (h, all_replicate n a h)

-- ---- finite numbers

pub finite_append : (a b : List Float) → finite a ≡ true → finite b ≡ true → finite (a ++ b) ≡ true
unfolding finite
finite_append [] b h k = k
finite_append (nan ∷ a) b h k = absurd (false≢true h)
finite_append (inf s ∷ a) b h k = absurd (false≢true h)
finite_append (fin s m x ∷ a) b h k = finite_append a b h k

pub finite_split : (a b : List Float) → finite (a ++ b) ≡ true → (finite a ≡ true) × (finite b ≡ true)
unfolding finite
finite_split [] b h = (refl, h)
finite_split (nan ∷ a) b h = absurd (false≢true h)
finite_split (inf s ∷ a) b h = absurd (false≢true h)
finite_split (fin s m x ∷ a) b h = finite_split a b h
