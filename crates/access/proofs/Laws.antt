-- Laws of the table's test, and of an entry behind it. Assumes nothing.
use Prim.Native.Nat.{ℕ, ◌+◌, ◌<◌}
use Rattle.std.proofs.lemmas.Bool.Decides.{nat_tests}
use mathlib.Core.Path.{◌≡◌, refl, sym, ap, ◌∙◌}
use mathlib.Core.Bool.{Bool, true, false, cond, ◌&&◌}
use mathlib.Core.List.{List, [], ◌∷◌}
use native.Mathlib.Numerals.{add-one}
use native.Mathlib.Omega.{arith}
use lib.Dec.{ltb, eqb}
use lib.ListN.{length, get_or, drop}
use lib.Seq.{drop-cons}
use Rattle.std.proofs.Common.{Less, Equal, Greater}
use Rattle.std.specs.Ordering.{nat_cmp, ord_max, is_lt}
use Rattle.access.specs.declared.rights.Right.{Right}
use Rattle.access.specs.declared.rights.Right.TheVariants.{SEE, LEARN, SAVE, RESTORE}
use Rattle.access.specs.Access.{bits, table_fits, table_entry, has, granted, guarded, every_right}

-- ---- the cells, one by one

bits_step : (l : List ℕ) (i : ℕ) → i < length l → bits (drop i l) ≡ ltb (get_or l i 0) 2 && bits (drop (i + 1) l)
bits_step l i h = rw (add-one i, drop-cons l i 0 h)

pub and_true : (b : Bool) → b ≡ b && true
and_true true = refl
and_true false = refl

-- of two numbers the larger decides
module _ (a b : ℕ) where
  larger_is : ord_max nat_cmp a b ≡ cond (ltb b a) a b
  larger_is = go (ltb b a) (eqb b a)
    where
      go : (s t : Bool) → cond (is_lt (cond s Less (cond t Equal Greater))) a b ≡ cond s a b
      go true t = refl
      go false true = refl
      go false false = refl

  ltb_larger : ltb (cond (ltb b a) a b) 2 ≡ ltb a 2 && ltb b 2
  ltb_larger = grind (arith, nat_tests)

and_assoc : (a b c : Bool) → a && (b && c) ≡ (a && b) && c
and_assoc true b c = refl
and_assoc false b c = refl

-- one step of the walk over them: `largest` of those before i
pub largest_step : (l : List ℕ) (i : ℕ) → i < length l → (largest : ℕ) → bits l ≡ ltb largest 2 && bits (drop i l)
    → bits l ≡ ltb (ord_max nat_cmp largest (get_or l i 0)) 2 && bits (drop (i + 1) l)
largest_step l i h largest inv =
    inv
    ∙ ap (λ (b : Bool). ltb largest 2 && b) (bits_step l i h)
    ∙ and_assoc (ltb largest 2) (ltb (get_or l i 0) 2) (bits (drop (i + 1) l))
    ∙ ap (λ (b : Bool). b && bits (drop (i + 1) l)) (sym (ltb_larger largest (get_or l i 0)))
    ∙ ap (λ (n : ℕ). ltb n 2 && bits (drop (i + 1) l)) (sym (larger_is largest (get_or l i 0)))

-- ---- whether a right is granted

module _ (t : List ℕ) (role : ℕ) where
  pub no_table : (rs : List Right) → table_fits t role ≡ false → false ≡ granted t role rs
  unfolding granted
  no_table rs e = ap (λ (b : Bool). b && has t role rs) (sym e)

  pub by_cells : (rs : List Right) → table_fits t role ≡ true → has t role rs ≡ granted t role rs
  unfolding granted
  by_cells rs e = ap (λ (b : Bool). b && has t role rs) (sym e)

  -- the two cells that a point asks for: the first is shut, or the second decides
  pub no_first : (r q : Right) → eqb (table_entry t role r) 1 ≡ false → false ≡ has t role (r ∷ q ∷ [])
  no_first r q e = ap (λ (b : Bool). b && (eqb (table_entry t role q) 1 && true)) (sym e)

  pub by_second : (r q : Right) → eqb (table_entry t role r) 1 ≡ true → eqb (table_entry t role q) 1 ≡ has t role (r ∷ q ∷ [])
  by_second r q e = and_true (eqb (table_entry t role q) 1) ∙ ap (λ (b : Bool). b && (eqb (table_entry t role q) 1 && true)) (sym e)

-- ---- a program: role 0 of the table with every right

has_every : (rs : List Right) → has every_right 0 rs ≡ true
has_every [] = refl
has_every (SEE ∷ rs) = has_every rs
has_every (LEARN ∷ rs) = has_every rs
has_every (SAVE ∷ rs) = has_every rs
has_every (RESTORE ∷ rs) = has_every rs

pub every_granted : (rs : List Right) → granted every_right 0 rs ≡ true
unfolding granted
every_granted rs = has_every rs

module _ {A : Type 0} where
  pub as_every : (t : List ℕ) (rs : List Right) (below withheld : A) → t ≡ every_right → guarded t 0 rs below withheld ≡ below
  as_every t rs below withheld e = ap (λ (x : List ℕ). guarded x 0 rs below withheld) e ∙ ap (λ (b : Bool). cond b below withheld) (every_granted rs)
