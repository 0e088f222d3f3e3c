-- The enumeration is of all lists of n calls, each once.
use Prim.Native.Nat.{ℕ, zero, suc, ◌+◌, ◌^◌}
use native.Mathlib.Omega.{arith}
use mathlib.Core.Path.{◌≡◌, refl, ap, ◌∙◌}
use mathlib.Core.Bool.{Bool, true, false, cond}
use mathlib.Core.List.{List, [], ◌∷◌, ◌++◌, map}
use lib.Dec.{T, eqb, eqb-zero-suc, eqb-suc-zero, eqb-suc-suc}
use lib.ListN.{length, length-append, length-map}
use Rattle.stranding.specs.Orders.{Kind, point_kind, learn_kind, drain_kind, orders, same_order}
use Rattle.stranding.specs.Counts.{count}

-- ---- counting

module _ {A : Type 0} (f : A → Bool) where
  pub count_append : (xs ys : List A) → count f (xs ++ ys) ≡ count f xs + count f ys
  count_append [] ys = omega arith
  count_append (x ∷ xs) ys = omega (arith, count_append xs ys)

pub count_map : {A B : Type 0} (f : B → Bool) (g : A → B) (xs : List A) → count f (map g xs) ≡ count (λ (x : A). f (g x)) xs
count_map f g [] = refl
count_map f g (x ∷ xs) = ap (λ (n : ℕ). cond (f (g x)) 1 0 + n) (count_map f g xs)

count_none : {A : Type 0} (xs : List A) → count (λ (x : A). false) xs ≡ 0
count_none [] = refl
count_none (x ∷ xs) = omega (arith, count_none xs)

-- ---- "all 3^n lists"

-- THEOREM: there are 3^n of them
pub orders_long : (n : ℕ) → length (orders n) ≡ 3 ^ n
orders_long zero = refl
orders_long (suc n) = simp (length-append, length-map) (omega (arith, orders_long n))

-- `same_order` is equality
pub same_order_lem : (w v : List Kind) → T (same_order w v) → w ≡ v
same_order_lem [] [] t = refl
same_order_lem [] (d ∷ v) t = absurd t
same_order_lem (c ∷ w) [] t = absurd t
same_order_lem (point_kind ∷ w) (point_kind ∷ v) t = ap (point_kind ∷◌) (same_order_lem w v t)
same_order_lem (point_kind ∷ w) (learn_kind ∷ v) t = absurd t
same_order_lem (point_kind ∷ w) (drain_kind ∷ v) t = absurd t
same_order_lem (learn_kind ∷ w) (point_kind ∷ v) t = absurd t
same_order_lem (learn_kind ∷ w) (learn_kind ∷ v) t = ap (learn_kind ∷◌) (same_order_lem w v t)
same_order_lem (learn_kind ∷ w) (drain_kind ∷ v) t = absurd t
same_order_lem (drain_kind ∷ w) (point_kind ∷ v) t = absurd t
same_order_lem (drain_kind ∷ w) (learn_kind ∷ v) t = absurd t
same_order_lem (drain_kind ∷ w) (drain_kind ∷ v) t = ap (drain_kind ∷◌) (same_order_lem w v t)

pub order_same : (w : List Kind) → same_order w w ≡ true
order_same [] = refl
order_same (point_kind ∷ w) = order_same w
order_same (learn_kind ∷ w) = order_same w
order_same (drain_kind ∷ w) = order_same w

-- how often w stands among the orders of one call more, by their first call
occurs_suc : (w : List Kind) (n : ℕ)
    → count (same_order w) (orders (suc n))
    ≡ count (λ (v : List Kind). same_order w (point_kind ∷ v)) (orders n)
    + (count (λ (v : List Kind). same_order w (learn_kind ∷ v)) (orders n) + count (λ (v : List Kind). same_order w (drain_kind ∷ v)) (orders n))
occurs_suc w n = simp (count_append, count_map)

-- THEOREM: a list of n calls stands among them once, any other list not at all
pub orders_once : (w : List Kind) (n : ℕ) → count (same_order w) (orders n) ≡ cond (eqb (length w) n) 1 0
orders_once [] zero = refl
orders_once (c ∷ w) zero = rw (eqb-suc-zero (length w))
orders_once [] (suc n) = occurs_suc [] n ∙ rw (eqb-zero-suc n) (omega (arith, count_none (orders n)))
orders_once (point_kind ∷ w) (suc n) = occurs_suc (point_kind ∷ w) n ∙ rw (eqb-suc-suc (length w) n) (omega (arith, orders_once w n, count_none (orders n)))
orders_once (learn_kind ∷ w) (suc n) = occurs_suc (learn_kind ∷ w) n ∙ rw (eqb-suc-suc (length w) n) (omega (arith, orders_once w n, count_none (orders n)))
orders_once (drain_kind ∷ w) (suc n) = occurs_suc (drain_kind ∷ w) n ∙ rw (eqb-suc-suc (length w) n) (omega (arith, orders_once w n, count_none (orders n)))
