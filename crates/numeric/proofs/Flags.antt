-- A comparison as a number, 1 where it holds and 0 where not: what `u64::from` makes of it.
use Rattle.std.proofs.Common.{◌≡◌, ℕ, Bool, true, false, not, ◌<◌, ◌≤◌, ◌⊎◌, refl, inl, inr}
use Rattle.std.specs.Int.{from_bool}
use borrow.Author.Tests.{ltb-true, ltb-false, leb-true, leb-false, eqb-true, eqb-false}
use lib.Dec.{ltb, leb, eqb}

pub lower : (a b x : ℕ) → x ≡ from_bool (ltb a b) → ((a < b) × (x ≡ 1)) ⊎ ((b ≤ a) × (x ≡ 0))
lower a b x = go (ltb a b) refl
  where
    go : (t : Bool) → ltb a b ≡ t → x ≡ from_bool t → ((a < b) × (x ≡ 1)) ⊎ ((b ≤ a) × (x ≡ 0))
    go true h e = inl (ltb-true a b h, e)
    go false h e = inr (ltb-false a b h, e)

pub no_higher : (a b x : ℕ) → x ≡ from_bool (leb a b) → ((a ≤ b) × (x ≡ 1)) ⊎ ((b < a) × (x ≡ 0))
no_higher a b x = go (leb a b) refl
  where
    go : (t : Bool) → leb a b ≡ t → x ≡ from_bool t → ((a ≤ b) × (x ≡ 1)) ⊎ ((b < a) × (x ≡ 0))
    go true h e = inl (leb-true a b h, e)
    go false h e = inr (leb-false a b h, e)

pub differs : (a b x : ℕ) → x ≡ from_bool (not (eqb a b)) → ((a ≡ b) × (x ≡ 0)) ⊎ ((a ≡ b → ⊥) × (x ≡ 1))
differs a b x = go (eqb a b) refl
  where
    go : (t : Bool) → eqb a b ≡ t → x ≡ from_bool (not t) → ((a ≡ b) × (x ≡ 0)) ⊎ ((a ≡ b → ⊥) × (x ≡ 1))
    go true h e = inl (eqb-true a b h, e)
    go false h e = inr (eqb-false a b h, e)
