-- Settings that no row refuses: `settings_row s ≡ 0` taken apart into the rows, and put together again.
use Prim.Native.Nat.{ℕ, ◌<◌}
use native.Mathlib.Omega.{arith}
use mathlib.Core.Path.{◌≡◌, refl}
use mathlib.Core.Bool.{Bool, true, false, ◌&&◌, cond}
use mathlib.Core.List.{List, [], ◌∷◌}
use lib.Dec.{ltb}
use borrow.Author.Tests.{ltb-true}
use Rattle.refusal.specs.Refusal.{first_of}
use Rattle.trcf.specs.Settings.{Settings, settings_table, settings_row}
use Rattle.snapshot.proofs.Lists.{and_left, and_right}

-- every row's test fails
abbrev pub Clear : List (Bool × ℕ) → Type 0
Clear [] = Unit {0}
Clear (r ∷ rs) = (r.0 ≡ false) × Clear rs

-- every row has a number
abbrev pub numbered : List (Bool × ℕ) → Bool
numbered [] = true
numbered (r ∷ rs) = ltb 0 r.1 && numbered rs

clear_one : (b : Bool) (n m : ℕ) → 0 < n → cond b n m ≡ 0 → (b ≡ false) × (m ≡ 0)
clear_one true n m h e = absurd (omega arith)
clear_one false n m h e = (refl, e)

pub clear : (rs : List (Bool × ℕ)) → numbered rs ≡ true → first_of rs ≡ 0 → Clear rs
clear [] p e = tt
clear (r ∷ rs) p e =
    let q : (r.0 ≡ false) × (first_of rs ≡ 0) = clear_one r.0 r.1 (first_of rs) (ltb-true _ _ (and_left (ltb 0 r.1) _ p)) e in
    (q.0, clear rs (and_right (ltb 0 r.1) _ p) q.1)

pub none_refuses : (rs : List (Bool × ℕ)) → Clear rs → first_of rs ≡ 0
none_refuses [] h = refl
none_refuses (r ∷ rs) h = rw h.0 (none_refuses rs h.1)

-- the nine rows, one after the other
pub rows_of : (s : Settings) → settings_row s ≡ 0 → Clear (settings_table s)
unfolding settings_row
rows_of s h = clear (settings_table s) refl h

pub row_none : (s : Settings) → Clear (settings_table s) → settings_row s ≡ 0
unfolding settings_row
row_none s h = none_refuses (settings_table s) h
