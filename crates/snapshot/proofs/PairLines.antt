-- The bytes of a line that two letters name.
use Prim.Native.Nat.{ℕ, ◌+◌, ◌-◌, ◌*◌, ◌/◌, ◌≤◌, ◌<◌}
use native.Mathlib.Nat.{div-mul-le_self, lt-div-mul-add}
use native.Mathlib.Omega.{arith}
use mathlib.Core.Path.{◌≡◌, refl, sym, ap, ◌∙◌}
use mathlib.Core.List.{List, [], ◌∷◌, map}
use lib.ListN.{length, length-append}
use lib.Ieee.{Float, binary32}
use Rattle.snapshot.specs.Text.{whole, float, named, singles}
use Rattle.snapshot.specs.Read.{bytes_of_line}
use Rattle.snapshot.specs.Save.{save_outcome, fitted}
use Rattle.snapshot.specs.Steps.Write.{Wrote, tabbed}
use Rattle.snapshot.proofs.WriteLaws.{floats_length}
use Rattle.snapshot.proofs.LineBytes.{singles_bytes}
use Rattle.snapshot.proofs.SaveLaws.{fitted_not, fitted_is}

pub pair_size : (a b : ℕ) (v : List Float) → length (bytes_of_line (singles (a ∷ b ∷ []) v)) ≡ 3 + 9 * length v
pair_size a b v =
    ap length (sym (singles_bytes (a ∷ b ∷ []) v))
    ∙ omega (arith, length-append (tabbed (map (float binary32) v)) (10 ∷ []), floats_length v)

pub number_size : (a b n : ℕ) → length (bytes_of_line (named (a ∷ b ∷ []) (whole n ∷ []))) ≡ length (whole n) + 4
number_size a b n = omega (arith, length-append (whole n) (10 ∷ []))

-- how many fields of nine bytes have room after three
pub few_fields : (n v : ℕ) → 3 ≤ n → (n - 3) / 9 < v → n < 3 + 9 * v
few_fields n v g h = let q : n - 3 < (n - 3) / 9 * 9 + 9 = lt-div-mul-add (omega arith) in omega arith

pub enough_fields : (n v : ℕ) → 3 ≤ n → v ≤ (n - 3) / 9 → 3 + 9 * v ≤ n
enough_fields n v g h = let q : (n - 3) / 9 * 9 ≤ n - 3 = div-mul-le_self (n - 3) 9 in omega arith

-- a line that was written whole
pub line_written : (t out new : List ℕ) (r : ℕ) → length t ≤ length out → Wrote 0 t out r new → save_outcome 0 r new ≡ fitted t out
line_written t out new r h w = fitted_is t out new r r (omega (arith, w.place)) (omega (arith, w.place)) w

pub line_left : (t out : List ℕ) → length out < length t → save_outcome 20 0 out ≡ fitted t out
line_left t out h = fitted_not t out (length t) refl h
