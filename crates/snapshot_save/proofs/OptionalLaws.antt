-- A line of a whole number and an f32, or `-` in its place. Assumes nothing.
use Prim.Native.Nat.{ℕ, ◌≤◌, ◌<◌}
use native.Mathlib.Omega.{arith}
use mathlib.Core.Path.{◌≡◌, ◌∙◌}
use mathlib.Core.Bool.{Bool, true, false}
use mathlib.Core.List.{List, [], ◌∷◌}
use lib.ListN.{length, length-append}
use lib.Ieee.{Float, binary32}
use borrow.Author.Tests.{lt-ltb, le-ltb}
use Rattle.trcf.specs.Settings.{whole_max}
use Rattle.snapshot.specs.Text.{whole, tabbed_fields}
use Rattle.snapshot.specs.Read.{bytes_of_line}
use Rattle.snapshot.specs.Save.{save_outcome}
use Rattle.snapshot.specs.Steps.Write.{Wrote}
use Rattle.snapshot.proofs.WriteLaws.{whole_short, float_length, stored_over}
use Rattle.snapshot_save.specs.Line.{text_within, optional_field, optional_line}

pub optional_short : (g : Bool) (x : Float) → length (optional_field g x) ≤ 8
optional_short true x = omega (arith, float_length binary32 x)
optional_short false x = omega arith

-- at most 32 bytes
pub optional_size : (a n : ℕ) (g : Bool) (x : Float) → n ≤ whole_max → length (bytes_of_line (optional_line a n g x)) ≤ 32
optional_size a n g x h =
    omega (arith, whole_short n h, optional_short g x, length-append (whole n) (tabbed_fields (optional_field g x ∷ [])), length-append (optional_field g x) (10 ∷ []))

pub within_short : (n : ℕ) (t out : List ℕ) → length out < n → save_outcome 20 0 out ≡ text_within n t out
unfolding text_within
within_short n t out h = rw (lt-ltb (length out) n h)

pub within_written : (n : ℕ) (t out new : List ℕ) (r : ℕ) → n ≤ length out → length t ≤ n → Wrote 0 t out r new → save_outcome 0 r new ≡ text_within n t out
unfolding text_within
within_written n t out new r h k w =
    let p : r ≡ length t = omega (arith, w.place) in
    let b = w.bytes ∙ stored_over out t (omega arith) in
    rw (le-ltb (length out) n h) (λ j. save_outcome 0 (p j) (b j))
