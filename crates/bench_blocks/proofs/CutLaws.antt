-- A field of 24 bytes or more is none, whatever its place: it is read like any other of 24 bytes or more. Assumes nothing.
use Prim.Native.Nat.{ℕ, ◌≤◌, ◌<◌}
use native.Mathlib.Omega.{arith}
use mathlib.Core.Path.{◌≡◌, refl, sym, ap, ◌∙◌}
use mathlib.Core.Bool.{Bool, true, false, cond}
use mathlib.Core.List.{List, [], ◌∷◌}
use mathlib.Core.Option.{Option, none, some}
use lib.Dec.{ltb}
use lib.ListN.{length, take, length-take}
use lib.Seq.{take-length}
use borrow.Author.Tests.{ltb-true}
use lib.Ieee.{Float, Format, binary32, binary64}
use Rattle.snapshot.specs.Text.{width}
use Rattle.snapshot.specs.Read.{as_whole, as_float}
use Rattle.snapshot.specs.Scan.{number_of, single_of, double_of}
use Rattle.snapshot.proofs.HexLaws.{float_of_lem}
use Rattle.snapshot.proofs.ScanLaws.{whole_of}
use Rattle.snapshot.proofs.WriteLaws.{float_length, whole_short}
use Rattle.std.specs.Prelude.{None}
use Rattle.bench_core.specs.declared.line.Name.TheVariants.{Unread, Other}
use Rattle.bench_core.specs.declared.line.Place.{Place}
use Rattle.bench_core.specs.declared.line.Place.TheVariants.{AsLetter, AsMethod, AsWhole, AsDouble, AsSingle, Nowhere}
use Rattle.bench_core.specs.declared.line.Line.{Line}
use Rattle.bench_core.specs.Line.{is_named, name_of, letter_of, method_field, place_of, other_line, named_line, with_whole, with_double, with_single, field_at, line_with_field, cell_of}
use Rattle.bench_core.specs.Bench.{cell_kept}

no_float : (f : Format) (c : List ℕ) → width f < length c → as_float f c ≡ none
no_float f c h = go (as_float f c) refl
  where
    go : (o : Option Float) → as_float f c ≡ o → o ≡ none
    go none e = refl
    go (some x) e = absurd (omega (arith, float_length f x, ap length (float_of_lem f c x e).0))

no_name : (c : List ℕ) → 24 ≤ length c → name_of c ≡ Other
no_name [] h = refl
no_name (a ∷ []) h = absurd (omega arith)
no_name (a ∷ b ∷ []) h = refl
no_name (a ∷ b ∷ d ∷ []) h = absurd (omega arith)
no_name (a ∷ b ∷ d ∷ e ∷ r) h = refl

no_letter : (c : List ℕ) → 24 ≤ length c → letter_of c ≡ None
no_letter [] h = refl
no_letter (a ∷ []) h = absurd (omega arith)
no_letter (a ∷ b ∷ r) h = refl

no_whole : (c : List ℕ) → 24 ≤ length c → as_whole c ≡ none
no_whole c h = go (as_whole c) refl
  where
    go : (o : Option ℕ) → as_whole c ≡ o → o ≡ none
    go none e = refl
    go (some n) e = let q = whole_of c n e in absurd (omega (arith, whole_short n q.1, ap length q.0))

long_field : (p : Place) (l : Line) (c : List ℕ) → 24 ≤ length c → field_at p l c ≡ other_line l
long_field AsLetter l c h = ap (with_whole l) (no_letter c h)
long_field AsMethod l c h = ap (λ (o : Option ℕ). with_whole l (method_field (number_of o))) (no_whole c h)
long_field AsWhole l c h = ap (λ (o : Option ℕ). with_whole l (number_of o)) (no_whole c h)
long_field AsDouble l c h = ap (λ (o : Option Float). with_double l (double_of o)) (no_float binary64 c (omega arith))
long_field AsSingle l c h = ap (λ (o : Option Float). with_single l (single_of o)) (no_float binary32 c (omega arith))
long_field Nowhere l c h = refl

-- a name or a field of 24 bytes or more makes the line one of another form
pub long_cell : (l : Line) (c : List ℕ) → 24 ≤ length c → cell_of l c ≡ other_line l
unfolding cell_of line_with_field
long_cell l c h = go (is_named l.name Unread)
  where
    go : (q : Bool) → cond q (named_line l (name_of c)) (line_with_field l c) ≡ other_line l
    go true = ap (named_line l) (no_name c h)
    go false = long_field (place_of l.name l.fields) l c h

pub long_alike : (l : Line) (c d : List ℕ) → 24 ≤ length c → 24 ≤ length d → cell_of l c ≡ cell_of l d
long_alike l c d h k = long_cell l c h ∙ sym (long_cell l d k)

-- a cell is read like what a step keeps of it
pub cut_cell : (l : Line) (c : List ℕ) → cell_of l (take (cell_kept (length c)) c) ≡ cell_of l c
cut_cell l c = go (ltb 24 (length c)) refl
  where
    go : (p : Bool) → ltb 24 (length c) ≡ p → cell_of l (take (cond p 24 (length c)) c) ≡ cell_of l c
    go true e = let k : 24 < length c = ltb-true 24 (length c) e in long_alike l (take 24 c) c (simp length-take (omega arith)) (omega arith)
    go false e = ap (cell_of l) (take-length c)
