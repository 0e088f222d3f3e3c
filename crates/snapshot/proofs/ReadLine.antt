-- Lines, cells, and what it is to judge a line.
use Prim.Native.Nat.{ℕ}
use native.Mathlib.Omega.{arith}
use mathlib.Core.Path.{◌≡◌, refl, sym, ap, ◌∙◌, subst}
use mathlib.Core.Bool.{Bool, true, false, false≢true}
use mathlib.Core.List.{List, [], ◌∷◌, ◌++◌, map, append_assoc}
use mathlib.Core.Option.{some, some-injective, none-ne-some}
use lib.Dec.{eqb}
use borrow.Author.Tests.{eqb-true, eq-eqb, ne_eqb, lt-leb}
use Rattle.trcf.specs.Settings.{All}
use Rattle.snapshot.specs.Text.{Line, tabbed_fields, bytes_of}
use Rattle.snapshot.specs.Read.{push, lines, join, bytes_of_line, cells, every, same, LineKind, judge}
use Rattle.snapshot.proofs.Fields.{Clean, CleanLine}
use Rattle.snapshot.proofs.Lists.{and_left, and_right}

-- ---- tests

pub same_refl : (l : List ℕ) → same l l ≡ true
same_refl [] = refl
same_refl (x ∷ xs) = rw (eq-eqb x x refl) (same_refl xs)

pub same_eq : (l m : List ℕ) → same l m ≡ true → l ≡ m
same_eq [] [] h = refl
same_eq [] (y ∷ ys) h = absurd (false≢true h)
same_eq (x ∷ xs) [] h = absurd (false≢true h)
same_eq (x ∷ xs) (y ∷ ys) h = λ i. eqb-true x y (and_left _ _ h) i ∷ same_eq xs ys (and_right (eqb x y) _ h) i

abbrev pub Hold : List Bool → Type 0
Hold [] = Unit {0}
Hold (b ∷ bs) = (b ≡ true) × Hold bs

pub every_hold : (bs : List Bool) → every bs ≡ true → Hold bs
every_hold [] h = tt
every_hold (b ∷ bs) h = (and_left _ _ h, every_hold bs (and_right b _ h))

pub hold_every : (bs : List Bool) → Hold bs → every bs ≡ true
hold_every [] h = refl
hold_every (b ∷ bs) h = rw h.0 (hold_every bs h.1)

-- ---- the bytes of lines

join_push : (b : ℕ) (ls : List (List ℕ)) → join (push b ls) ≡ b ∷ join ls
join_push b [] = refl
join_push b (l ∷ ls) = refl

pub join_lines : (t : List ℕ) → join (lines t) ≡ t
join_lines [] = refl
join_lines (b ∷ t) = go (eqb b 10) refl (join_lines t)
  where
    go : (c : Bool) → eqb b 10 ≡ c → join (lines t) ≡ t → join (lines (b ∷ t)) ≡ b ∷ t
    go true e ih = rw e (λ i. sym (eqb-true b 10 e) i ∷ ih i)
    go false e ih = rw e (join_push b (lines t) ∙ ap (λ (l : List ℕ). b ∷ l) ih)

pub bytes_join : (ls : List Line) → bytes_of ls ≡ join (map bytes_of_line ls)
bytes_join [] = refl
bytes_join (l ∷ ls) = ap (λ (t : List ℕ). bytes_of_line l ++ t) (bytes_join ls)

-- a clean beginning belongs to the line, and to the cell, after it
pub lines_clean : (f y z : List ℕ) (zs : List (List ℕ)) → Clean f → lines y ≡ z ∷ zs → lines (f ++ y) ≡ (f ++ z) ∷ zs
lines_clean [] y z zs c e = e
lines_clean (b ∷ f) y z zs c e = rw (ne_eqb b 10 (λ q. omega (arith, c.0)), lines_clean f y z zs c.1 e)

cells_clean : (f y : List ℕ) (zs : List (List ℕ)) → Clean f → cells y ≡ [] ∷ zs → cells (f ++ y) ≡ f ∷ zs
cells_clean [] y zs c e = e
cells_clean (b ∷ f) y zs c e = rw (lt-leb b 10 c.0, cells_clean f y zs c.1 e)

pub lines_tail : (fs : List (List ℕ)) (x : List ℕ) → All Clean fs → lines (tabbed_fields fs ++ x) ≡ tabbed_fields fs ∷ lines x
lines_tail [] x c = refl
lines_tail (f ∷ fs) x c = rw (append_assoc f (tabbed_fields fs) x, lines_clean f (tabbed_fields fs ++ x) (tabbed_fields fs) (lines x) c.0 (lines_tail fs x c.1))

cells_tail : (fs : List (List ℕ)) → All Clean fs → cells (tabbed_fields fs) ≡ [] ∷ fs
cells_tail [] c = refl
cells_tail (f ∷ fs) c = rw (cells_clean f (tabbed_fields fs) fs c.0 (cells_tail fs c.1))

pub cells_render : (l : Line) → CleanLine l → cells (bytes_of_line l) ≡ l.name ∷ l.fields
cells_render l c = cells_clean l.name (tabbed_fields l.fields) l.fields c.0 (cells_tail l.fields c.1)

pub lines_bytes : (ls : List Line) → All CleanLine ls → lines (bytes_of ls) ≡ map bytes_of_line ls
lines_bytes [] c = refl
lines_bytes (l ∷ ls) c =
    rw append_assoc (lines_clean l.name (tabbed_fields l.fields ++ bytes_of ls) (tabbed_fields l.fields) (lines (bytes_of ls)) c.0.0 (lines_tail l.fields (bytes_of ls) c.0.1))
    ∙ ap (λ (r : List (List ℕ)). bytes_of_line l ∷ r) (lines_bytes ls c.1)

-- ---- judging

module _ {A : Type 0} (k : LineKind A) where
  -- a value that is written, guessed again, and passes
  pub record Writes (a : A) : Type 0 where
    pub clean : CleanLine (k.write a)
    pub back : k.guess ((k.write a).name ∷ (k.write a).fields) ≡ a
    pub holds : Hold (k.tests a)

  pub judge_back : (a : A) → Writes a → judge k (bytes_of_line (k.write a)) ≡ some a
  unfolding judge
  judge_back a h =
      rw (cells_render (k.write a) h.clean, h.back, same_refl (bytes_of_line (k.write a)), hold_every (k.tests a) h.holds)

  pub judged : (b : List ℕ) (a : A) → judge k b ≡ some a → (bytes_of_line (k.write a) ≡ b) × Hold (k.tests a)
  unfolding judge
  judged b a e = go (every (same (bytes_of_line (k.write g)) b ∷ k.tests g)) refl
    where
      g : A
      g = k.guess (cells b)

      go : (c : Bool) → every (same (bytes_of_line (k.write g)) b ∷ k.tests g) ≡ c → (bytes_of_line (k.write a) ≡ b) × Hold (k.tests a)
      go true h =
          let q : g ≡ a = some-injective g a (rw h at e) in
          let r : Hold (same (bytes_of_line (k.write g)) b ∷ k.tests g) = every_hold (same (bytes_of_line (k.write g)) b ∷ k.tests g) h in
          subst (λ (x : A). (bytes_of_line (k.write x) ≡ b) × Hold (k.tests x)) q (same_eq (bytes_of_line (k.write g)) b r.0, r.1)
      go false h = absurd (none-ne-some a (rw h at e))
