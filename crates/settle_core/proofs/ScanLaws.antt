-- A line at its place in a text, cell by cell. Assumes nothing.
use Prim.Native.Nat.{ℕ, zero, suc, ◌+◌, ◌-◌, ◌≤◌, ◌<◌}
use native.Mathlib.Omega.{arith}
use mathlib.Core.Path.{◌≡◌, refl, sym, ap, ◌∙◌}
use mathlib.Core.Bool.{Bool, true, false}
use mathlib.Core.List.{List, [], ◌∷◌}
use borrow.Author.Tests.{eq-eqb, ne_eqb, eqb-true, eqb-false}
use lib.Dec.{eqb}
use lib.ListN.{length, take, drop, get_or, length-drop}
use lib.Seq.{take_all, get_or-drop, drop-drop}
use Rattle.bench_core.specs.Line.{cell_of, blank_line}
use Rattle.bench_core.specs.Bench.{cell_length}
use Rattle.bench_core.specs.declared.line.Line.{Line}
use Rattle.settle_core.specs.Input.{Scanned, scanned, line_from, line_of}

-- the part of a text from a place to its end
pub rest_is : (t : List ℕ) (n : ℕ) → take (length t - n) (drop n t) ≡ drop n t
rest_is t n = take_all (length t - n) (drop n t) (simp length-drop (omega arith))

-- ---- one cell more

module _ (l : Line) (t : List ℕ) where
  -- by whether the text ends with the cell, and whether a tab ends it
  abbrev by : ℕ → Bool → Bool → Scanned
  by n a b =
      elim a [
        | true ↦ scanned false l t
        | false ↦ elim b [
          | true ↦ line_from n (cell_of l (take (cell_length t) t)) (drop (suc (cell_length t)) t)
          | false ↦ scanned true (cell_of l (take (cell_length t) t)) (drop (suc (cell_length t)) t)
        ]
      ]

  pub line_open : (n : ℕ) → cell_length t ≡ length t → line_from (suc n) l t ≡ scanned false l t
  line_open n h = ap (λ (a : Bool). by n a (eqb (get_or t (cell_length t) 0) 9)) (eq-eqb (cell_length t) (length t) h)

  pub line_ends : (n : ℕ) → (cell_length t ≡ length t → ⊥) → (get_or t (cell_length t) 0 ≡ 9 → ⊥)
      → line_from (suc n) l t ≡ scanned true (cell_of l (take (cell_length t) t)) (drop (suc (cell_length t)) t)
  line_ends n h k =
      let e = ne_eqb (cell_length t) (length t) h in
      let f = ne_eqb (get_or t (cell_length t) 0) 9 k in
      λ j. by n (e j) (f j)

  pub line_more : (n : ℕ) → (cell_length t ≡ length t → ⊥) → get_or t (cell_length t) 0 ≡ 9
      → line_from (suc n) l t ≡ line_from n (cell_of l (take (cell_length t) t)) (drop (suc (cell_length t)) t)
  line_more n h k =
      let e = ne_eqb (cell_length t) (length t) h in
      let f = eq-eqb (get_or t (cell_length t) 0) 9 k in
      λ j. by n (e j) (f j)

shorter : (t : List ℕ) (n : ℕ) → (cell_length t ≡ length t → ⊥) → length t < suc n → length (drop (suc (cell_length t)) t) < n
shorter [] n h k = absurd (h refl)
shorter (x ∷ t) n h k = let e = length-drop (suc (cell_length (x ∷ t))) (x ∷ t) in omega (arith, e)

-- any number of cells that is above what the text can hold
pub line_fuel : (n m : ℕ) (l : Line) (t : List ℕ) → length t < n → length t < m → line_from n l t ≡ line_from m l t
line_fuel zero m l t h k = absurd (omega arith)
line_fuel (suc n) zero l t h k = absurd (omega arith)
line_fuel (suc n) (suc m) l t h k =
    go (eqb (cell_length t) (length t)) refl (eqb (get_or t (cell_length t) 0) 9) refl
    (line_fuel n m (cell_of l (take (cell_length t) t)) (drop (suc (cell_length t)) t))
  where
    go : (a : Bool) → eqb (cell_length t) (length t) ≡ a → (b : Bool) → eqb (get_or t (cell_length t) 0) 9 ≡ b
        → (length (drop (suc (cell_length t)) t) < n → length (drop (suc (cell_length t)) t) < m
        → line_from n (cell_of l (take (cell_length t) t)) (drop (suc (cell_length t)) t) ≡ line_from m (cell_of l (take (cell_length t) t)) (drop (suc (cell_length t)) t))
        → line_from (suc n) l t ≡ line_from (suc m) l t
    go true e b f ih = line_open l t n (eqb-true _ _ e) ∙ sym (line_open l t m (eqb-true _ _ e))
    go false e false f ih = line_ends l t n (eqb-false _ _ e) (eqb-false _ _ f) ∙ sym (line_ends l t m (eqb-false _ _ e) (eqb-false _ _ f))
    go false e true f ih =
        line_more l t n (eqb-false _ _ e) (eqb-true _ _ f)
        ∙ ih (shorter t n (eqb-false _ _ e) h) (shorter t m (eqb-false _ _ e) k)
        ∙ sym (line_more l t m (eqb-false _ _ e) (eqb-true _ _ f))

-- ---- the same at a place of a text

-- what the loop has yet to read
abbrev pub reads_from : Line → List ℕ → Scanned
reads_from l t = line_from (suc (length t)) l t

module _ (text : List ℕ) (at k : ℕ) (l : Line) (e : k ≡ cell_length (drop at text)) (h : at ≤ length text) where
  byte_is : get_or text (at + k) 0 ≡ get_or (drop at text) (cell_length (drop at text)) 0
  byte_is = sym (get_or-drop at text k 0) ∙ ap (λ (n : ℕ). get_or (drop at text) n 0) e

  next_is : drop (suc (cell_length (drop at text))) (drop at text) ≡ drop (at + k + 1) text
  next_is =
      let q : at + suc (cell_length (drop at text)) ≡ at + k + 1 = omega (arith, e) in
      drop-drop (suc (cell_length (drop at text))) at text ∙ ap (λ (n : ℕ). drop n text) q

  pub at_open : at + k ≡ length text → scanned false l (drop at text) ≡ reads_from l (drop at text)
  at_open q = sym (line_open l (drop at text) (length (drop at text)) (simp length-drop (omega (arith, e))))

  module _ (q : at + k ≡ length text → ⊥) (c : Line) (ec : c ≡ cell_of l (take (at + k - at) (drop at text))) where
    inside : cell_length (drop at text) ≡ length (drop at text) → ⊥
    inside z = q (omega (arith, e, z, length-drop at text))

    cell_is : c ≡ cell_of l (take (cell_length (drop at text)) (drop at text))
    cell_is =
        let i : at + k - at ≡ cell_length (drop at text) = omega (arith, e) in
        ec ∙ ap (λ (n : ℕ). cell_of l (take n (drop at text))) i

    pub at_end : (get_or text (at + k) 0 ≡ 9 → ⊥) → scanned true c (drop (at + k + 1) text) ≡ reads_from l (drop at text)
    at_end n =
        (λ j. scanned true (cell_is j) (sym next_is j))
        ∙ sym (line_ends l (drop at text) (length (drop at text)) inside (λ z. n (byte_is ∙ z)))

    pub at_tab : get_or text (at + k) 0 ≡ 9 → reads_from c (drop (at + k + 1) text) ≡ reads_from l (drop at text)
    at_tab n =
        let d : List ℕ = drop (suc (cell_length (drop at text))) (drop at text) in
        (λ j. reads_from (cell_is j) (sym next_is j))
        ∙ line_fuel (suc (length d)) (length (drop at text)) (cell_of l (take (cell_length (drop at text)) (drop at text))) d (omega arith)
        (shorter (drop at text) (length (drop at text)) inside (omega arith))
        ∙ sym (line_more l (drop at text) (length (drop at text)) inside (sym byte_is ∙ n))

pub ends_there : (text : List ℕ) (at : ℕ) (l : Line) → length text ≤ at → scanned false l (drop at text) ≡ reads_from l (drop at text)
ends_there text at l h = go (drop at text) (simp length-drop (omega arith))
  where
    go : (t : List ℕ) → length t ≡ 0 → scanned false l t ≡ reads_from l t
    go [] z = refl
    go (x ∷ t) z = absurd (omega arith)

pub line_starts : (t : List ℕ) (l : Line) → l ≡ blank_line → line_of t ≡ reads_from l t
unfolding line_of
line_starts t l e = ap (λ (x : Line). reads_from x t) (sym e)
