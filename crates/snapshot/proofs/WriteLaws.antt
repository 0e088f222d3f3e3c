-- Laws of storing: what is stored piece by piece is stored whole, from the front or from the back.
use Prim.Native.Nat.{ℕ, zero, suc, ◌+◌, ◌-◌, ◌*◌, ◌/◌, ◌%◌, ◌^◌, ◌≤◌, ◌<◌}
use native.Mathlib.Nat.{add-zero, pow-succ'}
use native.Mathlib.Omega.{arith}
use mathlib.Core.Path.{◌≡◌, refl, sym, ap, ◌∙◌, subst}
use mathlib.Core.Bool.{Bool, true, false}
use mathlib.Core.List.{List, [], ◌∷◌, ◌++◌, map, append_assoc}
use lib.ListN.{length, set, drop, get_or, length-append, length-set}
use lib.Seq.{sets, sets-eq, set_comm}
use lib.Dec.{ltb}
use lib.Ieee.{Float, Format, binary32, to_bits}
use borrow.Author.Tests.{ltb-true, ltb-false}
use Rattle.refusal.specs.Lent.{over}
use Rattle.trcf.specs.Settings.{whole_max}
use Rattle.snapshot.specs.Text.{whole, hex, digit, width, float, tabbed_fields}
use Rattle.snapshot.specs.Steps.Write.{stored, Wrote, tabbed}
use Rattle.snapshot.proofs.ScanLaws.{whole_digit, whole_snoc}
use Rattle.snapshot.proofs.HexLaws.{hex_length}

-- ---- storing

pub stored_append : (a old : List ℕ) (at : ℕ) (b : List ℕ) → stored old at (a ++ b) ≡ stored (stored old at a) (at + length a) b
unfolding stored
stored_append [] old at b = ap (λ (k : ℕ). sets old k b) (sym (add-zero at))
stored_append (x ∷ a) old at b =
    stored_append a (set old at x) (suc at) b ∙ ap (λ (k : ℕ). sets (sets (set old at x) (suc at) a) k b) (omega arith)

-- a later store may come first
set_before : (a old : List ℕ) (at j d : ℕ) → at + length a ≤ j → sets (set old j d) at a ≡ set (sets old at a) j d
set_before [] old at j d h = refl
set_before (x ∷ a) old at j d h =
    ap (λ (l : List ℕ). sets l (suc at) a) (set_comm old j at d x (λ e. omega arith)) ∙ set_before a (set old at x) (suc at) j d (omega arith)

pub stored_snoc : (a old : List ℕ) (at d : ℕ) → stored old at (a ++ (d ∷ [])) ≡ stored (set old (at + length a) d) at a
unfolding stored
stored_snoc a old at d = stored_append a old at (d ∷ []) ∙ sym (set_before a old at (at + length a) d (omega arith))

pub stored_one : (old : List ℕ) (at d : ℕ) → stored old at (d ∷ []) ≡ set old at d
unfolding stored
stored_one old at d = refl

pub stored_none : (old : List ℕ) (at : ℕ) → stored old at [] ≡ old
unfolding stored
stored_none old at = refl

-- stored from the front on, it lies over what was there
pub stored_over : (old b : List ℕ) → length b ≤ length old → stored old 0 b ≡ over old b
unfolding stored over
stored_over old b h = let e : 0 + length b ≡ length b = omega arith in sets-eq b old 0 (omega arith) ∙ ap (λ (k : ℕ). b ++ drop k old) e

-- ---- writing piece by piece

pub wrote_one : (at x : ℕ) (old : List ℕ) → Wrote at (x ∷ []) old (at + 1) (set old at x)
wrote_one at x old = record { place = refl; bytes = sym (stored_one old at x); kept = length-set old at x }

pub wrote_then : {at r s : ℕ} {a b old mid new : List ℕ} → Wrote at a old r mid → Wrote r b mid s new → Wrote at (a ++ b) old s new
wrote_then {at} {r} {s} {a} {b} {old} {mid} {new} v w =
    record {
      place = w.place ∙ simp length-append (omega (arith, v.place));
      bytes = w.bytes ∙ ap (λ (l : List ℕ). stored l r b) v.bytes ∙ ap (λ (k : ℕ). stored (stored old at a) k b) v.place
          ∙ sym (stored_append a old at b);
      kept = w.kept ∙ v.kept;
    }

pub wrote_is : {at r : ℕ} {a b old new : List ℕ} → a ≡ b → Wrote at a old r new → Wrote at b old r new
wrote_is {at} {r} {a} {b} {old} {new} e w = subst (λ (x : List ℕ). Wrote at x old r new) e w

-- ---- what a loop has yet to write

pub record Left (at : ℕ) (b old : List ℕ) (p : ℕ) (rest new : List ℕ) : Type 0 where
  pub place : at + length b ≡ p + length rest
  pub bytes : stored old at b ≡ stored new p rest
  pub kept : length new ≡ length old

pub left_all : {at : ℕ} {b old : List ℕ} → Left at b old at b old
left_all = record { place = refl; bytes = refl; kept = refl }

pub left_step : {at p q : ℕ} {b old mid new : List ℕ} (x y : List ℕ) {rest : List ℕ} → Left at b old p rest mid → rest ≡ x ++ y → Wrote p x mid q new → Left at b old q y new
left_step {at} {p} {q} {b} {old} {mid} {new} x y {rest} l e w =
    record {
      place = l.place ∙ ap (λ (r : List ℕ). p + length r) e ∙ simp length-append (omega (arith, w.place));
      bytes = l.bytes ∙ ap (stored mid p) e ∙ stored_append x mid p y ∙ ap (λ (k : ℕ). stored (stored mid p x) k y) (sym w.place)
          ∙ ap (λ (o : List ℕ). stored o q y) (sym w.bytes);
      kept = w.kept ∙ l.kept;
    }

pub left_done : {at p : ℕ} {b old rest new : List ℕ} → Left at b old p rest new → rest ≡ [] → Wrote at b old p new
left_done {at} {p} {b} {old} {rest} {new} l e =
    record {
      place = sym (l.place ∙ ap (λ (r : List ℕ). p + length r) e ∙ add-zero p);
      bytes = sym (l.bytes ∙ ap (stored new p) e ∙ stored_none new p);
      kept = l.kept;
    }

-- ---- lengths

pub float_length : (f : Format) (x : Float) → length (float f x) ≡ width f
unfolding float
float_length f x = hex_length (width f) (to_bits f x)

pub floats_length : (l : List Float) → length (tabbed (map (float binary32) l)) ≡ 9 * length l
floats_length [] = refl
floats_length (x ∷ xs) =
    ap suc (length-append (float binary32 x) (tabbed (map (float binary32) xs))) ∙ omega (arith, float_length binary32 x, floats_length xs)

-- three bytes of a list of three
pub three_of : (l : List ℕ) → length l ≡ 3 → get_or l 0 0 ∷ get_or l 1 0 ∷ get_or l 2 0 ∷ [] ≡ l
three_of [] h = absurd (omega (arith, h))
three_of (a ∷ []) h = absurd (omega (arith, h))
three_of (a ∷ (b ∷ [])) h = absurd (omega (arith, h))
three_of (a ∷ (b ∷ (c ∷ []))) h = refl
three_of (a ∷ (b ∷ (c ∷ (d ∷ l)))) h = absurd (omega (arith, h))

pub behind_tabbed : (fs : List (List ℕ)) → tabbed_fields fs ≡ tabbed fs ++ (10 ∷ [])
behind_tabbed [] = refl
behind_tabbed (f ∷ fs) = ap (λ (t : List ℕ). 9 ∷ t) (ap (λ (t : List ℕ). f ++ t) (behind_tabbed fs) ∙ sym (append_assoc f (tabbed fs) (10 ∷ [])))

-- ---- whole numbers, one digit at a time

pub whole_more : (m : ℕ) → 10 ≤ m → whole m ≡ whole (m / 10) ++ ((48 + m % 10) ∷ [])
whole_more m h =
    let e : 10 * (m / 10) + m % 10 ≡ m = omega arith in
    ap whole (sym e) ∙ whole_snoc (m / 10) (m % 10) (omega arith) (omega arith)

pub whole_more_length : (m : ℕ) → 10 ≤ m → length (whole m) ≡ suc (length (whole (m / 10)))
whole_more_length m h = ap length (whole_more m h) ∙ length-append (whole (m / 10)) _ ∙ omega arith

pub whole_less : (m : ℕ) → m < 10 → whole m ≡ (48 + m) ∷ []
whole_less m h = whole_digit m h

pub whole_pos : (m : ℕ) → 0 < length (whole m)
whole_pos m = go (ltb m 10) refl
  where
    go : (b : Bool) → ltb m 10 ≡ b → 0 < length (whole m)
    go true e = rw (whole_less m (ltb-true _ _ e)) (omega arith)
    go false e = omega (arith, whole_more_length m (ltb-false _ _ e))

pub whole_many : (m : ℕ) → 1 < length (whole m) → 10 ≤ m
whole_many m h = go (ltb m 10) refl
  where
    go : (b : Bool) → ltb m 10 ≡ b → 10 ≤ m
    go true e = absurd (omega (arith, h, ap length (whole_less m (ltb-true _ _ e))))
    go false e = ltb-false _ _ e

pub whole_few : (m : ℕ) → length (whole m) ≤ 1 → m < 10
whole_few m h = go (ltb m 10) refl
  where
    go : (b : Bool) → ltb m 10 ≡ b → m < 10
    go true e = ltb-true _ _ e
    go false e = absurd (omega (arith, h, whole_more_length m (ltb-false _ _ e), whole_pos (m / 10)))

-- a number of at most k + 1 digits
pub whole_within_lem : (k m : ℕ) → m < 10 ^ suc k → length (whole m) ≤ suc k
whole_within_lem zero m h = rw (whole_less m h) (omega arith)
whole_within_lem (suc k) m h = go (ltb m 10) refl (whole_within_lem k (m / 10))
  where
    go : (b : Bool) → ltb m 10 ≡ b → (m / 10 < 10 ^ suc k → length (whole (m / 10)) ≤ suc k) → length (whole m) ≤ suc (suc k)
    go true e ih = rw (whole_less m (ltb-true _ _ e)) (omega arith)
    go false e ih =
        let g : 10 ≤ m = ltb-false _ _ e in
        let p : 10 ^ suc (suc k) ≡ 10 * 10 ^ suc k = pow-succ' 10 (suc k) in
        omega (arith, whole_more_length m g, ih (omega arith))

pub whole_short : (m : ℕ) → m ≤ whole_max → length (whole m) ≤ 20
whole_short m h = whole_within_lem 19 m (omega arith)

-- ---- digits stored from the back

pub hex_back : (i m : ℕ) (old : List ℕ) (at : ℕ) → 0 < i → stored old at (hex i m) ≡ stored (set old (at + (i - 1)) (digit (m % 16))) at (hex (i - 1) (m / 16))
hex_back zero m old at h = absurd (omega arith)
hex_back (suc i) m old at h =
    let e : suc i - 1 ≡ i = omega arith in
    stored_snoc (hex i (m / 16)) old at (digit (m % 16)) ∙ rw (e, hex_length i (m / 16))

pub whole_back : (m : ℕ) (old : List ℕ) (at : ℕ) → 10 ≤ m → stored old at (whole m) ≡ stored (set old (at + (length (whole m) - 1)) (48 + m % 10)) at (whole (m / 10))
whole_back m old at h =
    let e : length (whole m) - 1 ≡ length (whole (m / 10)) = omega (arith, whole_more_length m h) in
    ap (stored old at) (whole_more m h) ∙ stored_snoc (whole (m / 10)) old at (48 + m % 10)
    ∙ ap (λ (k : ℕ). stored (set old (at + k) (48 + m % 10)) at (whole (m / 10))) (sym e)
