-- Laws of the lists that the calls work on: a block shifted in, a block overwritten, an answer written over lent memory, the last time.
-- Assumes nothing.
use Prim.Native.Nat.{ℕ, zero, suc, min, ◌+◌, ◌-◌, ◌≤◌, ◌<◌}
use mathlib.Core.Path.{◌≡◌, refl, sym, ap, ◌∙◌}
use mathlib.Core.List.{List, [], ◌∷◌, ◌++◌}
use native.Mathlib.Omega.{arith}
use native.Mathlib.Nat.{not-suc-le-zero, le_of_suc-le-suc}
use native.Mathlib.Numerals.{add-one}
use lib.ListN.{length, get_or, set, take, drop, replicate, length-append, length-drop, take-append-drop}
use lib.Seq.{length-take-le, append_snoc, take_at, take-length, take_all, drop-length, set_split, paste}
use Rattle.std.specs.List.{copy_within, slice_get}
use Rattle.std.specs.Option.{unwrap_or}
use Rattle.std.proofs.lemmas.List.{take_min}
use Rattle.std.proofs.lemmas.Option.{unwrap_or-slice_get}
use Rattle.std.proofs.lemmas.Slice.{put_mid-paste}
use borrow.Rule.Slice.PartMut.{put_mid}
use Rattle.refusal.specs.Lent.{over}
use Rattle.trcf.specs.Lists.{last_or, shift_in, overwrite}

-- ---- shifting in

-- after i turns of the loop that moves each element w places down
module _ {A : Type 0} where
  unfoldable pub slid : ℕ → List A → ℕ → List A
  slid w l i = take i (drop w l) ++ drop i l

module _ {A : Type 0} (w : ℕ) (l : List A) (i : ℕ) (fits : i + w ≤ length l) where
  pub length_moved : length (take i (drop w l)) ≡ i
  length_moved = length-take-le i (drop w l) (omega (arith, length-drop w l))

module _ {A : Type 0} where
  append_none : (l : List A) → l ++ [] ≡ l
  append_none [] = refl
  append_none (x ∷ l) = ap (λ (q : List A). x ∷ q) (append_none l)

  -- what is pasted to the end
  pub paste_end : (l x : List A) (m : ℕ) → m + length x ≡ length l → paste l m x (length x) ≡ take m l ++ x
  paste_end l x m e =
      ap (λ (q : List A). take m l ++ q ++ drop (m + length x) l) (take-length x)
      ∙ ap (λ (k : ℕ). take m l ++ x ++ drop k l) e
      ∙ ap (λ (q : List A). take m l ++ x ++ q) (drop-length l)
      ∙ append_none (take m l ++ x)

  pub length_slid : (w : ℕ) (l : List A) (i : ℕ) → i + w ≤ length l → length (slid w l i) ≡ length l
  unfolding slid
  length_slid w l i h =
      omega (arith, length-append (take i (drop w l)) (drop i l), length_moved w l i h, length-drop i l)

  -- the end: x is copied in after the rest
  pub slid_paste : (l x : List A) (m : ℕ) → m + length x ≡ length l → paste (slid (length x) l m) m x (length x) ≡ shift_in l x
  unfolding slid shift_in
  slid_paste l x m e =
      let le : m + length x ≤ length l = omega arith in
      paste_end (slid (length x) l m) x m (e ∙ sym (length_slid (length x) l m le))
      ∙ ap (λ (q : List A). q ++ x)
      (take_at (take m (drop (length x) l)) (drop m l) m (length_moved (length x) l m le)
      ∙ take_all m (drop (length x) l) (omega (arith, length-drop (length x) l)))

  -- the end, by two copies within the list
  pub shift_in_place : (l x s y : List A) → length x ≤ length l → length s ≡ length l → s ≡ copy_within l (length x) (length l) 0 → y ≡ x
      → put_mid (length l - length x) (length s - (length l - length x)) s y ≡ shift_in l x
  unfolding slid
  shift_in_place l x s y h k e f =
      let m = length l - length x in
      let n : 0 + m ≡ m = omega arith in
      put_mid-paste m (length s - m) s y x (length x) f (omega arith) refl
      ∙ ap (λ (q : List A). paste q m x (length x)) (e ∙ ap (λ (j : ℕ). take m (drop (length x) l) ++ drop j l) n)
      ∙ slid_paste l x m (omega arith)

  -- ---- overwriting the last block

  pub paste_overwrite : (l x : List A) (m : ℕ) → m + length x ≡ length l → paste l m x (length x) ≡ overwrite l x
  unfolding overwrite
  paste_overwrite l x m e =
      let k : m ≡ length l - length x = omega arith in
      paste_end l x m e ∙ ap (λ (n : ℕ). take n l ++ x) k

  pub set_overwrite : (l : List A) (t : A) (m : ℕ) → suc m ≡ length l → set l m t ≡ overwrite l (t ∷ [])
  unfolding overwrite
  set_overwrite l t m e =
      let h : m < length l = omega arith in
      let k : m ≡ length l - 1 = omega arith in
      set_split l m t h
      ∙ ap (λ (n : ℕ). take m l ++ t ∷ drop n l) e
      ∙ ap (λ (q : List A). take m l ++ t ∷ q) (drop-length l)
      ∙ ap (λ (n : ℕ). take n l ++ t ∷ []) k

  -- ---- writing over lent memory

  -- a part that came back
  pub over_part : (l v : List A) (n : ℕ) → length v ≡ n → v ++ drop n l ≡ over l v
  unfolding over
  over_part l v n e = ap (λ (k : ℕ). v ++ drop k l) (sym e)

  pub over_take : (l : List A) (n : ℕ) → n ≤ length l → over l (take n l) ≡ l
  unfolding over
  over_take l n h = ap (λ (k : ℕ). take n l ++ drop k l) (length-take-le n l h) ∙ take-append-drop n l

  pub paste_over : (l x : List A) → paste l 0 x (length x) ≡ over l x
  unfolding over
  paste_over l x =
      let e : 0 + length x ≡ length x = omega arith in
      ap (λ (q : List A). q ++ drop (0 + length x) l) (take-length x) ∙ ap (λ (k : ℕ). x ++ drop k l) e

  pub length_over : (l v : List A) → length v ≤ length l → length (over l v) ≡ length l
  unfolding over
  length_over l v h = omega (arith, length-append v (drop (length v) l), length-drop (length v) l)

  -- ---- filling

  fill_suc : (n : ℕ) (v : A) (d : List A) → n < length d → set (replicate n v ++ drop n d) n v ≡ replicate (suc n) v ++ drop (suc n) d
  fill_suc n v [] l = absurd (not-suc-le-zero l)
  fill_suc zero v (x ∷ d) l = refl
  fill_suc (suc n) v (x ∷ d) l = ap (λ (t : List A). v ∷ t) (fill_suc n v d (le_of_suc-le-suc l))

  pub filled : (n : ℕ) (v : A) (d : List A) → n < length d → set (replicate n v ++ drop n d) n v ≡ replicate (n + 1) v ++ drop (n + 1) d
  filled n v d l = rw add-one (fill_suc n v d l)

  -- ---- the last

  pub last_or_is : (a b : A) (l : List A) (m : ℕ) → length l ≡ suc m → last_or a l ≡ get_or l m b
  last_or_is a b [] m e = absurd (omega arith)
  last_or_is a b (x ∷ []) zero e = refl
  last_or_is a b (x ∷ []) (suc m) e = absurd (omega arith)
  last_or_is a b (x ∷ y ∷ l) zero e = absurd (omega arith)
  last_or_is a b (x ∷ y ∷ l) (suc m) e =
      let h : length (y ∷ l) ≡ suc m = omega arith in
      last_or_is x b (y ∷ l) m h

-- ---- the last

last_get : (l : List ℕ) → get_or l (length l - 1) 0 ≡ last_or 0 l
last_get [] = refl
last_get (x ∷ l) = sym (last_or_is 0 0 (x ∷ l) (length (x ∷ l) - 1) (omega arith))

-- the last of the first n
pub last_of_first : (l : List ℕ) (n k : ℕ) → k ≡ min n (length l) → unwrap_or (slice_get (take k l) (length (take k l) - 1)) 0 ≡ last_or 0 (take n l)
last_of_first l n k e =
    unwrap_or-slice_get (take k l) (length (take k l) - 1) 0
    ∙ last_get (take k l)
    ∙ ap (last_or 0) (ap (λ (j : ℕ). take j l) e ∙ take_min n l)

module _ {A : Type 0} where
  -- what is put after the first m
  pub paste_behind : (l x : List A) (m : ℕ) → m + length x ≤ length l → paste l m x (length x) ≡ over l (take m l ++ x)
  unfolding over
  paste_behind l x m h =
      let k : length (take m l ++ x) ≡ m + length x =
      omega (arith, length-append (take m l) x, length-take-le m l (omega arith)) in
      ap (λ (q : List A). take m l ++ q ++ drop (m + length x) l) (take-length x)
      ∙ ap (λ (n : ℕ). (take m l ++ x) ++ drop n l) (sym k)

  pub set_behind : (l : List A) (t : A) (m : ℕ) → m < length l → set l m t ≡ over l (take m l ++ (t ∷ []))
  unfolding over
  set_behind l t m h =
      let k : length (take m l ++ (t ∷ [])) ≡ suc m =
      omega (arith, length-append (take m l) (t ∷ []), length-take-le m l (omega arith)) in
      set_split l m t h
      ∙ sym (append_snoc (take m l) t (drop (suc m) l))
      ∙ ap (λ (n : ℕ). (take m l ++ (t ∷ [])) ++ drop n l) (sym k)
