-- Scanning hexadecimal digits gives the bit pattern that they write, and nothing else.
use Rattle.std.specs.Prelude.{Some, None}
use Prim.Native.Nat.{ℕ, zero, suc, ◌+◌, ◌-◌, ◌*◌, ◌/◌, ◌%◌, ◌^◌, ◌≤◌, ◌<◌}
use native.Mathlib.Nat.{mod-lt, mul-le-mul_right, pow-succ', mul_assoc, pow-suc, pow-le-pow_right, zero-add, add-zero, suc-add, add-suc}
use native.Mathlib.Omega.{arith}
use mathlib.Core.Path.{◌≡◌, refl, sym, ap, ◌∙◌, subst}
use mathlib.Core.Bool.{Bool, true, false, not, ◌&&◌, false≢true}
use mathlib.Core.List.{List, [], ◌∷◌, ◌++◌, append-nil, append_assoc}
use mathlib.Core.Logic.{◌⊎◌, inl, inr}
use mathlib.Core.Option.{Option, none, some, some-injective, none-ne-some}
use lib.ListN.{length, drop, get_or, drop_of_length-le, length-append}
use lib.Seq.{drop-cons}
use lib.Dec.{T, leb, ltb, eqb}
use lib.Ieee.{Float, nan, inf, fin, Format, binary32, binary64, of_bits, to_bits, nan_bits, is_nan, fits, top}
use lib.Ieee.Bits.{of_bits-to_bits, to_bits-lt, of_bits-fits, to_bits-of_bits, nan_bits_is}
use borrow.Author.Tests.{ltb-true, ltb-false, leb-true, leb-false, eqb-true, lt-ltb, le-ltb, le-leb, lt-leb, ne_eqb, eq-eqb, eqb-false}
use Rattle.trcf.specs.Settings.{whole_max}
use Rattle.snapshot.specs.Text.{digit, hex, width, float}
use Rattle.snapshot.specs.Read.{same, as_float, float_from}
use Rattle.snapshot.proofs.Fields.{float_from_lem}
use Rattle.snapshot.proofs.Lists.{and_left, and_right}
use Rattle.snapshot.proofs.ReadLine.{same_refl, same_eq}
use Rattle.snapshot.specs.Scan.{number_of}
use Rattle.snapshot.specs.Steps.Scan.{hex_of, hscan, sized, bits_of, float_of}

-- ---- what `as_float` says

pub float_of_lem : (f : Format) (c : List ℕ) (x : Float) → as_float f c ≡ some x → (float f x ≡ c) × T (fits f x)
unfolding as_float float_from
float_of_lem f c x e = go (same (float f (float_from f c)) c) refl
  where
    go : (b : Bool) → same (float f (float_from f c)) c ≡ b → (float f x ≡ c) × T (fits f x)
    go true h =
        let q : float_from f c ≡ x = some-injective (float_from f c) x (rw h at e) in
        subst (λ (y : Float). (float f y ≡ c) × T (fits f y)) q (same_eq (float f (float_from f c)) c h, of_bits-fits f _)
    go false h = absurd (none-ne-some x (rw h at e))

pub of_float : (f : Format) (x : Float) → T (fits f x) → as_float f (float f x) ≡ some x
unfolding as_float
of_float f x h = rw (float_from_lem f x h, same_refl (float f x))

-- ---- one digit

-- the digit that is written is the one that is read
digit_hex : (d : ℕ) → d < 16 → hex_of (digit d) ≡ d
digit_hex d h = go (ltb d 10) refl
  where
    go : (b : Bool) → ltb d 10 ≡ b → hex_of (digit d) ≡ d
    go true e = let k : d < 10 = ltb-true _ _ e in rw (e, le-ltb (48 + d) 48 (omega arith), le-leb (48 + d) 57 (omega arith)) (omega arith)
    go false e =
        let k : 10 ≤ d = ltb-false _ _ e in
        rw (e, le-ltb (87 + d) 48 (omega arith), lt-leb (87 + d) 57 (omega arith), le-ltb (87 + d) 97 (omega arith), le-leb (87 + d) 102 (omega arith)) (omega arith)

hex_digit : (b : ℕ) → hex_of b ≤ 15 → digit (hex_of b) ≡ b
hex_digit b h = go (ltb b 48) (leb b 57) (ltb b 97) (leb b 102) refl refl refl refl
  where
    go : (p q r s : Bool) → ltb b 48 ≡ p → leb b 57 ≡ q → ltb b 97 ≡ r → leb b 102 ≡ s → digit (hex_of b) ≡ b
    go true q r s x y z w = absurd (omega (arith, rw x at h))
    go false true r s x y z w =
        let a : 48 ≤ b = ltb-false _ _ x in
        let c : b ≤ 57 = leb-true _ _ y in
        rw (x, y, lt-ltb (b - 48) 10 (omega arith)) (omega arith)
    go false false true s x y z w = absurd (omega (arith, rw (x, y, z) at h))
    go false false false true x y z w =
        let a : 97 ≤ b = ltb-false _ _ z in
        let c : b ≤ 102 = leb-true _ _ w in
        rw (x, y, z, w, le-ltb (b - 87) 10 (omega arith)) (omega arith)
    go false false false false x y z w = absurd (omega (arith, rw (x, y, z, w) at h))

-- ---- from the scan to the bits

hscan_cons : (a b n : ℕ) (bs : List ℕ) → hscan a (b ∷ bs) ≡ some n → (hex_of b ≤ 15) × (16 * a + hex_of b ≤ whole_max) × (hscan (16 * a + hex_of b) bs ≡ some n)
hscan_cons a b n bs h = go (leb (hex_of b) 15 && leb (16 * a + hex_of b) whole_max) refl
  where
    go : (t : Bool) → leb (hex_of b) 15 && leb (16 * a + hex_of b) whole_max ≡ t → (hex_of b ≤ 15) × (16 * a + hex_of b ≤ whole_max) × (hscan (16 * a + hex_of b) bs ≡ some n)
    go true e = (leb-true _ _ (and_left _ _ e), leb-true _ _ (and_right (leb (hex_of b) 15) _ e), rw e at h)
    go false e = absurd (none-ne-some n (rw e at h))

hex_snoc : (w m d : ℕ) → d < 16 → hex (suc w) (16 * m + d) ≡ hex w m ++ (digit d ∷ [])
hex_snoc w m d h =
    let q : (16 * m + d) / 16 ≡ m = omega arith in
    let r : (16 * m + d) % 16 ≡ d = omega arith in
    rw (q, r)

hscan_hex : (w m n : ℕ) (cs : List ℕ) → hscan m cs ≡ some n → hex (w + length cs) n ≡ hex w m ++ cs
hscan_hex w m n [] e = let q : m ≡ n = some-injective m n e in rw (add-zero w, append-nil, q)
hscan_hex w m n (b ∷ bs) e =
    let s = hscan_cons m b n bs e in
    ap (λ (k : ℕ). hex k n) (add-suc w (length bs) ∙ sym (suc-add w (length bs)))
    ∙ hscan_hex (suc w) (16 * m + hex_of b) n bs s.2 ∙ rw (hex_snoc w m (hex_of b) (omega arith), hex_digit b s.0, append_assoc)

hscan_lt : (m n : ℕ) (cs : List ℕ) → hscan m cs ≡ some n → n < suc m * 16 ^ length cs
hscan_lt m n [] e = let q : m ≡ n = some-injective m n e in omega arith
hscan_lt m n (b ∷ bs) e =
    let s = hscan_cons m b n bs e in
    let i : n < suc (16 * m + hex_of b) * 16 ^ length bs = hscan_lt (16 * m + hex_of b) n bs s.2 in
    let k : suc (16 * m + hex_of b) * 16 ^ length bs ≤ suc m * 16 * 16 ^ length bs = mul-le-mul_right (16 ^ length bs) (omega arith) in
    let z : suc m * 16 ^ suc (length bs) ≡ suc m * 16 * 16 ^ length bs = ap (λ (x : ℕ). suc m * x) (pow-succ' 16 (length bs)) ∙ sym (mul_assoc (suc m) 16 (16 ^ length bs)) in
    omega arith

-- ---- from the bits to the scan

hscan_one : (a c : ℕ) (r : List ℕ) → hex_of c ≤ 15 → 16 * a + hex_of c ≤ whole_max → hscan a (c ∷ r) ≡ hscan (16 * a + hex_of c) r
hscan_one a c r h k = rw (le-leb (hex_of c) 15 h, le-leb (16 * a + hex_of c) whole_max k)

hscan_snoc : (a : ℕ) (l : List ℕ) (c m : ℕ) → hex_of c ≤ 15 → 16 * m + hex_of c ≤ whole_max → hscan a l ≡ some m → hscan a (l ++ (c ∷ [])) ≡ some (16 * m + hex_of c)
hscan_snoc a [] c m h k e = let q : a ≡ m = some-injective a m e in rw q (hscan_one m c [] h k)
hscan_snoc a (x ∷ xs) c m h k e =
    let s = hscan_cons a x m xs e in
    hscan_one a x (xs ++ (c ∷ [])) s.0 s.1 ∙ hscan_snoc (16 * a + hex_of x) xs c m h k s.2

hex_hscan : (w n : ℕ) → n < 16 ^ w → n ≤ whole_max → hscan 0 (hex w n) ≡ some n
hex_hscan zero n h k = ap some (omega arith)
hex_hscan (suc w) n h k =
    let p : 16 ^ suc w ≡ 16 * 16 ^ w = pow-succ' 16 w in
    let q : n % 16 < 16 = mod-lt n (omega arith) in
    let d : hex_of (digit (n % 16)) ≡ n % 16 = digit_hex (n % 16) q in
    hscan_snoc 0 (hex w (n / 16)) (digit (n % 16)) (n / 16) (omega arith) (omega arith) (hex_hscan w (n / 16) (omega arith) (omega arith)) ∙ ap some (omega arith)

pub hex_length : (w n : ℕ) → length (hex w n) ≡ w
hex_length zero n = refl
hex_length (suc w) n = length-append (hex w (n / 16)) _ ∙ omega (arith, hex_length w (n / 16))

-- ---- the two are one

bits : (f : Format) → (16 ^ width f ≡ 2 * top f) × (2 * top f ≤ suc whole_max)
bits binary32 = (refl, omega arith)
bits binary64 = (refl, omega arith)

not_nan : (f : Format) (n : ℕ) → nan_bits f n ≡ false → T (not (is_nan (of_bits f n)))
not_nan f n h = rw (sym (nan_bits_is f n) ∙ h) tt

-- a text of a float has the width, and is the scan of its bits
written : (f : Format) (c : List ℕ) (x : Float) → as_float f c ≡ some x → (length c ≡ width f) × (hscan 0 c ≡ some (to_bits f x)) × (nan_bits f (to_bits f x) ≡ is_nan x)
unfolding float
written f c x e =
    let r = float_of_lem f c x e in
    let k : to_bits f x < 2 * top f = to_bits-lt f x r.1 in
    let z : to_bits f x < 16 ^ width f = rw (bits f).0 k in
    let q : to_bits f x ≤ whole_max = omega (arith, (bits f).1) in (
      subst (λ (l : List ℕ). length l ≡ width f) r.0 (hex_length (width f) (to_bits f x)),
      subst (λ (l : List ℕ). hscan 0 l ≡ some (to_bits f x)) r.0 (hex_hscan (width f) (to_bits f x) z q),
      nan_bits_is f (to_bits f x) ∙ ap is_nan (of_bits-to_bits f x r.1),
    )

only_nan : (x : Float) → is_nan x ≡ true → x ≡ nan
unfolding is_nan
only_nan nan h = refl
only_nan (inf s) h = absurd (false≢true h)
only_nan (fin s m e) h = absurd (false≢true h)

read_float : (f : Format) (c : List ℕ) (n : ℕ) → length c ≡ width f → hscan 0 c ≡ some n → as_float f c ≡ bits_of f (some n)
unfolding float fits
read_float f c n l e = go (nan_bits f n) (eqb n (to_bits f nan)) refl refl
  where
    is : hex (width f) n ≡ c
    is = ap (λ (k : ℕ). hex k n) (sym l ∙ sym (zero-add (length c))) ∙ hscan_hex 0 0 n c e

    wide : 16 ^ length c ≡ 2 * top f
    wide = ap (λ (k : ℕ). 16 ^ k) l ∙ (bits f).0

    small : n < 2 * top f
    small = omega (arith, hscan_lt 0 n c e, wide)

    other : (o : Option Float) → as_float f c ≡ o → nan_bits f n ≡ true → (n ≡ to_bits f nan → ⊥) → as_float f c ≡ none
    other none o x y = o
    other (some v) o x y =
        let r = written f c v o in
        let q : n ≡ to_bits f v = some-injective n (to_bits f v) (sym e ∙ r.1) in
        absurd (y (q ∙ ap (to_bits f) (only_nan v (sym r.2 ∙ ap (nan_bits f) (sym q) ∙ x))))

    go : (p q : Bool) → nan_bits f n ≡ p → eqb n (to_bits f nan) ≡ q → as_float f c ≡ bits_of f (some n)
    go true true x y = rw (x, y) (subst (λ (t : List ℕ). as_float f t ≡ some nan) (ap (hex (width f)) (sym (eqb-true n (to_bits f nan) y)) ∙ is) (of_float f nan tt))
    go true false x y = rw (x, y) (other (as_float f c) refl x (eqb-false n (to_bits f nan) y))
    go false q x y = rw x (subst (λ (t : List ℕ). as_float f t ≡ some (of_bits f n)) (ap (hex (width f)) (to_bits-of_bits f n small (not_nan f n x)) ∙ is) (of_float f
        (of_bits f n) (of_bits-fits f n)))

pub float_is : (f : Format) (c : List ℕ) → as_float f c ≡ float_of f c
float_is f c = go (eqb (length c) (width f)) refl (hscan 0 c) refl (as_float f c) refl
  where
    go : (b : Bool) → eqb (length c) (width f) ≡ b → (o : Option ℕ) → hscan 0 c ≡ o → (a : Option Float) → as_float f c ≡ a → as_float f c ≡ float_of f c
    go true l (some n) e a h = rw (l, e) (read_float f c n (eqb-true _ _ l) e)
    go true l none e none h = rw (l, e) h
    go true l none e (some x) h = absurd (none-ne-some (to_bits f x) (sym e ∙ (written f c x h).1))
    go false l o e none h = rw l h
    go false l o e (some x) h = absurd (eqb-false _ _ l (written f c x h).0)

-- ---- one turn of the loop

-- What i bytes tell, of which `largest` is the largest digit: with digits alone the rest of the scan decides, and beside any other byte there is
-- no number.
abbrev pub Told : List ℕ → ℕ → ℕ → ℕ → Type 0
Told c n largest i = (n < 16 ^ i) × (largest ≤ 15 → hscan 0 c ≡ hscan n (drop i c)) × (15 < largest → hscan 0 c ≡ none)

pub told_first : (c : List ℕ) → Told c 0 0 0
told_first c = (omega arith, λ k. refl, λ k. absurd (omega arith))

-- there is room for another digit before the 16th
pub room : (c : List ℕ) (n largest i : ℕ) → length c ≤ 16 → i < length c → Told c n largest i → n ≤ 1152921504606846975
room c n largest i h k t =
    let p : 16 ^ i ≤ 16 ^ 15 = pow-le-pow_right {n = 16} (omega arith) {i = i} {j = 15} (omega arith) in
    let q : 16 ^ 15 ≡ 1152921504606846976 = refl in
    omega (arith, t.0)

module _ (a i : ℕ) (c : List ℕ) (h : i < length c) where
  hscan_yes : hex_of (get_or c i 0) ≤ 15 → 16 * a + hex_of (get_or c i 0) ≤ whole_max → hscan a (drop i c) ≡ hscan (16 * a + hex_of (get_or c i 0)) (drop (suc i) c)
  hscan_yes p q = rw (drop-cons c i 0 h) (hscan_one a (get_or c i 0) (drop (suc i) c) p q)

  hscan_no : 15 < hex_of (get_or c i 0) → hscan a (drop i c) ≡ none
  hscan_no p = rw (drop-cons c i 0 h, lt-leb (hex_of (get_or c i 0)) 15 p)

-- the larger of two is d where d is larger
abbrev pub Larger : ℕ → ℕ → ℕ → Type 0
Larger old d new = ((old < d) × (new ≡ d)) ⊎ ((d ≤ old) × (new ≡ old))

module _ (c : List ℕ) (n i d old new : ℕ) (few : length c ≤ 16) (h : i < length c) (e : d ≡ hex_of (get_or c i 0)) (t : Told c n old i) where
  above : Larger old d new → (old ≤ new) × (d ≤ new)
  above (inl w) = (omega (arith, w.0, w.1), omega (arith, w.1))
  above (inr w) = (omega (arith, w.1), omega (arith, w.0, w.1))

  fewer : n * 16 + d % 16 < 16 ^ suc i
  fewer = let p : 16 ^ suc i ≡ 16 ^ i * 16 = pow-suc 16 i in omega (arith, t.0)

  good : old ≤ 15 → d ≤ 15 → hscan 0 c ≡ hscan (n * 16 + d % 16) (drop (suc i) c)
  good p q =
      let r : n ≤ 1152921504606846975 = room c n old i few h t in
      let z : 16 * n + hex_of (get_or c i 0) ≡ n * 16 + d % 16 = omega arith in
      t.1 p ∙ hscan_yes n i c h (omega arith) (omega arith) ∙ ap (λ (x : ℕ). hscan x (drop (suc i) c)) z

  wrong : 15 < d → hscan 0 c ≡ none
  wrong p = go (leb old 15) refl
    where
      go : (b : Bool) → leb old 15 ≡ b → hscan 0 c ≡ none
      go true x = t.1 (leb-true _ _ x) ∙ hscan_no n i c h (omega arith)
      go false x = t.2 (leb-false _ _ x)

  spoilt : Larger old d new → 15 < new → hscan 0 c ≡ none
  spoilt (inl w) p = wrong (omega (arith, w.1))
  spoilt (inr w) p = t.2 (omega (arith, w.1))

  pub told_next : Larger old d new → Told c (n * 16 + d % 16) new (suc i)
  told_next w = (fewer, λ p. good (omega (arith, (above w).0)) (omega (arith, (above w).1)), spoilt w)

-- ---- the answers

pub hnone_at : (c : List ℕ) (n largest i : ℕ) → Told c n largest i → 15 < largest → None ≡ number_of (hscan 0 c)
hnone_at c n largest i t h = sym (ap number_of (t.2 h))

pub hsome_at : (c : List ℕ) (n largest i : ℕ) → Told c n largest i → largest ≤ 15 → length c ≤ i → Some n ≡ number_of (hscan 0 c)
hsome_at c n largest i t h k = sym (ap number_of (t.1 h ∙ ap (hscan n) (drop_of_length-le c k)))

-- ---- a float's answers, for either width

pub is_of : (o : Option ℕ) (n : ℕ) → Some n ≡ number_of o → o ≡ some n
is_of none n e = let z : ◌≡◌ {A = ℕ} 0 1 = cc in absurd (omega arith)
is_of (some m) n e = cc

pub no_of : (o : Option ℕ) → None ≡ number_of o → o ≡ none
no_of none e = refl
no_of (some m) e = let z : ◌≡◌ {A = ℕ} 0 1 = cc in absurd (omega arith)

sized_of : (w n : ℕ) (c : List ℕ) → sized w c ≡ some n → (length c ≡ w) × (hscan 0 c ≡ some n)
sized_of w n c e = go (eqb (length c) w) refl
  where
    go : (b : Bool) → eqb (length c) w ≡ b → (length c ≡ w) × (hscan 0 c ≡ some n)
    go true l = (eqb-true _ _ l, rw l at e)
    go false l = absurd (none-ne-some n (rw l at e))

module _ (f : Format) (c : List ℕ) where
  pub bad_length : (length c ≡ width f → ⊥) → as_float f c ≡ none
  bad_length h = float_is f c ∙ rw (ne_eqb (length c) (width f) h)

  pub bad_sized : None ≡ number_of (sized (width f) c) → as_float f c ≡ none
  bad_sized e = float_is f c ∙ go (eqb (length c) (width f)) refl
    where
      go : (b : Bool) → eqb (length c) (width f) ≡ b → float_of f c ≡ none
      go true l = rw (l, no_of (hscan 0 c) (rw l at e))
      go false l = rw l

  module _ (n : ℕ) (e : Some n ≡ number_of (sized (width f) c)) where
    read : (length c ≡ width f) × (hscan 0 c ≡ some n)
    read = sized_of (width f) n c (is_of (sized (width f) c) n e)

    pub in_width : n < 2 * top f
    in_width = let z : 16 ^ length c ≡ 2 * top f = ap (λ (k : ℕ). 16 ^ k) read.0 ∙ (bits f).0 in omega (arith, hscan_lt 0 n c read.1)

    -- the bits of a not-a-number's float are those of the one pattern
    one_nan : nan_bits f n ≡ true → of_bits f n ≡ nan
    one_nan h = only_nan (of_bits f n) (sym (nan_bits_is f n) ∙ h)

    -- its own bits come back: it is read
    pub read_back : to_bits f (of_bits f n) ≡ n → as_float f c ≡ some (of_bits f n)
    read_back h = read_float f c n read.0 read.1 ∙ go (nan_bits f n) refl
      where
        go : (b : Bool) → nan_bits f n ≡ b → bits_of f (some n) ≡ some (of_bits f n)
        go true x = rw (x, eq-eqb n (to_bits f nan) (sym h ∙ ap (to_bits f) (one_nan x)), one_nan x)
        go false x = rw x

    -- others come back: it is another not-a-number
    pub not_back : (to_bits f (of_bits f n) ≡ n → ⊥) → as_float f c ≡ none
    not_back h = read_float f c n read.0 read.1 ∙ go (nan_bits f n) refl
      where
        go : (b : Bool) → nan_bits f n ≡ b → bits_of f (some n) ≡ none
        go true x = rw (x, ne_eqb n (to_bits f nan) (λ q. h (ap (to_bits f) (one_nan x) ∙ sym q)))
        go false x = absurd (h (to_bits-of_bits f n in_width (not_nan f n x)))
