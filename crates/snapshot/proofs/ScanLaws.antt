-- Scanning a field from left to right gives what it was written from, and nothing else.
use Rattle.std.specs.Prelude.{Some, None}
use Prim.Native.Nat.{ℕ, zero, suc, ◌+◌, ◌-◌, ◌*◌, ◌/◌, ◌%◌, ◌≤◌, ◌<◌}
use native.Mathlib.Nat.{mod-lt}
use native.Mathlib.Omega.{arith}
use mathlib.Core.Path.{◌≡◌, refl, sym, ap, ◌∙◌, subst}
use mathlib.Core.Bool.{Bool, true, false, ◌&&◌, false≢true}
use mathlib.Core.List.{List, [], ◌∷◌, ◌++◌, append-nil, append_assoc}
use mathlib.Core.Option.{Option, none, some, some-injective, none-ne-some}
use lib.ListN.{length, drop, get_or, drop_of_length-le}
use lib.Seq.{drop-cons}
use lib.Dec.{leb, ltb}
use borrow.Author.Tests.{ltb-true, ltb-false, leb-true, lt-ltb, le-ltb, le-leb, lt-leb, ne_eqb, not-true, eqb-false}
use Rattle.trcf.specs.Settings.{whole_max}
use Rattle.snapshot.specs.Text.{decimal, whole}
use Rattle.snapshot.specs.Read.{whole_from, same, as_whole}
use Rattle.snapshot.proofs.Fields.{whole_from_lem}
use Rattle.snapshot.proofs.Lists.{and_left, and_right}
use Rattle.snapshot.proofs.ReadLine.{same_refl, same_eq}
use Rattle.snapshot.specs.Scan.{number_of}
use Rattle.snapshot.specs.Steps.Scan.{lead, digits, scan}

-- ---- what `as_whole` says

pub whole_of : (c : List ℕ) (n : ℕ) → as_whole c ≡ some n → (whole n ≡ c) × (n ≤ whole_max)
unfolding as_whole
whole_of c n e = go (same (whole (whole_from 0 c)) c && leb (whole_from 0 c) whole_max) refl
  where
    go : (b : Bool) → same (whole (whole_from 0 c)) c && leb (whole_from 0 c) whole_max ≡ b → (whole n ≡ c) × (n ≤ whole_max)
    go true h =
        let q : whole_from 0 c ≡ n = some-injective (whole_from 0 c) n (rw h at e) in
        subst (λ (x : ℕ). (whole x ≡ c) × (x ≤ whole_max)) q (same_eq (whole (whole_from 0 c)) c (and_left _ _ h), leb-true _ _ (and_right (same (whole (whole_from 0 c)) c) _ h))
    go false h = absurd (none-ne-some n (rw h at e))

pub of_whole : (n : ℕ) → n ≤ whole_max → as_whole (whole n) ≡ some n
unfolding as_whole
of_whole n h = rw (whole_from_lem n, same_refl (whole n), le-leb n whole_max h)

-- ---- decimal numbers, one digit at a time

fuel : (f g n : ℕ) → n < f → n < g → decimal f n ≡ decimal g n
fuel zero g n h k = absurd (omega arith)
fuel (suc f) zero n h k = absurd (omega arith)
fuel (suc f) (suc g) n h k = go (ltb n 10) refl (λ p q. fuel f g (n / 10) p q)
  where
    go : (b : Bool) → ltb n 10 ≡ b → (n / 10 < f → n / 10 < g → decimal f (n / 10) ≡ decimal g (n / 10)) → decimal (suc f) n ≡ decimal (suc g) n
    go true e ih = rw (e, decimal)
    go false e ih = let m : 10 ≤ n = ltb-false _ _ e in rw (e, decimal, ih (omega arith) (omega arith))

pub whole_digit : (d : ℕ) → d < 10 → whole d ≡ (48 + d) ∷ []
unfolding whole
whole_digit d h = rw (lt-ltb d 10 h, decimal)

pub whole_snoc : (m d : ℕ) → 0 < m → d < 10 → whole (10 * m + d) ≡ whole m ++ ((48 + d) ∷ [])
unfolding whole
whole_snoc m d h k =
    let q : (10 * m + d) / 10 ≡ m = omega arith in
    let r : (10 * m + d) % 10 ≡ d = omega arith in
    rw (le-ltb (10 * m + d) 10 (omega arith), decimal, q, r, fuel (10 * m + d) (suc m) m (omega arith) (omega arith))

-- ---- from the scan to the number

digits_of_lem : (b : ℕ) → digits b ≡ true → (48 ≤ b) × (b ≤ 57)
digits_of_lem b h = (leb-true _ _ (and_left _ _ h), leb-true _ _ (and_right (leb 48 b) _ h))

scan_cons : (a b n : ℕ) (bs : List ℕ) → scan a (b ∷ bs) ≡ some n → (48 ≤ b) × (b ≤ 57) × (10 * a + (b - 48) ≤ whole_max) × (scan (10 * a + (b - 48)) bs ≡ some n)
scan_cons a b n bs h = go (digits b && leb (10 * a + (b - 48)) whole_max) refl
  where
    go : (t : Bool) → digits b && leb (10 * a + (b - 48)) whole_max ≡ t → (48 ≤ b) × (b ≤ 57) × (10 * a + (b - 48) ≤ whole_max) × (scan (10 * a + (b - 48)) bs ≡ some n)
    go true e =
        let d : (48 ≤ b) × (b ≤ 57) = digits_of_lem b (and_left _ _ e) in
        (d.0, d.1, leb-true _ _ (and_right (digits b) _ e), rw e at h)
    go false e = absurd (none-ne-some n (rw e at h))

scan_more : (m n : ℕ) (cs : List ℕ) → 0 < m → m ≤ whole_max → scan m cs ≡ some n → (whole n ≡ whole m ++ cs) × (n ≤ whole_max)
scan_more m n [] h k e = let q : m ≡ n = some-injective m n e in (rw (append-nil, q), rw q at k)
scan_more m n (b ∷ bs) h k e =
    let s = scan_cons m b n bs e in
    let i = scan_more (10 * m + (b - 48)) n bs (omega arith) s.2 s.3 in
    let q : 48 + (b - 48) ≡ b = omega arith in
    (i.0 ∙ rw (whole_snoc m (b - 48) h (omega arith), q, append_assoc), i.1)

pub scan_whole : (c : List ℕ) (n : ℕ) → lead c ≡ true → scan 0 c ≡ some n → (whole n ≡ c) × (n ≤ whole_max)
scan_whole [] n l e = absurd (false≢true l)
scan_whole (b ∷ []) n l e =
    let s = scan_cons 0 b n [] e in
    let q : 10 * 0 + (b - 48) ≡ n = some-injective _ n s.3 in
    let r : 48 + n ≡ b = omega arith in
    (whole_digit n (omega arith) ∙ rw r, omega arith)
scan_whole (b ∷ x ∷ xs) n l e =
    let s = scan_cons 0 b n (x ∷ xs) e in
    let z : b ≡ 48 → ⊥ = eqb-false _ _ (not-true _ l) in
    let q : 48 + (10 * 0 + (b - 48)) ≡ b = omega arith in
    let i = scan_more (10 * 0 + (b - 48)) n (x ∷ xs) (omega arith) s.2 s.3 in
    (i.0 ∙ ap (λ (l : List ℕ). l ++ (x ∷ xs)) (whole_digit (10 * 0 + (b - 48)) (omega arith) ∙ ap (λ (y : ℕ). y ∷ []) q), i.1)

-- ---- from the number to the scan

scan_one : (a c : ℕ) (r : List ℕ) → 48 ≤ c → c ≤ 57 → 10 * a + (c - 48) ≤ whole_max → scan a (c ∷ r) ≡ scan (10 * a + (c - 48)) r
scan_one a c r h k m = rw (le-leb 48 c h, le-leb c 57 k, le-leb (10 * a + (c - 48)) whole_max m)

scan_snoc : (a : ℕ) (l : List ℕ) (c m : ℕ) → 48 ≤ c → c ≤ 57 → 10 * m + (c - 48) ≤ whole_max → scan a l ≡ some m → scan a (l ++ (c ∷ [])) ≡ some (10 * m + (c - 48))
scan_snoc a [] c m h k b e = let q : a ≡ m = some-injective a m e in rw q (scan_one m c [] h k b)
scan_snoc a (x ∷ xs) c m h k b e =
    let s = scan_cons a x m xs e in
    scan_one a x (xs ++ (c ∷ [])) s.0 s.1 s.2 ∙ scan_snoc (10 * a + (x - 48)) xs c m h k b s.3

scan_decimal : (f n : ℕ) → n < f → n ≤ whole_max → scan 0 (decimal f n) ≡ some n
scan_decimal zero n h k = absurd (omega arith)
scan_decimal (suc f) n h k = go (ltb n 10) refl (λ p q. scan_decimal f (n / 10) p q)
  where
    go : (b : Bool) → ltb n 10 ≡ b → (n / 10 < f → n / 10 ≤ whole_max → scan 0 (decimal f (n / 10)) ≡ some (n / 10)) → scan 0 (decimal (suc f) n) ≡ some n
    go true e ih = let m : n < 10 = ltb-true _ _ e in rw (e, decimal) (scan_one 0 (48 + n) [] (omega arith) (omega arith) (omega arith) ∙ ap some (omega arith))
    go false e ih =
        let m : 10 ≤ n = ltb-false _ _ e in
        let q : n % 10 < 10 = mod-lt n (omega arith) in
        let z : 10 * (n / 10) + (48 + n % 10 - 48) ≡ n = omega arith in
        rw (e, decimal) (scan_snoc 0 (decimal f (n / 10)) (48 + n % 10) (n / 10) (omega arith) (omega arith) (omega arith) (ih (omega arith) (omega arith)) ∙ ap some z)

lead_cons : (b : ℕ) (r : List ℕ) → (b ≡ 48 → ⊥) → lead (b ∷ r) ≡ true
lead_cons b [] h = refl
lead_cons b (x ∷ xs) h = rw (ne_eqb b 48 h)

first : (f n : ℕ) → n < f → 0 < n → (b : ℕ) × (r : List ℕ) × (decimal f n ≡ b ∷ r) × (b ≡ 48 → ⊥)
first zero n h k = absurd (omega arith)
first (suc f) n h k = go (ltb n 10) refl (λ p q. first f (n / 10) p q)
  where
    go : (t : Bool) → ltb n 10 ≡ t → (n / 10 < f → 0 < n / 10 → (b : ℕ) × (r : List ℕ) × (decimal f (n / 10) ≡ b ∷ r) × (b ≡ 48 → ⊥)) → (b : ℕ) × (r : List ℕ) × (decimal (suc f) n ≡ b ∷ r)
        × (b ≡ 48 → ⊥)
    go true e ih = (48 + n, [], rw (e, decimal), λ z. omega arith)
    go false e ih =
        let m : 10 ≤ n = ltb-false _ _ e in
        let i = ih (omega arith) (omega arith) in
        (i.0, i.1 ++ ((48 + n % 10) ∷ []), rw (e, decimal, i.2), i.3)

lead_whole : (n : ℕ) → lead (whole n) ≡ true
unfolding whole
lead_whole zero = refl
lead_whole (suc n) = let i = first (suc (suc n)) (suc n) (omega arith) (omega arith) in rw i.2 (lead_cons i.0 i.1 i.3)

scan_number : (n : ℕ) → n ≤ whole_max → scan 0 (whole n) ≡ some n
unfolding whole
scan_number n h = scan_decimal (suc n) n (omega arith) h

-- ---- the two are one

pub scan_is : (c : List ℕ) → lead c ≡ true → as_whole c ≡ scan 0 c
scan_is c l = go (scan 0 c) refl (as_whole c) refl
  where
    go : (o : Option ℕ) → scan 0 c ≡ o → (p : Option ℕ) → as_whole c ≡ p → as_whole c ≡ scan 0 c
    go (some n) e p f = let s = scan_whole c n l e in subst (λ (x : List ℕ). as_whole x ≡ some n) s.0 (of_whole n s.1) ∙ sym e
    go none e none f = f ∙ sym e
    go none e (some n) f =
        let s = whole_of c n f in
        absurd (none-ne-some n (sym e ∙ subst (λ (x : List ℕ). scan 0 x ≡ some n) s.0 (scan_number n s.1)))

pub no_lead : (c : List ℕ) → lead c ≡ false → as_whole c ≡ none
no_lead c l = go (as_whole c) refl
  where
    go : (o : Option ℕ) → as_whole c ≡ o → as_whole c ≡ none
    go none e = e
    go (some n) e = absurd (false≢true (sym l ∙ subst (λ (x : List ℕ). lead x ≡ true) (whole_of c n e).0 (lead_whole n)))

-- ---- one turn of the loop

module _ (a i : ℕ) (c : List ℕ) (h : i < length c) where
  pub scan_yes : 48 ≤ get_or c i 0 → get_or c i 0 ≤ 57 → 10 * a + (get_or c i 0 - 48) ≤ whole_max → scan a (drop i c) ≡ scan (10 * a + (get_or c i 0 - 48)) (drop (suc i) c)
  scan_yes p q r = rw (drop-cons c i 0 h) (scan_one a (get_or c i 0) (drop (suc i) c) p q r)

  pub scan_low : get_or c i 0 < 48 → scan a (drop i c) ≡ none
  scan_low p = rw (drop-cons c i 0 h, lt-leb 48 (get_or c i 0) p)

  pub scan_high : 57 < get_or c i 0 → scan a (drop i c) ≡ none
  scan_high p = rw (drop-cons c i 0 h, le-leb 48 (get_or c i 0) (omega arith), lt-leb (get_or c i 0) 57 p)

  pub scan_big : 48 ≤ get_or c i 0 → get_or c i 0 ≤ 57 → whole_max < 10 * a + (get_or c i 0 - 48) → scan a (drop i c) ≡ none
  scan_big p q r = rw (drop-cons c i 0 h, le-leb 48 (get_or c i 0) p, le-leb (get_or c i 0) 57 q, lt-leb (10 * a + (get_or c i 0 - 48)) whole_max r)

pub scan_end : (a i : ℕ) (c : List ℕ) → length c ≤ i → scan a (drop i c) ≡ some a
scan_end a i c h = rw (drop_of_length-le c h)

-- ---- the answers

pub none_at : (c : List ℕ) (n i : ℕ) → lead c ≡ true → scan 0 c ≡ scan n (drop i c) → scan n (drop i c) ≡ none → None ≡ number_of (as_whole c)
none_at c n i l e z = sym (ap number_of (scan_is c l ∙ e ∙ z))

pub some_at : (c : List ℕ) (n i : ℕ) → lead c ≡ true → scan 0 c ≡ scan n (drop i c) → length c ≤ i → Some n ≡ number_of (as_whole c)
some_at c n i l e h = sym (ap number_of (scan_is c l ∙ e ∙ scan_end n i c h))

pub none_lead : (c : List ℕ) → lead c ≡ false → None ≡ number_of (as_whole c)
none_lead c l = sym (ap number_of (no_lead c l))
