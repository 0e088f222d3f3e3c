-- Laws of the last n of a list, of shifting in, and of the flat lists of readings.
use Prim.Native.Nat.{ℕ, zero, suc, ◌+◌, ◌-◌, ◌≤◌}
use native.Mathlib.Nat.{add-zero, zero-add, suc-add, add-suc}
use native.Mathlib.Omega.{arith}
use mathlib.Core.Path.{◌≡◌, refl, sym, ap, ◌∙◌}
use mathlib.Core.List.{List, [], ◌∷◌, ◌++◌, append_assoc, append-nil}
use lib.ListN.{length, take, drop, replicate, length-append, length-drop, length-replicate}
use lib.Seq.{drop-drop, drop-append-le, drop_at, take_at}
use lib.Ieee.{Float}
use Rattle.restart.specs.Statistics.{Fed}
use Rattle.restart.specs.History.{values, timestamps, each_after, fed_pairs}
use Rattle.trcf.specs.Lists.{last_n, last_or, null, shift_in, overwrite}
use Rattle.trcf.specs.Fit.{All}
use Rattle.trcf.specs.Settings.{Settings}
use Rattle.trcf.specs.Preprocessor.{Reading, reading, feed, blocks, feed_all}
use Rattle.trcf.proofs.FitLaws.{all_drop}

module _ {A : Type 0} where
  pub last_n_length : (n : ℕ) (l : List A) → n ≤ length l → length (last_n n l) ≡ n
  unfolding last_n
  last_n_length n l h = simp length-drop (omega arith)

  -- one block more
  pub last_n_shift : (n : ℕ) (l p : List A) → n ≤ length l → length p ≤ n → last_n n (l ++ p) ≡ shift_in (last_n n l) p
  unfolding last_n shift_in
  last_n_shift n l p h k =
      ap (λ (m : ℕ). drop m (l ++ p)) e ∙ drop-append-le (length l - n + length p) l p g ∙ ap (λ (q : List A). q ++ p) (sym (drop-drop (length p) (length l - n) l))
    where
      e : length (l ++ p) - n ≡ length l - n + length p
      e = simp length-append (omega arith)

      g : length l - n + length p ≤ length l
      g = omega arith

  -- the newest block is what was put there
  pub last_n_append : (n : ℕ) (l p : List A) → length p ≡ n → last_n n (l ++ p) ≡ p
  unfolding last_n
  last_n_append n l p h = drop_at l p (length (l ++ p) - n) (simp length-append (omega arith))

  pub last_n_all : (n : ℕ) (l : List A) → length l ≡ n → last_n n l ≡ l
  unfolding last_n
  last_n_all n l h = ap (λ (m : ℕ). drop m l) z
    where
      z : length l - n ≡ 0
      z = omega arith

  pub last_or_snoc : (a : A) (l : List A) (x : A) → last_or a (l ++ (x ∷ [])) ≡ x
  last_or_snoc a [] x = refl
  last_or_snoc a (y ∷ ys) x = last_or_snoc y ys x

  pub take_replicate : (m n : ℕ) (a : A) → take m (replicate (m + n) a) ≡ replicate m a
  take_replicate zero n a = refl
  take_replicate (suc m) n a = rw suc-add (ap (λ (l : List A). a ∷ l) (take_replicate m n a))

  pub drop_replicate : (m n : ℕ) (a : A) → drop m (replicate (m + n) a) ≡ replicate n a
  drop_replicate zero n a = rw zero-add
  drop_replicate (suc m) n a = rw suc-add (drop_replicate m n a)

  pub last_n_newest : (d n : ℕ) (l p : List A) → n ≤ length l → length p ≡ d → d ≤ n → last_n d (last_n n (l ++ p)) ≡ p
  unfolding shift_in
  last_n_newest d n l p h e k =
      ap (last_n d) (last_n_shift n l p h (omega arith)) ∙ last_n_append d (drop (length p) (last_n n l)) p e

  pub last_or_newest : (a : A) (n : ℕ) (l : List A) (x : A) → n ≤ length l → 1 ≤ n → last_or a (last_n n (l ++ (x ∷ []))) ≡ x
  unfolding shift_in
  last_or_newest a n l x h k = ap (last_or a) (last_n_shift n l (x ∷ []) h k) ∙ last_or_snoc a (drop 1 (last_n n l)) x

module _ {A : Type 0} where
  pub all_last_n : (P : A → Type 0) (n : ℕ) (l : List A) → All P l → All P (last_n n l)
  unfolding last_n
  all_last_n P n l h = all_drop P (length l - n) l h

-- ---- readings

abbrev pub Each : ℕ → List Reading → Type 0
Each n rs = All (λ r. length r.value ≡ n) rs

pub values_append : (a b : List Reading) → values (a ++ b) ≡ values a ++ values b
values_append [] b = refl
values_append (r ∷ rs) b = ap (λ (l : List Float). r.value ++ l) (values_append rs b) ∙ sym (append_assoc r.value (values rs) (values b))

pub timestamps_append : (a b : List Reading) → timestamps (a ++ b) ≡ timestamps a ++ timestamps b
timestamps_append [] b = refl
timestamps_append (r ∷ rs) b = ap (λ (l : List ℕ). r.time ∷ l) (timestamps_append rs b)

pub values_snoc : (a : List Reading) (r : Reading) → values (a ++ (r ∷ [])) ≡ values a ++ r.value
values_snoc a r = values_append a (r ∷ []) ∙ ap (λ (l : List Float). values a ++ l) (append-nil r.value)

pub length_timestamps : (a : List Reading) → length (timestamps a) ≡ length a
length_timestamps [] = refl
length_timestamps (r ∷ rs) = ap suc (length_timestamps rs)

pub null_timestamps : (a : List Reading) → null (timestamps a) ≡ null a
null_timestamps [] = refl
null_timestamps (r ∷ rs) = refl

-- the flat lists read back
pub blocks_values : (n : ℕ) (rs : List Reading) → Each n rs → blocks n (values rs) (timestamps rs) ≡ rs
blocks_values n [] h = refl
blocks_values n (r ∷ rs) h =
    λ i. reading (take_at r.value (values rs) n h.0 i) r.time
    ∷ (ap (λ (v : List Float). blocks n v (timestamps rs)) (drop_at r.value (values rs) n h.0) ∙ blocks_values n rs h.1) i

-- ---- feeding

pub length_after : (p : Reading) (rs : List Reading) → length (each_after p rs) ≡ length rs
length_after p [] = refl
length_after p (r ∷ rs) = ap suc (length_after r rs)

pub length_pairs : (rs : List Reading) → length (fed_pairs rs) ≡ length rs
length_pairs [] = refl
length_pairs (r ∷ rs) = length_after r (r ∷ rs)

-- fed one after the other; c were fed before
abbrev pub feed_each : Settings → ℕ → List Float → List Fed → List Float
feed_each s c st [] = st
feed_each s c st (p ∷ ps) = feed_each s (suc c) (feed s c st p.before p.now) ps

pub feed_all_after : (s : Settings) (c : ℕ) (st : List Float) (p : Reading) (rs : List Reading) → feed_all s c st p rs ≡ feed_each s c st (each_after p rs)
feed_all_after s c st p [] = refl
feed_all_after s c st p (r ∷ rs) = feed_all_after s (suc c) (feed s c st p r) r rs

pub feed_each_append : (s : Settings) (c : ℕ) (st : List Float) (a b : List Fed) → feed_each s c st (a ++ b) ≡ feed_each s (c + length a) (feed_each s c st a) b
feed_each_append s c st [] b = rw add-zero
feed_each_append s c st (p ∷ ps) b = feed_each_append s (suc c) (feed s c st p.before p.now) ps b ∙ rw (add-suc, suc-add)

module _ {A : Type 0} where
  -- zeros: to overwrite the last block is to shift it in
  take_drop_replicate : (n m : ℕ) (a : A) → m ≤ n → take (n - m) (replicate n a) ≡ drop m (replicate n a)
  take_drop_replicate n m a h =
      ap (λ (q : ℕ). take (n - m) (replicate q a)) e₁ ∙ take_replicate (n - m) m a ∙ sym (drop_replicate m (n - m) a) ∙ ap (λ (q : ℕ). drop m (replicate q a)) e₂
    where
      e₁ : n ≡ n - m + m
      e₁ = omega arith

      e₂ : m + (n - m) ≡ n
      e₂ = omega arith

  pub overwrite_zeros : (n : ℕ) (a : A) (x : List A) → length x ≤ n → overwrite (replicate n a) x ≡ last_n n (replicate n a ++ x)
  unfolding overwrite last_n
  overwrite_zeros n a x h =
      ap (λ (q : ℕ). take (q - length x) (replicate n a) ++ x) l ∙ ap (λ (q : List A). q ++ x) (take_drop_replicate n (length x) a h)
      ∙ sym (drop-append-le (length x) (replicate n a) x (omega (arith, l))) ∙ ap (λ (q : ℕ). drop q (replicate n a ++ x)) e
    where
      l : length (replicate n a) ≡ n
      l = length-replicate n a

      e : length x ≡ length (replicate n a ++ x) - n
      e = simp (length-append, length-replicate) (omega arith)

  pub overwrite_fresh : (n : ℕ) (a : A) (x : List A) → length x ≤ n → overwrite (last_n n (replicate n a ++ [])) x ≡ last_n n (replicate n a ++ x)
  overwrite_fresh n a x h =
      ap (λ (l : List A). overwrite l x) (ap (last_n n) (append-nil (replicate n a)) ∙ last_n_all n (replicate n a) (length-replicate n a)) ∙ overwrite_zeros n a x h
