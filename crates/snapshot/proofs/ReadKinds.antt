-- Each kind of line: a value of the form is written, guessed again, and passes its tests; the tests say what the form asks.
use Prim.Native.Nat.{ℕ, zero, suc, ◌≤◌}
use native.Mathlib.Omega.{arith}
use mathlib.Core.Path.{◌≡◌, refl, sym, ap, ◌∙◌}
use mathlib.Core.Bool.{Bool, true, false, not, ◌&&◌, false≢true}
use mathlib.Core.List.{List, [], ◌∷◌, map}
use mathlib.Core.Logic.{inl, inr}
use lib.ListN.{length, replicate, length-replicate}
use lib.Dec.{T, leb, eqb}
use lib.Ieee.{Float, Format, binary32, binary64, fits}
use lib.Ieee.Bits.{is_true}
use borrow.Author.Tests.{leb-true, eqb-true, le-leb, eq-eqb, not-false}
use Rattle.common.specs.Deviation.{count_limit}
use Rattle.trcf.specs.Types.{is_none, method_number}
use Rattle.trcf.specs.Settings.{Settings, Valid, Fits, Whole, waiting, whole_max, code_max, All, all_one}
use Rattle.trcf.specs.Calls.{finite, seen_limit}
use Rattle.trcf.specs.Preprocessor.{Reading}
use Rattle.snapshot.specs.Form.{Climbs}
use Rattle.snapshot.specs.Text.{whole, float, set_line, singles, chn_line, cnt_line, dev_line, tim_line, buf_line}
use Rattle.snapshot.specs.Read.{whole_from, float_from, method_from, all_fit, all_whole, climbs, zeros, LineKind, set_kind, singles_kind, wgt_kind, cnt_kind}
use Rattle.snapshot.specs.Read.{Counts, dev_kind, Three, tim_kind, buf_kind, all_codes, same, chn_kind, either_kind, with_lists}
use Rattle.snapshot.proofs.Lists.{and_left, and_right, to_if, all_replicate}
use Rattle.snapshot.proofs.Accepted.{rows_of, row_none}
use Rattle.snapshot.proofs.Fields.{whole_from_lem, float_from_lem, mode_is_lem, method_is_lem, Clean, whole_clean, float_clean, floats_clean, wholes_clean, letter_clean}
use Rattle.snapshot.proofs.ReadLine.{same_refl, Hold, Writes}

-- ---- tests and what they say

of_true : (b : Bool) → b ≡ true → T b
of_true true e = tt
of_true false e = absurd (false≢true e)

pub fit_of : (f : Format) (x : Float) → fits f x ≡ true → T (fits f x)
fit_of f x e = of_true (fits f x) e

pub fits_of : (f : Format) (l : List Float) → all_fit f l ≡ true → Fits f l
fits_of f [] e = tt
fits_of f (x ∷ xs) e = (fit_of f x (and_left _ _ e), fits_of f xs (and_right (fits f x) _ e))

pub to_fits : (f : Format) (l : List Float) → Fits f l → all_fit f l ≡ true
to_fits f [] h = refl
to_fits f (x ∷ xs) h = rw (is_true (fits f x) h.0) (to_fits f xs h.1)

pub whole_of : (l : List ℕ) → all_whole l ≡ true → Whole l
whole_of [] e = tt
whole_of (t ∷ ts) e = (leb-true _ _ (and_left _ _ e), whole_of ts (and_right (leb t whole_max) _ e))

pub to_whole : (l : List ℕ) → Whole l → all_whole l ≡ true
to_whole [] h = refl
to_whole (t ∷ ts) h = rw (le-leb t whole_max h.0) (to_whole ts h.1)

pub codes_of : (l : List ℕ) → all_codes l ≡ true → All (λ c. c ≤ code_max) l
codes_of [] e = tt
codes_of (c ∷ cs) e = (leb-true _ _ (and_left _ _ e), codes_of cs (and_right (leb c code_max) _ e))

pub to_codes : (l : List ℕ) → All (λ c. c ≤ code_max) l → all_codes l ≡ true
to_codes [] h = refl
to_codes (c ∷ cs) h = rw (le-leb c code_max h.0) (to_codes cs h.1)

pub climbs_of : (p : ℕ) (l : List ℕ) → climbs p l ≡ true → Climbs p l
climbs_of p [] e = tt
climbs_of p (t ∷ ts) e = (leb-true _ _ (and_left _ _ e), climbs_of t ts (and_right (leb p t) _ e))

pub to_climbs : (p : ℕ) (l : List ℕ) → Climbs p l → climbs p l ≡ true
to_climbs p [] h = refl
to_climbs p (t ∷ ts) h = rw (le-leb p t h.0) (to_climbs t ts h.1)

pub zeros_of : (l : List ℕ) → zeros l ≡ true → l ≡ replicate (length l) 0
zeros_of [] e = refl
zeros_of (t ∷ ts) e = λ i. eqb-true t 0 (and_left _ _ e) i ∷ zeros_of ts (and_right (eqb t 0) _ e) i

pub to_zeros : (n : ℕ) → zeros (replicate n 0) ≡ true
to_zeros zero = refl
to_zeros (suc n) = to_zeros n

-- ---- guesses

reals : (l : List Float) → Fits binary32 l → map (float_from binary32) (map (float binary32) l) ≡ l
reals [] h = refl
reals (x ∷ xs) h = λ i. float_from_lem binary32 x h.0 i ∷ reals xs h.1 i

vals : (l : List ℕ) → map (whole_from 0) (map whole l) ≡ l
vals [] = refl
vals (x ∷ xs) = λ i. whole_from_lem x i ∷ vals xs i

-- ---- the kinds

not_of : (b : Bool) → not b ≡ true → b ≡ false
not_of true h = sym h
not_of false h = refl

to_not : (b : Bool) → b ≡ false → not b ≡ true
to_not b h = rw h refl

pub set_writes : (s : Settings) → Valid s → Writes set_kind (with_lists s [] [])
unfolding set_line
set_writes s h =
    let r = rows_of s h.unrefused in
    record {
      clean = (
        omega arith,
        (
          letter_clean s.mode,
          (whole_clean _, (whole_clean _, (whole_clean _, (whole_clean _, (whole_clean _, (float_clean _ _, (float_clean _ _, tt))))))),
        ),
      );
      back = λ i.
          record {
            mode = mode_is_lem s.mode r.0 i;
            method = (ap method_from (whole_from_lem (method_number s.method)) ∙ method_is_lem s.method) i;
            d = whole_from_lem s.d i;
            k = whole_from_lem s.k i;
            start = whole_from_lem s.start i;
            stop = whole_from_lem s.stop i;
            decay = float_from_lem binary64 s.decay h.machine.decay_fits i;
            weight_time = float_from_lem binary32 s.weight_time h.machine.weight_time_fits i;
            weights = [];
            codes = [];
          };
      holds = (
        to_not _ r.0,
        (
          to_not _ r.1.0,
          (
            to_not _ r.1.1.0,
            (
              to_not _ r.1.1.1.0,
              (
                to_not _ r.1.1.1.1.1.0,
                (
                  to_not _ r.1.1.1.1.1.1.0,
                  (
                    to_not _ r.1.1.1.1.1.1.1.0,
                    (le-leb _ _ h.machine.stop_fits, (is_true _ h.machine.decay_fits, (is_true _ h.machine.weight_time_fits, tt))),
                  ),
                ),
              ),
            ),
          ),
        ),
      );
    }

-- the two tests of the weights' line that are not of their width
pub wgt_tests : (s : Settings) → Valid s → Hold (not (is_none s.method && not (all_one s.weights)) ∷ [])
wgt_tests s h = (to_not _ (rows_of s h.unrefused).1.1.1.1.1.1.1.1.0, tt)

pub wgt_long : (s : Settings) → Valid s → length s.weights ≡ s.d
wgt_long s h = eqb-true _ _ (and_left _ _ (not-false _ (rows_of s h.unrefused).1.1.1.1.0))

pub chn_long : (s : Settings) → Valid s → length s.codes ≡ s.d
chn_long s h = eqb-true _ _ (and_right (eqb (length s.weights) s.d) _ (not-false _ (rows_of s h.unrefused).1.1.1.1.0))

-- lines 1 to 3 make settings that no row refuses
pub valid_of : (s : Settings) (v : List Float) (cs : List ℕ) → Hold (set_kind.tests s) → Hold ((wgt_kind s).tests v) → Hold ((chn_kind s).tests cs) → Valid (with_lists s v cs)
valid_of s v cs h g q =
    record {
      unrefused = row_none (with_lists s v cs) (
        not_of _ h.0,
        (
          not_of _ h.1.0,
          (
            not_of _ h.1.1.0,
            (
              not_of _ h.1.1.1.0,
              (
                rw (g.0, q.0) refl,
                (
                  not_of _ h.1.1.1.1.0,
                  (not_of _ h.1.1.1.1.1.0, (not_of _ h.1.1.1.1.1.1.0, (not_of _ g.1.1.0, tt))),
                ),
              ),
            ),
          ),
        ),
      );
      machine = record {
        stop_fits = leb-true _ _ h.1.1.1.1.1.1.1.0;
        decay_fits = fit_of _ _ h.1.1.1.1.1.1.1.1.0;
        weight_time_fits = fit_of _ _ h.1.1.1.1.1.1.1.1.1.0;
        weights_fit = fits_of binary32 v g.1.0;
        codes_fit = codes_of cs q.1.0;
      };
    }

pub singles_write : (name : List ℕ) (n : ℕ) (more : List Float → List Bool) (v : List Float) → Clean name → length v ≡ n → Fits binary32 v → Hold (more v) → Writes (singles_kind name n more) v
unfolding singles
singles_write name n more v c l f h = record { clean = (c, floats_clean binary32 v); back = reals v f; holds = (eq-eqb _ _ l, (to_fits binary32 v f, h)) }

pub chn_writes : (s : Settings) (cs : List ℕ) → length cs ≡ s.d → All (λ c. c ≤ code_max) cs → Writes (chn_kind s) cs
unfolding chn_line
chn_writes s cs l m = record { clean = (omega arith, wholes_clean cs); back = vals cs; holds = (eq-eqb _ _ l, (to_codes cs m, tt)) }

-- a text that lacks the line: as many zeros as there are channels
pub zero_codes_lem : (s : Settings) → Hold ((chn_kind s).tests (replicate s.d 0))
zero_codes_lem s = (eq-eqb _ _ (length-replicate s.d 0), (to_codes (replicate s.d 0) (all_replicate {A = ℕ} _ s.d 0 (omega arith)), tt))

module _ {A B : Type 0} (n : List ℕ) (p : LineKind A) (q : LineKind B) where
  pub either_left : (a : A) → (p.write a).name ≡ n → Writes p a → Writes (either_kind n p q) (inl a)
  either_left a e h = record { clean = h.clean; back = rw (e, same_refl n, sym e) (ap inl h.back); holds = h.holds }

  pub either_right : (b : B) → same (q.write b).name n ≡ false → Writes q b → Writes (either_kind n p q) (inr b)
  either_right b e h = record { clean = h.clean; back = rw e (ap inr h.back); holds = h.holds }

pub cnt_writes : (s : Settings) (c : Counts) → c.values_seen ≤ seen_limit → c.internal_timestamp ≤ seen_limit → c.count ≤ count_limit →
    (waiting s c.values_seen ≡ true → c.internal_timestamp ≡ 0) → Writes (cnt_kind s) c
unfolding cnt_line
cnt_writes s c a b d h = record {
  clean = (omega arith, (whole_clean _, (whole_clean _, (whole_clean _, tt))));
  back = λ i. record { values_seen = whole_from_lem c.values_seen i; internal_timestamp = whole_from_lem c.internal_timestamp i; count = whole_from_lem c.count i };
  holds = (le-leb _ _ a, (le-leb _ _ b, (le-leb _ _ d, (to_if _ _ (λ w. eq-eqb _ _ (h w)), tt))));
}

pub dev_writes : (a : Three) → T (fits binary64 a.weight) → T (fits binary64 a.sum) → T (fits binary64 a.squares) → Writes dev_kind a
unfolding dev_line
dev_writes a x y z = record {
  clean = (omega arith, (float_clean _ _, (float_clean _ _, (float_clean _ _, tt))));
  back = λ i. record { weight = float_from_lem binary64 a.weight x i; sum = float_from_lem binary64 a.sum y i; squares = float_from_lem binary64 a.squares z i };
  holds = (is_true _ x, (is_true _ y, (is_true _ z, tt)));
}

pub tim_writes : (s : Settings) (c : Counts) (ts : List ℕ) → length ts ≡ s.k → Whole ts → Climbs 0 ts → (c.internal_timestamp ≡ 0 → ts ≡ replicate s.k 0) → Writes (tim_kind s c) ts
unfolding tim_line
tim_writes s c ts l m r z = record {
  clean = (omega arith, wholes_clean ts);
  back = vals ts;
  holds = (eq-eqb _ _ l, (to_whole ts m, (to_climbs 0 ts r, (to_if _ _ (λ e. rw (z (eqb-true _ _ e)) (to_zeros s.k)), tt))));
}

pub buf_writes : (d p : ℕ) (r : Reading) → p ≤ r.time → r.time ≤ whole_max → length r.value ≡ d → Fits binary32 r.value → finite r.value ≡ true → Writes (buf_kind d p) r
unfolding buf_line
buf_writes d p r a b l f g = record {
  clean = (omega arith, (whole_clean r.time, floats_clean binary32 r.value));
  back = λ i. record { value = reals r.value f i; time = whole_from_lem r.time i };
  holds = (le-leb _ _ a, (le-leb _ _ b, (eq-eqb _ _ l, (to_fits binary32 r.value f, (g, tt)))));
}
