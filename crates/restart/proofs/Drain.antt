-- Drain's second pass in closed form, from which the entry F follows.
use Prim.Native.Nat.{ℕ, suc, ◌+◌, ◌*◌, ◌≤◌, ◌<◌}
use native.Mathlib.Nat.{add-zero, suc-add, add-suc, le-mul_of_pos_right}
use native.Mathlib.Omega.{arith}
use mathlib.Core.Path.{◌≡◌, sym, ap, ◌∙◌}
use mathlib.Core.List.{List, [], ◌∷◌, ◌++◌, append_assoc, append-nil}
use lib.ListN.{length, length-append}
use lib.Ieee.{Float}
use Rattle.restart.specs.History.{values, timestamps, each_after, transforms}
use Rattle.trcf.specs.Lists.{last_n, last_or, shift_in}
use Rattle.trcf.specs.Settings.{Settings, block, dimension}
use Rattle.trcf.specs.Preprocessor.{State, Reading, reading, transformed_after, previous, drain_one, drain_each}
use Rattle.restart.proofs.FeedLaws.{transformed_after_length}
use Rattle.restart.proofs.Lists.{last_n_shift, last_n_newest, last_or_newest, Each}

-- the state between two readings of the second pass
abbrev pub mid : Settings → ℕ → ℕ → ℕ → List Float → List Float → List Float → List ℕ → State
mid s seen i c st A C B = record {
  settings = s;
  values_seen = seen;
  internal_timestamp = i;
  count = c;
  statistics = st;
  last_shingled_input = last_n (s.d * s.k) A;
  last_shingled_point = last_n (dimension s) C;
  previous_timestamps = last_n s.k B;
  initial_values = [];
  initial_timestamps = [];
}

module _ (s : Settings) (k>0 : 0 < s.k) (seen c : ℕ) (st : List Float) where
  d≤ : s.d ≤ s.d * s.k
  d≤ = le-mul_of_pos_right s.d k>0

  block≤ : block s ≤ dimension s
  unfolding dimension
  block≤ = le-mul_of_pos_right (block s) k>0

  -- one reading
  one : (i : ℕ) (A C : List Float) (B : List ℕ) (p r : Reading) → s.d * s.k ≤ length A → dimension s ≤ length C → s.k ≤ length B
      → last_n s.d (last_n (s.d * s.k) A) ≡ p.value → last_or 0 (last_n s.k B) ≡ p.time → length r.value ≡ s.d
      → drain_one (mid s seen i c st A C B) r
      ≡ mid s seen (suc i) c st (A ++ r.value) (C ++ transformed_after s st seen p r) (B ++ (r.time ∷ []))
  unfolding drain_one previous
  one i A C B p r hA hC hB pv pt e = λ j. record {
    settings = s;
    values_seen = seen;
    internal_timestamp = suc i;
    count = c;
    statistics = st;
    last_shingled_input = sym (last_n_shift (s.d * s.k) A r.value hA (omega (arith, d≤))) j;
    last_shingled_point = (ap (λ (q : Reading). shift_in (last_n (dimension s) C) (transformed_after s st seen q r)) same
        ∙ sym (last_n_shift (dimension s) C z hC (omega (arith, block≤, transformed_after_length s st seen p r)))) j;
    previous_timestamps = sym (last_n_shift s.k B (r.time ∷ []) hB k>0) j;
    initial_values = [];
    initial_timestamps = [];
  }
    where
      z : List Float
      z = transformed_after s st seen p r

      same : ◌≡◌ {A = Reading} (reading (last_n s.d (last_n (s.d * s.k) A)) (last_or 0 (last_n s.k B))) p
      same = λ j. reading (pv j) (pt j)

  -- all of them
  pub pass : (rs : List Reading) (i : ℕ) (A C : List Float) (B : List ℕ) (p : Reading) → s.d * s.k ≤ length A → dimension s ≤ length C → s.k ≤ length B
      → last_n s.d (last_n (s.d * s.k) A) ≡ p.value → last_or 0 (last_n s.k B) ≡ p.time → Each s.d rs
      → drain_each (mid s seen i c st A C B) rs
      ≡ mid s seen (i + length rs) c st (A ++ values rs) (C ++ transforms s st seen (each_after p rs)) (B ++ timestamps rs)
  pass [] i A C B p hA hC hB pv pt e = simp (add-zero, append-nil)
  pass (r ∷ rs) i A C B p hA hC hB pv pt e =
      ap (λ (w : State). drain_each w rs) (one i A C B p r hA hC hB pv pt e.0)
      ∙ pass rs (suc i) (A ++ r.value) (C ++ z) (B ++ (r.time ∷ [])) r
      (simp length-append (omega arith)) (simp length-append (omega arith)) (simp length-append (omega arith))
      (last_n_newest s.d (s.d * s.k) A r.value hA e.0 d≤) (last_or_newest 0 s.k B r.time hB k>0) e.1
      ∙ simp (append_assoc, add-suc, suc-add)
    where
      z : List Float
      z = transformed_after s st seen p r
