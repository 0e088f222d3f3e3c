-- Calls by their row: what a refused call and an accepted one give, and states laid back over lent lists. Assumes nothing.
use Prim.Native.Nat.{ℕ, zero, suc, ◌*◌, ◌≤◌}
use mathlib.Core.Path.{◌≡◌, refl, sym, ap, ◌∙◌}
use mathlib.Core.Bool.{Bool, true, false, cond}
use mathlib.Core.List.{List, [], ◌++◌}
use native.Mathlib.Omega.{arith}
use lib.ListN.{length, take, drop, replicate, length-replicate}
use lib.Seq.{length-take-le}
use lib.Ieee.{Float}
use Rattle.refusal.specs.Lent.{over}
use Rattle.common.specs.Deviation.{zero64}
use Rattle.trcf.specs.Transformer.{zero32}
use Rattle.trcf.specs.Settings.{Settings, settings_row, dimension, block}
use Rattle.trcf.specs.Calls.{Call, scale, shift, status, rows, table}
use Rattle.trcf.specs.Preprocessor.{State, accepted, statistics_length, fresh, facts, is_ready, deviations, Status, status_of}
use Rattle.trcf.specs.View.{Lent, lent, view, written_over, row_of, lent_row, or_else, Written, written, write_of, outcome, head_from, no_head, build_row, build_of, settings_of}
use Rattle.trcf.specs.View.{alone, head_row, counters_unfit, short_row, own_row, ready_of, dimension_of, Bounded, StatusOutcome, no_status, status_after}
use Rattle.trcf.specs.Steps.Told.{told_by}
use Rattle.trcf.specs.declared.head.Preprocessor.{Preprocessor}
use Rattle.trcf.proofs.ShingleLaws.{over_part}

module _ {A : Type 0} where
  pub accepted_not : (r : ℕ) (a b : A) → (r ≡ 0 → ⊥) → accepted r a b ≡ b
  accepted_not zero a b n = absurd (n refl)
  accepted_not (suc r) a b n = refl

pub or_else_is : (r m : ℕ) → (r ≡ 0 → ⊥) → or_else r m ≡ r
or_else_is zero m n = absurd (n refl)
or_else_is (suc r) m n = refl

-- ---- a call that writes one list

module _ (h : Preprocessor) (l : Lent) (c : Call) (f : State → List Float) (out : List Float) where
  pub write_refused : (row_of h l c ≡ 0 → ⊥) → written (row_of h l c) out ≡ write_of h l c f out
  unfolding write_of
  write_refused n = ap (written (row_of h l c)) (sym (accepted_not (row_of h l c) (over out (f (view h l))) out n))

  pub write_done : row_of h l c ≡ 0 → written 0 (over out (f (view h l))) ≡ write_of h l c f out
  unfolding write_of
  write_done e = ap (λ (r : ℕ). written r (accepted r (over out (f (view h l))) out)) (sym e)

  -- the same from the row and the output that the program has
  module _ (r : ℕ) (e : r ≡ row_of h l c) where
    pub write_stays : (r ≡ 0 → ⊥) → written r out ≡ write_of h l c f out
    write_stays n = ap (λ (q : ℕ). written q out) e ∙ write_refused (λ z. n (e ∙ z))

    pub write_goes : r ≡ 0 → (v w : List Float) → v ≡ w → w ≡ over out (f (view h l)) → written 0 v ≡ write_of h l c f out
    write_goes z v w p q = ap (written 0) (p ∙ q) ∙ write_done (sym e ∙ z)

-- ---- `build`

module _ (s : Settings) (l : Lent) where
  build_row_lem : (r : ℕ) → build_row s l ≡ r → (r ≡ 0 → ⊥) → outcome r no_head l ≡ build_of s l
  unfolding build_of
  build_row_lem r e n =
      sym (accepted_not r (outcome 0 (head_from s) (written_over (fresh s) l)) (outcome r no_head l) n)
      ∙ ap (λ (q : ℕ). accepted q (outcome 0 (head_from s) (written_over (fresh s) l)) (outcome q no_head l)) (sym e)

  pub build_refused : (settings_row s ≡ 0 → ⊥) → outcome (settings_row s) no_head l ≡ build_of s l
  unfolding build_row
  build_refused n = build_row_lem (settings_row s) (or_else_is (settings_row s) (lent_row (head_from s) l) n) n

  pub build_short : settings_row s ≡ 0 → (lent_row (head_from s) l ≡ 0 → ⊥) → outcome (lent_row (head_from s) l) no_head l ≡ build_of s l
  unfolding build_row
  build_short e n = build_row_lem (lent_row (head_from s) l) (ap (λ (r : ℕ). or_else r (lent_row (head_from s) l)) e) n

  build_accepted : settings_row s ≡ 0 → lent_row (head_from s) l ≡ 0 → outcome 0 (head_from s) (written_over (fresh s) l) ≡ build_of s l
  unfolding build_of build_row
  build_accepted e n =
      ap (λ (r : ℕ). accepted r (outcome 0 (head_from s) (written_over (fresh s) l)) (outcome r no_head l)) (sym (ap (λ (r : ℕ). or_else r (lent_row (head_from s) l)) e ∙ n))

module _ {A : Type 0} where
  pub over_none : (l : List A) → l ≡ over l []
  unfolding over
  over_none l = refl

  -- a part of n that was filled
  pub filled_over : (l : List A) (v : A) (n : ℕ) → n ≤ length l → replicate (length (take n l)) v ++ drop n l ≡ over l (replicate n v)
  filled_over l v n h =
      ap (λ (k : ℕ). replicate k v ++ drop n l) (length-take-le n l h) ∙ over_part l (replicate n v) n (length-replicate n v)

pub build_done : (s : Settings) (l : Lent) → settings_row s ≡ 0 → lent_row (head_from s) l ≡ 0
    → statistics_length s ≤ length l.statistics → s.d * s.k ≤ length l.last_shingled_input → dimension s ≤ length l.last_shingled_point → s.k ≤ length l.previous_timestamps
    → outcome 0 (head_from s)
    (lent (replicate (length (take (statistics_length s) l.statistics)) zero64 ++ drop (statistics_length s) l.statistics)
    (replicate (length (take (s.d * s.k) l.last_shingled_input)) zero32 ++ drop (s.d * s.k) l.last_shingled_input)
    (replicate (length (take (dimension s) l.last_shingled_point)) zero32 ++ drop (dimension s) l.last_shingled_point)
    (replicate (length (take s.k l.previous_timestamps)) 0 ++ drop s.k l.previous_timestamps) l.initial_values l.initial_timestamps)
    ≡ build_of s l
unfolding written_over fresh
build_done s l e n a b c d =
    (λ j. outcome 0 (head_from s)
    (lent (filled_over l.statistics zero64 (statistics_length s) a j) (filled_over l.last_shingled_input zero32 (s.d * s.k) b j)
    (filled_over l.last_shingled_point zero32 (dimension s) c j) (filled_over l.previous_timestamps 0 s.k d j)
    (over_none l.initial_values j) (over_none l.initial_timestamps j)))
    ∙ build_accepted s l e n

-- the weights in an array leave the rest of the settings as they were
pub dimension_from : (s : Settings) → dimension (settings_of (head_from s)) ≡ dimension s
unfolding dimension block
dimension_from s = refl

pub bounded_from : (s : Settings) → Bounded s → Bounded (settings_of (head_from s))
bounded_from s b = record { d_pos = b.d_pos; d_few = b.d_few; k_pos = b.k_pos; k_few = b.k_few; start_few = b.start_few }

-- ---- calls with the same rows

module _ (h : Preprocessor) (l : Lent) (out : List Float) where
  pub shift_row : row_of h l (scale out) ≡ row_of h l (shift out)
  unfolding row_of rows table
  shift_row = refl

  pub status_row : row_of h l (scale out) ≡ row_of h l (status out)
  unfolding row_of rows table
  status_row = refl

-- ---- a head that no call refuses for its own sake

or_else_both : (r m : ℕ) → or_else r m ≡ 0 → (r ≡ 0) × (m ≡ 0)
or_else_both zero m e = (refl, e)
or_else_both (suc r) m e = absurd (omega arith)

fit_of : (b : Bool) (n : ℕ) → ◌≡◌ {A = ℕ} (cond b 20 n) 0 → b ≡ false
fit_of true n e = absurd (omega arith)
fit_of false n e = refl

module _ (h : Preprocessor) (l : Lent) (c : Call) (e : row_of h l c ≡ 0) where
  no_row : (head_row (settings_of h) ≡ 0) × (counters_unfit h ≡ false)
  unfolding row_of lent_row
  no_row =
      let r : ℕ = rows (settings_of h) (facts (view h l)) c in
      let a = or_else_both (head_row (settings_of h)) (or_else r (lent_row h l)) e in
      let b = or_else_both r (lent_row h l) a.1 in
      (a.0, fit_of (counters_unfit h) (short_row (settings_of h) l) b.1)

  -- of such a head `is_ready` is what status tells
  pub ready_is : ready_of h ≡ is_ready (alone h)
  unfolding ready_of own_row
  ready_is = rw (no_row.0, no_row.1)

  pub dimension_of_lem : dimension_of h ≡ dimension (settings_of h)
  dimension_of_lem = rw no_row.0

-- ---- `status`

abbrev pub status_by : ℕ → Status → StatusOutcome
status_by n v = record { row = n; numbers = v }

module _ (h : Preprocessor) (l : Lent) (out : List Float) where
  told_at : (r : ℕ) → row_of h l (status out) ≡ r → r ≡ 0
      → status_by r (told_by h (accepted r (over out (deviations (view h l))) out)) ≡ status_by r (accepted r (status_of (view h l) out) (no_status out))
  unfolding status_of view
  told_at zero e z = rw (ready_is h l (status out) e, dimension_of_lem h l (status out) e)
  told_at (suc r) e z = absurd (omega arith)

  refused_at : (r : ℕ) → (r ≡ 0 → ⊥)
      → status_by r (no_status (accepted r (over out (deviations (view h l))) out)) ≡ status_by r (accepted r (status_of (view h l) out) (no_status out))
  refused_at zero n = absurd (n refl)
  refused_at (suc r) n = refl

  -- from the row and the output that `difference_deviations` gives
  module _ (w : Written) (e : w ≡ write_of h l (status out) deviations out) where
    row_is : w.row ≡ row_of h l (status out)
    unfolding write_of
    row_is = ap (λ (x : Written). x.row) e

    pub status_told : w.row ≡ 0 → status_by w.row (told_by h w.out) ≡ status_after h l out
    unfolding write_of status_after
    status_told z =
        (λ j. status_by (row_is j) (told_by h (e j).out)) ∙ told_at (row_of h l (status out)) refl (sym row_is ∙ z)

    pub status_refused : (w.row ≡ 0 → ⊥) → status_by w.row (no_status w.out) ≡ status_after h l out
    unfolding write_of status_after
    status_refused n =
        (λ j. status_by (row_is j) (no_status (e j).out)) ∙ refused_at (row_of h l (status out)) (λ z. n (row_is ∙ z))
