-- The rows of a call over the lists and over their lengths, and what a row 0 says of the head and of what is lent. Assumes nothing.
use Prim.Native.Nat.{ℕ, zero, suc, ◌*◌, ◌≤◌}
use mathlib.Core.Path.{◌≡◌, refl, sym, ap, ◌∙◌}
use mathlib.Core.Bool.{Bool, true, false, cond, not, not-not, ◌&&◌, ◌||◌}
use mathlib.Core.List.{List}
use native.Mathlib.Omega.{arith}
use borrow.Author.Tests.{ltb-false, eqb-true, ne_eqb}
use lib.Dec.{ltb, eqb}
use lib.ListN.{length, take}
use lib.Ieee.{Float}
use Rattle.trcf.specs.Lists.{null}
use Rattle.trcf.specs.Settings.{Settings, dimension, waiting}
use Rattle.trcf.specs.Calls.{Call, shingled_point, drain, Facts, finite, rows, table, due, drain_full, before_newest}
use Rattle.trcf.specs.Preprocessor.{statistics_length, facts}
use Rattle.trcf.specs.View.{Lent, settings_of, view, head_row, initial_room, lengths_of, lent_short, counters_unfit, short_row, lent_row, or_else, row_of, Roomy, Fitted}
use Rattle.trcf.specs.Steps.Rows.{lengths_row, any_of, spent, overdue, past_row, Pointing}
use Rattle.trcf.specs.declared.head.Preprocessor.{Preprocessor}
use Rattle.trcf.proofs.RefusalLaws.{or_else_not, any_initial, misfit_few, misfit_room, misfit_counted}

-- ---- no row

pub or_else_none : (r m : ℕ) → or_else r m ≡ 0 → (r ≡ 0) × (m ≡ 0)
or_else_none zero m e = (refl, e)
or_else_none (suc r) m e = absurd (omega arith)

first_none : (b : Bool) (n m : ℕ) → cond b (suc n) m ≡ 0 → (b ≡ false) × (m ≡ 0)
first_none true n m e = absurd (omega arith)
first_none false n m e = (refl, e)

or_none : (a b : Bool) → (a || b) ≡ false → (a ≡ false) × (b ≡ false)
or_none true b e = (e, (cc))
or_none false b e = (refl, e)

not_none : (a : Bool) → not a ≡ false → a ≡ true
not_none true e = refl
not_none false e = sym e

-- row 10 comes first
pub whole_first : (x d m : ℕ) → cond (not (eqb x d)) 10 m ≡ 0 → x ≡ d
whole_first x d m e = eqb-true x d (not_none (eqb x d) (first_none (not (eqb x d)) 9 m e).0)

-- ---- what is lent

module _ (s : Settings) (l : Lent) where
  roomy_of : lent_short s l ≡ false → Roomy s l
  unfolding lent_short
  roomy_of e =
      let b₂ = ltb (length l.last_shingled_input) (s.d * s.k) in
      let b₃ = ltb (length l.last_shingled_point) (dimension s) in
      let b₄ = ltb (length l.previous_timestamps) s.k in
      let b₅ = ltb (length l.initial_values) (initial_room s * s.d) in
      let b₆ = ltb (length l.initial_timestamps) (initial_room s) in
      let e₁ = or_none (ltb (length l.statistics) (statistics_length s)) (b₂ || (b₃ || (b₄ || (b₅ || b₆)))) e in
      let e₂ = or_none b₂ (b₃ || (b₄ || (b₅ || b₆))) e₁.1 in
      let e₃ = or_none b₃ (b₄ || (b₅ || b₆)) e₂.1 in
      let e₄ = or_none b₄ (b₅ || b₆) e₃.1 in
      let e₅ = or_none b₅ b₆ e₄.1 in
      record {
        in_statistics = ltb-false (length l.statistics) (statistics_length s) e₁.0;
        in_input = ltb-false (length l.last_shingled_input) (s.d * s.k) e₂.0;
        in_point = ltb-false (length l.last_shingled_point) (dimension s) e₃.0;
        in_times = ltb-false (length l.previous_timestamps) s.k e₄.0;
        in_values = ltb-false (length l.initial_values) (initial_room s * s.d) e₅.0;
        in_initial = ltb-false (length l.initial_timestamps) (initial_room s) e₅.1;
      }

module _ (h : Preprocessor) (l : Lent) where
  -- over the lists and over their lengths
  pub lengths_row_lem : lengths_row h (lengths_of l) ≡ lent_row h l
  unfolding lengths_row lent_row short_row lent_short
  lengths_row_lem = refl

  pub fitted_of : lent_row h l ≡ 0 → Fitted h l
  unfolding lent_row short_row
  fitted_of e =
      let a = first_none (counters_unfit h) 19 (cond (lent_short (settings_of h) l) 20 0) e in
      let b = first_none (lent_short (settings_of h) l) 19 0 a.1 in
      record {
        roomy = roomy_of (settings_of h) l b.0;
        few = misfit_few h a.0;
        in_room = misfit_room h a.0;
        counted = misfit_counted h a.0;
      }

-- the three parts of a row, none of which refuses
pub record Unrefused (h : Preprocessor) (l : Lent) (c : Call) : Type 0 where
  pub head_none : head_row (settings_of h) ≡ 0
  pub rows_none : rows (settings_of h) (facts (view h l)) c ≡ 0
  pub lent_none : lent_row h l ≡ 0

module _ (h : Preprocessor) (l : Lent) (c : Call) where
  pub row_none : row_of h l c ≡ 0 → Unrefused h l c
  unfolding row_of
  row_none e =
      let r : ℕ = rows (settings_of h) (facts (view h l)) c in
      let a = or_else_none (head_row (settings_of h)) (or_else r (lent_row h l)) e in
      let b = or_else_none r (lent_row h l) a.1 in
      record { head_none = a.0; rows_none = b.0; lent_none = b.1 }

  -- the ways to a row, in their order: the head's, the call's, and that of what is lent
  pub row_head : (r : ℕ) → r ≡ head_row (settings_of h) → (r ≡ 0 → ⊥) → r ≡ row_of h l c
  unfolding row_of
  row_head r e z = or_else_not r _ z ∙ ap (λ (n : ℕ). or_else n (or_else (rows (settings_of h) (facts (view h l)) c) (lent_row h l))) e

  pub row_call : (r : ℕ) → head_row (settings_of h) ≡ 0 → r ≡ rows (settings_of h) (facts (view h l)) c → (r ≡ 0 → ⊥) → r ≡ row_of h l c
  unfolding row_of
  row_call r f e z =
      or_else_not r (lent_row h l) z
      ∙ ap (λ (n : ℕ). or_else n (lent_row h l)) e
      ∙ ap (λ (n : ℕ). or_else n (or_else (rows (settings_of h) (facts (view h l)) c) (lent_row h l))) (sym f)

  pub row_lent : (r : ℕ) → head_row (settings_of h) ≡ 0 → rows (settings_of h) (facts (view h l)) c ≡ 0 → r ≡ lengths_row h (lengths_of l) → r ≡ row_of h l c
  unfolding row_of
  row_lent r f g e =
      e
      ∙ lengths_row_lem h l
      ∙ ap (λ (n : ℕ). or_else n (lent_row h l)) (sym g)
      ∙ ap (λ (n : ℕ). or_else n (or_else (rows (settings_of h) (facts (view h l)) c) (lent_row h l))) (sym f)

-- ---- what waits, over the list of times and over its length

pub any_of_lem : (n : ℕ) (ts : List ℕ) → any_of n (length ts) ≡ not (null (take n ts))
unfolding any_of
any_of_lem zero ts = refl
any_of_lem (suc n) ts =
    let z : suc n ≡ 0 → ⊥ = λ e. omega (arith, e) in
    rw (ne_eqb (suc n) 0 z) (any_initial ts (suc n) z)

module _ (h : Preprocessor) (l : Lent) where
  pub spent_is : spent h (length l.initial_timestamps)
      ≡ (eqb (facts (view h l)).values_seen (settings_of h).start && null (facts (view h l)).initial_timestamps)
  unfolding spent facts view
  spent_is = rw (any_of_lem h.initial_len l.initial_timestamps) (ap (λ (b : Bool). eqb h.values_seen h.start_normalization && b) (not-not _))

  pub overdue_is : overdue h (length l.initial_timestamps) ≡ (due (settings_of h) (facts (view h l)) && drain_full (settings_of h) (facts (view h l)))
  unfolding overdue due drain_full facts view
  overdue_is = rw (any_of_lem h.initial_len l.initial_timestamps)

  pub drain_rows : rows (settings_of h) (facts (view h l)) drain
      ≡ cond (spent h (length l.initial_timestamps)) 15 (cond (overdue h (length l.initial_timestamps)) 18 0)
  unfolding rows table
  drain_rows = rw (spent_is, overdue_is)

  -- a drain that no row refuses
  pub drain_room : row_of h l drain ≡ 0 → (due (settings_of h) (facts (view h l)) && drain_full (settings_of h) (facts (view h l))) ≡ false
  unfolding rows table
  drain_room e =
      let f : Facts = facts (view h l) in
      let a = first_none (eqb f.values_seen (settings_of h).start && null f.initial_timestamps) 14 _ (row_none h l drain e).rows_none in
      (first_none (due (settings_of h) f && drain_full (settings_of h) f) 17 0 a.1).0

  module _ (x : List Float) (t : ℕ) (out : List Float) where
    -- a point's rows, those past waiting behind the others
    pub point_rows : rows (settings_of h) (facts (view h l)) (shingled_point x t out)
        ≡ cond (not (eqb (length x) h.transformer.input_length)) 10
        (cond (not (finite x)) 11 (cond (before_newest (settings_of h) (facts (view h l)) t) 28 (past_row h (length l.initial_timestamps) (length out))))
    unfolding rows table past_row facts view
    point_rows = rw overdue_is

    pub pointing : row_of h l (shingled_point x t out) ≡ 0 → Pointing h (length l.initial_timestamps) (length x) (length out)
    pointing e =
        let z = sym point_rows ∙ (row_none h l (shingled_point x t out) e).rows_none in
        let a = first_none (not (eqb (length x) h.transformer.input_length)) 9 _ z in
        let b = first_none (not (finite x)) 10 _ a.1 in
        let c = first_none (before_newest (settings_of h) (facts (view h l)) t) 27 _ b.1 in
        record { whole = whole_first (length x) h.transformer.input_length _ z; past = c.1 }

  -- past waiting such a point has room
  module _ (n : ℕ) (e : past_row h (length l.initial_timestamps) n ≡ 0) (w : waiting (settings_of h) h.values_seen ≡ false) where
    past_both : (overdue h (length l.initial_timestamps) ≡ false) × (ltb n (dimension (settings_of h)) ≡ false)
    unfolding past_row
    past_both =
        let a = first_none (overdue h (length l.initial_timestamps)) 17 (cond (ltb n (dimension (settings_of h))) 20 0) (rw w at e) in
        (a.0, (first_none (ltb n (dimension (settings_of h))) 19 0 a.1).0)

    pub past_room : (due (settings_of h) (facts (view h l)) && drain_full (settings_of h) (facts (view h l))) ≡ false
    past_room = sym overdue_is ∙ past_both.0

    pub past_long : dimension (settings_of h) ≤ n
    past_long = ltb-false n (dimension (settings_of h)) past_both.1
