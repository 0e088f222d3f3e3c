-- `post_process`: its rows, and what each way through it leaves and answers. Assumes nothing.
use Prim.Native.Nat.{ℕ, zero, suc, ◌-◌, ◌*◌, ◌≤◌, ◌<◌}
use mathlib.Core.Path.{◌≡◌, refl, sym, ap, ◌∙◌}
use mathlib.Core.Bool.{Bool, true, false, cond, not, ◌&&◌, ◌||◌}
use mathlib.Core.List.{List, [], ◌∷◌, ◌++◌}
use mathlib.Core.Option.{none, some}
use native.Mathlib.Omega.{arith}
use native.Mathlib.Nat.{mul-le-mul, le_refl}
use borrow.Author.Tests.{ltb-false, ltb-true, leb-false, eqb-true, lt-ltb, le-leb, lt-leb, ne_eqb}
use lib.Dec.{ltb, leb, eqb}
use lib.IntN.{ℤ, pos, negsuc}
use lib.ListN.{length, take, get_or, length-append}
use lib.Seq.{length-take-le}
use lib.Ieee.{Float, binary64, lt, of_int}
use Rattle.std.specs.Prelude.{Ok, Some, None}
use Rattle.refusal.specs.Lent.{over}
use Rattle.common.specs.Deviation.{count_limit}
use Rattle.refusal.specs.Refusal.{first_of}
use Rattle.trcf.specs.Lists.{last_or}
use Rattle.trcf.specs.Transformer.{zero32, one32, inverted, updated}
use Rattle.trcf.specs.Settings.{Settings, transformer, dimension, block, waiting}
use Rattle.trcf.specs.Calls.{Learn, post_process, seen_limit, rows, table, finite, given, wrong_length, newest, outside, learn_full, learn_short, waiting_short}
use Rattle.trcf.specs.Preprocessor.{State, Learned, time_fed, Reading, reading, facts, statistics_length, previous, feed, buffered, learned, learned_with, change, accepted}
use Rattle.trcf.specs.Preprocessor.{deviations, learned_nothing, deviations_alone, buffered_answer, learned_answer, learn_answer, learn_reply, anomaly_of, past_values}
use Rattle.trcf.specs.Preprocessor.{expected_values, block_at, is_zero, block_from, Anomaly}
use Rattle.trcf.specs.View.{Lent, lent, settings_of, view, counted, counting, written_over, holding, Fitted, row_of, head_after, lent_after, optional, learn_call, back_of}
use Rattle.trcf.specs.View.{newest_of, Bounded, LearnOutcome, learn_outcome, learned_outcome, learn_nothing, learn_after, or_else, anomaly_held, anomaly_time, anomaly_likelihood}
use Rattle.trcf.specs.View.{processed_outcome}
use Rattle.trcf.specs.Steps.Rows.{input_row, waiting_row, learn_row, learning_row}
use Rattle.trcf.specs.Steps.Learning.{Learnable, LearnParts, learned_parts, learned_statistics}
use Rattle.trcf.specs.declared.head.Preprocessor.{Preprocessor}
use Rattle.trcf.specs.Types.{normalizes}
use Rattle.trcf.proofs.TransformerLaws.{fed_at_length, updated_length}
use Rattle.trcf.proofs.ShingleLaws.{over_take}
use Rattle.trcf.proofs.RowLaws.{or_else_none, row_none, whole_first}
use Rattle.trcf.proofs.StateLaws.{same_head, same_lent, held_initial, held_values}

-- ---- the rows

given_is : (b : Bool) (v : List Float) → given (optional b v) ≡ b
given_is true v = refl
given_is false v = refl

wrong_is : (s : Settings) (b : Bool) (v : List Float) → wrong_length s (optional b v) ≡ (b && not (eqb (length v) (dimension s)))
unfolding wrong_length
wrong_is s true v = refl
wrong_is s false v = refl

outside_is : (k : ℕ) (i : ℤ) → 0 < k → k ≤ 64 → outside k i ≡ leb k (back_of i)
unfolding outside
outside_is k (pos zero) p h = sym (lt-leb k 0 p)
outside_is k (pos (suc n)) p h = rw (ne_eqb (suc n) 0 (λ e. omega (arith, e))) (sym (le-leb k 64 h))
outside_is k (negsuc n) p h = refl

split : (a b c waits p13 p14 w18 l18 w20 l20 : Bool)
    → first_of ((a, 10) ∷ (b, 11) ∷ (c, 12) ∷ (not waits && p13, 13) ∷ (not waits && p14, 14) ∷ (cond waits w18 l18, 18) ∷ (cond waits w20 l20, 20) ∷ [])
    ≡ or_else (first_of ((a, 10) ∷ (b, 11) ∷ (c, 12) ∷ [])) (cond waits (first_of ((w18, 18) ∷ (w20, 20) ∷ [])) (first_of ((p13, 13) ∷ (p14, 14) ∷ (l18, 18) ∷ (l20, 20) ∷ [])))
split true b c waits p13 p14 w18 l18 w20 l20 = refl
split false true c waits p13 p14 w18 l18 w20 l20 = refl
split false false true waits p13 p14 w18 l18 w20 l20 = refl
split false false false true p13 p14 w18 l18 w20 l20 = refl
split false false false false p13 p14 w18 l18 w20 l20 = refl

module _ (h : Preprocessor) (l : Lent) (x : List Float) (t : ℕ) (hasY : Bool) (y : List Float) (expects : Bool) (e : List Float) (grade : Float) (i : ℤ)
    (deviations_out past_out expected_out : List Float) (k_pos : 0 < h.shingle_size) (k_few : h.shingle_size ≤ 64) where
  pub post_rows : or_else (input_row h (length x) (finite x) (newest_of h l.previous_timestamps l.initial_timestamps) t)
      (learning_row h (length y) hasY (length e) expects grade (back_of i) (length deviations_out) (length past_out) (length expected_out))
      ≡ rows (settings_of h) (facts (view h l)) (post_process (learn_call x t hasY y expects e grade i deviations_out past_out expected_out))
  unfolding rows table input_row learning_row waiting_row learn_row facts view newest learn_full learn_short waiting_short
  post_rows =
      let s = settings_of h in
      let n = dimension s in
      let d = h.transformer.input_length in
      let p = lt zero32 grade in
      let full = (ltb h.values_seen h.stop_normalization && leb count_limit h.transformer.count) || (leb seen_limit h.values_seen || leb seen_limit h.internal_timestamp) in
      let short = ltb (length deviations_out) (block s) || ((p && expects) && (ltb (length past_out) d || ltb (length expected_out) d)) in
      rw (given_is hasY y, given_is expects e, wrong_is (settings_of h) hasY y, wrong_is (settings_of h) expects e, outside_is h.shingle_size i k_pos k_few)
      (sym (split (not (eqb (length x) d)) (not (finite x))
      (ltb t (cond (eqb h.internal_timestamp 0) (last_or 0 (take h.initial_len l.initial_timestamps)) (last_or 0 (take h.shingle_size l.previous_timestamps))))
      (waiting s h.values_seen) ((hasY && not (eqb (length y) n)) || (expects && not (eqb (length e) n))) (hasY && (p && leb h.shingle_size (back_of i)))
      (leb seen_limit h.values_seen) (hasY && full) (eqb (suc h.values_seen) h.start_normalization && ltb (length deviations_out) (block s)) (hasY && short)))

-- ---- what a row 0 leaves room for

module _ (h : Preprocessor) (l : Lent) (x : List Float) (t : ℕ) (hasY : Bool) (y : List Float) (expects : Bool) (e : List Float) (grade : Float) (i : ℤ)
    (deviations_out past_out expected_out : List Float) (b : Bounded (settings_of h))
    (z : row_of h l (post_process (learn_call x t hasY y expects e grade i deviations_out past_out expected_out)) ≡ 0) where
  abbrev learns : ℕ
  learns = learning_row h (length y) hasY (length e) expects grade (back_of i) (length deviations_out) (length past_out) (length expected_out)

  post_none : (input_row h (length x) (finite x) (newest_of h l.previous_timestamps l.initial_timestamps) t ≡ 0) × (learns ≡ 0)
  post_none =
      or_else_none (input_row h (length x) (finite x) (newest_of h l.previous_timestamps l.initial_timestamps) t) learns
      (post_rows h l x t hasY y expects e grade i deviations_out past_out expected_out b.k_pos b.k_few
      ∙ (row_none h l (post_process (learn_call x t hasY y expects e grade i deviations_out past_out expected_out)) z).rows_none)

  pub post_learns : learns ≡ 0
  post_learns = post_none.1

  pub post_whole : length x ≡ h.transformer.input_length
  unfolding input_row
  post_whole =
      whole_first (length x) h.transformer.input_length _ post_none.0

and_falls : (a b : Bool) → (a && b) ≡ false → a ≡ true → b ≡ false
and_falls true b e t = e
and_falls false b e t = cc

or_falls : (a b : Bool) → (a || b) ≡ false → (a ≡ false) × (b ≡ false)
or_falls true b e = (e, (cc))
or_falls false b e = (refl, e)

two_none : (a b : Bool) → first_of ((a, 18) ∷ (b, 20) ∷ []) ≡ 0 → (a ≡ false) × (b ≡ false)
two_none true b e = absurd (omega arith)
two_none false true e = absurd (omega arith)
two_none false false e = (refl, refl)

four_none : (a b c d : Bool) → first_of ((a, 13) ∷ (b, 14) ∷ (c, 18) ∷ (d, 20) ∷ []) ≡ 0 → (a ≡ false) × (b ≡ false) × (c ≡ false) × (d ≡ false)
four_none true b c d e = absurd (omega arith)
four_none false true c d e = absurd (omega arith)
four_none false false true d e = absurd (omega arith)
four_none false false false true e = absurd (omega arith)
four_none false false false false e = (refl, refl, refl, refl)

not_falls : (a : Bool) → not a ≡ false → a ≡ true
not_falls true e = refl
not_falls false e = sym e

and_first : (a b : Bool) → (a && b) ≡ true → a ≡ true
and_first true b e = refl
and_first false b e = e

and_second : (a b : Bool) → (a && b) ≡ true → b ≡ true
and_second true b e = e
and_second false b e = cc

module _ (h : Preprocessor) (y : ℕ) (hasY : Bool) (ee : ℕ) (expects : Bool) (grade : Float) (back dev past exp : ℕ)
    (e : learning_row h y hasY ee expects grade back dev past exp ≡ 0) where
  waiting_both : waiting (settings_of h) h.values_seen ≡ true
      → (leb seen_limit h.values_seen ≡ false) × ((eqb (suc h.values_seen) h.start_normalization && ltb dev (block (settings_of h))) ≡ false)
  unfolding learning_row waiting_row
  waiting_both w =
      two_none (leb seen_limit h.values_seen) (eqb (suc h.values_seen) h.start_normalization && ltb dev (block (settings_of h))) (rw w at e)

  pub waiting_completes : waiting (settings_of h) h.values_seen ≡ true → eqb (suc h.values_seen) h.start_normalization ≡ true → block (settings_of h) ≤ dev
  waiting_completes w c =
      ltb-false dev (block (settings_of h))
      (and_falls (eqb (suc h.values_seen) h.start_normalization) (ltb dev (block (settings_of h))) (waiting_both w).1 c)

  pub learnable : waiting (settings_of h) h.values_seen ≡ false → hasY ≡ true → Learnable h y ee expects grade back dev past exp
  unfolding learning_row learn_row
  learnable w g =
      let s = settings_of h in
      let n = dimension s in
      let d = h.transformer.input_length in
      let a = not (eqb y n) in
      let b = expects && not (eqb ee n) in
      let p = lt zero32 grade in
      let o = leb h.shingle_size back in
      let c = ltb h.values_seen h.stop_normalization && leb count_limit h.transformer.count in
      let u = leb seen_limit h.values_seen in
      let v = leb seen_limit h.internal_timestamp in
      let i = ltb dev (block s) in
      let q = ltb past d || ltb exp d in
      let f = four_none (a || b) (p && o) (c || (u || v)) (i || ((p && expects) && q)) (rw (w, g) at e) in
      let ab = or_falls a b f.0 in
      let cu = or_falls c (u || v) f.2 in
      let uv = or_falls u v cu.1 in
      let iq = or_falls i ((p && expects) && q) f.3 in
      record {
        all_y = eqb-true y n (not_falls (eqb y n) ab.0);
        count_room = λ z. leb-false count_limit h.transformer.count
            (and_falls (ltb h.values_seen h.stop_normalization) (leb count_limit h.transformer.count) cu.0 (lt-ltb h.values_seen h.stop_normalization z));
        seen_room = leb-false seen_limit h.values_seen uv.0;
        internal_room = leb-false seen_limit h.internal_timestamp uv.1;
        deviations_room = ltb-false dev (block s) iq.0;
        found = λ z.
            let r = or_falls (ltb past d) (ltb exp d) (and_falls (p && expects) q iq.1 z) in
            record {
              all_expected = eqb-true ee n (not_falls (eqb ee n) (and_falls expects (not (eqb ee n)) ab.1 (and_second p expects z)));
              inside = leb-false h.shingle_size back (and_falls p o f.1 (and_first p expects z));
              past_room = ltb-false past d r.0;
              expected_room = ltb-false exp d r.1;
            };
      }

-- ---- outcomes

module _ (h : Preprocessor) (l : Lent) (c : Learn) where
  learn_at_lem : (r : ℕ) (a : Preprocessor) (b : Lent) (v : Learned) → (r ≡ 0 → ⊥)
      → learn_nothing r h l c ≡ learned_outcome r (accepted r a h) (accepted r b l) (accepted r v (learned_nothing c))
  learn_at_lem zero a b v n = absurd (n refl)
  learn_at_lem (suc r) a b v n = refl

  pub learn_refused : (row_of h l (post_process c) ≡ 0 → ⊥) → learn_nothing (row_of h l (post_process c)) h l c ≡ learn_after h l c
  unfolding learn_after head_after lent_after
  learn_refused n = learn_at_lem (row_of h l (post_process c)) _ _ _ n

  learn_answered : row_of h l (post_process c) ≡ 0
      → learned_outcome 0 (counted h (change (view h l) (post_process c))) (written_over (change (view h l) (post_process c)) l) (learn_reply (view h l) c) ≡ learn_after h l c
  unfolding learn_after head_after lent_after
  learn_answered e =
      let w = change (view h l) (post_process c) in
      ap (λ (r : ℕ). learned_outcome r (accepted r (counted h w) h) (accepted r (written_over w l) l) (accepted r (learn_reply (view h l) c) (learned_nothing c))) (sym e)

  -- past waiting, without a point: nothing
  pub learn_none : row_of h l (post_process c) ≡ 0 → waiting (settings_of h) h.values_seen ≡ false → c.rcf_point ≡ none → Fitted h l → learn_nothing 0 h l c ≡ learn_after h l c
  unfolding change view learned_with learn_answer learned_nothing
  learn_none e w p f =
      (λ j. learn_nothing 0 (same_head h l f j) (same_lent h l f j) c)
      ∙ (λ j. let s = cond (sym w j) (buffered (view h l) c) (learned_with (view h l) (reading c.input c.timestamp) (sym p j)) in
      learned_outcome 0 (counted h s) (written_over s l) (cond (sym w j) (buffered_answer (view h l) c) (learn_answer (view h l) c (sym p j))))
      ∙ learn_answered e

  -- while waiting
  held_read : (b : Bool) (a : Preprocessor) (m : Lent) (v : List Float)
      → learn_outcome 0 b false 0 zero32 a m (cond b (over c.deviations_out v) c.deviations_out) c.past_out c.expected_out
      ≡ learned_outcome 0 a m (cond b (deviations_alone c v) (learned_nothing c))
  unfolding learned_nothing
  held_read true a m v = refl
  held_read false a m v = refl

  pub learn_held : row_of h l (post_process c) ≡ 0 → waiting (settings_of h) h.values_seen ≡ true → Fitted h l
      → learn_outcome 0 (eqb (suc h.values_seen) h.start_normalization) false 0 zero32
      (counting h h.transformer.count (suc h.values_seen) h.internal_timestamp (suc h.initial_len))
      (lent l.statistics l.last_shingled_input l.last_shingled_point l.previous_timestamps
      (over l.initial_values (take (h.initial_len * h.transformer.input_length) l.initial_values ++ c.input))
      (over l.initial_timestamps (take h.initial_len l.initial_timestamps ++ (c.timestamp ∷ []))))
      (cond (eqb (suc h.values_seen) h.start_normalization) (over c.deviations_out (deviations (holding h (take (statistics_length (settings_of h)) l.statistics) [] [])))
      c.deviations_out)
      c.past_out c.expected_out
      ≡ learn_after h l c
  unfolding change view buffered buffered_answer deviations written_over
  learn_held e w f =
      let r = f.roomy in
      let n : suc h.initial_len ≡ length (take h.initial_len l.initial_timestamps ++ (c.timestamp ∷ [])) =
      omega (arith, length-append (take h.initial_len l.initial_timestamps) (c.timestamp ∷ []), length-take-le h.initial_len l.initial_timestamps (held_initial h l f)) in
      (λ j. learn_outcome 0 (eqb (suc h.values_seen) h.start_normalization) false 0 zero32
      (counting h h.transformer.count (suc h.values_seen) h.internal_timestamp (n j))
      (lent (sym (over_take l.statistics (statistics_length (settings_of h)) r.in_statistics) j)
      (sym (over_take l.last_shingled_input (h.transformer.input_length * h.shingle_size) r.in_input) j)
      (sym (over_take l.last_shingled_point (dimension (settings_of h)) r.in_point) j)
      (sym (over_take l.previous_timestamps h.shingle_size r.in_times) j)
      (over l.initial_values (take (h.initial_len * h.transformer.input_length) l.initial_values ++ c.input))
      (over l.initial_timestamps (take h.initial_len l.initial_timestamps ++ (c.timestamp ∷ []))))
      (cond (eqb (suc h.values_seen) h.start_normalization) (over c.deviations_out (deviations (view h l))) c.deviations_out) c.past_out c.expected_out)
      ∙ held_read (eqb (suc h.values_seen) h.start_normalization) (counted h (buffered (view h l) c)) (written_over (buffered (view h l) c) l) (deviations (view h l))
      ∙ (λ j. let s = cond (sym w j) (buffered (view h l) c) (learned_with (view h l) (reading c.input c.timestamp) c.rcf_point) in
      learned_outcome 0 (counted h s) (written_over s l) (cond (sym w j) (buffered_answer (view h l) c) (learn_answer (view h l) c c.rcf_point)))
      ∙ learn_answered e

  -- past waiting, with a point y
  learned_read : (w : State) (y : List Float) (b expects : Bool) (x : List Float) (a : Preprocessor) (m : Lent)
      → learn_outcome 0 true (b && expects) (cond (b && expects) (anomaly_of w c).past_timestamp 0) (cond (b && expects) one32 zero32) a m
      (over c.deviations_out (deviations (learned w (reading c.input c.timestamp) y)))
      (cond (b && expects) (over c.past_out (past_values w c)) c.past_out) (cond (b && expects) (over c.expected_out (expected_values w c x)) c.expected_out)
      ≡ learned_outcome 0 a m (learned_answer w c y (cond b (optional expects x) none))
  unfolding learned_answer anomaly_of
  learned_read w y true true x a m = refl
  learned_read w y true false x a m = refl
  learned_read w y false expects x a m = refl

  pub learn_done : (y : List Float) (expects : Bool) (x : List Float) → row_of h l (post_process c) ≡ 0 → waiting (settings_of h) h.values_seen ≡ false
      → c.rcf_point ≡ some y → c.expected_point ≡ optional expects x
      → learn_outcome 0 true (lt zero32 c.grade && expects) (cond (lt zero32 c.grade && expects) (anomaly_of (view h l) c).past_timestamp 0)
      (cond (lt zero32 c.grade && expects) one32 zero32)
      (counted h (learned (view h l) (reading c.input c.timestamp) y)) (written_over (learned (view h l) (reading c.input c.timestamp) y) l)
      (over c.deviations_out (deviations (learned (view h l) (reading c.input c.timestamp) y)))
      (cond (lt zero32 c.grade && expects) (over c.past_out (past_values (view h l) c)) c.past_out)
      (cond (lt zero32 c.grade && expects) (over c.expected_out (expected_values (view h l) c x)) c.expected_out)
      ≡ learn_after h l c
  unfolding change learned_with learn_answer view
  learn_done y expects x e w p q =
      let v = view h l in
      let g = learned v (reading c.input c.timestamp) y in
      learned_read v y (lt zero32 c.grade) expects x (counted h g) (written_over g l)
      ∙ (λ j. learned_outcome 0 (counted h g) (written_over g l) (learned_answer v c y (cond (lt zero32 c.grade) (sym q j) none)))
      ∙ (λ j. let s = cond (sym w j) (buffered v c) (learned_with v (reading c.input c.timestamp) (sym p j)) in
      learned_outcome 0 (counted h s) (written_over s l) (cond (sym w j) (buffered_answer v c) (learn_answer v c (sym p j))))
      ∙ learn_answered e

-- ---- the place of an anomaly

pub zero_is : (i : ℤ) → is_zero i ≡ eqb (back_of i) 0
zero_is (pos zero) = refl
zero_is (pos (suc n)) = ne_eqb (suc n) 0 (λ e. omega (arith, e))
zero_is (negsuc n) = sym (ne_eqb (suc n) 0 (λ e. omega (arith, e)))

pub place_is : (k : ℕ) (i : ℤ) → back_of i < k → k ≤ 64 → block_at k i ≡ k - 1 - back_of i
place_is k (pos zero) h f = omega arith
place_is k (pos (suc n)) h f = absurd (omega arith)
place_is k (negsuc n) h f = refl

-- a shingle's blocks lie in a point
pub wide : (s : Settings) → s.d * s.k ≤ dimension s
unfolding dimension block
wide s = mul-le-mul (omega arith) (le_refl s.k)

-- ---- the program's parts make up the whole

module _ {A : Type 0} where
  cond_when : (b : Bool) (x x' y : A) → (b ≡ true → x ≡ x') → cond b x y ≡ cond b x' y
  cond_when true x x' y f = f refl
  cond_when false x x' y f = refl

abbrev pub outcome_of : LearnParts → List Float → List ℕ → LearnOutcome
outcome_of p v vt =
    let r = p.answer in
    processed_outcome (Ok r) r.head (lent p.statistics p.last_shingled_input p.last_shingled_point p.previous_timestamps v vt) p.deviations_out p.past_out p.expected_out

-- an anomaly that is there where b says so
module _ (x : Anomaly) where
  held_given : (b : Bool) → given (anomaly_held (cond b (Some x) None)) ≡ b
  held_given true = refl
  held_given false = refl

  held_time : (b : Bool) → anomaly_time (anomaly_held (cond b (Some x) None)) ≡ cond b x.past_timestamp 0
  held_time true = refl
  held_time false = refl

  held_likelihood : (b : Bool) → anomaly_likelihood (anomaly_held (cond b (Some x) None)) ≡ cond b x.likelihood zero32
  held_likelihood true = refl
  held_likelihood false = refl

module _ (h : Preprocessor) (l : Lent) (x : List Float) (t : ℕ) (hasY : Bool) (y : List Float) (expects : Bool) (e : List Float) (grade : Float) (i : ℤ)
    (deviations_out past_out expected_out : List Float) (k_few : h.shingle_size ≤ 64) (f : Fitted h l) (g : hasY ≡ true)
    (inside : (lt zero32 grade && expects) ≡ true → back_of i < h.shingle_size) where
  abbrev call : Learn
  call = learn_call x t hasY y expects e grade i deviations_out past_out expected_out

  abbrev parts : LearnParts
  parts =
      learned_parts h l.statistics l.last_shingled_input l.last_shingled_point l.previous_timestamps x t y e (lt zero32 grade && expects) (back_of i) deviations_out
      past_out expected_out

  module _ (z : back_of i < h.shingle_size) where
    placed : block_at h.shingle_size i ≡ h.shingle_size - 1 - back_of i
    placed = place_is h.shingle_size i z k_few

    past_same : over past_out
        (cond (eqb (back_of i) 0) x (block_from h.transformer.input_length (h.shingle_size - back_of i)
        (take (h.transformer.input_length * h.shingle_size) l.last_shingled_input)))
        ≡ over past_out (past_values (view h l) call)
    unfolding past_values view
    past_same =
        let d = h.transformer.input_length in
        let v = take (d * h.shingle_size) l.last_shingled_input in
        let q : h.shingle_size - back_of i ≡ suc (block_at h.shingle_size i) = omega (arith, placed, z) in
        λ j. over past_out (cond (sym (zero_is i) j) x (block_from d (q j) v))

    expected_same : over expected_out
        (inverted (transformer (settings_of h) 0 (take (statistics_length (settings_of h)) l.statistics)) (block_from h.transformer.input_length (h.shingle_size - 1 - back_of i) e)
        (block_from h.transformer.input_length (h.shingle_size - 1 - back_of i) (take (h.transformer.input_length * h.shingle_size) l.last_shingled_input)))
        ≡ over expected_out (expected_values (view h l) call e)
    unfolding expected_values view
    expected_same =
        let d = h.transformer.input_length in
        ap (λ (n : ℕ). over expected_out (inverted (transformer (settings_of h) 0 (take (statistics_length (settings_of h)) l.statistics)) (block_from d n e)
        (block_from d n (take (d * h.shingle_size) l.last_shingled_input)))) (sym placed)

    time_same : get_or (take h.shingle_size l.previous_timestamps) (h.shingle_size - 1 - back_of i) 0 ≡ (anomaly_of (view h l) call).past_timestamp
    unfolding anomaly_of view
    time_same = ap (λ (n : ℕ). get_or (take h.shingle_size l.previous_timestamps) n 0) (sym placed)

  pub learn_whole : row_of h l (post_process call) ≡ 0 → waiting (settings_of h) h.values_seen ≡ false
      → outcome_of parts l.initial_values l.initial_timestamps ≡ learn_after h l call
  unfolding view written_over learned deviations previous
  learn_whole r w =
      let a = lt zero32 grade && expects in
      let d = h.transformer.input_length in
      let p = parts in
      let x₀ : Anomaly = record { past_timestamp = get_or (take h.shingle_size l.previous_timestamps) (h.shingle_size - 1 - back_of i) 0; likelihood = one32 } in
      (λ j. learn_outcome 0 true (held_given x₀ a j) (held_time x₀ a j) (held_likelihood x₀ a j) p.answer.head
      (lent p.statistics p.last_shingled_input p.last_shingled_point p.previous_timestamps l.initial_values l.initial_timestamps) p.deviations_out p.past_out p.expected_out)
      ∙ (λ j. learn_outcome 0 true a
      (cond_when a (get_or (take h.shingle_size l.previous_timestamps) (h.shingle_size - 1 - back_of i) 0) (anomaly_of (view h l) call).past_timestamp 0 (λ z. time_same (inside z)) j)
      (cond a one32 zero32)
      (counting h (cond (ltb h.values_seen h.stop_normalization) (suc h.transformer.count) h.transformer.count) (suc h.values_seen) (suc h.internal_timestamp)
      (sym (length-take-le h.initial_len l.initial_timestamps (held_initial h l f)) j))
      (lent p.statistics p.last_shingled_input p.last_shingled_point p.previous_timestamps
      (sym (over_take l.initial_values (h.initial_len * d) (held_values h l f)) j) (sym (over_take l.initial_timestamps h.initial_len (held_initial h l f)) j))
      p.deviations_out
      (cond_when a (over past_out (cond (eqb (back_of i) 0) x (block_from d (h.shingle_size - back_of i) (take (d * h.shingle_size) l.last_shingled_input))))
      (over past_out (past_values (view h l) call)) past_out (λ z. past_same (inside z)) j)
      (cond_when a (over expected_out (inverted (transformer (settings_of h) 0 (take (statistics_length (settings_of h)) l.statistics)) (block_from d (h.shingle_size - 1 - back_of i) e)
      (block_from d (h.shingle_size - 1 - back_of i) (take (d * h.shingle_size) l.last_shingled_input)))) (over expected_out (expected_values (view h l) call e)) expected_out
      (λ z. expected_same (inside z)) j))
      ∙ learn_done h l call y expects e r w (ap (λ (b : Bool). optional b y) g) refl

pub waiting_below : (s : Settings) (seen : ℕ) → waiting s seen ≡ true → seen < s.start
unfolding waiting
waiting_below s seen w = ltb-true seen s.start (and_second (normalizes s.method) (ltb seen s.start) w)

-- feeding keeps the length
feed_length : (s : Settings) (n : ℕ) (st : List Float) (p r : Reading) → length (feed s n st p r) ≡ length st
unfolding feed time_fed
feed_length s n st p r =
    fed_at_length (updated (transformer s n st) r.value p.value) (5 * s.d) 1 s.decay n (of_int binary64 (pos r.time)) (of_int binary64 (pos (r.time - p.time)))
    ∙ updated_length (transformer s n st) r.value p.value

either_length : (b : Bool) (x y : List Float) → length x ≡ length y → length (cond b x y) ≡ length y
either_length true x y e = e
either_length false x y e = refl

pub learned_length : (h : Preprocessor) (st x : List Float) (ts : List ℕ) (input : List Float) (t : ℕ) → length (learned_statistics h st x ts input t) ≡ length st
learned_length h st x ts input t =
    either_length (ltb h.values_seen h.stop_normalization) (feed (settings_of h) h.transformer.count st (previous (holding h st x ts)) (reading input t)) st
    (feed_length (settings_of h) h.transformer.count st (previous (holding h st x ts)) (reading input t))
