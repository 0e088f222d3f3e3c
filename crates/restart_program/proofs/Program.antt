-- The program's calls, composed by their contracts, are the calls of `held_demand_3`.
use Prim.Native.Nat.{ℕ, zero, suc, ◌*◌, ◌≤◌}
use native.Mathlib.Omega.{arith}
use mathlib.Core.Path.{◌≡◌, refl, sym, ap, ◌∙◌, subst}
use mathlib.Core.Bool.{Bool, true, false, not, ◌||◌, cond}
use mathlib.Core.List.{List, [], ◌∷◌, ◌++◌, map, head-eq_of_cons-eq, tail-eq_of_cons-eq}
use mathlib.Core.Option.{Option, none, some}
use borrow.Author.Tests.{ltb-false, le-ltb}
use lib.Dec.{ltb}
use lib.ListN.{length, replicate, length-replicate}
use lib.Ieee.{Float}
use Rattle.refusal.specs.Lent.{over}
use Rattle.trcf.specs.Fit.{All}
use Rattle.trcf.specs.Transformer.{zero32}
use Rattle.trcf.specs.Settings.{Settings, Valid, block, dimension, waiting}
use Rattle.trcf.specs.Calls.{Learn, Forecast, Call, Machine, shingled_point, post_process, drain, transform, invert_extrapolation, scale, shift, status, rows, table, given}
use Rattle.trcf.specs.Preprocessor.{State, Answer, refused, absent, done, wrote, learnt, turned, told, Learned, Status, statistics_length, change, reply, accepted, status_of, facts, reading}
use Rattle.trcf.specs.Preprocessor.{transform_of, scale_of, shift_of, point_reply, learn_reply, learned_nothing, turned_back}
use Rattle.trcf.specs.declared.head.Anomaly.{Anomaly}
use Rattle.trcf.specs.View.{Lent, lent, optional, settings_of, view, counted, written_over, head_row, initial_room, lent_short, getters_of, counters_unfit, short_row, lent_row, row_of, or_else}
use Rattle.trcf.specs.View.{answer_of, head_after, lent_after, Roomy, Fitted, written, write_of, no_status, status_after, drain_of, point_after, learn_after, anomaly_time, anomaly_likelihood}
use Rattle.trcf.specs.Extrapolation.{extrapolation, viewed, extrapolation_row, extrapolation_of}
use Rattle.trcf.specs.declared.head.Preprocessor.{Preprocessor}
use Rattle.trcf.proofs.FitLaws.{all_append}
use Rattle.trcf.proofs.RefusalLaws.{misfit_few, misfit_room, misfit_counted}
use Rattle.trcf.proofs.OutcomeLaws.{status_by}
use Rattle.trcf.proofs.StateLaws.{same_head, same_lent}
use Rattle.trcf.proofs.ExtrapolationLaws.{extrapolation_answers}
use Rattle.snapshot.specs.Save as save
use Rattle.snapshot.specs.Restore as restore
use Rattle.restart.specs.History.{Entry, entries, enter, history_state, history_refusal, history_answer, history_text, history_answers, history_panels, history_shown}
use Rattle.restart.specs.Statement.{panel_told}
use Rattle.restart.specs.Held.{Held, held, built_on, held_next, held_run, held_answers, held_panels, held_shown, saved_to, text_in, restored_on, HeldRestart}
use Rattle.restart.proofs.Held.{held_demand_3}
use Rattle.restart_program.specs.Program.{Return, point, learn, drains, writes, turns, tells, return_of, left_by, left_by_all, returns, anomaly_read, answer_read, returned_panels, shown_getters}
use Rattle.restart_program.specs.Program.{ProgramDemand3, list_of, Arguments}

-- ---- a row 0 of a call says that what is lent is long enough

or_both : (a b : Bool) → (a || b) ≡ false → (a ≡ false) × (b ≡ false)
or_both true b e = (e, (cc))
or_both false b e = (refl, e)

or_else_lem : (r n : ℕ) → or_else r n ≡ 0 → (r ≡ 0) × (n ≡ 0)
or_else_lem zero n e = (refl, e)
or_else_lem (suc r) n e = absurd (omega arith)

pub record Sound (h : Preprocessor) (l : Lent) : Type 0 where
  pub head : head_row (settings_of h) ≡ 0
  pub long : lent_row h l ≡ 0

module _ (h : Preprocessor) (l : Lent) where
  sound_of : (c : Call) → row_of h l c ≡ 0 → Sound h l
  unfolding row_of
  sound_of c e =
      let r : ℕ = rows (settings_of h) (facts (view h l)) c in
      let a = or_else_lem (head_row (settings_of h)) (or_else r (lent_row h l)) e in
      let b = or_else_lem r (lent_row h l) a.1 in
      record { head = a.0; long = b.1 }

  both : (a b : Bool) → ◌≡◌ {A = ℕ} (cond a 20 (cond b 20 0)) 0 → (a ≡ false) × (b ≡ false)
  both true b e = absurd (omega arith)
  both false true e = absurd (omega arith)
  both false false e = (refl, refl)

  fits : lent_row h l ≡ 0 → (counters_unfit h ≡ false) × (lent_short (settings_of h) l ≡ false)
  unfolding lent_row short_row
  fits e = both (counters_unfit h) (lent_short (settings_of h) l) e

  roomy_of : lent_short (settings_of h) l ≡ false → Roomy (settings_of h) l
  unfolding lent_short
  roomy_of e =
      let s : Settings = settings_of h in
      let b1 : Bool = ltb (length l.statistics) (statistics_length s) in
      let b2 : Bool = ltb (length l.last_shingled_input) (s.d * s.k) in
      let b3 : Bool = ltb (length l.last_shingled_point) (dimension s) in
      let b4 : Bool = ltb (length l.previous_timestamps) s.k in
      let b5 : Bool = ltb (length l.initial_values) (initial_room s * s.d) in
      let b6 : Bool = ltb (length l.initial_timestamps) (initial_room s) in
      let e1 = or_both b1 (b2 || (b3 || (b4 || (b5 || b6)))) e in
      let e2 = or_both b2 (b3 || (b4 || (b5 || b6))) e1.1 in
      let e3 = or_both b3 (b4 || (b5 || b6)) e2.1 in
      let e4 = or_both b4 (b5 || b6) e3.1 in
      let e5 = or_both b5 b6 e4.1 in
      record {
        in_statistics = ltb-false (length l.statistics) (statistics_length s) e1.0;
        in_input = ltb-false (length l.last_shingled_input) (s.d * s.k) e2.0;
        in_point = ltb-false (length l.last_shingled_point) (dimension s) e3.0;
        in_times = ltb-false (length l.previous_timestamps) s.k e4.0;
        in_values = ltb-false (length l.initial_values) (initial_room s * s.d) e5.0;
        in_initial = ltb-false (length l.initial_timestamps) (initial_room s) e5.1;
      }

  fitted_of : Sound h l → Fitted h l
  fitted_of o =
      let f = fits o.long in
      record { roomy = roomy_of f.1; few = misfit_few h f.0; in_room = misfit_room h f.0; counted = misfit_counted h f.0 }

-- ---- what the next call is given

module _ (m : Held) where
  abbrev h : Preprocessor
  h = m.head

  abbrev l : Lent
  l = m.lent

  -- a call that changes nothing leaves head and lists as they are, also where they are laid back
  reads : (c : Call) → change (view h l) c ≡ view h l → m ≡ held_next m c
  unfolding head_after lent_after
  reads c e = go (row_of h l c) refl
    where
      go : (r : ℕ) → row_of h l c ≡ r → m ≡ held (accepted (row_of h l c) (counted h (change (view h l) c)) h) (accepted (row_of h l c) (written_over (change (view h l) c) l) l)
      go zero q =
          let f : Fitted h l = fitted_of h l (sound_of h l c q) in
          rw (q, e) (λ j. held (same_head h l f j) (same_lent h l f j))
      go (suc r) q = rw q

  pub left_is_lem : (c : Call) → left_by m c ≡ held_next m c
  unfolding point_after learn_after drain_of change
  left_is_lem (shingled_point x t out) = refl
  left_is_lem (post_process q) = refl
  left_is_lem drain = refl
  left_is_lem (transform x t out) = reads (transform x t out) refl
  left_is_lem (invert_extrapolation c) = reads (invert_extrapolation c) refl
  left_is_lem (scale out) = reads (scale out) refl
  left_is_lem (shift out) = reads (shift out) refl
  left_is_lem (status out) = reads (status out) refl

shown_is : (m : Held) (cs : List Call) → shown_getters m cs ≡ held_shown m cs
shown_is m [] = refl
shown_is m (c ∷ cs) = λ j. getters_of m.head ∷ (ap (λ (x : Held). shown_getters x cs) (left_is_lem m c) ∙ shown_is (held_next m c) cs) j

pub ran_is : (m : Held) (cs : List Call) → left_by_all m cs ≡ held_run m cs
ran_is m [] = refl
ran_is m (c ∷ cs) = ap (λ (x : Held). left_by_all x cs) (left_is_lem m c) ∙ ran_is (held_next m c) cs

-- ---- what a caller gets, from the answer

abbrev row_in : Answer → ℕ
row_in (refused n) = n
row_in absent = 0
row_in done = 0
row_in (wrote v) = 0
row_in (learnt a) = 0
row_in (turned a) = 0
row_in (told a) = 0

module _ {A : Type 0} where
  -- by the kind of an answer: refused, without a list, with one, learnt, turned back, told
  abbrev kinds : (ℕ → A) → A → (List Float → A) → (Learned → A) → (Forecast → A) → (Status → A) → Answer → A
  kinds r o w l t s (refused n) = r n
  kinds r o w l t s absent = o
  kinds r o w l t s done = o
  kinds r o w l t s (wrote v) = w v
  kinds r o w l t s (learnt a) = l a
  kinds r o w l t s (turned a) = t a
  kinds r o w l t s (told a) = s a

abbrev learned_return : ℕ → Learned → Return
learned_return n a =
    learn n a.written (given a.anomaly) (anomaly_time a.anomaly) (anomaly_likelihood a.anomaly) a.deviations_out a.past_out a.expected_out

abbrev written_return : List Float → Answer → Return
written_return out a =
    kinds (λ n. writes (written n out)) (writes (written 0 out)) (λ v. writes (written 0 v)) (λ q. writes (written 0 out)) (λ q. writes (written 0 out))
    (λ q. writes (written 0 out)) a

abbrev returned : Call → Answer → Return
returned (shingled_point x t out) a =
    kinds (λ n. point n false out) (point 0 false out) (λ v. point 0 true v) (λ q. point 0 false out) (λ q. point 0 false out) (λ q. point 0 false out) a
returned (post_process q) a =
    let none = learned_return 0 (learned_nothing q) in
    kinds (λ n. learned_return n (learned_nothing q)) none (λ v. none) (λ v. learned_return 0 v) (λ v. none) (λ v. none) a
returned drain a = drains (row_in a)
returned (transform x t out) a = written_return out a
returned (invert_extrapolation c) a =
    let none = turns (extrapolation 0 c) in
    kinds (λ n. turns (extrapolation n c)) none (λ v. none) (λ q. none) (λ r. turns (extrapolation 0 r)) (λ q. none) a
returned (scale out) a = written_return out a
returned (shift out) a = written_return out a
returned (status out) a =
    let none = tells (status_by 0 (no_status out)) in
    kinds (λ n. tells (status_by n (no_status out))) none (λ v. none) (λ q. none) (λ q. none) (λ s. tells (status_by 0 s)) a

drain_row : (r : ℕ) → r ≡ row_in (accepted r done (refused r))
drain_row zero = refl
drain_row (suc r) = refl

point_row : (r : ℕ) (w : Bool) (x : List Float) (t : ℕ) (v out : List Float)
    → point r (accepted r (not w) false) (cond (accepted r (not w) false) v out) ≡ returned (shingled_point x t out) (accepted r (cond w absent (wrote v)) (refused r))
point_row zero true x t v out = refl
point_row zero false x t v out = refl
point_row (suc r) w x t v out = refl

learn_row_lem : (r : ℕ) (q : Learn) (a : Learned) → learned_return r (accepted r a (learned_nothing q)) ≡ returned (post_process q) (accepted r (learnt a) (refused r))
learn_row_lem zero q a = refl
learn_row_lem (suc r) q a = refl

write_row : (r : ℕ) (v out : List Float) → writes (written r (accepted r v out)) ≡ written_return out (accepted r (wrote v) (refused r))
write_row zero v out = refl
write_row (suc r) v out = refl

turn_row : (r : ℕ) (t c : Forecast)
    → turns (extrapolation r (accepted r t c)) ≡ returned (invert_extrapolation c) (accepted r (turned (accepted r t c)) (refused r))
turn_row zero t c = refl
turn_row (suc r) t c = refl

status_row : (r : ℕ) (s : Status) (out : List Float) → tells (status_by r (accepted r s (no_status out))) ≡ returned (status out) (accepted r (told s) (refused r))
status_row zero s out = refl
status_row (suc r) s out = refl

module _ (m : Held) where
  abbrev row : Call → ℕ
  row c = row_of m.head m.lent c

  abbrev state : State
  state = view m.head m.lent

  abbrev answers : Call → Answer
  answers c = answer_of m.head m.lent c

  point_is : (x : List Float) (t : ℕ) (out : List Float) → return_of m (shingled_point x t out) ≡ returned (shingled_point x t out) (answers (shingled_point x t out))
  unfolding point_after answer_of reply view
  point_is x t out =
      point_row (row (shingled_point x t out)) (waiting (settings_of m.head) m.head.values_seen) x t (point_reply state x t out) out

  turn_is : Sound m.head m.lent → (c : Forecast) → return_of m (invert_extrapolation c) ≡ returned (invert_extrapolation c) (answers (invert_extrapolation c))
  unfolding extrapolation_of
  turn_is o c =
      let h = m.head in
      let st = m.lent.statistics in
      let x = m.lent.last_shingled_input in
      let ts = m.lent.previous_timestamps in
      turn_row (extrapolation_row h st x ts c) (turned_back (viewed h st x ts) c) c
      ∙ ap (returned (invert_extrapolation c)) (sym (extrapolation_answers h m.lent c (fits h m.lent o.long).1))

  return_is : Sound m.head m.lent → (c : Call) → return_of m c ≡ returned c (answers c)
  unfolding learn_after drain_of write_of status_after answer_of reply
  return_is o (shingled_point x t out) = point_is x t out
  return_is o (post_process q) = learn_row_lem (row (post_process q)) q (learn_reply state q)
  return_is o drain = ap drains (drain_row (row drain))
  return_is o (transform x t out) = write_row (row (transform x t out)) (over out (transform_of (reading x t) state)) out
  return_is o (invert_extrapolation c) = turn_is o c
  return_is o (scale out) = write_row (row (scale out)) (over out (scale_of state)) out
  return_is o (shift out) = write_row (row (shift out)) (over out (shift_of state)) out
  return_is o (status out) = status_row (row (status out)) (status_of state out) out

-- ---- the answer, from what a caller gets

read_anomaly : (a : Option Anomaly) → anomaly_read (given a) (anomaly_time a) (anomaly_likelihood a) ≡ a
read_anomaly none = refl
read_anomaly (some a) = refl

read_learned : (a : Learned) → answer_read (learned_return 0 a) ≡ learnt a
read_learned a = λ j. learnt (record { written = a.written; anomaly = read_anomaly a.anomaly j; deviations_out = a.deviations_out; past_out = a.past_out; expected_out = a.expected_out })

read_refused : (c : Call) (r : ℕ) → answer_read (returned c (refused (suc r))) ≡ refused (suc r)
read_refused (shingled_point x t out) r = refl
read_refused (post_process q) r = refl
read_refused drain r = refl
read_refused (transform x t out) r = refl
read_refused (invert_extrapolation c) r = refl
read_refused (scale out) r = refl
read_refused (shift out) r = refl
read_refused (status out) r = refl

read_point : (x : List Float) (t : ℕ) (out v : List Float) (b : Bool) → answer_read (returned (shingled_point x t out) (cond b absent (wrote v))) ≡ cond b absent (wrote v)
read_point x t out v true = refl
read_point x t out v false = refl

read_reply : (w : State) (c : Call) → answer_read (returned c (reply w c)) ≡ reply w c
unfolding reply
read_reply w (shingled_point x t out) = read_point x t out _ (waiting w.settings w.values_seen)
read_reply w (post_process q) = read_learned _
read_reply w drain = refl
read_reply w (transform x t out) = refl
read_reply w (invert_extrapolation c) = refl
read_reply w (scale out) = refl
read_reply w (shift out) = refl
read_reply w (status out) = refl

read_by : (w : State) (c : Call) (r : ℕ) → answer_read (returned c (accepted r (reply w c) (refused r))) ≡ accepted r (reply w c) (refused r)
read_by w c zero = read_reply w c
read_by w c (suc r) = read_refused c r

answer_read_lem : (m : Held) → Sound m.head m.lent → (c : Call) → answer_read (return_of m c) ≡ answer_of m.head m.lent c
unfolding answer_of
answer_read_lem m o c = ap answer_read (return_is m o c) ∙ read_by (view m.head m.lent) c (row_of m.head m.lent c)

-- ---- what is held answers as the history rules: so `status` is not refused, so it is sound

module _ (s : Settings) where
  -- what the existing theorem says of it, for every list of calls
  abbrev Ruled : Held → List Entry → Type 0
  Ruled m es = (cs : List Call) → All Machine cs → held_answers m cs ≡ history_answers s es cs

  ruled_next : (m : Held) (es : List Entry) → Ruled m es → (c : Call) → Machine c → Ruled (held_next m c) (enter s es c)
  ruled_next m es r c k cs a = tail-eq_of_cons-eq (r (c ∷ cs) (k, a))

  ruled_answer : (m : Held) (es : List Entry) → Ruled m es → (c : Call) → Machine c → answer_of m.head m.lent c ≡ history_answer s es c
  ruled_answer m es r c k = head-eq_of_cons-eq (r (c ∷ []) (k, tt))

  -- an output that is long enough
  abbrev wide : List Float
  wide = replicate (block s) zero32

  status_told : (es : List Entry) → history_answer s es (status wide) ≡ told (status_of (history_state s es) wide)
  unfolding history_answer history_refusal rows table reply
  status_told es = rw (le-ltb (length wide) (block s) (omega (arith, length-replicate (block s) zero32)))

  told_row : (r : ℕ) (a : Answer) (x : Status) → accepted r a (refused r) ≡ told x → r ≡ 0
  told_row zero a x e = refl
  told_row (suc r) a x e = cc

  module _ (m : Held) (es : List Entry) (r : Ruled m es) where
    tells_all : answer_of m.head m.lent (status wide) ≡ told (status_of (history_state s es) wide)
    tells_all = ruled_answer m es r (status wide) tt ∙ status_told es

    no_row : row_of m.head m.lent (status wide) ≡ 0
    unfolding answer_of
    no_row = told_row (row_of m.head m.lent (status wide)) (reply (view m.head m.lent) (status wide)) (status_of (history_state s es) wide) tells_all

    pub sound : Sound m.head m.lent
    sound = sound_of m.head m.lent (status wide) no_row

  -- ---- all calls

  read_answers : (m : Held) (es : List Entry) → Ruled m es → (cs : List Call) → All Machine cs → map answer_read (returns m cs) ≡ history_answers s es cs
  read_answers m es r [] a = refl
  read_answers m es r (c ∷ cs) a =
      let n : Ruled (left_by m c) (enter s es c) = subst (λ (x : Held). Ruled x (enter s es c)) (sym (left_is_lem m c)) (ruled_next m es r c a.0) in
      λ j. (answer_read_lem m (sound m es r) c ∙ ruled_answer m es r c a.0) j ∷ read_answers (left_by m c) (enter s es c) n cs a.1 j

  -- what status returns on the panel is what it tells
  panels_read : (room : List Float) (m : Held) (es : List Entry) → Ruled m es → (cs : List Call) → All Machine cs → returned_panels room m cs ≡ held_panels room m cs
  panels_read room m es r [] a = λ j. panel_told (answer_read_lem m (sound m es r) (status room) j) ∷ []
  panels_read room m es r (c ∷ cs) a =
      let n : Ruled (held_next m c) (enter s es c) = ruled_next m es r c a.0 in
      λ j. panel_told (answer_read_lem m (sound m es r) (status room) j)
      ∷ (ap (λ (x : Held). returned_panels room x cs) (left_is_lem m c) ∙ panels_read room (held_next m c) (enter s es c) n cs a.1) j

-- ---- two that answer by one history return the same, refusals included

module _ (s : Settings) where
  same_return : (m n : Held) (es : List Entry) → Ruled s m es → Ruled s n es → (c : Call) → Machine c → return_of n c ≡ return_of m c
  same_return m n es r q c k =
      let a = sound s m es r in
      let b = sound s n es q in
      return_is n b c
      ∙ ap (returned c) (ruled_answer s n es q c k ∙ sym (ruled_answer s m es r c k))
      ∙ sym (return_is m a c)

  same_returns_lem : (m n : Held) (es : List Entry) → Ruled s m es → Ruled s n es → (cs : List Call) → All Machine cs → returns n cs ≡ returns m cs
  same_returns_lem m n es r q [] a = refl
  same_returns_lem m n es r q (c ∷ cs) a =
      let left : (x : Held) → Ruled s x es → Ruled s (left_by x c) (enter s es c) =
      λ x p. subst (λ (y : Held). Ruled s y (enter s es c)) (sym (left_is_lem x c)) (ruled_next s x es p c a.0) in
      λ j. same_return m n es r q c a.0 j ∷ same_returns_lem (left_by m c) (left_by n c) (enter s es c) (left m r) (left n q) cs a.1 j

-- what was built answers as the history rules from its first call on
ruled_built : (s : Settings) → Valid s → (first second : Lent) → lent_short s first ≡ false → lent_short s second ≡ false → Ruled s (built_on s first) []
unfolding entries
ruled_built s ok first second r₁ r₂ cs a =
    let k : HeldRestart s [] cs first second (history_text s []) [] = held_demand_3 s ok [] cs tt a first second r₁ r₂ (history_text s []) [] (omega arith) in
    sym k.same_answers ∙ k.ruled_answers

-- ---- the statement

pub program_demand_3 : ProgramDemand3
program_demand_3 s ok before after mb ma first second r₁ r₂ out last long =
    let H : (cs : List Call) → All Machine cs → HeldRestart s before cs first second out last =
    λ cs k. held_demand_3 s ok before cs mb k first second r₁ r₂ out last long in
    let k : HeldRestart s before after first second out last = H after ma in
    let M : Held = held_run (built_on s first) before in
    let N : Held = restored_on (text_in M out) s.codes second in
    let es : List Entry = entries s before in
    let q : Ruled s N es = λ cs a. (H cs a).ruled_answers in
    let r : Ruled s M es = λ cs a. sym (H cs a).same_answers ∙ (H cs a).ruled_answers in
    let e : held_run (built_on s first) before ≡ left_by_all (built_on s first) before = sym (ran_is (built_on s first) before) in
    let saves : (saved_to M out).row ≡ 0 = k.saves in
    let text : text_in M out ≡ history_text s before = k.text in
    let restores : (restore.restore_of (text_in M out) s.codes second).row ≡ 0 = k.restores in
    let same : returns N after ≡ returns M after = same_returns_lem s M N es r q after ma in
    let ruled : map answer_read (returns N after) ≡ history_answers s es after = read_answers s N es q after ma in
    let fed : (room : List Float) → block s ≤ length room → returned_panels room N after ≡ map some (history_panels s es after) =
    λ room h. panels_read s room N es q after ma ∙ k.fed_panels room h in
    let shown : shown_getters N after ≡ history_shown s es after = shown_is N after ∙ k.fed_shown in
    let ends : saved_to (left_by_all N after) last ≡ saved_to (left_by_all (built_on s first) (before ++ after)) last =
    ap (λ (x : Held). saved_to x last) (ran_is N after) ∙ k.same_text ∙ ap (λ (x : Held). saved_to x last) (sym (ran_is (built_on s first) (before ++ after))) in
    record {
      builds = k.builds;
      saves = subst (λ (x : Held). (saved_to x out).row ≡ 0) e saves;
      text = subst (λ (x : Held). text_in x out ≡ history_text s before) e text;
      restores = subst (λ (x : Held). (restore.restore_of (text_in x out) s.codes second).row ≡ 0) e restores;
      same_returns = subst (λ (x : Held). returns (restored_on (text_in x out) s.codes second) after ≡ returns x after) e same;
      ruled_answers = subst (λ (x : Held). map answer_read (returns (restored_on (text_in x out) s.codes second) after) ≡ history_answers s es after) e ruled;
      same_text = subst (λ (x : Held). saved_to (left_by_all (restored_on (text_in x out) s.codes second) after) last ≡ saved_to (left_by_all (built_on s first) (before ++ after)) last) e ends;
      fed_panels =
          λ room h. subst (λ (x : Held). returned_panels room (restored_on (text_in x out) s.codes second) after ≡ map some (history_panels s es after)) e (fed room h);
      first_panels =
          λ room h. panels_read s room (built_on s first) [] (ruled_built s ok first second r₁ r₂) (before ++ after) (all_append _ before after mb ma) ∙ k.first_panels room h;
      fed_shown = subst (λ (x : Held). shown_getters (restored_on (text_in x out) s.codes second) after ≡ history_shown s es after) e shown;
      first_shown = shown_is (built_on s first) (before ++ after) ∙ k.first_shown;
    }

-- ---- every settings and every learn is one that the contracts speak of

optional_is : (v : Option (List Float)) → optional (given v) (list_of v) ≡ v
optional_is none = refl
optional_is (some v) = refl

pub arguments : Arguments
arguments = record {
  built = λ s. refl;
  learns =
      λ q. λ j. record {
        input = q.input;
        timestamp = q.timestamp;
        rcf_point = optional_is q.rcf_point j;
        expected_point = optional_is q.expected_point j;
        grade = q.grade;
        relative_index = q.relative_index;
        deviations_out = q.deviations_out;
        past_out = q.past_out;
        expected_out = q.expected_out;
      };
}
