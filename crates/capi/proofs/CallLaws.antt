-- The calls, from what trcf's and snapshot's promise. Assumes nothing.
use Prim.Native.Nat.{ℕ, ◌≤◌, ◌<◌}
use mathlib.Core.Bool.{Bool, true, false, cond, not}
use mathlib.Core.List.{List, [], ◌∷◌}
use mathlib.Core.Path.{◌≡◌, refl, sym, ap, ◌∙◌}
use native.Mathlib.Omega.{arith}
use lib.ListN.{length}
use lib.Dec.{eqb}
use lib.IntN.{ℤ}
use lib.Ieee.{Float}
use denote.Bor.{Bor}
use borrow.Author.Tests.{lt-ltb, le-ltb}
use Rattle.refusal.specs.Lent.{over}
use Rattle.std.specs.Prelude.{Result, Ok, Err, Option as Held, is_some}
use Rattle.std.specs.Bool.{then_some}
use Rattle.std.specs.Int.{from_bool}
use Rattle.refusal.specs.Refusal.{number_of}
use Rattle.refusal.specs.declared.Refusal.{Refusal}
use Rattle.refusal.specs.declared.Refusal.TheVariants.{Withheld}
use Rattle.trcf.specs.Settings.{Settings, settings_row}
use Rattle.trcf.specs.Calls.{Call, Learn, Forecast}
use Rattle.trcf.specs.Preprocessor.{State, accepted}
use Rattle.trcf.specs.View.{Lent, settings_of, outcome, or_else, build_of, drain_of, pointed, point_after, learn_outcome, learn_nothing, learn_after, learn_call, optional, Written, written, write_of}
use Rattle.trcf.specs.Extrapolation.{Extrapolation, extrapolation, extrapolation_of}
use Rattle.trcf.specs.declared.types.TransformMethod.{TransformMethod}
use Rattle.trcf.specs.declared.types.ForestMode.{ForestMode}
use Rattle.trcf.specs.declared.head.Preprocessor.{Preprocessor}
use Rattle.trcf.specs.declared.head.Status.{Status}
use Rattle.trcf.proofs.NumberLaws.{number_zero}
use Rattle.trcf_learn.specs.Given.{list_in}
use Rattle.trcf.proofs.OutcomeLaws.{accepted_not, or_else_is}
use Rattle.snapshot.specs.Save.{save_of, save_outcome as saved}
use Rattle.capi.specs.Head.{head_of, words_of, counts_over, kind_row, words_short_row}
use Rattle.capi.specs.Steps.Reading.{HeadRead}
use Rattle.access.specs.declared.rights.Right.{Right}
use Rattle.access.specs.declared.rights.Right.TheVariants.{SEE, LEARN, SAVE}
use Rattle.access.specs.Access.{needs, granted, guarded}
use Rattle.access.specs.Entries.{point_by, learn_by, drain_by, write_by, extrapolation_by, save_by, seen_by, status_numbers}
use Rattle.capi.specs.Calls.{open_row, on_head, flag, is_set, called, drain_told, drain_at, build_told, build_at, point_called, point_told, point_at, AnomalyOut, anomaly_out}
use Rattle.capi.specs.Calls.{learn_called, learn_told, learn_at, write_at, extrapolation_at, save_told, save_at, ListGot, list_got, list_told, numbers_told, numbers_at, codes_at}

module _ {A : Type 0} where
  -- an answer where a call was not refused
  pub kept : (row : ℕ) (a b : A) → (row ≡ 0 → ⊥) → b ≡ accepted row a b
  kept row a b n = sym (accepted_not row a b n)

  pub given : (row : ℕ) (a b : A) → row ≡ 0 → a ≡ accepted row a b
  given row a b e = ap (λ (r : ℕ). accepted r a b) (sym e)

  -- a call on the words of a head
  pub refused : (b : Bool) (w : List ℕ) (a : A) (f : ℕ → A) (n : ℕ) → n ≡ open_row b w → (n ≡ 0 → ⊥) → f n ≡ on_head b w a f
  unfolding on_head
  refused b w a f n e z = ap f e ∙ sym (accepted_not (open_row b w) a (f (open_row b w)) (λ q. z (e ∙ q)))

  pub done : (b : Bool) (w : List ℕ) (a : A) (f : ℕ → A) (n : ℕ) → n ≡ open_row b w → n ≡ 0 → a ≡ on_head b w a f
  unfolding on_head
  done b w a f n e z = ap (λ (r : ℕ). accepted r a (f r)) (sym z ∙ e)

-- what the row 0 says of the role
allowed : (b : Bool) (w : List ℕ) → open_row b w ≡ 0 → b ≡ true
unfolding open_row
allowed true w e = refl
allowed false w e = absurd (omega (arith, e))

module _ {A : Type 0} where
  -- a guarded entry whose row of the words is 0 is the entry below
  below : (t : List ℕ) (role : ℕ) (rs : List Right) (w : List ℕ) (n : ℕ) → n ≡ open_row (granted t role rs) w → n ≡ 0 → (x y : A) → guarded t role rs x y ≡ x
  below t role rs w n e z x y = ap (λ (b : Bool). cond b x y) (allowed (granted t role rs) w (sym e ∙ z))

-- the row of the words as the code asks for it: by what the table's test said
pub opened : {n : ℕ} {b c : Bool} (w : List ℕ) → b ≡ c → n ≡ open_row b w → n ≡ open_row c w
opened w m e = e ∙ ap (λ (b : Bool). open_row b w) m

pub refused_row : (r : Refusal) {n : ℕ} {b c : Bool} (w : List ℕ) → n ≡ number_of r → b ≡ c → number_of r ≡ open_row b w → n ≡ open_row c w
refused_row r w i m e = i ∙ opened w m e

pub not_zero : (r : Refusal) {n : ℕ} → n ≡ number_of r → n ≡ 0 → ⊥
not_zero r i z = number_zero r (sym i ∙ z)

-- a Bool as a number
pub flag_from : (b : Bool) {n : ℕ} → n ≡ from_bool b → n ≡ flag b
flag_from true i = i
flag_from false i = i

-- the lists of a learn, given or not, by numbers
list_given : (n : ℕ) (v : Bor (List Float)) (o : Held (Bor (List Float))) → o ≡ then_some (not (eqb n 0)) v → optional (is_some o) (list_in o) ≡ optional (is_set n) v.now
list_given n v o i = rw i (go (eqb n 0))
  where
    go : (b : Bool) → optional (is_some (then_some (not b) v)) (list_in (then_some (not b) v)) ≡ optional (not b) v.now
    go true = refl
    go false = refl

module _ (x : List Float) (t : ℕ) (grade : Float) (index : ℤ) (deviations past expected : List Float) where
  pub given_call : (n : ℕ) (v : Bor (List Float)) (m : ℕ) (u : Bor (List Float)) {o p : Held (Bor (List Float))} {i : ℤ}
      → o ≡ then_some (not (eqb n 0)) v → p ≡ then_some (not (eqb m 0)) u → i ≡ index
      → learn_call x t (is_some o) (list_in o) (is_some p) (list_in p) grade i deviations past expected
      ≡ learn_call x t (is_set n) v.now (is_set m) u.now grade index deviations past expected
  given_call n v m u {o} {p} e f g =
      λ j. record {
        input = x;
        timestamp = t;
        rcf_point = list_given n v o e j;
        expected_point = list_given m u p f j;
        grade = grade;
        relative_index = g j;
        deviations_out = deviations;
        past_out = past;
        expected_out = expected;
      }

-- each call is refused by its row, n, or works on the head that was read
module _ (t : List ℕ) (role : ℕ) (w : List ℕ) {n : ℕ} where
  pub drain_refused : n ≡ open_row (granted t role (LEARN ∷ [])) w → (l : Lent) → (n ≡ 0 → ⊥) → called n w l ≡ drain_at t role w l
  unfolding drain_at
  drain_refused e l z = refused (granted t role (LEARN ∷ [])) w (drain_told w (drain_of (head_of w) l)) (λ (r : ℕ). called r w l) n e z

  pub point_refused : n ≡ open_row (granted t role (SEE ∷ LEARN ∷ [])) w → (l : Lent) (x : List Float) (ts g : ℕ) (out : List Float) → (n ≡ 0 → ⊥)
      → point_called n w l g out ≡ point_at t role w l x ts g out
  unfolding point_at
  point_refused e l x ts g out z =
      refused (granted t role (SEE ∷ LEARN ∷ [])) w (point_told w g (point_after (head_of w) l x ts out)) (λ (r : ℕ). point_called r w l g out) n e z

  pub learn_refused : n ≡ open_row (granted t role (LEARN ∷ [])) w → (l : Lent) (a : AnomalyOut) (c : Learn) → (n ≡ 0 → ⊥)
      → learn_called n w l a c.deviations_out c.past_out c.expected_out ≡ learn_at t role w l a c
  unfolding learn_at
  learn_refused e l a c z =
      refused (granted t role (LEARN ∷ [])) w (learn_told w a (learn_after (head_of w) l c)) (λ (r : ℕ). learn_called r w l a c.deviations_out c.past_out c.expected_out) n e z

  pub write_refused : (l : Lent) (c : Call) (f : State → List Float) (out : List Float) → n ≡ open_row (granted t role (needs c)) w → (n ≡ 0 → ⊥)
      → written n out ≡ write_at t role w l c f out
  unfolding write_at
  write_refused l c f out e z = refused (granted t role (needs c)) w (write_of (head_of w) l c f out) (λ (r : ℕ). written r out) n e z

  pub extrapolation_refused : n ≡ open_row (granted t role (SEE ∷ [])) w → (st x : List Float) (ts : List ℕ) (c : Forecast) → (n ≡ 0 → ⊥)
      → extrapolation n c ≡ extrapolation_at t role w st x ts c
  unfolding extrapolation_at
  extrapolation_refused e st x ts c z =
      refused (granted t role (SEE ∷ [])) w (extrapolation_of (head_of w) st x ts c) (λ (r : ℕ). extrapolation r c) n e z

  pub save_refused : n ≡ open_row (granted t role (SAVE ∷ [])) w → (l : Lent) (m : ℕ) (out : List ℕ) → (n ≡ 0 → ⊥) → saved n m out ≡ save_at t role w l m out
  unfolding save_at
  save_refused e l m out z = refused (granted t role (SAVE ∷ [])) w (save_told m (save_of (head_of w) l out)) (λ (r : ℕ). saved r m out) n e z

  pub numbers_refused : n ≡ open_row (granted t role (SEE ∷ [])) w → (out : List ℕ) → (n ≡ 0 → ⊥) → list_got n out ≡ numbers_at t role w out
  unfolding numbers_at
  numbers_refused e out z = refused (granted t role (SEE ∷ [])) w (list_told (numbers_told (status_numbers (head_of w))) out) (λ (r : ℕ). list_got r out) n e z

  pub codes_refused : n ≡ open_row (granted t role (SEE ∷ [])) w → (out : List ℕ) → (n ≡ 0 → ⊥) → list_got n out ≡ codes_at t role w out
  unfolding codes_at
  codes_refused e out z = refused (granted t role (SEE ∷ [])) w (list_told (settings_of (head_of w)).codes out) (λ (r : ℕ). list_got r out) n e z

  module _ {h : Preprocessor} (z : n ≡ 0) (read : n ≡ 0 → HeadRead w h) where
    pub drain_done : n ≡ open_row (granted t role (LEARN ∷ [])) w → (l : Lent) {row : ℕ} {next : Preprocessor} {l' : Lent} {w' : List ℕ}
        → outcome row next l' ≡ drain_by t role h l → w' ≡ accepted row (counts_over w next) w → called row w' l' ≡ drain_at t role w l
    unfolding drain_at
    drain_done e l {row} {next} {l'} {w'} p q =
        (λ j. called row (q j) l')
        ∙ ap (drain_told w) (p ∙ below t role (LEARN ∷ []) w n e z (drain_of h l) (outcome 22 h l) ∙ ap (λ (x : Preprocessor). drain_of x l) (read z).is)
        ∙ done (granted t role (LEARN ∷ [])) w (drain_told w (drain_of (head_of w) l)) (λ (r : ℕ). called r w l) n e z

    pub point_done : n ≡ open_row (granted t role (SEE ∷ LEARN ∷ [])) w
        → (l : Lent) (x : List Float) (ts g : ℕ) (out : List Float) {row : ℕ} {b : Bool} {next : Preprocessor} {l' : Lent} {w' : List ℕ} {g' f : ℕ} {out' : List Float}
        → pointed row b next l' out' ≡ point_by t role h l x ts out → w' ≡ accepted row (counts_over w next) w → f ≡ flag b → g' ≡ accepted row f g
        → point_called row w' l' g' out' ≡ point_at t role w l x ts g out
    unfolding point_at
    point_done e l x ts g out {row} {b} {next} {l'} {w'} {g'} {f} {out'} p q i k =
        (λ j. point_called row (q j) l' ((k ∙ ap (λ (v : ℕ). accepted row v g) i) j) out')
        ∙ ap (point_told w g)
        (p
        ∙ below t role (SEE ∷ LEARN ∷ []) w n e z (point_after h l x ts out) (pointed 22 false h l out)
        ∙ ap (λ (y : Preprocessor). point_after y l x ts out) (read z).is)
        ∙ done (granted t role (SEE ∷ LEARN ∷ [])) w (point_told w g (point_after (head_of w) l x ts out)) (λ (r : ℕ). point_called r w l g out) n e z

    pub learn_done : n ≡ open_row (granted t role (LEARN ∷ [])) w
        → (l : Lent) (a : AnomalyOut) (c c' : Learn) {row : ℕ} {u b : Bool} {ts : ℕ} {k : Float} {next : Preprocessor} {l' : Lent} {dv ps ex : List Float} {w' : List ℕ} {u' b' t' f g : ℕ} {k' : Float}
        → learn_outcome row u b ts k next l' dv ps ex ≡ learn_by t role h l c' → c' ≡ c → w' ≡ accepted row (counts_over w next) w
        → f ≡ flag u → u' ≡ accepted row f a.written → g ≡ flag b → b' ≡ accepted row g a.has_anomaly
        → t' ≡ accepted row ts a.past_timestamp → k' ≡ accepted row k a.likelihood
        → learn_called row w' l' (anomaly_out u' b' t' k') dv ps ex ≡ learn_at t role w l a c
    unfolding learn_at
    learn_done e l a c c' {row} {u} {b} {ts} {k} {next} {l'} {dv} {ps} {ex} {w'} {u'} {b'} {t'} {f} {g} {k'} p s q fu pu fb pb pt pk =
        (λ j. learn_called row (q j) l' (anomaly_out ((pu ∙ ap (λ (v : ℕ). accepted row v a.written) fu) j) ((pb ∙ ap (λ (v : ℕ). accepted row v a.has_anomaly) fb) j) (pt j) (pk j)) dv ps ex)
        ∙ ap (learn_told w a)
        (p ∙ below t role (LEARN ∷ []) w n e z (learn_after h l c') (learn_nothing 22 h l c') ∙ (λ j. learn_after ((read z).is j) l (s j)))
        ∙ done (granted t role (LEARN ∷ [])) w (learn_told w a (learn_after (head_of w) l c)) (λ (r : ℕ). learn_called r w l a c.deviations_out c.past_out c.expected_out) n e z

    pub write_done : (l : Lent) (c : Call) (f : State → List Float) (out : List Float) {o : Written} → n ≡ open_row (granted t role (needs c)) w
        → o ≡ write_by t role h l c f out → o ≡ write_at t role w l c f out
    unfolding write_at
    write_done l c f out e p =
        p
        ∙ below t role (needs c) w n e z (write_of h l c f out) (written 22 out)
        ∙ ap (λ (x : Preprocessor). write_of x l c f out) (read z).is
        ∙ done (granted t role (needs c)) w (write_of (head_of w) l c f out) (λ (r : ℕ). written r out) n e z

    pub extrapolation_done : n ≡ open_row (granted t role (SEE ∷ [])) w → (st x : List Float) (ts : List ℕ) (c : Forecast) {o : Extrapolation}
        → o ≡ extrapolation_by t role h st x ts c → o ≡ extrapolation_at t role w st x ts c
    unfolding extrapolation_at
    extrapolation_done e st x ts c p =
        p
        ∙ below t role (SEE ∷ []) w n e z (extrapolation_of h st x ts c) (extrapolation 22 c)
        ∙ ap (λ (y : Preprocessor). extrapolation_of y st x ts c) (read z).is
        ∙ done (granted t role (SEE ∷ [])) w (extrapolation_of (head_of w) st x ts c) (λ (r : ℕ). extrapolation r c) n e z

    pub save_done : n ≡ open_row (granted t role (SAVE ∷ [])) w → (l : Lent) (m : ℕ) (out : List ℕ) {row len m' : ℕ} {out' : List ℕ}
        → saved row len out' ≡ save_by t role h l out → m' ≡ accepted row len m → saved row m' out' ≡ save_at t role w l m out
    unfolding save_at
    save_done e l m out {row} {len} {m'} {out'} p q =
        (λ j. saved row (q j) out')
        ∙ ap (save_told m) (p ∙ below t role (SAVE ∷ []) w n e z (save_of h l out) (saved 22 0 out) ∙ ap (λ (x : Preprocessor). save_of x l out) (read z).is)
        ∙ done (granted t role (SAVE ∷ [])) w (save_told m (save_of (head_of w) l out)) (λ (r : ℕ). saved r m out) n e z

    -- what a getter says is said, since the role may see
    seen : n ≡ open_row (granted t role (SEE ∷ [])) w → {r : Result Status Refusal} → r ≡ seen_by t role (status_numbers h) → r ≡ Ok (status_numbers (head_of w))
    seen e i = i ∙ below t role (SEE ∷ []) w n e z (Ok (status_numbers h)) (Err Withheld) ∙ ap (λ (x : Preprocessor). Ok (status_numbers x)) (read z).is

    pub numbers_shut : n ≡ open_row (granted t role (SEE ∷ [])) w → {r : Refusal} → Err r ≡ seen_by t role (status_numbers h) → ⊥
    numbers_shut e i = (let k = seen e i in cc)

    pub numbers_done : n ≡ open_row (granted t role (SEE ∷ [])) w → (out : List ℕ) {a : Status} {o : ListGot}
        → Ok a ≡ seen_by t role (status_numbers h) → o ≡ list_told (numbers_told a) out → o ≡ numbers_at t role w out
    unfolding numbers_at
    numbers_done e out {a} {o} i p =
        let k : a ≡ status_numbers (head_of w) = (let k = seen e i in cc) in
        p
        ∙ ap (λ (x : Status). list_told (numbers_told x) out) k
        ∙ done (granted t role (SEE ∷ [])) w (list_told (numbers_told (status_numbers (head_of w))) out) (λ (r : ℕ). list_got r out) n e z

    pub codes_done : n ≡ open_row (granted t role (SEE ∷ [])) w → (cs out : List ℕ) {o : ListGot} → cs ≡ (settings_of h).codes → o ≡ list_told cs out → o ≡ codes_at t role w out
    unfolding codes_at
    codes_done e cs out i p =
        p
        ∙ ap (λ (v : List ℕ). list_told v out) (i ∙ ap (λ (x : Preprocessor). (settings_of x).codes) (read z).is)
        ∙ done (granted t role (SEE ∷ [])) w (list_told (settings_of (head_of w)).codes out) (λ (r : ℕ). list_got r out) n e z

-- ---- numbers, told or too many

pub list_many : (v out : List ℕ) → length out < length v → list_got 20 out ≡ list_told v out
unfolding list_told
list_many v out h = sym (ap (λ (b : Bool). cond b (list_got 20 out) (list_got 0 (over out v))) (lt-ltb (length out) (length v) h))

pub list_fit : (v out : List ℕ) {u : List ℕ} → length v ≤ length out → u ≡ over out v → list_got 0 u ≡ list_told v out
unfolding list_told
list_fit v out h e =
    ap (list_got 0) e ∙ sym (ap (λ (b : Bool). cond b (list_got 20 out) (list_got 0 (over out v))) (le-ltb (length out) (length v) h))

-- ---- `build`

abbrev pub settings_with : ForestMode → TransformMethod → ℕ → ℕ → ℕ → ℕ → Float → Float → List Float → List ℕ → Settings
settings_with mode method d k start stop decay weight_time weights codes =
    record {
      mode = mode;
      method = method;
      d = d;
      k = k;
      start = start;
      stop = stop;
      decay = decay;
      weight_time = weight_time;
      weights = weights;
      codes = codes;
    }

module _ (mode method : ℕ) (s : Settings) (w : List ℕ) (l : Lent) where
  abbrev row_of : ℕ
  row_of = or_else (kind_row mode method) (or_else (settings_row s) (words_short_row w))

  build_row_lem : (n : ℕ) → n ≡ row_of → (n ≡ 0 → ⊥) → called n w l ≡ build_at mode method s w l
  unfolding build_at
  build_row_lem n e z = ap (λ (r : ℕ). called r w l) e ∙ sym (accepted_not row_of (build_told w (build_of s l)) (called row_of w l) (λ q. z (e ∙ q)))

  pub build_kind : {n : ℕ} → n ≡ kind_row mode method → (n ≡ 0 → ⊥) → called n w l ≡ build_at mode method s w l
  build_kind {n} e z = build_row_lem n (e ∙ sym (or_else_is (kind_row mode method) (or_else (settings_row s) (words_short_row w)) (λ q. z (e ∙ q)))) z

  module _ {k : ℕ} (ke : k ≡ kind_row mode method) (kz : k ≡ 0) where
    pub build_settings : {n : ℕ} → n ≡ settings_row s → (n ≡ 0 → ⊥) → called n w l ≡ build_at mode method s w l
    build_settings {n} e z =
        build_row_lem n
        (e ∙ sym (or_else_is (settings_row s) (words_short_row w) (λ q. z (e ∙ q))) ∙ ap (λ (r : ℕ). or_else r (or_else (settings_row s) (words_short_row w))) (sym kz ∙ ke))
        z

    module _ {r : ℕ} (re : r ≡ settings_row s) (rz : r ≡ 0) where
      not_none : ◌≡◌ {A = ℕ} 20 0 → ⊥
      not_none q = absurd (omega (arith, q))

      all_but : words_short_row w ≡ row_of
      all_but =
          ap (λ (m : ℕ). or_else m (words_short_row w)) (sym rz ∙ re)
          ∙ ap (λ (m : ℕ). or_else m (or_else (settings_row s) (words_short_row w))) (sym kz ∙ ke)

      pub build_few : words_short_row w ≡ 20 → called 20 w l ≡ build_at mode method s w l
      build_few e = build_row_lem 20 (sym e ∙ all_but) not_none

      pub build_done : words_short_row w ≡ 0 → {row : ℕ} {next : Preprocessor} {l' : Lent} {w' : List ℕ}
          → outcome row next l' ≡ build_of s l → w' ≡ accepted row (over w (words_of next)) w → called row w' l' ≡ build_at mode method s w l
      unfolding build_at
      build_done e {row} {next} {l'} {w'} p q =
          (λ j. called row (q j) l')
          ∙ ap (build_told w) p
          ∙ ap (λ (m : ℕ). accepted m (build_told w (build_of s l)) (called m w l)) (sym e ∙ all_but)
