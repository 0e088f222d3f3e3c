-- What the program's run notes is what the definitions note, for settings of d 1 that no row refuses. Rests on `runs_held`: whatever calls are made, what the
-- program holds is the state that they lead to.
use Prim.Native.Nat.{ℕ, zero, suc, ◌+◌, ◌*◌, ◌≤◌}
use native.Mathlib.Nat.{mul-le-mul}
use native.Mathlib.Omega.{arith}
use mathlib.Core.Path.{◌≡◌, refl, sym, ap, ◌∙◌, subst}
use mathlib.Core.Bool.{Bool, true, false, cond, not, ◌||◌}
use mathlib.Core.List.{List, [], ◌∷◌, ◌++◌, head-eq_of_cons-eq}
use mathlib.Core.Option.{Option, none}
use lib.Dec.{ltb, leb, eqb}
use lib.ListN.{length, drop, get_or, replicate}
use lib.Ieee.{Float, nan, binary32}
use lib.Ieee.Fits.{of_int-fits}
use lib.Ieee.Bits.{of_bits-fits}
use borrow.Author.Tests.{le-ltb, ltb-false, eqb-true}
use Rattle.refusal.specs.Lent.{over}
use Rattle.trcf.specs.Lists.{last_or, shift_in}
use Rattle.trcf.specs.Fit.{All, Fits}
use Rattle.trcf.specs.Types.{augments}
use Rattle.trcf.specs.Transformer.{zero32}
use Rattle.trcf.specs.Settings.{Settings, MachineSettings, Valid, settings_row, block, dimension, waiting, whole_max}
use Rattle.trcf.specs.Calls.{Call, Machine, FitsGiven, shingled_point}
use Rattle.trcf.specs.Preprocessor.{State, fresh, run, next, change, refusal, Answer, refused, absent, wrote, answer, point_reply, reply, accepted, drained, point_of, transformed_after, preceding}
use Rattle.trcf.specs.Preprocessor.{reading, status_of, statistics_length}
use Rattle.trcf.specs.View.{Lent, view, settings_of, head_row, head_table, initial_room, lent_short, ready_of, Getters, row_of, answer_of, PointOutcome, point_after, optional}
use Rattle.trcf.specs.declared.head.Preprocessor.{Preprocessor}
use Rattle.trcf.proofs.FitLaws.{all_append, all_drop}
use Rattle.trcf.proofs.OutcomeLaws.{accepted_not, or_else_is}
use Rattle.trcf.proofs.RefusalLaws.{room_start}
use Rattle.snapshot.specs.Form.{Form}
use Rattle.snapshot.proofs.Accepted.{rows_of, none_refuses}
use Rattle.snapshot.proofs.Lists.{all_replicate}
use Rattle.snapshot.proofs.RoundTrip.{few_of}
use Rattle.restart.specs.Held.{Held, held, held_next}
use Rattle.restart.proofs.Held.{Holds, Runs, runs_held, built_holds}
use Rattle.restart.proofs.Panel.{getters_at}
use Rattle.restart.proofs.Reachable.{run_form}
use Rattle.restart.proofs.Restart.{run_append}
use Rattle.restart.proofs.FeedLaws.{transformed_after_fits}
use Rattle.restart_program.specs.Program.{left_by}
use Rattle.restart_program.proofs.Program.{left_is_lem}
use Rattle.settling.specs.Settling.{Signal, value_at, Noted, noted, note, point_call, learn_with, point_in, last_of, Settling, settling_after, settling_at, noted_of, in_limits, pair_row, run_outcome}
use Rattle.settling.specs.Settling.{run_row, run_of}
use Rattle.settling.specs.Steps.{given_of, point_length, ReadingResult, reading_result, reading_result_with, reading_result_of, Track, settling_memory}
use Rattle.settling.specs.Steps.{track_after, track_at}

-- ---- the answer of point, as the program reads it

given_in : (r : ℕ) (w : Bool) (v out : List Float)
    → optional (accepted r (not w) false) (cond (accepted r (not w) false) v out) ≡ point_in (accepted r (cond w absent (wrote v)) (refused r))
given_in zero true v out = refl
given_in zero false v out = refl
given_in (suc r) w v out = refl

last_in : (r : ℕ) (w : Bool) (v out : List Float)
    → given_of (accepted r (not w) false) (last_or nan (cond (accepted r (not w) false) v out)) ≡ last_of (point_in (accepted r (cond w absent (wrote v)) (refused r)))
last_in zero true v out = refl
last_in zero false v out = refl
last_in (suc r) w v out = refl

module _ (h : Preprocessor) (l : Lent) (x : List Float) (t : ℕ) (out : List Float) where
  abbrev gave : PointOutcome
  gave = point_after h l x t out

  given_is : optional gave.given gave.out ≡ point_in (answer_of h l (shingled_point x t out))
  unfolding point_after answer_of reply view
  given_is = given_in (row_of h l (shingled_point x t out)) (waiting (settings_of h) h.values_seen) (point_reply (view h l) x t out) out

  last_is : given_of gave.given (last_or nan gave.out) ≡ last_of (point_in (answer_of h l (shingled_point x t out)))
  unfolding point_after answer_of reply view
  last_is = last_in (row_of h l (shingled_point x t out)) (waiting (settings_of h) h.values_seen) (point_reply (view h l) x t out) out

-- point, and then learn with what it gave, are two calls on what is held
turn_is : (M : Held) (g : Signal) (i : ℕ) (out : List Float) (a : Answer) → answer_of M.head M.lent (shingled_point (value_at g i ∷ []) i out) ≡ a
    → reading_result_with M.head M.lent (value_at g i ∷ []) i out
    ≡ reading_result (held_next (held_next M (shingled_point (value_at g i ∷ []) i out)) (learn_with g i (point_in a))).head
    (held_next (held_next M (shingled_point (value_at g i ∷ []) i out)) (learn_with g i (point_in a))).lent (last_of (point_in a))
unfolding reading_result_with
turn_is M g i out a q =
    let c : Call = shingled_point (value_at g i ∷ []) i out in
    let o : PointOutcome = point_after M.head M.lent (value_at g i ∷ []) i out in
    let m : Held = held o.head o.lent in
    let le : m ≡ held_next M c = left_is_lem M c in
    let rc : optional o.given o.out ≡ point_in a = given_is M.head M.lent (value_at g i ∷ []) i out ∙ ap point_in q in
    let lc : learn_with g i (optional o.given o.out) ≡ learn_with g i (point_in a) = ap (learn_with g i) rc in
    let H : left_by m (learn_with g i (optional o.given o.out)) ≡ held_next (held_next M c) (learn_with g i (point_in a)) =
    left_is_lem m (learn_with g i (optional o.given o.out)) ∙ (λ j. held_next (le j) (lc j)) in
    let K : given_of o.given (last_or nan o.out) ≡ last_of (point_in a) =
    last_is M.head M.lent (value_at g i ∷ []) i out ∙ ap (λ (z : Answer). last_of (point_in z)) q in
    λ j. reading_result (H j).head (H j).lent (K j)

-- ---- lengths for d 1

module _ (s : Settings) (ok : Valid s) (one : s.d ≡ 1) where
  point_few : dimension s ≤ 128
  unfolding dimension block
  point_few =
      let w : cond (augments s.mode) 1 0 ≤ 1 = few (augments s.mode) in
      let b : s.d + cond (augments s.mode) 1 0 ≤ 2 = omega (arith, w, one) in
      let m : (s.d + cond (augments s.mode) 1 0) * s.k ≤ 2 * 64 = mul-le-mul b (few_of s ok).k_few in
      omega (arith, m)
    where
      few : (b : Bool) → cond b 1 0 ≤ 1
      few true = omega arith
      few false = omega arith

  room : lent_short s settling_memory ≡ false
  unfolding lent_short
  room =
      let f = few_of s ok in
      let a : ltb 30 (statistics_length s) ≡ false = le-ltb 30 (statistics_length s) (rw one (omega arith)) in
      let b : ltb 64 (s.d * s.k) ≡ false = le-ltb 64 (s.d * s.k) (rw one (omega (arith, f.k_few))) in
      let c : ltb 128 (dimension s) ≡ false = le-ltb 128 (dimension s) point_few in
      let d : ltb 64 s.k ≡ false = le-ltb 64 s.k f.k_few in
      let i : initial_room s ≤ s.start = room_start s in
      let e : ltb 1999 (initial_room s * s.d) ≡ false = le-ltb 1999 (initial_room s * s.d) (rw one (omega (arith, i, f.start_few))) in
      let g : ltb 1999 (initial_room s) ≡ false = le-ltb 1999 (initial_room s) (omega (arith, i, f.start_few)) in
      λ j. a j || (b j || (c j || (d j || (e j || g j))))

  sane : head_row s ≡ 0
  unfolding head_row
  sane =
      let c = rows_of s ok.unrefused in
      none_refuses (head_table s) (c.1.0, (c.1.1.0, (c.1.1.1.0, (c.1.1.1.1.1.1.1.0, tt))))

  -- the whole point has room in 128 numbers
  length_is : (h : Preprocessor) → settings_of h ≡ s → point_length h ≡ dimension s
  length_is h e =
      let n : accepted (head_row (settings_of h)) (dimension (settings_of h)) 0 ≡ dimension s = ap (λ (x : Settings). accepted (head_row x) (dimension x) 0) e ∙ rw sane in
      ap (λ (k : ℕ). cond (ltb k 128) k 128) n ∙ go (ltb (dimension s) 128) refl
    where
      go : (b : Bool) → ltb (dimension s) 128 ≡ b → cond (ltb (dimension s) 128) (dimension s) 128 ≡ dimension s
      go true q = rw q
      go false q = rw q (let h = ltb-false (dimension s) 128 q in omega (arith, point_few, h))

  -- ---- a point that is given is one of f32

  fits_over : (out v : List Float) → Fits binary32 out → Fits binary32 v → Fits binary32 (over out v)
  unfolding over
  fits_over out v o f = all_append _ v (drop (length v) out) f (all_drop _ (length v) out o)

  module _ (g : Signal) (i : ℕ) (cs : List Call) (m : All Machine cs) where
    abbrev w : State
    w = run (fresh s) cs

    abbrev c₁ : Call
    c₁ = point_call s g i

    value_fits : Fits binary32 (value_at g i ∷ [])
    unfolding value_at
    value_fits = (of_int-fits binary32 _, tt)

    point_fits_lem : FitsGiven (point_in (answer w c₁))
    unfolding answer reply next change point_of shift_in
    point_fits_lem = go (refusal w c₁) refl (waiting w.settings w.values_seen) refl
      where
        form : Form (next w c₁)
        form = subst Form (run_append (fresh s) cs (c₁ ∷ [])) (run_form s ok (cs ++ (c₁ ∷ [])) (all_append _ cs (c₁ ∷ []) m (tt, tt)))

        go : (r : ℕ) → refusal w c₁ ≡ r → (b : Bool) → waiting w.settings w.values_seen ≡ b → FitsGiven (point_in (answer w c₁))
        go (suc r) e b q = rw e tt
        go zero e true q = rw (e, q) tt
        go zero e false q =
            let d : next w c₁ ≡ drained w = rw (e, q) in
            let f : Fits binary32 (drained w).last_shingled_point = subst (λ (u : State). Fits binary32 u.last_shingled_point) d form.point_fits in
            let v : List Float = transformed_after (drained w).settings (drained w).statistics (drained w).values_seen (preceding (drained w)) (reading (value_at g i ∷ []) i) in
            let t : Fits binary32 v =
            transformed_after_fits (drained w).settings (drained w).statistics (drained w).values_seen (preceding (drained w)) (reading (value_at g i ∷ []) i) value_fits in
            rw (e, q) (fits_over (replicate (dimension s) zero32) (point_of (drained w) (reading (value_at g i ∷ []) i))
            (all_replicate _ (dimension s) zero32 (of_bits-fits binary32 0))
            (all_append _ (drop (length v) (drained w).last_shingled_point) v (all_drop _ (length v) (drained w).last_shingled_point f) t))

  -- ---- after n readings

  pub record At (g : Signal) (n : ℕ) : Type 0 where
    pub calls : List Call
    pub machine : All Machine calls
    pub ran : run (fresh s) calls ≡ (settling_at s g n).state
    pub holds : Holds s (held (track_at s g n).head (track_at s g n).lent) (run (fresh s) calls)
    pub same : (track_at s g n).noted ≡ (settling_at s g n).noted

  begins : (g : Signal) → At g 0
  begins g = record { calls = []; machine = tt; ran = refl; holds = built_holds s ok settling_memory room; same = refl }

  goes : (g : Signal) (i : ℕ) → i ≤ whole_max → At g i → At g (suc i)
  unfolding track_after settling_after view status_of
  goes g i small p =
      let p₀ : Track = track_at s g i in
      let q₀ : Settling = settling_at s g i in
      let h : Preprocessor = p₀.head in
      let l : Lent = p₀.lent in
      let M : Held = held h l in
      let W : State = run (fresh s) p.calls in
      let c : Call = point_call s g i in
      let y : Option (List Float) = point_in (answer W c) in
      let d : Call = learn_with g i y in
      let out : List Float = replicate (point_length h) zero32 in
      let e : replicate (point_length h) zero32 ≡ replicate (dimension s) zero32 = ap (λ (k : ℕ). replicate k zero32) (length_is h p.holds.settled) in
      let mc : All Machine (c ∷ d ∷ []) = (tt, ((value_fits g i p.calls p.machine, small, point_fits_lem g i p.calls p.machine), tt)) in
      let R : Runs s ok M W (c ∷ d ∷ []) = runs_held s ok M p.calls (c ∷ d ∷ []) p.machine mc p.holds in
      let a : answer_of h l c ≡ answer W c = head-eq_of_cons-eq R.says in
      let m : Held = held_next (held_next M c) d in
      let t : reading_result_of h l (value_at g i) i ≡ reading_result m.head m.lent (last_of y) =
      ap (λ (o : List Float). reading_result_with h l (value_at g i ∷ []) i o) e ∙ turn_is M g i (replicate (dimension s) zero32) (answer W c) a in
      let j : run (fresh s) (p.calls ++ (c ∷ d ∷ [])) ≡ run W (c ∷ d ∷ []) = run_append (fresh s) p.calls (c ∷ d ∷ []) in
      let b : ready_of m.head ≡ leb (run W (c ∷ d ∷ [])).settings.k (run W (c ∷ d ∷ [])).internal_timestamp = ap (λ (x : List Getters). (get_or x 2 (getters_at W)).ready) R.shows in
      record {
        calls = p.calls ++ (c ∷ d ∷ []);
        machine = all_append _ p.calls (c ∷ d ∷ []) p.machine mc;
        ran = j ∙ ap (λ (v : State). next (next v c) (learn_with g i (point_in (answer v c)))) p.ran;
        holds = subst (λ (v : State). Holds s (held (reading_result_of h l (value_at g i) i).head (reading_result_of h l (value_at g i) i).lent) v) (sym j)
            (subst (λ (u : ReadingResult). Holds s (held u.head u.lent) (run W (c ∷ d ∷ []))) (sym t) R.holds);
        same = (λ k. note (p.same k) i (ready_of (t k).head) (t k).last)
            ∙ ap (λ (r : Bool). note q₀.noted i r (last_of y)) b
            ∙ ap (λ (v : State). note q₀.noted i (leb (next (next v c) (learn_with g i (point_in (answer v c)))).settings.k
            (next (next v c) (learn_with g i (point_in (answer v c)))).internal_timestamp) (last_of (point_in (answer v c)))) p.ran;
      }

  at : (g : Signal) (n : ℕ) → n ≤ whole_max → At g n
  at g zero h = begins g
  at g (suc n) h = goes g n (omega arith) (at g n (omega arith))

  pub noted_is : (g : Signal) (n : ℕ) → n ≤ whole_max → (track_at s g n).noted ≡ (settling_at s g n).noted
  noted_is g n h = (at g n h).same

-- ---- the whole run

pub pair_parts : (s : Settings) → pair_row s ≡ 0 → (settings_row s ≡ 0) × (s.d ≡ 1)
unfolding pair_row
pair_parts s e = go (settings_row s) refl (eqb s.d 1) refl
  where
    go : (r : ℕ) → settings_row s ≡ r → (b : Bool) → eqb s.d 1 ≡ b → (settings_row s ≡ 0) × (s.d ≡ 1)
    go zero q true f = (q, eqb-true s.d 1 f)
    go zero q false f = let z : ◌≡◌ {A = ℕ} 23 0 = rw (q, f) at e in absurd (omega arith)
    go (suc r) q b f = let z : ◌≡◌ {A = ℕ} (suc r) 0 = rw q at e in absurd (omega arith)

module _ (s : Settings) (g : Signal) where
  pub run_refused : (r : ℕ) → r ≡ pair_row s → (r ≡ 0 → ⊥) → (row : ℕ) → row ≡ r → (n : Noted) → n ≡ noted none none → run_outcome row n ≡ run_of s g
  unfolding run_of
  run_refused r e ne row q n en =
      let o : run_row s g ≡ r = or_else_is (pair_row s) _ (λ z. ne (e ∙ z)) ∙ sym e in
      (λ j. run_outcome ((q ∙ sym o) j) (en j)) ∙ sym (accepted_not (run_row s g) (run_outcome 0 (noted_of s g)) (run_outcome (run_row s g) (noted none none)) (λ z. ne (sym o ∙ z)))

  pub run_outside : pair_row s ≡ 0 → in_limits g ≡ false → (row : ℕ) → row ≡ 23 → (n : Noted) → n ≡ noted none none → run_outcome row n ≡ run_of s g
  unfolding run_of
  run_outside e f row q n en = (λ j. run_outcome (q j) (en j)) ∙ sym (rw (e, f))

  pub run_done : MachineSettings s → (e : pair_row s ≡ 0) → in_limits g ≡ true → g.readings ≤ whole_max → (row : ℕ) → row ≡ 0
      → (n : Noted) → n ≡ (track_at s g g.readings).noted → run_outcome row n ≡ run_of s g
  unfolding run_of noted_of
  run_done m e f h row q n en =
      let p = pair_parts s e in
      let ok : Valid s = record { unrefused = p.0; machine = m } in
      (λ j. run_outcome (q j) ((en ∙ noted_is s ok p.1 g g.readings h) j)) ∙ sym (rw (e, f))
