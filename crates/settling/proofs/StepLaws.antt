-- Parts of one reading's step. Assumes nothing.
use Prim.Native.Nat.{ℕ, zero, suc, ◌+◌, ◌-◌, ◌≤◌, ◌<◌}
use native.Mathlib.Omega.{arith}
use mathlib.Core.Path.{◌≡◌, refl, sym, ap, ◌∙◌}
use mathlib.Core.Bool.{Bool, true, false}
use mathlib.Core.List.{List, [], ◌∷◌}
use lib.ListN.{length, take, get_or, replicate}
use native.Mathlib.Numerals.{add-one}
use mathlib.Core.Option.{Option, none}
use lib.Ieee.{Float, nan}
use Rattle.std.specs.Prelude.{Result, Ok, Err, Option as Held, is_some}
use Rattle.std.specs.Bool.{then_some}
use Rattle.std.specs.Option.{unwrap_or}
use Rattle.std.specs.List.{slice_get}
use Rattle.std.proofs.lemmas.Option.{unwrap_or-slice_get}
use Rattle.std.specs.Result.{result_unwrap_or, IsErrAnd}
use denote.Bor.{Bor}
use Rattle.refusal.specs.Refusal.{number_of, row_of}
use Rattle.refusal.specs.declared.Refusal.{Refusal}
use Rattle.refusal.specs.declared.Refusal.TheVariants.{Withheld}
use Rattle.trcf_learn.specs.Given.{list_in}
use Rattle.trcf.specs.declared.head.Pointed.{Pointed}
use Rattle.settling.specs.declared.run.Settled.{Settled}
use Rattle.trcf.specs.Lists.{last_or}
use Rattle.trcf.specs.Settings.{Settings}
use Rattle.trcf.specs.Calls.{Learn}
use Rattle.trcf.specs.View.{Lent, ready_of, no_head, Outcome, head_outcome, build_of, PointOutcome, pointed, point_outcome, point_after, learn_nothing, learn_after}
use Rattle.access.specs.declared.rights.Right.TheVariants.{SEE, LEARN}
use Rattle.access.specs.Access.{every_right}
use Rattle.access.specs.Entries.{point_by, learn_by, seen_by}
use Rattle.access.proofs.Laws.{as_every}
use Rattle.trcf.specs.declared.head.Preprocessor.{Preprocessor}
use Rattle.settling.specs.Settling.{Signal, value_at, Noted, noted, note, run_outcome}
use Rattle.settling.specs.Steps.{option_of, given_of, learning, learned_result, ReadingResult, reading_result, reading_result_with, reading_result_of, Track, track, track_with, track_after}
use Rattle.settling.specs.Steps.{settled_outcome, settling_memory}
use Rattle.settling.specs.Steps.{track_from, track_built, track_at}

module _ {A : Type 0} where
  last_is : (v : List A) (d e : A) → 0 < length v → get_or v (length v - 1) d ≡ last_or e v
  last_is [] d e h = absurd (omega arith)
  last_is (x ∷ []) d e h = refl
  last_is (x ∷ y ∷ v) d e h =
      let q : length (x ∷ y ∷ v) - 1 ≡ suc (length (y ∷ v) - 1) = omega arith in
      ap (λ (k : ℕ). get_or (x ∷ y ∷ v) k d) q ∙ last_is (y ∷ v) d x (omega arith)

  pub last_got : (v : List A) (e : A) → unwrap_or (slice_get v (length v - 1)) e ≡ last_or e v
  last_got [] e = unwrap_or-slice_get [] (length {A = A} [] - 1) e
  last_got (x ∷ v) e = unwrap_or-slice_get (x ∷ v) (length (x ∷ v) - 1) e ∙ last_is (x ∷ v) e e (omega arith)

  pub take_replicate : (m n : ℕ) (x : A) → n ≤ m → take n (replicate m x) ≡ replicate n x
  take_replicate m zero x h = refl
  take_replicate zero (suc n) x h = absurd (omega arith)
  take_replicate (suc m) (suc n) x h = ap (λ (l : List A). x ∷ l) (take_replicate m n x (omega arith))

-- ---- the table has every right, so the guarded calls are the ones below

module _ (table : List ℕ) (every : table ≡ every_right) (h : Preprocessor) where
  pub point_below : (l : Lent) (x : List Float) (t : ℕ) (y : List Float) → point_by table 0 h l x t y ≡ point_after h l x t y
  point_below l x t y = as_every table (SEE ∷ LEARN ∷ []) (point_after h l x t y) (pointed 22 false h l y) every

  pub learn_below : (l : Lent) (c : Learn) → learn_by table 0 h l c ≡ learn_after h l c
  learn_below l c = as_every table (LEARN ∷ []) (learn_after h l c) (learn_nothing 22 h l c) every

  pub ready_below : (r : Result Bool Refusal) → r ≡ seen_by table 0 (ready_of h) → result_unwrap_or r false ≡ ready_of h
  ready_below r e = ap (λ (q : Result Bool Refusal). result_unwrap_or q false) (e ∙ as_every table (SEE ∷ []) (Ok (ready_of h)) (Err Withheld) every)

-- ---- what is answered with a head, and what is given or not

abbrev pub no_point : Preprocessor → Pointed
no_point h = record { given = false; head = h }

pub point_held : (r : Result Pointed Refusal) (h : Preprocessor) (l : Lent) (out : List Float)
    → point_outcome r h l out ≡ pointed (row_of r) (result_unwrap_or r (no_point h)).given (result_unwrap_or r (no_point h)).head l out
point_held (Ok p) h l out = refl
point_held (Err e) h l out = refl

module _ {A : Type 0} where
  given_is : (b : Bool) (x : A) → option_of (then_some b x) ≡ given_of b x
  given_is true x = refl
  given_is false x = refl

learning_is : (x : List Float) (t : ℕ) (b : Bool) (v : Bor (List Float)) → learning x t (is_some (then_some b v)) (list_in (then_some b v)) ≡ learning x t b v.now
learning_is x t true v = refl
learning_is x t false v = refl

-- ---- one reading, from what point, learn and the last element give

pub turn_done : (h : Preprocessor) (l : Lent) (x : List Float) (t : ℕ) (out : List Float)
    → (r : Result Pointed Refusal) (p : Pointed) (l₁ : Lent) (v : Bor (List Float)) → point_outcome r h l₁ v.now ≡ point_after h l x t out → p ≡ result_unwrap_or r (no_point h)
    → (o : Held (Bor (List Float))) → o ≡ then_some p.given v
    → (h₂ : Preprocessor) (l₂ : Lent) → reading_result h₂ l₂ none ≡ learned_result (learn_after p.head l₁ (learning x t (is_some o) (list_in o)))
    → (y : Float) → y ≡ last_or nan v.now → (z : Held Float) → z ≡ then_some p.given y → reading_result h₂ l₂ (option_of z) ≡ reading_result_with h l x t out
unfolding reading_result_with
turn_done h l x t out r p l₁ v e₁ ep o eo h₂ l₂ e₂ y e₃ z ez =
    let g = p.given in
    let k : learning x t (is_some o) (list_in o) ≡ learning x t g v.now =
    ap (λ (q : Held (Bor (List Float))). learning x t (is_some q) (list_in q)) eo ∙ learning_is x t g v in
    let s : pointed (row_of r) g p.head l₁ v.now ≡ point_after h l x t out =
    ap (λ (q : Pointed). pointed (row_of r) q.given q.head l₁ v.now) ep ∙ sym (point_held r h l₁ v.now) ∙ e₁ in
    let w : reading_result h₂ l₂ none ≡ learned_result (learn_after p.head l₁ (learning x t g v.now)) =
    e₂ ∙ ap (λ (c : Learn). learned_result (learn_after p.head l₁ c)) k in
    let u : option_of z ≡ given_of g (last_or nan v.now) = ap (λ (q : Held Float). option_of q) ez ∙ given_is g y ∙ ap (λ (q : Float). given_of g q) e₃ in
    (λ j. reading_result (w j).head (w j).lent (u j))
    ∙ ap (λ (o : PointOutcome). let q = learn_after o.head o.lent (learning x t o.given o.out) in reading_result q.head q.lent (given_of o.given (last_or nan o.out))) s

-- ---- a run that is refused, and one that begins

pub settled_err : (e : Refusal) (r : Result Settled Refusal) → IsErrAnd r (λ d. d ≡ e) → settled_outcome r ≡ run_outcome (number_of e) (noted none none)
settled_err e (Ok s) x = absurd x
settled_err e (Err d) x = ap (λ (q : Refusal). run_outcome (number_of q) (noted none none)) x

head_held : (r : Result Preprocessor Refusal) (h : Preprocessor) (l : Lent) → (head_outcome r h l).head ≡ result_unwrap_or r h
head_held (Ok n) h l = refl
head_held (Err e) h l = refl

lent_held : (r : Result Preprocessor Refusal) (h : Preprocessor) (l : Lent) → (head_outcome r h l).lent ≡ l
lent_held (Ok n) h l = refl
lent_held (Err e) h l = refl

-- what `build` leaves is where the readings begin
pub begun : (s : Settings) (r : Result Preprocessor Refusal) (h : Preprocessor) (l : Lent) {d : Preprocessor} → d ≡ no_head → h ≡ result_unwrap_or r d
    → head_outcome r no_head l ≡ build_of s settling_memory → track h l (noted none none) ≡ track_built s
begun s r h l {d} ed eh e =
    let a : h ≡ (build_of s settling_memory).head =
    eh ∙ ap (λ (x : Preprocessor). result_unwrap_or r x) ed ∙ sym (head_held r no_head l) ∙ ap (λ (o : Outcome). o.head) e in
    let b : l ≡ (build_of s settling_memory).lent = sym (lent_held r no_head l) ∙ ap (λ (o : Outcome). o.lent) e in
    λ j. track (a j) (b j) (noted none none)

-- ---- all readings

pub track_again : (g : Signal) (p : Track) (i : ℕ) (h : Preprocessor) (l : Lent) (n : Noted) → track h l n ≡ track_from g p i
    → (x : Float) → x ≡ value_at g i → (h₁ : Preprocessor) (l₁ : Lent) (y : Option Float) → reading_result h₁ l₁ y ≡ reading_result_of h l x i
    → (b : Bool) → b ≡ ready_of h₁ → (n₁ : Noted) → n₁ ≡ note n i b y → track h₁ l₁ n₁ ≡ track_from g p (i + 1)
unfolding track_after
track_again g p i h l n ei x ex h₁ l₁ y et b eb n₁ en =
    ap (λ (m : Noted). track h₁ l₁ m) (en ∙ ap (λ (c : Bool). note n i c y) eb)
    ∙ ap (λ (u : ReadingResult). track_with (track h l n) u i) et
    ∙ ap (λ (v : Float). track_with (track h l n) (reading_result_of h l v i) i) ex
    ∙ ap (λ (q : Track). track_with q (reading_result_of q.head q.lent (value_at g i) i) i) ei
    ∙ ap (λ (k : ℕ). track_from g p k) (sym (add-one i))

pub track_done : (s : Settings) (g : Signal) (p : Track) → p ≡ track_built s → (i n : ℕ) → i ≡ n
    → (h : Preprocessor) (l : Lent) (m : Noted) → track h l m ≡ track_from g p i → m ≡ (track_at s g n).noted
track_done s g p e i n q h l m v =
    ap (λ (r : Track). r.noted) (v ∙ (λ j. track_from g (e j) (q j)))

-- the lengths of the program's own lists
pub record Sized (st x p : List Float) (ts : List ℕ) (v : List Float) (vt : List ℕ) : Type 0 where
  pub statistics : length st ≡ 30
  pub input : length x ≡ 64
  pub point : length p ≡ 128
  pub times : length ts ≡ 64
  pub values : length v ≡ 1999
  pub initial : length vt ≡ 1999
