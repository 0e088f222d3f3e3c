-- The text in the two parts in which it is written, and the number of its bytes.
use Prim.Native.Nat.{ℕ, zero, suc, ◌+◌, ◌*◌, ◌/◌, ◌≤◌, ◌<◌}
use native.Mathlib.Nat.{mul-le-mul, suc-mul, zero-mul}
use native.Mathlib.Omega.{arith}
use mathlib.Core.Path.{◌≡◌, refl, sym, ap, ◌∙◌, subst}
use mathlib.Core.Bool.{Bool, true, false, cond, ◌||◌, true≢false}
use mathlib.Core.List.{List, [], ◌∷◌, ◌++◌, map, append_assoc}
use lib.Dec.{ltb, leb}
use lib.ListN.{length, take, drop, length-append, length-drop}
use lib.Seq.{length-take-le}
use lib.Ieee.{Float}
use borrow.Author.Tests.{ltb-false, leb-false, lt-ltb, le-ltb}
use Rattle.trcf.specs.declared.head.Preprocessor.{Preprocessor}
use Rattle.std.specs.Prelude.{Result, Ok, Err, IsErrAnd}
use Rattle.refusal.specs.declared.Refusal.{Refusal}
use Rattle.refusal.specs.Refusal.{number_of}
use Rattle.refusal.proofs.RefusalLaws.{is_numbered}
use Rattle.trcf.specs.Types.{method_number, mode_letter, augments}
use Rattle.trcf.specs.Settings.{Settings, settings_row, block, dimension}
use Rattle.trcf.specs.View.{Lent, settings_of, view, counters_unfit}
use Rattle.trcf.specs.Preprocessor.{State}
use Rattle.snapshot.specs.Text.{Line, whole, wgt, inp, pnt, set_line, singles, chn_line, cnt_line, dev_line, dev_lines, tim_line, buf_line, buf_lines, bytes_of, body_lines, lines_by, render}
use Rattle.snapshot.specs.Read.{bytes_of_line}
use Rattle.snapshot.specs.Steps.Write.{Wrote, tabbed, set_bytes}
use Rattle.snapshot.specs.Save.{past, in_use_short, unformed, SaveOutcome, save_outcome, saved_told, fitted, held_save, save_of}
use Rattle.snapshot.specs.Steps.TwoParts.{head_bytes, list_bytes}
use Rattle.snapshot.proofs.WriteLaws.{stored_over}
use Rattle.snapshot.proofs.LineBytes.{singles_size, chn_size, tim_size, cnt_size, dev_size, buf_size, set_size}

-- ---- the two parts

pub bytes_append : (a b : List Line) → bytes_of (a ++ b) ≡ bytes_of a ++ bytes_of b
bytes_append [] b = refl
bytes_append (l ∷ ls) b = ap (λ (t : List ℕ). bytes_of_line l ++ t) (bytes_append ls b) ∙ sym (append_assoc (bytes_of_line l) (bytes_of ls) (bytes_of b))

pub set_is : (s : Settings)
    → set_bytes (mode_letter s.mode) (method_number s.method) s.d s.k s.start s.stop s.decay s.weight_time ≡ bytes_of_line (set_line s)
unfolding set_line
set_is s = refl

pub set_lined : (s : Settings) (l m : ℕ) → l ≡ mode_letter s.mode → m ≡ method_number s.method
    → set_bytes l m s.d s.k s.start s.stop s.decay s.weight_time ≡ bytes_of_line (set_line s)
set_lined s l m e f = (λ i. set_bytes (e i) (f i) s.d s.k s.start s.stop s.decay s.weight_time) ∙ set_is s

pub render_parts : (w : State)
    → head_bytes w.settings w.values_seen w.internal_timestamp w.count
    ++ list_bytes w.settings.d w.statistics w.last_shingled_input w.last_shingled_point w.previous_timestamps w.initial_values w.initial_timestamps
    ≡ render w
unfolding render lines_by body_lines head_bytes list_bytes
render_parts w =
    append_assoc (bytes_of_line (set_line w.settings)) _ _
    ∙ ap (λ (t : List ℕ). bytes_of_line (set_line w.settings) ++ t)
    (append_assoc (bytes_of_line (singles wgt w.settings.weights)) _ _
    ∙ ap (λ (t : List ℕ). bytes_of_line (singles wgt w.settings.weights) ++ t)
    (append_assoc (bytes_of_line (chn_line w.settings.codes)) _ _
    ∙ ap (λ (t : List ℕ). bytes_of_line (chn_line w.settings.codes) ++ (bytes_of_line (cnt_line w.values_seen w.internal_timestamp w.count) ++ t))
    (sym (bytes_append (dev_lines w.statistics) _))))

-- ---- how many bytes

pub devs_size : (l : List Float) → length (bytes_of (dev_lines l)) ≡ 55 * (length l / 3)
devs_size [] = refl
devs_size (a ∷ []) = refl
devs_size (a ∷ b ∷ []) = refl
devs_size (a ∷ b ∷ c ∷ l) = length-append (bytes_of_line (dev_line a b c)) (bytes_of (dev_lines l)) ∙ omega (arith, dev_size a b c, devs_size l)

pub bufs_size : (d : ℕ) (v : List Float) (ts : List ℕ) → length ts * d ≤ length v
    → length (bytes_of (buf_lines d v ts)) ≡ length (tabbed (map whole ts)) + length ts * (4 + 9 * d)
bufs_size d v [] h = omega (arith, zero-mul (4 + 9 * d))
bufs_size d v (t ∷ ts) h =
    let g : length ts * d + d ≤ length v = subst (λ (n : ℕ). n ≤ length v) (suc-mul (length ts) d) h in
    let e : length (take d v) ≡ d = length-take-le d v (omega arith) in
    let m : suc (length ts) * (4 + 9 * d) ≡ length ts * (4 + 9 * d) + (4 + 9 * d) = suc-mul (length ts) (4 + 9 * d) in
    length-append (bytes_of_line (buf_line t (take d v))) (bytes_of (buf_lines d (drop d v) ts))
    ∙ omega (arith, buf_size t (take d v), bufs_size d (drop d v) ts (simp length-drop (omega arith)), length-append (whole t) (tabbed (map whole ts)))

pub head_size : (s : Settings) (v i c : ℕ)
    → length (head_bytes s v i c)
    ≡ 52 + (length (whole (method_number s.method)) + length (whole s.d) + length (whole s.k) + length (whole s.start) + length (whole s.stop))
    + (length (whole v) + length (whole i) + length (whole c)) + 9 * length s.weights + length (tabbed (map whole s.codes))
unfolding head_bytes
head_size s v i c =
    omega (
      arith,
      length-append (bytes_of_line (set_line s)) (bytes_of_line (singles wgt s.weights) ++ (bytes_of_line (chn_line s.codes) ++ bytes_of_line (cnt_line v i c))),
      length-append (bytes_of_line (singles wgt s.weights)) (bytes_of_line (chn_line s.codes) ++ bytes_of_line (cnt_line v i c)),
      length-append (bytes_of_line (chn_line s.codes)) (bytes_of_line (cnt_line v i c)),
      chn_size s.codes,
      ap length (set_is s),
      set_size (mode_letter s.mode) (method_number s.method) s.d s.k s.start s.stop s.decay s.weight_time,
      singles_size 119 103 116 s.weights,
      cnt_size v i c,
    )

pub list_size : (d : ℕ) (st x y : List Float) (ts : List ℕ) (v : List Float) (us : List ℕ) → length us * d ≤ length v
    → length (list_bytes d st x y ts v us)
    ≡ 55 * (length st / 3) + 9 * length x + 9 * length y + 12 + (length (tabbed (map whole ts)) + length (tabbed (map whole us))) + length us * (4 + 9 * d)
unfolding list_bytes
list_size d st x y ts v us h =
    let e = bytes_of (buf_lines d v us) in
    let t = bytes_of_line (tim_line ts) ++ e in
    let p = bytes_of_line (singles pnt y) ++ t in
    omega (
      arith,
      length-append (bytes_of (dev_lines st)) (bytes_of_line (singles inp x) ++ p),
      length-append (bytes_of_line (singles inp x)) p,
      length-append (bytes_of_line (singles pnt y)) t,
      length-append (bytes_of_line (tim_line ts)) e,
      devs_size st,
      singles_size 105 110 112 x,
      singles_size 112 110 116 y,
      tim_size ts,
      bufs_size d v us h,
    )

-- ---- what a test that did not hold says

or_left : (a b : Bool) → a || b ≡ false → a ≡ false
or_left true b h = h
or_left false b h = refl

or_right : (a b : Bool) → a || b ≡ false → b ≡ false
or_right true b h = absurd (true≢false h)
or_right false b h = h

pub record Held (d k wide n statistics input point times values initial : ℕ) : Type 0 where
  pub d_few : d ≤ 16
  pub k_few : k ≤ 64
  pub n_few : n ≤ 1999
  pub in_statistics : 3 * (5 * d + 5) ≤ statistics
  pub in_input : d * k ≤ input
  pub in_point : (d + wide) * k ≤ point
  pub in_times : k ≤ times
  pub in_values : n * d ≤ values
  pub in_initial : n ≤ initial

-- a time of one number at most
narrow_past : {w : ℕ} {r p : Bool} → r ≡ (ltb 1 w || p) → w ≤ 1 → r ≡ p
narrow_past {w = w} {p = p} e h = e ∙ ap (λ (b : Bool). b || p) (le-ltb 1 w h)

pub held_of : (d k wide n a b c e f g : ℕ) → past d k wide n a b c e f g ≡ false → Held d k wide n a b c e f g
held_of d k wide n a b c e f g h =
    let h₁ = or_right (ltb 16 d) _ h in
    let h₂ = or_right (ltb 64 k) _ h₁ in
    let h₃ = or_right (leb 2000 n) _ h₂ in
    let h₄ = or_right (ltb a (3 * (5 * d + 5))) _ h₃ in
    let h₅ = or_right (ltb b (d * k)) _ h₄ in
    let h₆ = or_right (ltb c ((d + wide) * k)) _ h₅ in
    let h₇ = or_right (ltb e k) _ h₆ in
    record {
      d_few = ltb-false _ _ (or_left _ _ h);
      k_few = ltb-false _ _ (or_left _ _ h₁);
      n_few = omega (arith, leb-false 2000 n (or_left _ _ h₂));
      in_statistics = ltb-false _ _ (or_left _ _ h₃);
      in_input = ltb-false _ _ (or_left _ _ h₄);
      in_point = ltb-false _ _ (or_left _ _ h₅);
      in_times = ltb-false _ _ (or_left _ _ h₆);
      in_values = ltb-false _ _ (or_left _ _ h₇);
      in_initial = ltb-false _ _ (or_right (ltb f (n * d)) _ h₇);
    }

pub few : (d k : ℕ) → d ≤ 16 → k ≤ 64 → d * k ≤ 1024
few d k h g = mul-le-mul h g

pub few_wide : (d k : ℕ) → d ≤ 17 → k ≤ 64 → d * k ≤ 1088
few_wide d k h g = mul-le-mul h g

pub few_lines : (n d : ℕ) → n ≤ 2000 → d ≤ 16 → n * (4 + 9 * d) ≤ 296000
few_lines n d h g = let k : 4 + 9 * d ≤ 148 = omega arith in mul-le-mul h k

pub few_values : (n d : ℕ) → n ≤ 1999 → d ≤ 16 → n * d ≤ 31984
few_values n d h g = mul-le-mul h g

-- ---- the parts' lengths

pub head_split : (s : Settings) (v i c : ℕ)
    → length (head_bytes s v i c)
    ≡ length (bytes_of_line (set_line s)) + length (bytes_of_line (singles wgt s.weights)) + length (bytes_of_line (chn_line s.codes)) + length (bytes_of_line (cnt_line v i c))
unfolding head_bytes
head_split s v i c =
    omega (
      arith,
      length-append (bytes_of_line (set_line s)) (bytes_of_line (singles wgt s.weights) ++ (bytes_of_line (chn_line s.codes) ++ bytes_of_line (cnt_line v i c))),
      length-append (bytes_of_line (singles wgt s.weights)) (bytes_of_line (chn_line s.codes) ++ bytes_of_line (cnt_line v i c)),
      length-append (bytes_of_line (chn_line s.codes)) (bytes_of_line (cnt_line v i c)),
    )

pub list_split : (d : ℕ) (st x y : List Float) (ts : List ℕ) (v : List Float) (us : List ℕ)
    → length (list_bytes d st x y ts v us)
    ≡ length (bytes_of (dev_lines st)) + length (bytes_of_line (singles inp x)) + length (bytes_of_line (singles pnt y)) + length (bytes_of_line (tim_line ts))
    + length (bytes_of (buf_lines d v us))
unfolding list_bytes
list_split d st x y ts v us =
    let e = bytes_of (buf_lines d v us) in
    let t = bytes_of_line (tim_line ts) ++ e in
    let p = bytes_of_line (singles pnt y) ++ t in
    omega (
      arith,
      length-append (bytes_of (dev_lines st)) (bytes_of_line (singles inp x) ++ p),
      length-append (bytes_of_line (singles inp x)) p,
      length-append (bytes_of_line (singles pnt y)) t,
      length-append (bytes_of_line (tim_line ts)) e,
    )

-- ---- what is answered

pub fitted_not : (t out : List ℕ) (n : ℕ) → n ≡ length t → length out < n → save_outcome 20 0 out ≡ fitted t out
unfolding fitted
fitted_not t out n e h = rw (lt-ltb (length out) (length t) (omega arith))

pub fitted_is : (t out new : List ℕ) (n r : ℕ) → n ≡ length t → n ≤ length out → Wrote 0 t out r new → save_outcome 0 n new ≡ fitted t out
unfolding fitted
fitted_is t out new n r e h w =
    let g : length t ≤ length out = omega arith in
    rw (le-ltb (length out) (length t) g) (λ i. save_outcome 0 (e i) ((w.bytes ∙ stored_over out t g) i))

pub wide_of : (b : Bool) (w : ℕ) → w ≡ cond b 1 0 → w ≤ 1
wide_of true w e = omega arith
wide_of false w e = omega arith

-- what `is_past` answers of a head's own numbers of a time
pub past_is : (m : Bool) {r p : Bool} {w : ℕ} → w ≡ cond m 1 0 → r ≡ (ltb 1 w || p) → r ≡ p
past_is m {w = w} e q = narrow_past q (wide_of m w e)

-- w: the numbers of a time
module _ (h : Preprocessor) (l : Lent) (w : ℕ) (e : w ≡ cond (augments h.forest_mode) 1 0) where
  abbrev pub past_by : ℕ → Bool
  past_by x =
      past h.transformer.input_length h.shingle_size x h.initial_len (length l.statistics) (length l.last_shingled_input)
      (length l.last_shingled_point) (length l.previous_timestamps) (length l.initial_values) (length l.initial_timestamps)

  pub held_by : {r : Bool} → r ≡ (ltb 1 w || past_by w) → r ≡ false
      → Held h.transformer.input_length h.shingle_size w h.initial_len (length l.statistics) (length l.last_shingled_input)
      (length l.last_shingled_point) (length l.previous_timestamps) (length l.initial_values) (length l.initial_timestamps)
  held_by q x = held_of _ _ _ _ _ _ _ _ _ _ (sym (past_is (augments h.forest_mode) e q) ∙ x)

  pub saved_not : (out : List ℕ) → past_by w ≡ true → save_outcome 20 0 out ≡ held_save h l out
  unfolding held_save in_use_short
  saved_not out g = let k : past_by (cond (augments h.forest_mode) 1 0) ≡ true = ap past_by (sym e) ∙ g in rw k

  pub saved_unformed : (out : List ℕ) → past_by w ≡ false → unformed (view h l) ≡ true → save_outcome 19 0 out ≡ held_save h l out
  unfolding held_save in_use_short
  saved_unformed out g u = let k : past_by (cond (augments h.forest_mode) 1 0) ≡ false = ap past_by (sym e) ∙ g in rw (k, u)

  -- the text of what is in use of the lent lists
  pub saved_is : (out : List ℕ) (o : SaveOutcome) → past_by w ≡ false → unformed (view h l) ≡ false
      → o ≡ fitted
      (head_bytes (settings_of h) h.values_seen h.internal_timestamp h.transformer.count
      ++ list_bytes h.transformer.input_length (take (3 * (5 * h.transformer.input_length + 5)) l.statistics)
      (take (h.transformer.input_length * h.shingle_size) l.last_shingled_input)
      (take ((h.transformer.input_length + w) * h.shingle_size) l.last_shingled_point) (take h.shingle_size l.previous_timestamps)
      (take (h.initial_len * h.transformer.input_length) l.initial_values) (take h.initial_len l.initial_timestamps)) out
      → o ≡ held_save h l out
  unfolding held_save in_use_short view dimension block
  saved_is out o g u q =
      let k : past_by (cond (augments h.forest_mode) 1 0) ≡ false = ap past_by (sym e) ∙ g in
      q
      ∙ ap (λ (x : ℕ). fitted
      (head_bytes (settings_of h) h.values_seen h.internal_timestamp h.transformer.count
      ++ list_bytes h.transformer.input_length (take (3 * (5 * h.transformer.input_length + 5)) l.statistics)
      (take (h.transformer.input_length * h.shingle_size) l.last_shingled_input)
      (take ((h.transformer.input_length + x) * h.shingle_size) l.last_shingled_point) (take h.shingle_size l.previous_timestamps)
      (take (h.initial_len * h.transformer.input_length) l.initial_values) (take h.initial_len l.initial_timestamps)) out) e
      ∙ ap (λ (t : List ℕ). fitted t out) (render_parts (view h l)) ∙ rw (k, u)

-- ---- the head's own rows come first

module _ (h : Preprocessor) (l : Lent) (out : List ℕ) where
  pub saved_row : (r : ℕ) → r ≡ settings_row (settings_of h) → (r ≡ 0 → ⊥) → save_outcome r 0 out ≡ save_of h l out
  unfolding save_of
  saved_row zero e n = absurd (n refl)
  saved_row (suc r) e n = rw (sym e)

  -- what `?` hands on of settings that are refused
  pub saved_refused : (r : Result ℕ Refusal) (e : Refusal) → IsErrAnd r (λ d. d ≡ e) → number_of e ≡ settings_row (settings_of h) → saved_told r out ≡ save_of h l out
  saved_refused (Ok n) e d q = absurd d
  saved_refused (Err x) e d q =
      ap (λ (y : Refusal). save_outcome (number_of y) 0 out) d
      ∙ saved_row (number_of e) q (λ z. let k : 0 < number_of e = is_numbered e in absurd (omega (arith, k, z)))

  pub saved_misfit : settings_row (settings_of h) ≡ 0 → counters_unfit h ≡ true → save_outcome 19 0 out ≡ save_of h l out
  unfolding save_of
  saved_misfit e m = rw (e, m)

  pub saved_held : settings_row (settings_of h) ≡ 0 → counters_unfit h ≡ false → (o : SaveOutcome) → o ≡ held_save h l out → o ≡ save_of h l out
  unfolding save_of
  saved_held e m o q = rw (e, m) q
