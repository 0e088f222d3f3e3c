-- No text takes more than its room. Assumes nothing.
use Prim.Native.Nat.{ℕ, suc, ◌+◌, ◌*◌, ◌/◌, ◌^◌, ◌≤◌, ◌<◌}
use native.Mathlib.Nat.{mul-le-mul, mul-add, le_refl}
use native.Mathlib.Omega.{arith}
use mathlib.Core.Path.{◌≡◌, refl, sym, ap, ◌∙◌, subst}
use mathlib.Core.Bool.{Bool, true, false, cond}
use mathlib.Core.List.{List, [], ◌∷◌, map}
use lib.ListN.{length, length-append}
use Rattle.trcf.specs.Types.{method_number, augments}
use Rattle.trcf.specs.declared.types.TransformMethod.{TransformMethod}
use Rattle.trcf.specs.declared.types.TransformMethod.TheVariants.{NONE, WEIGHTED, DIFFERENCE, SUBTRACT_MA, NORMALIZE, NORMALIZE_DIFFERENCE}
use Rattle.trcf.specs.Settings.{Settings, whole_max, code_max, All}
use Rattle.trcf.specs.Preprocessor.{State}
use Rattle.snapshot.specs.Text.{whole}
use Rattle.snapshot.specs.Form.{Form}
use Rattle.snapshot.specs.Steps.Write.{tabbed}
use Rattle.snapshot.specs.Steps.TwoParts.{head_bytes, list_bytes}
use Rattle.snapshot.specs.Room.{text_room, TextFits}
use Rattle.snapshot.proofs.WriteLaws.{whole_within_lem}
use Rattle.snapshot.proofs.BodyLaws.{dimension_is}
use Rattle.snapshot.proofs.SaveLaws.{render_parts, head_size, list_size}
use Rattle.snapshot.proofs.RoundTrip.{weights_are, codes_are, few_of, initial_few}

-- numbers of at most k + 1 digits, each after its tab
tabbed_within : (k : ℕ) (l : List ℕ) → All (λ n. n < 10 ^ suc k) l → length (tabbed (map whole l)) ≤ (k + 2) * length l
tabbed_within k [] h = omega arith
tabbed_within k (n ∷ l) h =
    let a = length-append (whole n) (tabbed (map whole l)) in
    let b = whole_within_lem k n h.0 in
    let c = tabbed_within k l h.1 in
    omega (arith, a, b, c)

all_below : (b m : ℕ) (l : List ℕ) → b < m → All (λ n. n ≤ b) l → All (λ n. n < m) l
all_below b m [] h g = tt
all_below b m (n ∷ l) h g = (omega (arith, h, g.0), all_below b m l h g.1)

method_few : (m : TransformMethod) → method_number m < 10
method_few NONE = omega arith
method_few WEIGHTED = omega arith
method_few DIFFERENCE = omega arith
method_few SUBTRACT_MA = omega arith
method_few NORMALIZE = omega arith
method_few NORMALIZE_DIFFERENCE = omega arith

wide_few : (b : Bool) → cond b 1 0 ≤ 1
wide_few true = omega arith
wide_few false = omega arith

module _ (w : State) (f : Form w) where
  abbrev s : Settings
  s = w.settings

  head_within : length (head_bytes s w.values_seen w.internal_timestamp w.count) ≤ 66 + (4 + 9 * s.d) + (4 + 6 * s.d) + 61
  head_within =
      let F = few_of s f.valid in
      let m = whole_within_lem 0 (method_number s.method) (method_few s.method) in
      let d = whole_within_lem 1 s.d (omega (arith, F.d_few)) in
      let k = whole_within_lem 1 s.k (omega (arith, F.k_few)) in
      let a = whole_within_lem 3 s.start (omega (arith, F.start_few)) in
      let z = whole_within_lem 19 s.stop (omega (arith, f.valid.machine.stop_fits)) in
      let v = whole_within_lem 18 w.values_seen (omega (arith, f.seen_fits)) in
      let i = whole_within_lem 18 w.internal_timestamp (omega (arith, f.internal_fits)) in
      let c = whole_within_lem 15 w.count (omega (arith, f.count_fits)) in
      let t = tabbed_within 4 s.codes (all_below code_max (10 ^ 5) s.codes (omega arith) f.valid.machine.codes_fit) in
      omega (arith, head_size s w.values_seen w.internal_timestamp w.count, m, d, k, a, z, v, i, c, t, weights_are s f.valid, codes_are s f.valid)

  -- what waits: a line each
  waiting_within : (n : ℕ) → n ≤ s.start → n * (4 + 9 * s.d) + 21 * n ≤ s.start * (25 + 9 * s.d)
  waiting_within n h =
      let p : n * (25 + 9 * s.d) ≤ s.start * (25 + 9 * s.d) = mul-le-mul h (le_refl (25 + 9 * s.d)) in
      let q : n * (25 + 9 * s.d) ≡ n * 25 + n * (9 * s.d) = mul-add n 25 (9 * s.d) in
      let r : n * (4 + 9 * s.d) ≡ n * 4 + n * (9 * s.d) = mul-add n 4 (9 * s.d) in
      omega (arith, p, q, r)

  point_within : length w.last_shingled_point ≤ (s.d + 1) * s.k
  point_within =
      let wide : ℕ = cond (augments s.mode) 1 0 in
      let e : (s.d + wide) * s.k ≡ length w.last_shingled_point = dimension_is s wide refl ∙ sym f.point_long in
      let h : s.d + wide ≤ s.d + 1 = omega (arith, wide_few (augments s.mode)) in
      subst (λ (x : ℕ). x ≤ (s.d + 1) * s.k) e (mul-le-mul h (le_refl s.k))

  lists_within : length (list_bytes s.d w.statistics w.last_shingled_input w.last_shingled_point w.previous_timestamps w.initial_values w.initial_timestamps)
      ≤ 55 * (5 * s.d + 5) + (4 + 9 * (s.d * s.k)) + (4 + 9 * ((s.d + 1) * s.k)) + (4 + 21 * s.k) + s.start * (25 + 9 * s.d)
  lists_within =
      let z = list_size s.d w.statistics w.last_shingled_input w.last_shingled_point w.previous_timestamps w.initial_values w.initial_timestamps (omega (arith, f.initial_long)) in
      let t = tabbed_within 19 w.previous_timestamps (all_below whole_max (10 ^ 20) w.previous_timestamps (omega arith) f.times_fit) in
      let u = tabbed_within 19 w.initial_timestamps (all_below whole_max (10 ^ 20) w.initial_timestamps (omega arith) f.initial_times_fit) in
      let g = waiting_within (length w.initial_timestamps) (initial_few w f) in
      let n : length w.statistics / 3 ≡ 5 * s.d + 5 = ap (λ (x : ℕ). x / 3) f.statistics_long ∙ omega arith in
      omega (arith, z, t, u, g, n, f.input_long, f.times_long, point_within)

pub text_fits : TextFits
text_fits w f =
    let e = ap length (sym (render_parts w)) ∙ length-append (head_bytes w.settings w.values_seen w.internal_timestamp w.count) _ in
    omega (arith, e, head_within w f, lists_within w f)

-- the longest, and the smallest
longest : text_room 16 64 1999 ≡ 363245
longest = refl

smallest : text_room 1 1 0 ≡ 760
smallest = refl
