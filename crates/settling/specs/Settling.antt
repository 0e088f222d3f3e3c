-- A run of one watch on a made-up signal (document 02, request 106): "dealers wish to see how a watch settles".
use Rattle.std.specs.Prelude.{ℕ, zero, suc, ◌%◌, Bool, cond, ◌&&◌, List, [], ◌∷◌, leb, eqb, ℤ, pos, negsuc, ◌+ℤ◌, ◌*ℤ◌, replicate, Float}
use Rattle.std.proofs.Math.Option.{Option, none, some}
use Rattle.std.specs.Float.{nan, binary32}
use Rattle.std.specs.Float.Ieee.{of_int, eq, lt}
use Rattle.trcf.specs.Lists.{last_or}
use Rattle.trcf.specs.Transformer.{zero32}
use Rattle.trcf.specs.Settings.{Settings, settings_row, dimension}
use Rattle.trcf.specs.Calls.{Call, shingled_point, post_process}
use Rattle.trcf.specs.Preprocessor.{State, fresh, next, Answer, refused, absent, done, wrote, learnt, turned, told, answer, status_of, accepted}
use Rattle.trcf.specs.View.{or_else}

-- ---- the signal and its readings

-- "base, ramp, ripple, jump, jump place, readings n"
pub record Signal : Type 0 where
  pub base : ℤ
  pub ramp : ℤ
  pub ripple : ℤ
  pub jump : ℤ
  pub place : ℕ
  pub readings : ℕ

abbrev pub signal : ℤ → ℤ → ℤ → ℤ → ℕ → ℕ → Signal
signal b r q j p n = record { base = b; ramp = r; ripple = q; jump = j; place = p; readings = n }

-- "Reading i, from 0, is base + ramp × i, plus ripple if i is odd, plus jump if i ≥ the place"
unfoldable pub signal_value : Signal → ℕ → ℤ
signal_value g i = g.base +ℤ g.ramp *ℤ pos i +ℤ cond (eqb (i % 2) 1) g.ripple (pos 0) +ℤ cond (leb g.place i) g.jump (pos 0)

unfoldable pub value_at : Signal → ℕ → Float
value_at g i = of_int binary32 (signal_value g i)

abbrev pub integer_size : ℤ → ℕ
integer_size (pos n) = n
integer_size (negsuc n) = suc n

-- "the place is 0 to 1,000"; "readings n (1 to 1,000)"
abbrev pub counts_in_limits : ℕ → ℕ → Bool
counts_in_limits place n = leb place 1000 && (leb 1 n && leb n 1000)

-- "The first four are whole numbers of size at most 1,000"
unfoldable pub in_limits : Signal → Bool
in_limits g =
    leb (integer_size g.base) 1000
    && (leb (integer_size g.ramp) 1000
    && (leb (integer_size g.ripple) 1000 && (leb (integer_size g.jump) 1000 && counts_in_limits g.place g.readings)))

-- ---- what is noted of a run

-- the first reading after which it was ready, and the largest last element
pub record Noted : Type 0 where
  pub ready : Option ℕ
  pub largest : Option Float

abbrev pub noted : Option ℕ → Option Float → Noted
noted r x = record { ready = r; largest = x }

-- "the index of the first reading after which the watch is ready"
abbrev pub first_ready : Option ℕ → Bool → ℕ → Option ℕ
first_ready none b i = cond b (some i) none
first_ready (some j) b i = some j

-- "not-a-numbers are passed over, and of equal ones the first is kept"; a not-a-number does not equal itself
abbrev pub keep_larger : Option Float → Float → Option Float
keep_larger none x = cond (eq x x) (some x) none
keep_larger (some y) x = cond (lt y x) (some x) (some y)

abbrev pub keep_larger_if_any : Option Float → Option Float → Option Float
keep_larger_if_any y none = y
keep_larger_if_any y (some x) = keep_larger y x

unfoldable pub note : Noted → ℕ → Bool → Option Float → Noted
note n i ready x = noted (first_ready n.ready ready i) (keep_larger_if_any n.largest x)

-- ---- a run

-- "time is i; each is sent to point …"
abbrev pub point_call : Settings → Signal → ℕ → Call
point_call s g i = shingled_point (value_at g i ∷ []) i (replicate (dimension s) zero32)

-- "… then learn with the point given, grade 0"
abbrev pub learn_with : Signal → ℕ → Option (List Float) → Call
learn_with g i y =
    post_process (record {
      input = value_at g i ∷ [];
      timestamp = i;
      rcf_point = y;
      expected_point = none;
      grade = zero32;
      relative_index = pos 0;
      deviations_out = replicate 2 zero32;
      past_out = replicate 1 zero32;
      expected_out = replicate 1 zero32;
    })

-- the point that an answer gives, none while waiting
abbrev pub point_in : Answer → Option (List Float)
point_in (refused n) = none
point_in absent = none
point_in done = none
point_in (wrote v) = some v
point_in (learnt a) = none
point_in (turned a) = none
point_in (told a) = none

abbrev pub last_of : Option (List Float) → Option Float
last_of none = none
last_of (some v) = some (last_or nan v)

pub record Settling : Type 0 where
  pub state : State
  pub noted : Noted

abbrev pub settling : State → Noted → Settling
settling w n = record { state = w; noted = n }

unfoldable pub settling_after : Settings → Signal → ℕ → Settling → Settling
settling_after s g i p =
    let y = point_in (answer p.state (point_call s g i)) in
    let w = next (next p.state (point_call s g i)) (learn_with g i y) in
    settling w (note p.noted i (status_of w []).ready (last_of y))

-- after the first n readings
abbrev pub settling_at : Settings → Signal → ℕ → Settling
settling_at s g zero = settling (fresh s) (noted none none)
settling_at s g (suc i) = settling_after s g i (settling_at s g i)

unfoldable pub noted_of : Settings → Signal → Noted
noted_of s g = (settling_at s g g.readings).noted

-- ---- the rows

-- "d other than 1 …; after rows 1 to 9"
unfoldable pub pair_row : Settings → ℕ
pair_row s = or_else (settings_row s) (cond (eqb s.d 1) 0 23)

-- what a run gives: the row, or what is noted
pub record Run : Type 0 where
  pub row : ℕ
  pub noted : Noted

abbrev pub run_outcome : ℕ → Noted → Run
run_outcome row n = record { row = row; noted = n }

-- 23 too where the signal is outside its limits
abbrev pub run_row : Settings → Signal → ℕ
run_row s g = or_else (pair_row s) (cond (in_limits g) 0 23)

unfoldable pub run_of : Settings → Signal → Run
run_of s g = accepted (run_row s g) (run_outcome 0 (noted_of s g)) (run_outcome (run_row s g) (noted none none))
