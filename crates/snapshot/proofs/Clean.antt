-- No line holds a tab or an LF but between its fields.
use Prim.Native.Nat.{ℕ}
use native.Mathlib.Omega.{arith}
use mathlib.Core.Bool.{Bool, true, false}
use mathlib.Core.List.{List, [], ◌∷◌}
use lib.ListN.{take, drop}
use lib.Ieee.{Float, binary32, binary64}
use Rattle.trcf.specs.Settings.{Settings, All}
use Rattle.trcf.specs.Preprocessor.{State}
use Rattle.snapshot.specs.Text.{set_line, singles, chn_line, cnt_line, dev_line, dev_lines, tim_line, buf_line, buf_lines, body_lines, lines_by}
use Rattle.snapshot.proofs.Fields.{whole_clean, float_clean, floats_clean, wholes_clean, letter_clean, CleanLine}
use Rattle.snapshot.proofs.Lists.{all_append}

devs_clean : (l : List Float) → All CleanLine (dev_lines l)
unfolding dev_line
devs_clean [] = tt
devs_clean (a ∷ []) = tt
devs_clean (a ∷ b ∷ []) = tt
devs_clean (a ∷ b ∷ c ∷ l) = ((omega arith, (float_clean binary64 a, (float_clean binary64 b, (float_clean binary64 c, tt)))), devs_clean l)

bufs_clean : (n : ℕ) (v : List Float) (ts : List ℕ) → All CleanLine (buf_lines n v ts)
unfolding buf_line
bufs_clean n v [] = tt
bufs_clean n v (t ∷ ts) = ((omega arith, (whole_clean t, floats_clean binary32 (take n v))), bufs_clean n (drop n v) ts)

body_clean : (w : State) → All CleanLine (body_lines w)
unfolding body_lines singles cnt_line tim_line
body_clean w = (
  (omega arith, (whole_clean _, (whole_clean _, (whole_clean _, tt)))),
  all_append _ (dev_lines w.statistics) _ (devs_clean w.statistics) (
    (omega arith, floats_clean binary32 w.last_shingled_input),
    (
      (omega arith, floats_clean binary32 w.last_shingled_point),
      ((omega arith, wholes_clean w.previous_timestamps), bufs_clean w.settings.d w.initial_values w.initial_timestamps),
    ),
  ),
)

set_clean : (s : Settings) → CleanLine (set_line s)
unfolding set_line
set_clean s = (omega arith, (letter_clean s.mode, (whole_clean _, (whole_clean _, (whole_clean _, (whole_clean _, (whole_clean _, (float_clean _ _, (float_clean _ _, tt)))))))))

pub lines_clean : (b : Bool) (w : State) → All CleanLine (lines_by b w)
unfolding lines_by singles chn_line
lines_clean true w = (set_clean w.settings, ((omega arith, floats_clean binary32 w.settings.weights), ((omega arith, wholes_clean w.settings.codes), body_clean w)))
lines_clean false w = (set_clean w.settings, ((omega arith, floats_clean binary32 w.settings.weights), body_clean w))
