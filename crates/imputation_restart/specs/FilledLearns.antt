-- Demand 3 of the program where learns are fed with filled readings: request #104, "Filled readings enter learn like any others (an overflowed one
-- meets row 11), so a trace fed with them survives key-off too."
use Rattle.std.specs.Prelude.{ℕ, ◌≤◌, ◌<◌, false, List, [], ◌∷◌, ◌≡◌, length, get_or, take, drop, Float}
use Rattle.std.specs.Float.{binary32}
use Rattle.trcf.specs.Fit.{All, Fits}
use Rattle.trcf.specs.Settings.{Settings, Valid, whole_max}
use Rattle.trcf.specs.Calls.{Learn, Call, Machine, FitsGiven, post_process, drain}
use Rattle.trcf.specs.View.{Lent, lent_short}
use Rattle.series.specs.declared.imputation.ImputationMethod.{ImputationMethod}
use Rattle.series.specs.Imputation.{impute_of}
use Rattle.restart.specs.History.{history_text}
use Rattle.restart_program.specs.Program.{ProgramRestart}

-- a call of the filler, and the learns that its readings go to, the first to the first: their times, forest points and outputs
pub record Filling : Type 0 where
  pub method : ImputationMethod
  pub d : ℕ
  pub cells : List Float
  pub marks : List ℕ
  pub fixed : List Float
  pub learns : List Learn

-- a learn with another reading
abbrev pub fed_with : List Float → Learn → Learn
fed_with x q =
    record {
      input = x;
      timestamp = q.timestamp;
      rcf_point = q.rcf_point;
      expected_point = q.expected_point;
      grade = q.grade;
      relative_index = q.relative_index;
      deviations_out = q.deviations_out;
      past_out = q.past_out;
      expected_out = q.expected_out;
    }

-- each learn with the next d cells
abbrev pub learns_with : ℕ → List Float → List Learn → List Call
learns_with d cells [] = []
learns_with d cells (q ∷ qs) = post_process (fed_with (take d cells) q) ∷ learns_with d (drop d cells) qs

-- the learns fed with what the filler leaves in the lent cells: the filled readings, and those given where it refuses
unfoldable pub filled_learns : Filling → List Call
filled_learns g = learns_with g.d (impute_of g.method g.d g.cells g.marks g.fixed).cells g.learns

-- whether a program can hold a learn's time and forest point
abbrev pub Timed : Learn → Type 0
Timed q = (q.timestamp ≤ whole_max) × FitsGiven q.rcf_point

-- a filling that a program can hold
pub record Holdable (g : Filling) : Type 0 where
  pub cells_fit : Fits binary32 g.cells
  pub fixed_fit : Fits binary32 g.fixed
  pub learns_fit : All Timed g.learns

-- any call that a program can hold, or a learn fed with a filled reading, of whichever filling
pub data MachineOrFilled : Call → Type 0 where
  other : (c : Call) → Machine c → MachineOrFilled c
  filled : (g : Filling) → Holdable g → (i : ℕ) → i < length (filled_learns g) → MachineOrFilled (get_or (filled_learns g) i drain)

-- filled readings anywhere before and after key-off
abbrev pub FilledDemand3 : Type 0
FilledDemand3 =
    (s : Settings) → Valid s → (before after : List Call) → All MachineOrFilled before → All MachineOrFilled after
    → (first second : Lent) → lent_short s first ≡ false → lent_short s second ≡ false
    → (out last : List ℕ) → length (history_text s before) ≤ length out
    → ProgramRestart s before after first second out last
