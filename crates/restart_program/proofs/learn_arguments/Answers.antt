-- `restart_program::learn_arguments` meets its contract. Assumes nothing.
use mathlib.Core.Bool.{Bool, true, false}
use mathlib.Core.List.{List}
use native.Mathlib.Omega.{arith}
use lib.Ieee.{Float, binary32}
use Rattle.trcf.specs.Fit.{Fits}
use Rattle.trcf.specs.Calls.{FitsGiven}
use Rattle.trcf.specs.View.{optional}
use Rattle.restart_program.proofs.learn_arguments.Goals as goal

fits_given : (b : Bool) (y : List Float) → Fits binary32 y → FitsGiven (optional b y)
fits_given true y h = h
fits_given false y h = tt

pub returns : goal.returns
returns c =
    let a = c.args in
    (c.singles.ensures, omega arith, fits_given a.has_rcf_point a.rcf_point.now c.singles-2.ensures)
