-- Definitions that only private contracts cite: what the code answers lines with that were read (snapshot/specs/Steps/Runs).
use Rattle.std.specs.Prelude.{Result, Ok, Err, ℕ, length}
use Rattle.snapshot.specs.declared.head.BadLine.{BadLine}
use Rattle.snapshot.specs.Steps.Runs.{Ran, ran, broke, Body}

-- what a judged text says of the lines after `cnt`: how many initial values there are, or the bad line
abbrev pub summed : Ran Body → Result ℕ BadLine
summed (ran b z) = Ok (length b.initial.times)
summed (broke m) = Err (record { line = m })
