-- What holds in the loops of `capi::codes::codes_row`.
use mathlib.Core.Bool.{◌&&◌}
use mathlib.Core.Path.{◌≡◌}
use lib.ListN.{drop}
use Rattle.snapshot.specs.Read.{all_codes}
use Rattle.capi.proofs.codes.codes_row.Given as goal

-- those so far and what is left to be looked at decide
abbrev pub invariant-loop-word : goal.invariant-loop-word
invariant-loop-word l = all_codes l.words ≡ l.fit && all_codes (drop l.word-index l.words)
