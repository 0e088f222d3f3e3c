-- What the program's own parts promise, in the terms of Input and Settle.
use Rattle.std.specs.Prelude.{ℕ, true, false, ◌≡◌, ◌&&◌, List, [], ◌∷◌, map, drop, take, Result, Ok, Err, Option, Some, None}
use Rattle.refusal.specs.declared.Refusal.{Refusal}
use Rattle.refusal.specs.Refusal.{number_of}
use Rattle.trcf.specs.Settings.{Settings}
use Rattle.trcf.specs.View.{settings_from}
use Rattle.bench_core.specs.Line.{is_named, request_of}
use Rattle.bench_core.specs.declared.line.Name.{Name}
use Rattle.settling.specs.Steps.{signal_of}
use Rattle.settle_core.specs.Input.{Scanned, scanned, PairRead, faulty, pair_taken, Part, no_part, part, Input, input_refused, input, and_then}
use Rattle.settle_core.specs.declared.scan.Line as held
use Rattle.settle_core.specs.declared.pair.Pair as kept
use Rattle.settle_core.specs.declared.pair.PairRead as read
use Rattle.settle_core.specs.declared.field.Part as heldPart
use Rattle.settle_core.specs.declared.judge.Judged.{Judged}

-- what follows stands in the text, from a place on
abbrev pub scanned_in : held.Line → List ℕ → Scanned
scanned_in r t = scanned true r.line (drop r.next t)

-- the line s, where it has its LF and asks for what the name n says; else 19
abbrev pub NamedIn : Result held.Line Refusal → List ℕ → Name → Scanned → Type 0
NamedIn (Ok r) t n s = (scanned_in r t ≡ s) × ((s.ended && is_named (request_of s.line) n) ≡ true)
NamedIn (Err r) t n s = (number_of r ≡ 19) × ((s.ended && is_named (request_of s.line) n) ≡ false)

abbrev pub pair_settings : kept.Pair → Settings
pair_settings p = settings_from p.builder (p.weight ∷ []) (0 ∷ [])

abbrev pub pair_in : Result read.PairRead Refusal → List ℕ → PairRead
pair_in (Ok r) t = pair_taken (pair_settings r.pair) (drop r.next t)
pair_in (Err r) t = faulty (number_of r)

abbrev pub part_in : Option heldPart.Part → List ℕ → Part
part_in (Some r) t = part r.value (drop r.next t)
part_in None t = no_part

-- pairs in front of what follows them
abbrev pub prefixed : List Settings → Input → Input
prefixed [] i = i
prefixed (s ∷ ss) i = and_then s (prefixed ss i)

abbrev pub input_in : Result Judged Refusal → Input
input_in (Ok r) = input (map pair_settings (take r.count r.pairs)) (signal_of r.signal)
input_in (Err r) = input_refused (number_of r)
