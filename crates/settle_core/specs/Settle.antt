-- What the settling program prints for a whole input (document 02, request 106).
use Rattle.std.specs.Prelude.{ℕ, suc, List, [], ◌∷◌, ◌++◌, Float}
use Rattle.std.proofs.Math.Option.{Option, none, some}
use Rattle.std.specs.Float.{binary32}
use Rattle.trcf.specs.Settings.{Settings}
use Rattle.snapshot.specs.Ascii.{ascii}
use Rattle.snapshot.specs.Text.{whole, float, named}
use Rattle.snapshot.specs.Read.{bytes_of_line}
use Rattle.snapshot.specs.Save.{SaveOutcome}
use Rattle.snapshot_save.specs.Line.{text_within}
use Rattle.bench_core.specs.Bench.{no_text}
use Rattle.settling.specs.Settling.{Signal, Noted, run_of}
use Rattle.settle_core.specs.Input.{Input, input_refused, input, input_of}

-- ---- what is printed

-- "(n if never)"
abbrev pub or_never : ℕ → Option ℕ → ℕ
or_never n none = n
or_never n (some i) = i

-- "as f32 bits, `-` if none"
abbrev pub largest_field : Option Float → List ℕ
largest_field none = ascii "-"
largest_field (some x) = float binary32 x

-- "parted by tabs, the pair's number from 1, the index of the first reading after which the watch is ready … and the largest last element"
unfoldable pub noted_line : ℕ → ℕ → Noted → List ℕ
noted_line i n o = bytes_of_line (named (whole i) (whole (or_never n o.ready) ∷ largest_field o.largest ∷ []))

-- "For each pair it prints"
abbrev pub line_texts : ℕ → List Settings → Signal → List ℕ
line_texts i [] g = []
line_texts i (s ∷ ss) g = noted_line i g.readings (run_of s g).noted ++ line_texts (suc i) ss g

-- "A refusal prints `no` with the number alone"
abbrev pub printed_by : Input → List ℕ
printed_by (input_refused n) = no_text n
printed_by (input ss g) = line_texts 1 ss g

unfoldable pub settle_of : List ℕ → List ℕ
settle_of t = printed_by (input_of t)

-- the bytes that the output has to have: eight lines of at most 32
abbrev pub settle_room : ℕ
settle_room = 256

-- row 20, and nothing written, where the output is shorter than that; what lies past the text keeps its contents
unfoldable pub settled_on : List ℕ → List ℕ → SaveOutcome
settled_on t out = text_within settle_room (settle_of t) out
