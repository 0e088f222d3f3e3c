-- What the settling program is given (document 02, request 106): "up to 8 `set` and `wgt` pairs with d = 1, then one line `sig`". Lines and fields are the bench's.
use Prim.Native.Char.{code}
use Rattle.std.specs.Prelude.{ℕ, zero, suc, Bool, true, false, cond, ◌&&◌, List, [], ◌∷◌, eqb, ℤ, pos, negsuc, length, take, drop, get_or, Option as Held, Some, None}
use Rattle.std.proofs.Math.Option.{Option, none, some}
use Rattle.trcf.specs.Lists.{null}
use Rattle.trcf.specs.Settings.{Settings}
use Rattle.trcf.specs.Preprocessor.{accepted}
use Rattle.trcf.specs.View.{settings_from}
use Rattle.settling.specs.Settling.{Signal, signal, in_limits, pair_row}
use Rattle.snapshot.specs.Read.{as_whole}
use Rattle.snapshot.specs.Scan.{number_of}
use Rattle.bench_core.specs.Line.{is_named, blank_line, name_of, cell_of, request_of, kept_of}
use Rattle.bench_core.specs.Bench.{cell_length, builder_from, zero_codes}
use Rattle.bench_core.specs.declared.line.Line.{Line}
use Rattle.bench_core.specs.declared.line.Name.TheVariants.{Set, Weights}

-- ---- a line, cell by cell, as the bench reads it

-- whether an LF ends it, what was read of it, and what follows
pub record Scanned : Type 0 where
  pub ended : Bool
  pub line : Line
  pub rest : List ℕ

abbrev pub scanned : Bool → Line → List ℕ → Scanned
scanned e l t = record { ended = e; line = l; rest = t }

-- the line with at most n cells more
abbrev pub line_from : ℕ → Line → List ℕ → Scanned
line_from zero l t = scanned false l t
line_from (suc n) l t =
    let k = cell_length t in
    let c = cell_of l (take k t) in
    elim (eqb k (length t)) [
      | true ↦ scanned false l t
      | false ↦ elim (eqb (get_or t k 0) 9) [ true ↦ line_from n c (drop (suc k) t) | false ↦ scanned true c (drop (suc k) t) ]
    ]

-- every cell but the last has a byte after it
unfoldable pub line_of : List ℕ → Scanned
line_of t = line_from (suc (length t)) blank_line t

-- ---- a pair

-- the number that refuses it, or its settings and what follows it
pub data PairRead : Type 0 where
  faulty : ℕ → PairRead
  pair_taken : Settings → List ℕ → PairRead

-- the settings of both lines, with zero codes
abbrev pub settings_by : Line → Line → Settings
settings_by l w = settings_from (builder_from l) (kept_of w) (zero_codes (builder_from l))

unfoldable pub pair_by : Settings → List ℕ → PairRead
pair_by s rest = accepted (pair_row s) (pair_taken s rest) (faulty (pair_row s))

-- "a `set` or `wgt` line not of the bench's form is 19"
unfoldable pub pair_of : List ℕ → PairRead
pair_of t =
    let a = line_of t in
    let b = line_of a.rest in
    cond (a.ended && is_named (request_of a.line) Set)
    (cond (b.ended && is_named (request_of b.line) Weights) (pair_by (settings_by a.line b.line) b.rest) (faulty 19)) (faulty 19)

-- ---- the signal

abbrev pub positive_number : Held ℕ → Option ℤ
positive_number None = none
positive_number (Some n) = some (pos n)

-- a minus sign stands before no 0
abbrev pub negative_number : Held ℕ → Option ℤ
negative_number None = none
negative_number (Some zero) = none
negative_number (Some (suc n)) = some (negsuc n)

-- "whole numbers …, with a minus sign if negative"
unfoldable pub signed_of : List ℕ → Option ℤ
signed_of [] = none
signed_of (b ∷ c) = cond (eqb b (code "-")) (negative_number (number_of (as_whole c))) (positive_number (number_of (as_whole (b ∷ c))))

-- the first field of a text, which the byte `end` has to end, and what follows
pub data Part : Type 0 where
  no_part : Part
  part : ℤ → List ℕ → Part

abbrev pub part_by : Option ℤ → List ℕ → Part
part_by none t = no_part
part_by (some z) t = part z t

unfoldable pub part_of : ℕ → List ℕ → Part
part_of end t =
    let k = cell_length t in
    cond (eqb k (length t)) no_part (cond (eqb (get_or t k 0) end) (part_by (signed_of (take k t)) (drop (suc k) t)) no_part)

abbrev pub with_part : Part → (ℤ → List ℕ → Option Signal) → Option Signal
with_part no_part k = none
with_part (part z t) k = k z t

-- the place and the number of readings have no sign
abbrev pub limited : ℤ → ℤ → ℤ → ℤ → ℤ → ℤ → Option Signal
limited b r q j (pos p) (pos n) = cond (in_limits (signal b r q j p n)) (some (signal b r q j p n)) none
limited b r q j (pos p) (negsuc n) = none
limited b r q j (negsuc p) n = none

-- six fields, the last ended by the LF; "and nothing may follow it"
unfoldable pub fields_of : List ℕ → Option Signal
fields_of t =
    with_part (part_of 9 t) (λ b t₁. with_part (part_of 9 t₁) (λ r t₂. with_part (part_of 9 t₂) (λ q t₃. with_part (part_of 9 t₃) (λ j t₄.
    with_part (part_of 9 t₄) (λ p t₅. with_part (part_of 10 t₅) (λ n t₆. cond (null t₆) (limited b r q j p n) none))))))

-- the name `sig` and a tab
unfoldable pub is_signal : List ℕ → Bool
is_signal t = eqb (get_or t 0 0) (code "s") && (eqb (get_or t 1 0) (code "i") && (eqb (get_or t 2 0) (code "g") && eqb (get_or t 3 0) 9))

-- … and then the fields
unfoldable pub signal_read : List ℕ → Option Signal
signal_read t = cond (is_signal t) (fields_of (drop 4 t)) none

-- ---- the whole input

pub data Input : Type 0 where
  input_refused : ℕ → Input
  input : List Settings → Signal → Input

-- 23: "signal line missing, of another form or outside these limits"
abbrev pub signalled : Option Signal → Input
signalled none = input_refused 23
signalled (some g) = input [] g

abbrev pub and_then : Settings → Input → Input
and_then s (input_refused n) = input_refused n
and_then s (input ss g) = input (s ∷ ss) g

-- "where a pair may begin, a line whose first field is not `set` counts as the signal line"
unfoldable pub opens : List ℕ → Bool
opens t = is_named (name_of (take (cell_length t) t)) Set

-- "the first pair at fault decides"
abbrev pub then_pair : PairRead → (List ℕ → Input) → Input
then_pair (faulty n) k = input_refused n
then_pair (pair_taken s t) k = and_then s (k t)

-- at most n pairs more, and the signal; "a ninth `set`, whose pair is not read"
abbrev pub input_from : ℕ → List ℕ → Input
input_from zero t = cond (opens t) (input_refused 23) (signalled (signal_read t))
input_from (suc n) t = elim (opens t) [ true ↦ then_pair (pair_of t) (λ r. input_from n r) | false ↦ signalled (signal_read t) ]

-- "no pair"
unfoldable pub input_of : List ℕ → Input
input_of t = cond (opens t) (input_from 8 t) (input_refused 23)
