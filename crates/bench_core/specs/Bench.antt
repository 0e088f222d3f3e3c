-- The bench (document 01, 'The bench …'), over what `build`, `shingled_point`, `post_process`, `drain` and `save` promise: what each line makes
-- of it and prints, and one step, which reads one cell.
use Rattle.std.specs.Prelude.{ℕ, suc, ◌+◌, Bool, true, false, cond, not, List, [], ◌∷◌, ltb, eqb, pos, length, take, get_or, replicate, Float, Result, Ok, Err}
use Rattle.std.specs.Float.{nan}
use Rattle.refusal.specs.Lent.{over}
use Rattle.refusal.specs.Refusal.{number_of}
use Rattle.refusal.specs.declared.Refusal.{Refusal}
use Rattle.common.specs.Deviation.{zero64}
use Rattle.trcf.specs.Transformer.{zero32}
use Rattle.trcf.specs.Settings.{dimension, settings_row}
use Rattle.trcf.specs.Preprocessor.{accepted}
use Rattle.trcf.specs.View.{Lent, settings_of, settings_from, head_row, or_else, no_head, build_of, drain_of, point_after, PointOutcome, learn_after, learn_call, Outcome, outcome}
use Rattle.trcf.specs.declared.types.TransformMethod.TheVariants.{NONE}
use Rattle.trcf.specs.declared.types.ForestMode.TheVariants.{STANDARD}
use Rattle.trcf.specs.Types.{method_of_number, mode_of_letter}
use Rattle.trcf.specs.declared.head.Preprocessor.{Preprocessor}
use Rattle.trcf.specs.declared.head.PreprocessorBuilder.{PreprocessorBuilder}
use Rattle.snapshot.specs.Ascii.{ascii, text}
use Rattle.snapshot.specs.Text.{whole, named, singles}
use Rattle.snapshot.specs.Read.{bytes_of_line}
use Rattle.snapshot.specs.Save.{save_of, SaveOutcome as Saved}
use Rattle.bench_core.specs.Line.{is_named, is_reading, blank_line, cell_of, request_of, kept_of}
use Rattle.bench_core.specs.declared.line.Line.{Line}
use Rattle.bench_core.specs.declared.line.Name.{Name}
use Rattle.bench_core.specs.declared.line.Name.TheVariants.{Unread, Set, Weights, Point, Drain, Save}
use Rattle.bench_core.specs.declared.step.Phase.{Phase}
use Rattle.bench_core.specs.declared.step.Phase.TheVariants.{WantsSet, WantsWeights, Running, Ended}
use Rattle.bench_core.specs.declared.step.Bench.{Bench}
use Rattle.bench_core.specs.declared.step.StepResult.{StepResult}
use Rattle.bench_core.specs.declared.step.Printed.{Printed}

-- ---- "It prints `ok`, `none`, `pt` with f32 fields, `no` with the number, or for `s` the text."

unfoldable pub no_text : ℕ → List ℕ
no_text row = bytes_of_line (named (ascii "no") (whole row ∷ []))

abbrev pub ok_text : List ℕ
ok_text = text ("ok" ∷ [])

abbrev pub none_text : List ℕ
none_text = text ("none" ∷ [])

unfoldable pub point_text : List Float → List ℕ
point_text v = bytes_of_line (singles (ascii "pt") v)

-- `ok`, or `no` with the row
unfoldable pub done_text : ℕ → List ℕ
done_text row = accepted row ok_text (no_text row)

-- what is written of it: how many bytes, and the lent bytes afterwards
pub record Output : Type 0 where
  pub length : ℕ
  pub bytes : List ℕ

abbrev pub output : ℕ → List ℕ → Output
output n bytes = record { length = n; bytes = bytes }

unfoldable pub prints : List ℕ → List ℕ → Output
prints t out = output (length t) (over out t)

-- ---- calls

unfoldable pub dimension_of : Preprocessor → ℕ
dimension_of h = accepted (head_row (settings_of h)) (dimension (settings_of h)) 0

-- what a call leaves: the head, whether a `p` ever gave a point, what is lent, the last point, and what is printed
pub record CallResult : Type 0 where
  pub head : Preprocessor
  pub given : Bool
  pub lent : Lent
  pub point : List Float
  pub text : List ℕ

abbrev pub call_result : Preprocessor → Bool → Lent → List Float → List ℕ → CallResult
call_result h g l y t = record { head = h; given = g; lent = l; point = y; text = t }

-- `p`: the point, `none` while waiting, or the row. The last point stays where none is given.
abbrev pub point_result_by : Bool → PointOutcome → CallResult
point_result_by g o =
    accepted o.row
    (cond o.given (call_result o.head true o.lent o.out (point_text (take (dimension_of o.head) o.out)))
    (call_result o.head g o.lent o.out none_text))
    (call_result o.head g o.lent o.out (no_text o.row))

unfoldable pub point_result : Preprocessor → Bool → Lent → List Float → List Float → ℕ → CallResult
point_result h g l y x t = point_result_by g (point_after h l x t y)

-- `l`: "y = the last point a `p` gave, if any; grade 0"
unfoldable pub learn_result : Preprocessor → Bool → Lent → List Float → List Float → ℕ → CallResult
learn_result h g l y x t =
    let o = learn_after h l (learn_call x t g (take (dimension_of h) y) false [] zero32 (pos 0) (replicate 17 zero32) (replicate 1 zero32) (replicate 1 zero32)) in
    call_result o.head g o.lent y (done_text o.row)

-- `d`
unfoldable pub drain_result : Preprocessor → Bool → Lent → List Float → CallResult
drain_result h g l y = let o = drain_of h l in call_result o.head g o.lent y (done_text o.row)

-- the same with its text printed to the output
pub record CallPrinted : Type 0 where
  pub head : Preprocessor
  pub given : Bool
  pub lent : Lent
  pub point : List Float
  pub out : Output

abbrev pub call_printed : Preprocessor → Bool → Lent → List Float → Output → CallPrinted
call_printed h g l y o = record { head = h; given = g; lent = l; point = y; out = o }

abbrev pub prints_call : CallResult → List ℕ → CallPrinted
prints_call u out = call_printed u.head u.given u.lent u.point (prints u.text out)

-- `s`: the text; or row 20 where a list is shorter than what is in use of it
abbrev pub save_printed : Saved → Output
save_printed o = accepted o.row (output o.length o.bytes) (prints (no_text o.row) o.bytes)

unfoldable pub save_prints : Preprocessor → Lent → List ℕ → Output
save_prints h l out = save_printed (save_of h l out)

-- ---- lines, by what the bench waits for

abbrev pub bench : Phase → Line → PreprocessorBuilder → Preprocessor → Bool → Bench
bench p l b h g = record { phase = p; line = l; builder = b; head = h; given = g }

-- ready for the next line
abbrev pub ready_for : Phase → PreprocessorBuilder → Preprocessor → Bool → Bench
ready_for p b h g = bench p blank_line b h g

abbrev pub going_on : Bench → Bench
going_on b = ready_for Running b.builder b.head b.given

-- "and the end"
abbrev pub end_of : Bench → Bench
end_of b = ready_for Ended b.builder b.head b.given

-- the settings of a `set` line
unfoldable pub builder_from : Line → PreprocessorBuilder
builder_from l =
    record {
      forest_mode = mode_of_letter (get_or l.wholes 0 0);
      transform_method = method_of_number (get_or l.wholes 1 0);
      input_dimensions = get_or l.wholes 2 0;
      shingle_size = get_or l.wholes 3 0;
      start_normalization = get_or l.wholes 4 0;
      stop_normalization = get_or l.wholes 5 0;
      transform_decay = l.double;
      weight_time = get_or l.singles 0 nan;
    }

abbrev pub no_builder : PreprocessorBuilder
no_builder =
    record {
      forest_mode = STANDARD;
      transform_method = NONE;
      input_dimensions = 0;
      shingle_size = 0;
      start_normalization = 0;
      stop_normalization = 0;
      transform_decay = zero64;
      weight_time = zero32;
    }

-- a bench that no line has reached
unfoldable pub fresh_bench : Bench
fresh_bench = ready_for WantsSet no_builder no_head false

-- what a line leaves: the bench, what is lent, the last point, and the output
pub record LineResult : Type 0 where
  pub bench : Bench
  pub lent : Lent
  pub point : List Float
  pub out : Output

abbrev pub line_result : Bench → Lent → List Float → Output → LineResult
line_result b l y o = record { bench = b; lent = l; point = y; out = o }

-- "refused: `no` with 19 for another form, else the row, and the end"
abbrev pub refused_by : ℕ → Bench → Lent → List Float → List ℕ → LineResult
refused_by row b lists y out = line_result (end_of b) lists y (prints (no_text row) out)

-- the first line: an accepted `set` prints nothing
abbrev pub set_gives : Name → Bench → Line → Lent → List Float → List ℕ → LineResult
set_gives n b l lists y out =
    cond (is_named n Set) (line_result (ready_for WantsWeights (builder_from l) b.head b.given) lists y (output 0 out)) (refused_by 19 b lists y out)

-- "The bench (d ≤ 4, start ≤ 500; beyond these, after rows 1 to 9, `no 20` and the end)"
abbrev pub limit_row : PreprocessorBuilder → ℕ
limit_row b = cond (ltb 4 b.input_dimensions) 20 (cond (ltb 500 b.start_normalization) 20 0)

-- "The bench has zero codes": one for each channel, as far as an array holds them (row 4 comes before row 5)
abbrev pub code_count : ℕ → ℕ
code_count n = cond (ltb 16 n) 16 n

abbrev pub zero_codes : PreprocessorBuilder → List ℕ
zero_codes b = replicate (code_count b.input_dimensions) 0

-- rows 1 to 9, then the limits, and then `build`: a refusal leaves what is lent as it was
unfoldable pub built_of : PreprocessorBuilder → List Float → Lent → Outcome
built_of b w lists =
    let s = settings_from b w (zero_codes b) in
    let row = or_else (settings_row s) (limit_row b) in
    accepted row (build_of s lists) (outcome row no_head lists)

abbrev pub built_gives : Bench → Outcome → List Float → List ℕ → LineResult
built_gives b o y out =
    accepted o.row (line_result (ready_for Running b.builder o.head b.given) o.lent y (output 0 out)) (refused_by o.row b o.lent y out)

unfoldable pub build_gives : Bench → Line → Lent → List Float → List ℕ → LineResult
build_gives b l lists y out = built_gives b (built_of b.builder (kept_of l) lists) y out

-- the second line: an accepted `wgt` prints nothing
abbrev pub weights_gives : Name → Bench → Line → Lent → List Float → List ℕ → LineResult
weights_gives n b l lists y out = cond (is_named n Weights) (build_gives b l lists y out) (refused_by 19 b lists y out)

abbrev pub line_of_call : Bench → CallPrinted → LineResult
line_of_call b t = line_result (ready_for Running b.builder t.head t.given) t.lent t.point t.out

-- "a line of another form giving `no 19`"
abbrev pub other_form : Bench → Lent → List Float → List ℕ → LineResult
other_form b lists y out = line_result (going_on b) lists y (prints (no_text 19) out)

-- `d` and `s`; any other line without a reading is of another form
abbrev pub plain_gives : Name → Bench → Lent → List Float → List ℕ → LineResult
plain_gives n b lists y out =
    cond (is_named n Drain) (line_of_call b (prints_call (drain_result b.head b.given lists y) out))
    (cond (is_named n Save) (line_result (going_on b) lists y (save_prints b.head lists out)) (other_form b lists y out))

-- `p`, or else `l`; the time stands first among the whole numbers
abbrev pub reading_gives : Bool → Bench → Line → Lent → List Float → List ℕ → LineResult
reading_gives asks b l lists y out =
    let t = get_or l.wholes 0 0 in
    line_of_call b (prints_call (cond asks (point_result b.head b.given lists y (kept_of l) t) (learn_result b.head b.given lists y (kept_of l) t)) out)

-- every later line
abbrev pub call_gives : Name → Bench → Line → Lent → List Float → List ℕ → LineResult
call_gives n b l lists y out = cond (is_reading n) (reading_gives (is_named n Point) b l lists y out) (plain_gives n b lists y out)

abbrev pub line_by : Phase → Bench → Line → Lent → List Float → List ℕ → LineResult
line_by WantsSet b l lists y out = set_gives (request_of l) b l lists y out
line_by WantsWeights b l lists y out = weights_gives (request_of l) b l lists y out
line_by Running b l lists y out = call_gives (request_of l) b l lists y out
line_by Ended b l lists y out = line_result b lists y (output 0 out)

unfoldable pub line_gives : Bench → Line → Lent → List Float → List ℕ → LineResult
line_gives b l lists y out = line_by b.phase b l lists y out

-- ---- a step

-- where the first cell ends: at a tab or an LF, or with the text
abbrev pub cell_length : List ℕ → ℕ
cell_length [] = 0
cell_length (x ∷ t) = let r = cell_length t in cond (eqb x 9) 0 (cond (eqb x 10) 0 (suc r))

-- a cell longer than 24 bytes is no name and no field, and neither is its start
abbrev pub cell_kept : ℕ → ℕ
cell_kept n = cond (ltb 24 n) 24 n

-- the bytes that the output of a step has to have
abbrev pub room : ℕ
room = 65536

-- the row, 20 where nothing is done; how many bytes are read; and what is left
pub record Stepped : Type 0 where
  pub row : ℕ
  pub next : ℕ
  pub left : LineResult

abbrev pub stepped : ℕ → ℕ → LineResult → Stepped
stepped row n h = record { row = row; next = n; left = h }

-- … by what a call of `step` answers: after a refusal nothing is read or printed, and the bench is as it was
abbrev pub stepped_by : Result StepResult Refusal → Bench → Lent → List Float → List ℕ → Stepped
stepped_by (Ok s) b lists y out = stepped 0 s.next (line_result s.bench lists y (output s.length out))
stepped_by (Err r) b lists y out = stepped (number_of r) 0 (line_result b lists y (output 0 out))

abbrev pub with_line : Bench → Line → Bench
with_line b l = bench b.phase l b.builder b.head b.given

abbrev pub cell_step : Bench → Lent → List Float → List ℕ → List ℕ → ℕ → Line → Stepped
cell_step b lists y text out n l =
    cond (eqb (get_or text n 0) 9) (stepped 0 (n + 1) (line_result (with_line b l) lists y (output 0 out))) (stepped 0 (n + 1) (line_gives b l lists y out))

unfoldable pub bench_step : Bench → Lent → List Float → List ℕ → List ℕ → Stepped
bench_step b lists y text out =
    let n = cell_length text in
    cond (ltb (length out) room) (stepped 20 0 (line_result b lists y (output 0 out)))
    (cond (eqb n (length text)) (stepped 0 0 (line_result b lists y (output 0 out)))
    (cell_step b lists y text out n (cell_of b.line (take (cell_kept n) text))))

-- ---- the end of the input

-- bytes stand after the last LF
abbrev pub begun : Name → List ℕ → Bool
begun name (x ∷ rest) = true
begun name [] = not (is_named name Unread)

pub record EndResult : Type 0 where
  pub bench : Bench
  pub out : Output

abbrev pub end_result : Bench → Output → EndResult
end_result b o = record { bench = b; out = o }

-- a line without its LF is of another form, and so is a missing `set` or `wgt`
abbrev pub finish_by : Phase → Bench → List ℕ → List ℕ → EndResult
finish_by WantsSet b rest out = end_result (end_of b) (prints (no_text 19) out)
finish_by WantsWeights b rest out = end_result (end_of b) (prints (no_text 19) out)
finish_by Running b rest out = cond (begun b.line.name rest) (end_result (end_of b) (prints (no_text 19) out)) (end_result (end_of b) (output 0 out))
finish_by Ended b rest out = end_result (end_of b) (output 0 out)

pub record Finished : Type 0 where
  pub row : ℕ
  pub next : ℕ
  pub left : EndResult

abbrev pub finished : ℕ → ℕ → EndResult → Finished
finished row n o = record { row = row; next = n; left = o }

-- … by what a call of `finish` answers
abbrev pub finished_from : Result Printed Refusal → Bench → List ℕ → Finished
finished_from (Ok p) b out = finished 0 0 (end_result p.bench (output p.length out))
finished_from (Err r) b out = finished (number_of r) 0 (end_result b (output 0 out))

unfoldable pub finish_of : Bench → List ℕ → List ℕ → Finished
finish_of b rest out = cond (ltb (length out) room) (finished 20 0 (end_result b (output 0 out))) (finished 0 0 (finish_by b.phase b rest out))
