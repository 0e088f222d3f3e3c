-- The claim of specs/Program at concrete arguments, worked out by computation: an input cut at every place into two blocks. Assumes nothing.
use Prim.Native.Nat.{ℕ, zero, suc, ◌+◌}
use native.Mathlib.Omega.{arith}
use Prim.Native.String.{String}
use mathlib.Core.Path.{◌≡◌, refl, sym, ap, ◌∙◌}
use mathlib.Core.Bool.{Bool, true, false}
use mathlib.Core.List.{List, [], ◌∷◌, ◌++◌, append-nil}
use lib.ListN.{length, take, drop, replicate}
use lib.Ieee.{Float}
use Rattle.trcf.specs.Transformer.{zero32}
use Rattle.trcf.specs.View.{Lent}
use Rattle.bench_core.specs.Run.{bench_memory, blank, shown}
use Rattle.bench_core.specs.declared.step.Phase.{Phase}
use Rattle.bench_core.specs.declared.step.Phase.TheVariants.{WantsSet, WantsWeights, Running, Ended}
use Rattle.bench_blocks.specs.declared.turn.Run.{Run}
use Rattle.bench_blocks.specs.Blocks.{block_of}
use Rattle.bench_blocks.specs.Turns.{first_run, TurnResult, turn_of}
use Rattle.bench_blocks.specs.Program.{Program, reads, program_ends as stops}
use Rattle.bench_blocks.proofs.ProgramLaws.{blocks_print}
use Rattle.bench_blocks.specs.Whole.{whole_prints}
use lib.Ieee.{to_bits, of_bits, of_fields, odd, fits, size, round, le, lt, eq, add, sub, mul, div, of_int}
use Rattle.numeric.specs.Narrow.{narrowed}
use Rattle.numeric.specs.Root.{root_within, halves, rooted, root_of}
use Rattle.common.specs.Deviation.{outside_unit, factor_of, step_of as fedStep, is_empty, mean_of, root_above, deviation_of}
use Rattle.refusal.specs.Lent.{over}
use Rattle.trcf.specs.Lists.{last_n, shift_in, overwrite}
use Rattle.trcf.specs.Transformer.{statistic_at, put_statistic, fed, deviations_at, put_deviations, fed_at, channels_fed, updated, normalized_scale, basic_shift, basic_drift, weight_at, transformed}
use Rattle.trcf.specs.Transformer.{unweighted, inverted, scales, shifts, difference_deviations}
use Rattle.trcf.specs.Settings.{block, dimension, waiting, all_one, settings_row}
use Rattle.trcf.specs.Calls.{finite, due, newest, before_newest as behindNewest, wrong_length, outside, drain_full, learn_full, waiting_short, learn_short, table, rows}
use Rattle.trcf.specs.Preprocessor.{fresh as freshState, facts, time_fed, feed, timescale, timedrift, time_element, transformed_after, previous, time_base, preceding, primed, drain_one, drain_all}
use Rattle.trcf.specs.Preprocessor.{drained, buffered, learned, learned_with, change, deviations, point_of, block_from, past_values, expected_values, anomaly_of, learned_nothing, buffered_answer}
use Rattle.trcf.specs.Preprocessor.{learned_answer, learn_answer, reply}
use Rattle.trcf.specs.View.{view, written_over, head_row, lent_short, counters_unfit, short_row, lent_row, row_of, build_row, build_of, answer_of, head_after, lent_after, drain_of, point_after}
use Rattle.trcf.specs.View.{learn_after}
use Rattle.snapshot.specs.Text.{whole, float, set_line, singles, cnt_line, dev_line, tim_line, buf_line, lines_by, body_lines, chn_line, render}
use Rattle.snapshot.specs.Read.{judge, float_from, as_whole, as_float}
use Rattle.snapshot.specs.Save.{in_use_short, unformed, held_save, fitted, save_of}
use Rattle.snapshot.specs.Ascii.{ascii}
use Rattle.bench_core.specs.Line.{blank_line, line_with_field, cell_of, request_of, kept_of}
use Rattle.bench_core.specs.Bench.{no_text, point_text, done_text, prints, dimension_of, point_result, learn_result, drain_result, save_prints, builder_from, fresh_bench, built_of, build_gives}
use Rattle.bench_core.specs.Bench.{line_gives}
use Rattle.bench_core.specs.Bench.{bench_step, finish_of}

-- to unfold this is to unfold whatever its line names
running : Unit {0}
unfolding to_bits of_bits of_fields odd fits size round le lt eq add sub mul div of_int narrowed root_within halves rooted root_of outside_unit factor_of
    fedStep is_empty mean_of root_above deviation_of over last_n shift_in overwrite statistic_at put_statistic fed deviations_at put_deviations fed_at
    channels_fed updated normalized_scale basic_shift basic_drift weight_at transformed unweighted inverted scales shifts difference_deviations block dimension
    waiting all_one settings_row finite due newest wrong_length outside drain_full learn_full waiting_short learn_short table rows freshState facts time_fed
    feed timescale timedrift time_element transformed_after previous primed drain_one drain_all drained buffered learned learned_with change deviations point_of
    block_from past_values expected_values anomaly_of learned_nothing buffered_answer learned_answer learn_answer reply view written_over head_row lent_short
    counters_unfit short_row lent_row row_of build_row build_of answer_of head_after lent_after drain_of point_after learn_after whole float set_line singles
    cnt_line dev_line tim_line buf_line lines_by body_lines chn_line render judge float_from as_whole as_float in_use_short unformed held_save fitted save_of
    blank_line line_with_field cell_of request_of kept_of no_text point_text done_text prints dimension_of point_result learn_result drain_result save_prints
    builder_from fresh_bench built_of build_gives line_gives bench_step finish_of block_of turn_of whole_prints behindNewest time_base preceding
running = tt

-- ---- a run, worked out

is_over : Phase → Bool
is_over WantsSet = false
is_over WantsWeights = false
is_over Running = false
is_over Ended = true

-- the text after a read
abbrev stored : List ℕ → ℕ → List ℕ → List ℕ
stored text kept new = over text (take kept text ++ new)

-- what at most n turns write, where the reads bring these blocks
abbrev writes : ℕ → Run → Lent → List Float → List ℕ → List (List ℕ) → List ℕ
writes zero r lists y text bs = []
writes (suc n) r lists y text [] =
    let t = turn_of r lists y text 0 blank in
    elim (is_over r.bench.phase) [
      | true ↦ []
      | false ↦ shown t.out ++ writes n t.run t.lent t.point t.text []
    ]
writes (suc n) r lists y text (c ∷ cs) =
    let t = turn_of r lists y (stored text r.kept c) (length c) blank in
    let u = turn_of r lists y text 0 blank in
    elim (is_over r.bench.phase) [
      | true ↦ []
      | false ↦
          elim r.full [
            | true ↦ shown u.out ++ writes n u.run u.lent u.point u.text (c ∷ cs)
            | false ↦ shown t.out ++ writes n t.run t.lent t.point t.text cs
          ]
    ]

-- in a text of 160 bytes
abbrev run : List (List ℕ) → List ℕ
run bs = writes 9 first_run bench_memory (replicate 320 zero32) (replicate 160 0) bs

-- ---- every cut

-- a time of 20 digits, a cell of more than 24 bytes, and a last line without its LF
abbrev input : String
input = "set\tS\t0\t1\t1\t10\t20\t0000000000000000\t3f800000\nwgt\t3f800000\nl\t18446744073709551615\t3f800000\ns2345678901234567890123456\nd"

-- the runs of the input cut after its first i bytes, for i from n down to 1
abbrev cuts : ℕ → List ℕ → List (List ℕ)
cuts zero t = []
cuts (suc n) t = run (take (suc n) t ∷ drop (suc n) t ∷ []) ∷ cuts n t

abbrev output : String
output = "ok\nno\t19\nno\t19\n"

every_cut : cuts 116 (ascii input) ≡ replicate 116 (ascii output)
unfolding running is_over
every_cut = refl

whole_input : whole_prints (ascii input) ≡ ascii output
unfolding running
whole_input = refl

-- ---- the claim at a run: a line that is cut in its first field

abbrev lent320 : List Float
lent320 = replicate 320 zero32

abbrev first : List ℕ
first = 120 ∷ []

abbrev second : List ℕ
second = 10 ∷ []

abbrev one : TurnResult
one = turn_of first_run bench_memory lent320 (stored (replicate 32 0) 0 first) 1 blank

abbrev two : TurnResult
two = turn_of one.run one.lent one.point (stored one.text one.run.kept second) 1 blank

-- what the two turns leave
one_row : one.row ≡ 0
unfolding running
one_row = refl

one_shows : shown one.out ≡ []
unfolding running
one_shows = refl

one_full : one.run.full ≡ false
unfolding running
one_full = refl

one_read : take 1 (stored (replicate 32 0) 0 first) ≡ first
unfolding over
one_read = refl

two_read : take (one.run.kept + 1) (stored one.text one.run.kept second) ≡ take one.run.kept one.text ++ second
unfolding running
two_read = refl

two_row : two.row ≡ 0
unfolding running
two_row = refl

two_shows : shown two.out ≡ no_text 19
unfolding running
two_shows = refl

two_over : two.run.bench.phase ≡ Ended
unfolding running
two_over = refl

two_blocks : Program first_run bench_memory lent320 (replicate 32 0) (120 ∷ 10 ∷ []) (no_text 19)
two_blocks =
    reads first second (stored (replicate 32 0) 0 first) blank (no_text 19) one refl (omega arith) refl one_read refl one_row (ap (λ (u : List ℕ). u ++ no_text 19) (sym one_shows))
    (reads second [] (stored one.text one.run.kept second) blank [] two one_full (omega arith) refl two_read refl two_row
    (sym two_shows ∙ sym (append-nil (shown two.out))) (stops two_over refl))

two_blocks_print : no_text 19 ≡ whole_prints (120 ∷ 10 ∷ [])
two_blocks_print = blocks_print (replicate 32 0) (120 ∷ 10 ∷ []) (no_text 19) two_blocks
