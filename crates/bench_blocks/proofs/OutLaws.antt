-- What a line leaves does not depend on what stood in the output, and what it prints is laid over that. Assumes nothing.
use Prim.Native.Nat.{ℕ, zero, suc}
use mathlib.Core.Path.{◌≡◌, refl, sym, ap, subst}
use mathlib.Core.Bool.{Bool, true, false, cond}
use mathlib.Core.List.{List}
use lib.Dec.{T, ltb}
use lib.ListN.{length, drop, get_or}
use lib.Seq.{take-append_seam}
use lib.Ieee.{Float}
use Rattle.refusal.specs.Lent.{over}
use Rattle.trcf.specs.Preprocessor.{accepted}
use Rattle.trcf.specs.Settings.{settings_row}
use Rattle.trcf.specs.View.{Lent, Outcome, settings_of, counters_unfit, view}
use Rattle.trcf.specs.declared.head.Preprocessor.{Preprocessor}
use Rattle.snapshot.specs.Text.{render}
use Rattle.snapshot.specs.Save.{in_use_short, unformed, held_save, fitted, save_of, save_outcome as saved}
use Rattle.bench_core.specs.declared.line.Name.{Name}
use Rattle.bench_core.specs.declared.line.Name.TheVariants.{Unread, Set, Weights, Point, Learn, Drain, Save, Other}
use Rattle.bench_core.specs.declared.line.Line.{Line}
use Rattle.bench_core.specs.declared.step.Bench.{Bench}
use Rattle.bench_core.specs.declared.step.Phase.{Phase}
use Rattle.bench_core.specs.declared.step.Phase.TheVariants.{WantsSet, WantsWeights, Running, Ended}
use Rattle.bench_core.specs.Line.{request_of, kept_of}
use Rattle.bench_core.specs.Bench.{output, prints, no_text, LineResult, line_result, refused_by, end_of, ready_for, set_gives, built_of, built_gives, build_gives, weights_gives, going_on, call_gives}
use Rattle.bench_core.specs.Bench.{save_printed, save_prints, line_by, line_gives, builder_from, CallResult, line_of_call, prints_call, point_result, learn_result, drain_result, begun, end_result}
use Rattle.bench_core.specs.Bench.{finish_by}
use Rattle.bench_core.specs.Run.{shown}

-- what a line leaves, and the text that it prints
pub record Reply : Type 0 where
  pub bench : Bench
  pub lent : Lent
  pub point : List Float
  pub text : List ℕ

abbrev pub reply_of : LineResult → Reply
reply_of h = record { bench = h.bench; lent = h.lent; point = h.point; text = shown h.out }

abbrev pub speaks : Reply → List ℕ → LineResult
speaks r out = line_result r.bench r.lent r.point (prints r.text out)

pub shown_prints : (t out : List ℕ) → shown (prints t out) ≡ t
unfolding prints over
shown_prints t out = take-append_seam t (drop (length t) out)

-- what is laid over one output is what is shown of any other
module _ (b : Bench) (lists : Lent) (y : List Float) (out other : List ℕ) where
  pub lays : (t : List ℕ) → line_result b lists y (prints t out) ≡ speaks (reply_of (line_result b lists y (prints t other))) out
  lays t = ap (λ (u : List ℕ). line_result b lists y (prints u out)) (sym (shown_prints t other))

  pub silent : line_result b lists y (output 0 out) ≡ speaks (reply_of (line_result b lists y (output 0 other))) out
  unfolding prints over
  silent = refl

module _ (out other : List ℕ) (e : length out ≡ length other) where
  built : (b : Bench) (o : Outcome) (y : List Float) → built_gives b o y out ≡ speaks (reply_of (built_gives b o y other)) out
  built b o y = go o.row
    where
      go : (r : ℕ)
          → accepted r (line_result (ready_for Running b.builder o.head b.given) o.lent y (output 0 out)) (refused_by r b o.lent y out)
          ≡ speaks (reply_of (accepted r (line_result (ready_for Running b.builder o.head b.given) o.lent y (output 0 other)) (refused_by r b o.lent y other))) out
      go zero = silent (ready_for Running b.builder o.head b.given) o.lent y out other
      go (suc r) = lays (end_of b) o.lent y out other (no_text (suc r))

  saves : (h : Preprocessor) (l : Lent) → save_prints h l out ≡ prints (shown (save_prints h l other)) out
  unfolding save_prints save_of held_save fitted prints
  saves h l = settled (settings_row (settings_of h)) (counters_unfit h)
    where
      no : (n : ℕ) → prints (no_text n) out ≡ prints (shown (prints (no_text n) other)) out
      no n = ap (λ (u : List ℕ). prints u out) (sym (shown_prints (no_text n) other))

      fits : (q r : Bool) → q ≡ r
          → save_printed (cond q (saved 20 0 out) (saved 0 (length (render (view h l))) (over out (render (view h l)))))
          ≡ prints (shown (save_printed (cond r (saved 20 0 other) (saved 0 (length (render (view h l))) (over other (render (view h l))))))) out
      fits true true i = no 20
      fits true false i = absurd (subst T i tt)
      fits false true i = absurd (subst T (sym i) tt)
      fits false false i = ap (λ (u : List ℕ). prints u out) (sym (shown_prints (render (view h l)) other))

      held : (p u : Bool)
          → save_printed (cond p (saved 20 0 out) (cond u (saved 19 0 out) (fitted (render (view h l)) out)))
          ≡ prints (shown (save_printed (cond p (saved 20 0 other) (cond u (saved 19 0 other) (fitted (render (view h l)) other))))) out
      held true u = no 20
      held false true = no 19
      held false false =
          fits (ltb (length out) (length (render (view h l)))) (ltb (length other) (length (render (view h l)))) (ap (λ (n : ℕ). ltb n (length (render (view h l)))) e)

      counted : (m : Bool)
          → save_printed (cond m (saved 19 0 out) (held_save h l out)) ≡ prints (shown (save_printed (cond m (saved 19 0 other) (held_save h l other)))) out
      counted true = no 19
      counted false = held (in_use_short h l) (unformed (view h l))

      settled : (n : ℕ) (m : Bool)
          → save_printed (accepted n (cond m (saved 19 0 out) (held_save h l out)) (saved n 0 out))
          ≡ prints (shown (save_printed (accepted n (cond m (saved 19 0 other) (held_save h l other)) (saved n 0 other)))) out
      settled zero m = counted m
      settled (suc n) m = no (suc n)

  module _ (b : Bench) (lists : Lent) (y : List Float) where
    no_19 : (c : Bench) → line_result c lists y (prints (no_text 19) out) ≡ speaks (reply_of (line_result c lists y (prints (no_text 19) other))) out
    no_19 c = lays c lists y out other (no_text 19)

    set_line_lem : (l : Line) (n : Name) → set_gives n b l lists y out ≡ speaks (reply_of (set_gives n b l lists y other)) out
    set_line_lem l Unread = no_19 (end_of b)
    set_line_lem l Set = silent (ready_for WantsWeights (builder_from l) b.head b.given) lists y out other
    set_line_lem l Weights = no_19 (end_of b)
    set_line_lem l Point = no_19 (end_of b)
    set_line_lem l Learn = no_19 (end_of b)
    set_line_lem l Drain = no_19 (end_of b)
    set_line_lem l Save = no_19 (end_of b)
    set_line_lem l Other = no_19 (end_of b)

    weights_line : (l : Line) (n : Name) → weights_gives n b l lists y out ≡ speaks (reply_of (weights_gives n b l lists y other)) out
    unfolding build_gives
    weights_line l Unread = no_19 (end_of b)
    weights_line l Set = no_19 (end_of b)
    weights_line l Weights = built b (built_of b.builder (kept_of l) lists) y
    weights_line l Point = no_19 (end_of b)
    weights_line l Learn = no_19 (end_of b)
    weights_line l Drain = no_19 (end_of b)
    weights_line l Save = no_19 (end_of b)
    weights_line l Other = no_19 (end_of b)

    told_line : (u : CallResult) → line_of_call b (prints_call u out) ≡ speaks (reply_of (line_of_call b (prints_call u other))) out
    told_line u = lays (ready_for Running b.builder u.head u.given) u.lent u.point out other u.text

    call_line : (l : Line) (n : Name) → call_gives n b l lists y out ≡ speaks (reply_of (call_gives n b l lists y other)) out
    call_line l Unread = no_19 (going_on b)
    call_line l Set = no_19 (going_on b)
    call_line l Weights = no_19 (going_on b)
    call_line l Point = told_line (point_result b.head b.given lists y (kept_of l) (get_or l.wholes 0 0))
    call_line l Learn = told_line (learn_result b.head b.given lists y (kept_of l) (get_or l.wholes 0 0))
    call_line l Drain = told_line (drain_result b.head b.given lists y)
    call_line l Save = ap (line_result (going_on b) lists y) (saves b.head lists)
    call_line l Other = no_19 (going_on b)

    by_phase : (l : Line) (p : Phase) → line_by p b l lists y out ≡ speaks (reply_of (line_by p b l lists y other)) out
    by_phase l WantsSet = set_line_lem l (request_of l)
    by_phase l WantsWeights = weights_line l (request_of l)
    by_phase l Running = call_line l (request_of l)
    by_phase l Ended = silent b lists y out other

    -- two outputs of one length
    pub line_out : (l : Line) → line_gives b l lists y out ≡ speaks (reply_of (line_gives b l lists y other)) out
    unfolding line_gives
    line_out l = by_phase l b.phase

    end_phase : (c : List ℕ) (p : Phase) → finish_by p b c out ≡ end_result (finish_by p b c other).bench (prints (shown (finish_by p b c other).out) out)
    unfolding prints over
    end_phase c WantsSet = ap (λ (u : List ℕ). end_result (end_of b) (prints u out)) (sym (shown_prints (no_text 19) other))
    end_phase c WantsWeights = ap (λ (u : List ℕ). end_result (end_of b) (prints u out)) (sym (shown_prints (no_text 19) other))
    end_phase c Running = go (begun b.line.name c)
      where
        go : (p : Bool) → cond p (end_result (end_of b) (prints (no_text 19) out)) (end_result (end_of b) (output 0 out))
            ≡ end_result (cond p (end_result (end_of b) (prints (no_text 19) other)) (end_result (end_of b) (output 0 other))).bench
            (prints (shown (cond p (end_result (end_of b) (prints (no_text 19) other)) (end_result (end_of b) (output 0 other))).out) out)
        go true = ap (λ (u : List ℕ). end_result (end_of b) (prints u out)) (sym (shown_prints (no_text 19) other))
        go false = refl
    end_phase c Ended = refl

    pub end_out : (c : List ℕ) → finish_by b.phase b c out ≡ end_result (finish_by b.phase b c other).bench (prints (shown (finish_by b.phase b c other).out) out)
    end_out c = end_phase c b.phase
