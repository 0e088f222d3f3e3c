-- Each test in turn. Assumes nothing.
use Rattle.trcf.proofs.LengthLaws.{dimension_known}
use native.Mathlib.Omega.{arith}
use mathlib.Core.Path.{sym, ◌∙◌}
use Prim.Native.Nat.{◌*◌, ◌≤◌, ◌<◌}
use native.Mathlib.Nat.{mul-le-mul}
use Rattle.trcf.specs.View.{settings_of}
use Rattle.trcf.specs.Calls.{lookahead, forecast_output_short}
use Rattle.trcf.proofs.ExtrapolationLaws.{true_false, dimension_pos, numbers_within, numbers_fit}
use borrow.Author.Rules.{rules}
use Rattle.trcf_forecast.proofs.forecast.output_row.Goals as goal

pub nonzero_div-h : goal.nonzero_div-h
nonzero_div-h c =
    let p = dimension_pos (settings_of c.args.head) c.requires.d_pos c.requires.k_pos in
    let q : 0 < c.get_dimension-a.result = omega (arith, (dimension_known c.get_dimension-a.ensures (search rules)).0) in
    search rules

pub overflow_mul-d : goal.overflow_mul-d
overflow_mul-d c =
    let p : c.args.head.transformer.input_length ≤ 16 = omega arith in
    let q : c.args.head.shingle_size ≤ 64 = omega arith in
    omega (arith, mul-le-mul p q)

pub overflow_mul-h : goal.overflow_mul-h
overflow_mul-h c =
    let p = numbers_within (settings_of c.args.head) in
    let q = numbers_fit c.args.lengths.range.values c.get_dimension-a.result
    (c.args.head.transformer.input_length * c.args.head.shingle_size)
    (rw (dimension_known c.get_dimension-a.ensures (search rules)).0 p) in
    omega arith

pub returns-then-is_shorter : goal.returns-then-is_shorter
unfolding forecast_output_short lookahead
returns-then-is_shorter c = record {
  value = rw (
    ← (dimension_known c.get_dimension-a.ensures (search rules)).0,
    sym c.is_augmented.ensures ∙
        c.if-is_augmented.true,
    sym c.is_shorter.ensures.value ∙ c.if-is_shorter.true,
  );
  long = tt;
}

pub returns-then-is_shorter-2 : goal.returns-then-is_shorter-2
unfolding forecast_output_short lookahead
returns-then-is_shorter-2 c = record {
  value = rw (
    ← (dimension_known c.get_dimension-a.ensures (search rules)).0,
    sym
        c.is_augmented.ensures ∙ c.if-is_augmented.true,
    sym c.is_shorter.ensures.value ∙
        c.if-is_shorter.false,
    sym c.is_shorter-then-is_augmented.ensures.value ∙ c.if-is_shorter-2.true,
  );
  long = tt;
}

pub returns-else-is_shorter-2 : goal.returns-else-is_shorter-2
unfolding forecast_output_short lookahead
returns-else-is_shorter-2 c =
    let at-get-dimension = c.get_dimension-a in
    let at-is-shorter = c.is_shorter in
    let at-if2 = c.if-is_shorter in
    let at-is-shorter2 = c.is_shorter-then-is_augmented in record {
      value = rw (
        ← (dimension_known at-get-dimension.ensures (search rules)).0,
        sym c.is_augmented.ensures ∙
            c.if-is_augmented.true,
        sym at-is-shorter.ensures.value ∙ at-if2.false,
        sym at-is-shorter2.ensures.value ∙ c.if-is_shorter-2.false,
      );
      long = λ a. record {
        numbers = rw (← (dimension_known at-get-dimension.ensures (search rules)).0) (at-is-shorter.ensures.longer at-if2.false);
        times = rw
            (← (dimension_known at-get-dimension.ensures (search rules)).0) (at-is-shorter2.ensures.longer c.if-is_shorter-2.false);
      };
    }

pub returns-else-is_augmented : goal.returns-else-is_augmented
unfolding forecast_output_short lookahead
returns-else-is_augmented c = record {
  value = rw (sym c.is_augmented.ensures ∙ c.if-is_augmented.false);
  long = λ a. absurd (true_false (sym a ∙ sym c.is_augmented.ensures ∙ c.if-is_augmented.false));
}
