-- `trcf_learn::learn::feed_newest` meets its contract: by its callees' promises and the laws of lists. Assumes nothing.
use Rattle.trcf.proofs.LengthLaws.{feed_fits_lem, opened}
use native.Mathlib.Omega.{arith}
use mathlib.Core.Path.{◌∙◌}
use borrow.Author.Tests.{lt-ltb, le-ltb}
use Prim.Native.Nat.{◌≤◌}
use native.Mathlib.Nat.{le-mul_of_pos_right}
use lib.ListN.{length, length-take, length-drop}
use Rattle.trcf.specs.Preprocessor.{feed, reading, previous}
use Rattle.trcf.specs.View.{settings_of}
use Rattle.trcf.proofs.OutputLaws.{newest_part}
use Rattle.trcf_learn.proofs.learn.feed_newest.Goals as goal

pub returns-then-head : goal.returns-then-head
unfolding previous
returns-then-head c =
    let a = c.args in
    let h = a.head in
    let q = c.requires in
    let d = h.transformer.input_length in
    let m = le-mul_of_pos_right d q.bounded.k_pos in
    let k : d ≤ length a.inputs.now = omega (arith, q.exact) in
    rw (lt-ltb _ _ c.if-head.true)
    ((opened _ c.feed_reading.ensures
    (feed_fits_lem (let a = c.args in let h = a.head in let q = c.requires in let d = h.transformer.input_length in let m =
    le-mul_of_pos_right d q.bounded.k_pos in (
      q.bounded,
      (
        q.exact.all_statistics,
        (
          q.count_lt_count_limit c.if-head.true,
          (simp (length-drop, length-take) (omega (arith, q.exact)), q.input_len),
        ),
      ),
    )))) ∙
    (λ j. feed (settings_of h) h.transformer.count a.s.now (reading (newest_part a.inputs.now d k j) (c.last_time-p.ensures j))
    (reading a.input.now a.timestamp)))

pub returns-else-head : goal.returns-else-head
unfolding previous
returns-else-head c = rw (le-ltb _ _ c.if-head.false)
