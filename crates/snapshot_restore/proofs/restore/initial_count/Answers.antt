-- `snapshot_restore::restore::initial_count` meets its contract. Assumes nothing.
use Prim.Native.Nat.{◌<◌}
use native.Mathlib.Omega.{arith}
use mathlib.Core.Path.{sym, ◌∙◌}
use mathlib.Core.Bool.{true, false}
use lib.ListN.{length, drop, length-drop}
use Rattle.trcf.specs.View.{settings_of}
use Rattle.snapshot.specs.Steps.Runs.{counts_in}
use Rattle.snapshot.proofs.BodyLaws.{waiting_is, expected_waiting, expected_plain, expected_end, expected_none, expected_seen, expected_internal}
use Rattle.snapshot_restore.proofs.restore.initial_count.Goals as goal
use Rattle.snapshot_restore.proofs.restore.initial_count.Goals.{then-not-is_normalizing-via-then-not-is_normalizing, then-not-is_normalizing-via-else-not-is_normalizing+then-text-at}
use Rattle.snapshot_restore.proofs.restore.initial_count.Goals.{then-seen-start-via-then-seen-start, then-seen-start-via-else-seen-start+then-head-eq0}

pub returns-then-is_waiting : goal.returns-then-is_waiting
returns-then-is_waiting c =
    let a = c.args in
    let s = settings_of a.head in
    let k = counts_in a.head in
    let l = drop a.at a.text.now in
    let w = waiting_is s a.head.values_seen c.is_waiting.result true c.is_waiting.ensures c.if-is_waiting.true in
    expected_waiting s k l w

pub returns-then-not-is_normalizing : goal.returns-then-not-is_normalizing
returns-then-not-is_normalizing c =
    let a = c.args in
    let s = settings_of a.head in
    let k = counts_in a.head in
    let l = drop a.at a.text.now in
    let w = waiting_is s a.head.values_seen c.is_waiting.result false c.is_waiting.ensures c.if-is_waiting.false in
    elim c.then-not-is_normalizing.branch [
      | then-not-is_normalizing-via-then-not-is_normalizing t ↦ expected_plain s k l w (sym c.is_normalizing.ensures ∙ t.if-not-is_normalizing.true)
      | then-not-is_normalizing-via-else-not-is_normalizing+then-text-at t ↦
          expected_end s k l w (length-drop a.at a.text.now ∙ omega (arith, t.if-text-at.true))
    ]

pub returns-then-seen-start : goal.returns-then-seen-start
returns-then-seen-start c =
    let a = c.args in
    let s = settings_of a.head in
    let k = counts_in a.head in
    let l = drop a.at a.text.now in
    let w = waiting_is s a.head.values_seen c.is_waiting.result false c.is_waiting.ensures c.if-is_waiting.false in
    let m = sym c.is_normalizing.ensures ∙ c.if-not-is_normalizing.false in
    let n : 0 < length l = omega (arith, length-drop a.at a.text.now, c.if-text-at.false) in
    elim c.then-seen-start.branch [
      | then-seen-start-via-then-seen-start t ↦ expected_seen s k l w m n t.if-seen-start.true
      | then-seen-start-via-else-seen-start+then-head-eq0 t ↦ expected_internal s k l w m n (omega (arith, t.if-head-eq0.true))
    ]

pub returns : goal.returns
returns c =
    let is-waiting-at = c.is_waiting in
    let a = c.args in
    let s = settings_of a.head in
    let k = counts_in a.head in
    let l = drop a.at a.text.now in
    let w = waiting_is s a.head.values_seen is-waiting-at.result false is-waiting-at.ensures c.if-is_waiting.false in
    expected_none s k l w (sym c.is_normalizing.ensures ∙ c.if-not-is_normalizing.false)
    (omega (arith, c.if-seen-start.false)) c.if-head-eq0.false
