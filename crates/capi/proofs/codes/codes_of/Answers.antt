-- `capi::codes::codes_of` meets its contract: the invariant is that the first i codes stand over zeros. Assumes nothing.
use Prim.Native.Nat.{ℕ, ◌≤◌, ◌<◌}
use mathlib.Core.Path.{◌≡◌, refl, ap, ◌∙◌}
use native.Mathlib.Omega.{arith}
use lib.ListN.{length, replicate, length-set}
use lib.Seq.{take-length}
use Rattle.refusal.specs.Lent.{over}
use Rattle.refusal.proofs.LentLaws.{over_copy}
use Rattle.trcf.proofs.LentLaws.{over_none}
use Rattle.capi.proofs.WordLaws.{over_whole}
use Rattle.trcf.specs.Settings.{code_max}
use Rattle.trcf.proofs.FitLaws.{all_get_d}
use Rattle.snapshot.proofs.ReadKinds.{codes_of}
use Rattle.capi.proofs.codes.codes_of.Goals as goal

pub loop-i-init : goal.loop-i-init
loop-i-init c = (over_none _, refl)

pub overflow_cast-a : goal.overflow_cast-a
overflow_cast-a c =
    let L = c.loop-i in
    let w = c.args.words.now in
    let b = all_get_d {A = ℕ} (λ n. n ≤ code_max) w L.i 0 (omega (arith, c.requires.words_len)) (codes_of w c.requires.words_value) in
    omega (arith, b)

pub loop-i-preserved : goal.loop-i-preserved
loop-i-preserved c =
    let L = c.loop-i in
    let w = c.args.words.now in
    let e = c.requires.words_len in
    let h : L.i < length w = omega (arith, e) in
    let k : length w ≤ 16 = omega (arith, e) in
    (rw L.invariant.0 (over_copy (replicate {A = ℕ} 16 0) w L.i 0 h k), simp length-set (omega arith))

pub returns : goal.returns
returns c =
    let L = c.loop-i in
    let w = c.args.words.now in
    let z = c.requires.words_len in
    let e : L.i ≡ length w = omega (arith, z) in
    let k : 16 ≤ length w = omega (arith, z) in
    let p = rw e at L.invariant.0 in
    p ∙ ap (over (replicate {A = ℕ} 16 0)) (take-length w) ∙ over_whole (replicate {A = ℕ} 16 0) w k
