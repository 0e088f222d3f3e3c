-- `alignment::write_pairs` meets its contract. Invariant: `Compared`. The measure is what is left of the first list.
use Prim.Native.Nat.{ℕ, ◌*◌}
use mathlib.Core.Path.{◌≡◌, refl, sym, ap, ◌∙◌}
use native.Mathlib.Omega.{arith}
use lib.ListN.{length, replicate}
use Rattle.series.specs.Gaps.{zero32, gaps}
use Rattle.series.proofs.AlignmentLaws.Compared.{lists, all, Fitting, compared_start, compared_more, finished}
use Rattle.series.proofs.alignment.write_pairs.Goals as goal

pub loop-pair-init : goal.loop-pair-init
loop-pair-init c =
    let a = c.args in
    let q = c.requires in
    let new = c.fill.new.self in
    let s = lists (length new) a.left.now a.left_times.now a.right.now a.right_times.now a.tolerance a.left_out.now a.right_out.now in
    let e : length new ≡ length a.gaps_out.now = c.fill.ensures.len in
    let z : new ≡ replicate (length a.gaps_out.now) zero32 = c.fill.ensures.after (λ y h. h) in
    let f : Fitting s =
    record {
      left = q.left_len ∙ ap (λ (k : ℕ). length a.left_times.now * k) (sym e);
      right = q.right_len ∙ ap (λ (k : ℕ). length a.right_times.now * k) (sym e);
      left_room = q.right_times_in_bounds;
      right_room = q.right_times_in_bounds_2;
    } in
    compared_start s new f (z ∙ ap (λ (k : ℕ). replicate k zero32) (sym e)) refl

pub loop-pair-preserved : goal.loop-pair-preserved
loop-pair-preserved c =
    let L = c.loop-pair in
    let a = c.args in
    let s = lists (length c.fill.new.self) a.left.now a.left_times.now a.right.now a.right_times.now a.tolerance a.left_out.now a.right_out.now in
    compared_more s L.left_out L.right_out L.gaps_out L.n _ _ L.invariant _ _ c.in-Some.ensures _ _ c.widen.new.gaps (omega arith) (omega arith) c.widen.ensures

pub returns : goal.returns
returns c =
    let L = c.loop-pair in
    let a = c.args in
    let s = lists (length c.fill.new.self) a.left.now a.left_times.now a.right.now a.right_times.now a.tolerance a.left_out.now a.right_out.now in
    let f = finished s L.left_out L.right_out L.gaps_out L.n _ _ L.invariant c.in_default.ensures in
    record {
      left_out_after = f.left;
      right_out_after = f.right;
      gaps_out_after = f.gaps_are ∙ ap (λ (k : ℕ). gaps k a.left.now a.right.now (all s)) c.fill.ensures.len;
    }
