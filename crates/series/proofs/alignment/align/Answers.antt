-- `alignment::align` meets its contract: the two steps of rows decide, and what is written is `write_pairs`'s.
use Rattle.series.proofs.AlignmentLaws.Rows.{refused_by_readings, refused_by_room, taken}
use Rattle.series.proofs.AlignmentLaws.Comparing.{gaps_front}
use Rattle.series.specs.Steps.AlignmentRows.{room_row}
use Rattle.series.specs.Alignment.{readings, outputs}
use Rattle.series.specs.Pairs.{pairs}
use Rattle.refusal.proofs.RefusalLaws.{is_numbered}
use Rattle.std.proofs.lemmas.Result.{err_from_is_err_and}
use lib.ListN.{length}
use native.Mathlib.Omega.{arith}
use mathlib.Core.Path.{ap, ◌∙◌}
use Prim.Native.Nat.{ℕ}
use Rattle.series.proofs.alignment.align.Goals as goal

pub returns-in_err-readings_row : goal.returns-in_err-readings_row
returns-in_err-readings_row c =
    let a = c.args in
    let p = err_from_is_err_and c.from_residual.result c.from_residual.ensures.1 in
    rw (p.1, p.2)
    (refused_by_readings a.d (readings a.left.now a.left_times.now) (readings a.right.now a.right_times.now) a.tolerance
    (outputs a.left_out.now a.right_out.now a.gaps_out.now) _ c.in_err-readings_row.ensures.value (λ z. absurd (omega (arith, is_numbered c.in_err-readings_row.field-0.0, z))))

pub returns-in_err-room_row : goal.returns-in_err-room_row
returns-in_err-room_row c =
    let a = c.args in
    let p = err_from_is_err_and c.from_residual-in_err-room_row.result c.from_residual-in_err-room_row.ensures.1 in
    let f = c.in_err-room_row.ensures.value
    ∙ ap (λ (n : ℕ). room_row a.d n (length a.left_out.now) (length a.right_out.now) (length a.gaps_out.now)) c.count_pairs-number.ensures in
    rw (p.1, p.2)
    (refused_by_room a.d (readings a.left.now a.left_times.now) (readings a.right.now a.right_times.now) a.tolerance
    (outputs a.left_out.now a.right_out.now a.gaps_out.now) _ c.in_ok-readings_row.ensures.value f (λ z. absurd (omega (arith, is_numbered c.in_err-room_row.field-0.0, z))))

pub returns : goal.returns
returns c =
    let a = c.args in
    let wrote = c.write_pairs.ensures in
    let count = c.count_pairs-number in
    let ps = pairs a.tolerance a.left_times.now a.right_times.now in
    let f = c.in_ok-room_row.ensures.value
    ∙ ap (λ (n : ℕ). room_row a.d n (length a.left_out.now) (length a.right_out.now) (length a.gaps_out.now)) count.ensures in
    taken a.d (readings a.left.now a.left_times.now) (readings a.right.now a.right_times.now) a.tolerance
    (outputs a.left_out.now a.right_out.now a.gaps_out.now) count.result _ _ _ c.in_ok-readings_row.ensures.value
    f count.ensures wrote.left_out_after wrote.right_out_after
    (gaps_front a.d a.left.now a.right.now ps a.gaps_out.now _ c.in_ok-room_row.ensures.room_for_pairs.gaps wrote.gaps_out_after)
