-- `snapshot_restore::lines::part_lines` meets its contract. Assumes nothing.
use native.Mathlib.Omega.{arith}
use lib.ListN.{length, drop}
use Rattle.snapshot.proofs.RunLaws.{broken}
use Rattle.snapshot.proofs.PartLaws.{parts_broke, parts_inp, parts_pnt, parts_tim, parts_all}
use Rattle.snapshot_restore.proofs.lines.part_lines.Goals as goal

pub returns-in_err-p-clause-text_after : goal.returns-in_err-p-clause-text_after
returns-in_err-p-clause-text_after c =
    let a = c.args in
    broken c.from_residual.result _ _ a.text.now _ c.from_residual.ensures.1
    (parts_broke a.internal a.n (length a.input.now) (length a.point.now) (length a.times.now) (drop a.at a.text.now) _ c.in_err-p.ensures.text_after)

pub returns-in_default : goal.returns-in_default
returns-in_default c =
    let a = c.args in
    let l = drop a.at a.text.now in
    record {
      text_after = parts_inp a.internal a.n (length a.input.now) (length a.point.now) (length a.times.now) l _ _ c.in_ok-p.ensures.text_after c.in_default.ensures.told;
      bad_bound = omega arith;
    }

pub returns-in_default-list_line : goal.returns-in_default-list_line
returns-in_default-list_line c =
    let a = c.args in
    let l = drop a.at a.text.now in
    record {
      text_after = parts_pnt a.internal a.n (length a.input.now) (length a.point.now) (length a.times.now) l _ _ c.in_ok-p.ensures.text_after _ _ c.in-Some.ensures.told
          c.in_default-list_line.ensures.told;
      bad_bound = omega arith;
    }

pub returns-in_default-tim_line : goal.returns-in_default-tim_line
returns-in_default-tim_line c =
    let a = c.args in
    let l = drop a.at a.text.now in
    record {
      text_after = parts_tim a.internal a.n (length a.input.now) (length a.point.now) (length a.times.now) l _ _ c.in_ok-p.ensures.text_after _ _ c.in-Some.ensures.told
          _ _ c.in-Some-list_line.ensures.told c.in_default-tim_line.ensures.told;
      bad_bound = omega arith;
    }

pub returns : goal.returns
returns c =
    let a = c.args in
    let l = drop a.at a.text.now in
    record {
      text_after = parts_all a.internal a.n (length a.input.now) (length a.point.now) (length a.times.now) l _ _ c.in_ok-p.ensures.text_after _ _ c.in-Some.ensures.told
          _ _ c.in-Some-list_line.ensures.told _ _ c.in-Some-tim_line.ensures.told;
      bad_bound = tt;
    }
