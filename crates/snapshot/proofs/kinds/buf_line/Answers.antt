-- `snapshot::kinds::buf_line` meets its contract. Assumes nothing.
use mathlib.Core.Path.{refl, sym, ◌∙◌}
use lib.ListN.{drop, length}
use Rattle.snapshot.proofs.JudgeLaws.{buf_left_nameless, buf_left_timeless, buf_left}
use Rattle.snapshot.proofs.LineTests.{buf_nameless, buf_timeless, buf_bad, buf_early, buf_infinite, buf_endless, buf_good}
use Rattle.snapshot.proofs.kinds.buf_line.Goals as goal
use Rattle.snapshot.proofs.kinds.buf_line.Goals.{then-time-past-via-then-time-past, then-time-past-via-else-time-past+then-not-all_finite}

pub returns-in_err-p : goal.returns-in_err-p
returns-in_err-p c =
    let a = c.args in
    let l = drop a.at a.text.now in
    let e = c.in_err-p.ensures in
    rw c.from_residual.ensures (record { told = buf_nameless (length a.out.now) a.past l e; kept = refl; left = buf_left_nameless (length a.out.now) l _ e })

pub returns-in_err-time : goal.returns-in_err-time
returns-in_err-time c =
    let a = c.args in
    let l = drop a.at a.text.now in
    let e = c.in_ok-p.ensures in
    let h = sym c.in_err-time.ensures in
    rw c.from_residual-in_err-time.ensures (record { told = buf_timeless (length a.out.now) a.past l _ e h; kept = refl; left = buf_left_timeless (length a.out.now) l _ _ e h })

pub returns-in_err-r : goal.returns-in_err-r
returns-in_err-r c =
    let a = c.args in
    let l = drop a.at a.text.now in
    let d = length a.out.now in
    let e = c.in_ok-p.ensures in
    let h = sym c.in_ok-time.ensures in
    let S = c.in_err-r.ensures in
    rw c.from_residual-in_err-r.ensures (record { told = buf_bad d a.past l _ e _ _ h S.told; kept = S.kept; left = buf_left d l _ _ e _ _ h _ S.left })

pub returns-then-time-past : goal.returns-then-time-past
returns-then-time-past c =
    let a = c.args in
    let l = drop a.at a.text.now in
    let d = length a.out.now in
    let e = c.in_ok-p.ensures in
    let h = sym c.in_ok-time.ensures in
    let S = c.in_ok-r.ensures in
    record {
      told = elim c.then-time-past.branch [
        | then-time-past-via-then-time-past w ↦ buf_early d a.past l _ e _ _ h _ _ S.told w.if-time-past.true
        | then-time-past-via-else-time-past+then-not-all_finite w ↦
            buf_infinite d a.past l _ e _ _ h _ _ S.told w.if-time-past.false (sym w.all_finite.ensures ∙ w.if-not-all_finite.true)
      ];
      kept = S.kept;
      left = buf_left d l _ _ e _ _ h _ S.left;
    }

pub returns-in_err-end : goal.returns-in_err-end
returns-in_err-end c =
    let a = c.args in
    let l = drop a.at a.text.now in
    let d = length a.out.now in
    let e = c.in_ok-p.ensures in
    let h = sym c.in_ok-time.ensures in
    let S = c.in_ok-r.ensures in
    rw c.from_residual-in_err-end.ensures (record { told = buf_endless d a.past l _ e _ _ h _ _ S.told c.in_err-end.ensures; kept = S.kept; left = buf_left d l _ _ e _ _ h _ S.left })

pub returns : goal.returns
returns c =
    let a = c.args in
    let l = drop a.at a.text.now in
    let d = length a.out.now in
    let e = c.in_ok-p.ensures in
    let h = sym c.in_ok-time.ensures in
    let S = c.in_ok-r.ensures in
    record {
      told = buf_good d a.past l _ e _ _ h _ _ S.told c.if-time-past.false (sym c.all_finite.ensures ∙ c.if-not-all_finite.false) _ c.in_ok-end.ensures;
      kept = S.kept;
      left = buf_left d l _ _ e _ _ h _ S.left;
    }
