-- `snapshot::judge::list_line` meets its contract. Assumes nothing.
use mathlib.Core.Path.{refl}
use lib.ListN.{length, drop, get_or}
use Rattle.snapshot.specs.Steps.Judge.{placed}
use Rattle.snapshot.proofs.JudgeLaws.{line_nameless, line_bad, line_good, left_nameless, left_named}
use Rattle.snapshot.proofs.judge.list_line.Goals as goal

pub returns-in_err-p : goal.returns-in_err-p
returns-in_err-p g c =
    let a = c.args in
    rw c.from_residual.ensures (record {
      told = line_nameless g.T.Cell.read (get_or a.letters 0 0) (get_or a.letters 1 0) (get_or a.letters 2 0) (length a.out.now) (drop a.at a.text.now) c.in_err-p.ensures;
      kept = refl;
      left = left_nameless g.T.Cell.read (get_or a.letters 0 0) (get_or a.letters 1 0) (get_or a.letters 2 0) (length a.out.now) (drop a.at a.text.now) _ c.in_err-p.ensures;
    })

pub returns-in_err-q : goal.returns-in_err-q
returns-in_err-q g c =
    let a = c.args in
    let l = drop a.at a.text.now in
    let z = drop c.in_ok-p.p a.text.now in
    let S = c.in_err-q.ensures in
    rw c.from_residual-in_err-q.ensures (record {
      told = line_bad g.T.Cell.read (get_or a.letters 0 0) (get_or a.letters 1 0) (get_or a.letters 2 0) (length a.out.now) l z c.in_ok-p.ensures S.told;
      kept = S.kept;
      left = left_named g.T.Cell.read (get_or a.letters 0 0) (get_or a.letters 1 0) (get_or a.letters 2 0) (length a.out.now) l _ z c.in_ok-p.ensures _ S.left;
    })

pub returns : goal.returns
returns g c =
    let a = c.args in
    let t = a.text.now in
    let l = drop a.at t in
    let z = drop c.in_ok-p.p t in
    let S = c.in_ok-q.ensures in
    record {
      told = line_good g.T.Cell.read (get_or a.letters 0 0) (get_or a.letters 1 0) (get_or a.letters 2 0) (length a.out.now) l z c.in_ok-p.ensures _ (drop c.in_ok-q.q t) (placed c.byte.result t) S.told c.byte.ensures;
      kept = S.kept;
      left = left_named g.T.Cell.read (get_or a.letters 0 0) (get_or a.letters 1 0) (get_or a.letters 2 0) (length a.out.now) l _ z c.in_ok-p.ensures _ S.left;
    }
