-- `trcf_learn::learn::write_completing` meets its contract: by its callees' promises. Assumes nothing.
use Rattle.trcf.proofs.LengthLaws.{opened, output_fits_lem}
use native.Mathlib.Omega.{arith}
use borrow.Author.Tests.{eq-eqb}
use Prim.Native.Nat.{suc}
use Rattle.trcf_learn.proofs.learn.write_completing.Goals as goal

pub returns-clause-output_after : goal.returns-clause-output_after
returns-clause-output_after c =
    let h = c.args.head in
    let q = c.requires in
    let e = eq-eqb (suc h.values_seen) h.start_normalization (omega arith) in
    rw e (opened _ c.write_deviations.ensures (output_fits_lem (q.bounded, (q.s_len, q.head_in_bounds e))))
