-- `settle_core::settle::print_pair` meets its contract. Assumes nothing.
use lib.Ieee.{nan}
use Rattle.std.specs.Prelude.{is_some}
use Rattle.std.specs.Option.{unwrap_or}
use native.Mathlib.Omega.{arith}
use Prim.Native.Nat.{◌+◌, ◌≤◌}
use Rattle.trcf.specs.Settings.{whole_max}
use Rattle.snapshot.specs.Read.{bytes_of_line}
use Rattle.snapshot.proofs.WriteLaws.{wrote_is}
use Rattle.snapshot_save.specs.Line.{optional_line}
use Rattle.snapshot_save.proofs.OptionalLaws.{optional_size}
use Rattle.settling.specs.Settling.{run_of}
use Rattle.settling.specs.Steps.{signal_of}
use Rattle.settle_core.specs.Steps.{pair_settings}
use Rattle.settle_core.proofs.PrintLaws.{noted_line_lem, long_is, line_printed}
use Rattle.settle_core.proofs.settle.print_pair.Goals as goal

pub overflow_add-result : goal.overflow_add-result
overflow_add-result c =
    let a = c.args in
    let r = c.unwrap_or-ready.result in
    let k = is_some c.noted-s.result.largest in
    let x = unwrap_or c.noted-s.result.largest nan in
    let o = c.optional_line-line in
    let h : r ≤ whole_max = omega arith in
    let z = optional_size (49 + a.i) r k x h in
    omega (
      arith,
      z,
      long_is a.out.now a.at (bytes_of_line (optional_line (49 + a.i) r k x)) _ o.result c.unwrap_or.result c.unwrap_or.ensures c.requires.at_in_bounds z o.ensures,
      c.requires.at_in_bounds,
    )

pub returns : goal.returns
returns c =
    let a = c.args in
    let s = c.noted-s in
    let r = c.unwrap_or-ready.result in
    let k = is_some c.noted-s.result.largest in
    let x = unwrap_or c.noted-s.result.largest nan in
    let o = c.optional_line-line in
    let h : r ≤ whole_max = omega arith in
    let z = optional_size (49 + a.i) r k x h in
    let t = bytes_of_line (optional_line (49 + a.i) r k x) in
    record {
      wrote = wrote_is
          (noted_line_lem a.i a.signal.readings r s.result (run_of (pair_settings a.p) (signal_of a.signal)).noted _ c.requires.i_bound c.unwrap_or-ready.ensures s.ensures)
          (line_printed a.out.now a.at t _ o.result c.unwrap_or.result c.unwrap_or.ensures c.requires.at_in_bounds z o.ensures);
      upper_bound = omega (arith, z, long_is a.out.now a.at t _ o.result c.unwrap_or.result c.unwrap_or.ensures c.requires.at_in_bounds z o.ensures);
    }
