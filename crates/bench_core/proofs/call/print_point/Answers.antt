use Rattle.bench_core.proofs.PrintLaws.{point_line}
use Rattle.bench_core.specs.Bench.{dimension_of}
use Rattle.bench_core.proofs.call.print_point.Goals as goal

pub returns : goal.returns
unfolding dimension_of
returns c =
    let a = c.args in
    point_line a.head a.point.now a.out.now c.get_dimension.result c.min-n.result c.singles_line.result c.requires c.get_dimension.ensures c.min-n.ensures
    c.singles_line.ensures c.unwrap_or.ensures
