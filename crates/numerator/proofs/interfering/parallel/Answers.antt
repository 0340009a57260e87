-- Parallel are all pieces but v, its ancestors and its descendants.
use Rattle.std.proofs.Common.{◌^◌, ◌<◌, arith}
use Rattle.task.specs.Filing.{filed_task}
use Rattle.task.proofs.Filed.{filed_lawful}
use Rattle.numerator.proofs.Meeting.{parallel_set}
use Rattle.numerator.proofs.interfering.parallel.Goals as goal

pub returns : goal.returns
returns c =
    let f = c.args.task.now in
    let few = (filed_lawful f).few in
    let fits_all : c.first.result < 2 ^ 64 = omega arith in
    let fits_related : c.with-related.result < 2 ^ 64 = omega arith in
    parallel_set (filed_task f) c.args.v c.requires c.pieces.result c.first.result c.ancestors.result c.descendants.result c.with-related.result
    c.pieces.ensures few fits_all fits_related c.first.ensures c.ancestors.ensures.set c.descendants.ensures (c.with-related.ensures.added (omega arith))
