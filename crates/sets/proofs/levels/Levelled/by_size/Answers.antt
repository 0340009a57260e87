-- Each turn puts one more piece at its level.
use Rattle.std.proofs.Common.{arith}
use Rattle.sets.proofs.Counts.{size_few}
use Rattle.sets.proofs.Iterating.{passed, passed_more, passed_not, within_more}
use Rattle.sets.proofs.Answering.{size_more}
use Rattle.sets.proofs.levels.Levelled.by_size.Goals as goal

pub loop-k-preserved : goal.loop-k-preserved
loop-k-preserved g c =
    let taken = c.in-Some.ensures.steps in
    let set = c.args.pieces in
    let rest = c.loop-k.k-iterator.rest in
    let next = c.next.new.self.rest in
    let k = c.in-Some.k in
    let inside = c.loop-k.invariant.0 in (
      within_more set rest next k inside taken.1.0 taken.2,
      size_more (passed set rest) (passed set next) k (passed_more set rest next k inside taken.1.0 taken.2) (passed_not set rest k taken.1.0)
          (goal.F-post g c.args.sets) c.sets.result c.size.result c.loop-k.levels c.put.new.self c.loop-k.invariant.1 c.sets.ensures c.size.ensures
          (c.put.ensures.there (omega (arith, size_few c.sets.result, c.size.ensures)) taken.0),
    )
