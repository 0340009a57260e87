-- Each turn writes the chain of one more piece of the level: all that follow it are deeper, so that theirs are known.
use Rattle.std.proofs.Common.{arith}
use Rattle.sets.proofs.Iterating.{within_more}
use Rattle.task.proofs.Filed.{filed_lawful}
use Rattle.chains.proofs.Knowing.{level_fits, level_turn}
use Rattle.chains.proofs.lengthen.Goals as goal

pub overflow_add-lengths : goal.overflow_add-lengths
overflow_add-lengths c =
    let taken = c.in-Some.ensures.steps in
    omega (
      arith,
      level_fits (filed_lawful c.args.task.now) c.args.levels.now c.requires.sorted c.args.level c.at-set.result c.at-set.ensures
          c.loop-v.v-iterator.rest c.next.new.self.rest c.in-Some.v c.loop-v.invariant.0 taken.1.0 taken.2 c.loop-v.lengths c.loop-v.invariant.1
          c.successors.result c.longest_of.result c.worst.result c.longest_of.ensures c.worst.ensures.told,
    )

pub loop-v-preserved : goal.loop-v-preserved
loop-v-preserved c =
    let taken = c.in-Some.ensures.steps in
    let rest = c.loop-v.v-iterator.rest in
    let next = c.next.new.self.rest in (
      within_more c.at-set.result rest next c.in-Some.v c.loop-v.invariant.0 taken.1.0 taken.2,
      level_turn (filed_lawful c.args.task.now) c.args.levels.now c.requires.sorted c.args.level c.at-set.result c.at-set.ensures
          rest next c.in-Some.v c.loop-v.invariant.0 taken.1.0 taken.2 c.loop-v.lengths c.loop-v.invariant.1
          c.successors.result c.longest_of.result c.worst.result c.longest_of.ensures c.worst.ensures.told (omega arith) c.successors.ensures,
    )
