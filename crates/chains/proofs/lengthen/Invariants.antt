-- Known are the deeper pieces, and those of the level that were passed.
use Rattle.std.proofs.Common.{◌+◌, ◌||◌}
use Rattle.sets.proofs.Iterating.{passed, Within}
use Rattle.task.specs.Filing.{filed_task}
use Rattle.chains.specs.Chains.{deep, Known}
use Rattle.chains.proofs.lengthen.Given as goal

abbrev pub invariant-loop-v : goal.invariant-loop-v
invariant-loop-v l =
    Within l.v-iterator.rest l.set
    × Known (filed_task l.task) (λ v. deep (filed_task l.task) (l.level + 1) v || passed l.set l.v-iterator.rest v) l.lengths
