-- Known are the pieces from the level on.
use Rattle.task.specs.Filing.{filed_task}
use Rattle.chains.specs.Chains.{deep, Known}
use Rattle.chains.proofs.remaining.Given as goal

abbrev pub invariant-loop-level : goal.invariant-loop-level
invariant-loop-level l = Known (filed_task l.task) (deep (filed_task l.task) l.level) l.lengths
