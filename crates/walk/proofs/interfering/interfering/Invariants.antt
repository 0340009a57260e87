-- The set has those of the pieces passed that interfere.
use Rattle.std.proofs.Common.{◌&&◌, ltb}
use Rattle.sets.specs.Sets.{SetOf}
use Rattle.theory.specs.Paths.{interferes}
use Rattle.task.specs.Filing.{filed_task}
use Rattle.walk.proofs.interfering.interfering.Given as goal

abbrev pub invariant-loop-x : goal.invariant-loop-x
invariant-loop-x l = SetOf l.x (λ x. ltb l.v (filed_task l.task).pieces && interferes (filed_task l.task) l.v x) l.set
