-- What is added up is the worst times of the pieces passed that are in the set.
use Rattle.std.proofs.Common.{◌≡◌, ◌*◌, ◌≤◌, cond}
use Rattle.sets.specs.Sets.{member, sum}
use Rattle.task.specs.Filing.{filed_task}
use Rattle.walk.proofs.interfering.work.Given as goal

abbrev pub invariant-loop-k : goal.invariant-loop-k
invariant-loop-k l = (l.total ≡ sum l.k (λ j. cond (member l.set j) ((filed_task l.task).worst j) 0)) × (l.total ≤ 65535 * l.k)
