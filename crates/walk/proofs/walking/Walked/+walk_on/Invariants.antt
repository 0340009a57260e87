-- Along an edge fewer pieces lie behind.
use Rattle.theory.specs.Tasks.{below}
use Rattle.task.specs.Filing.{filed_task}
use Rattle.walk.proofs.walking.Walked.+walk_on.Given as goal

abbrev pub decreases-walk_on : goal.decreases-walk_on
decreases-walk_on l = below (filed_task l.path.task.now) l.path.last
