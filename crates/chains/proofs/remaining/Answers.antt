-- From the deepest level up: no piece is at level 64, and below level 0 there is none.
use Rattle.task.proofs.Filed.{filed_lawful}
use Rattle.chains.proofs.Knowing.{known_start}
use Rattle.chains.proofs.remaining.Goals as goal

pub loop-level-init : goal.loop-level-init
loop-level-init c = known_start (filed_lawful c.args.task.now)
