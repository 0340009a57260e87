-- Of the parallel pieces those that are not after v.
use Rattle.task.specs.Filing.{filed_task}
use Rattle.numerator.proofs.Meeting.{interference_set}
use Rattle.numerator.proofs.interfering.interference.Goals as goal

pub returns : goal.returns
returns c = interference_set (filed_task c.args.task.now) c.args.v c.requires c.parallel.result c.not_after.result c.parallel.ensures c.not_after.ensures
