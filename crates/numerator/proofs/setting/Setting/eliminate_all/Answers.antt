-- No rank is above 64, so that level by level all pieces are taken.
use Rattle.std.proofs.Common.{arith}
use Rattle.task.proofs.Filed.{filed_lawful}
use Rattle.numerator.specs.Cells.{entry}
use Rattle.numerator.specs.Settings.{task_in}
use Rattle.numerator.proofs.Taking.{taken_all}
use Rattle.numerator.proofs.setting.Setting.eliminate_all.Goals as goal

pub returns : goal.returns
returns c =
    let s = c.args.self.now in
    taken_all (filed_lawful s.task) s.cores c.loop-level.level (entry (task_in s) c.loop-level.table) (omega arith) c.loop-level.invariant
