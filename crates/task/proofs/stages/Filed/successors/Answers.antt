-- The table of predecessors, turned round.
use Rattle.std.proofs.Common.{◌∙◌}
use Rattle.task.specs.Filing.{filed_task}
use Rattle.task.proofs.Filed.{filed_lawful, other_end}
use Rattle.task.proofs.stages.Filed.successors.Goals as goal

pub returns : goal.returns
returns c x =
    let f = c.args.self.now in
    c.reversed.ensures x ∙ other_end f.tables.pieces (filed_task f).edge (filed_lawful f).ends c.args.k x
