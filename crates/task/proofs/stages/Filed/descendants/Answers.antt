-- The table of ancestors, turned round.
use Rattle.std.proofs.Common.{◌∙◌}
use Rattle.task.specs.Filing.{filed_task}
use Rattle.theory.proofs.Ancestors.{ancestor_ends}
use Rattle.task.proofs.Filed.{filed_lawful, other_end}
use Rattle.task.proofs.stages.Filed.descendants.Goals as goal

pub returns : goal.returns
returns c x =
    let f = c.args.self.now in
    c.reversed.ensures x ∙ other_end f.tables.pieces (filed_task f).ancestor (ancestor_ends (filed_lawful f)) c.args.k x
