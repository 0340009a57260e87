-- The set is the table's, which by its type is exactly what leads there.
use Rattle.std.proofs.Common.{arith}
use Rattle.std.proofs.lemmas.Grind.{common_steps}
use Rattle.task.specs.Filing.{filed_task, Related}
use Rattle.task.proofs.Filed.{filed_lawful, related_leads}
use Rattle.task.proofs.stages.Filed.ancestors.Goals as goal

pub returns-clause-leads : goal.returns-clause-leads
returns-clause-leads c =
    let f = c.args.self.now in
    let set : Related (filed_task f) (filed_task f).ancestor c.args.k c.of_piece.result = grind (arith, common_steps) in
    related_leads (filed_lawful f) c.args.k c.of_piece.result set
