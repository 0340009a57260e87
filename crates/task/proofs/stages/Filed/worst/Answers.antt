-- A piece of the task has a worst time that fits, and past the task there is 0.
use Rattle.std.proofs.Common.{⊎_elim, arith}
use Rattle.std.proofs.lemmas.Bool.{cases_lt}
use Rattle.task.proofs.Filed.{filed_lawful}
use Rattle.task.proofs.stages.Filed.worst.Goals as goal

pub returns-clause-small : goal.returns-clause-small
returns-clause-small c =
    let f = c.args.self.now in
    ⊎_elim (λ l. omega (arith, c.of_piece.ensures.on_task 0 l, (filed_lawful f).at_most c.args.k l)) (λ l. omega (arith, c.of_piece.ensures.past l)) (cases_lt c.args.k f.tables.pieces)
