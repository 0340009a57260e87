-- The worst times of the members are those of the task's pieces among them.
use Rattle.std.proofs.Common.{◌≡◌, ◌∙◌, rules, arith}
use Rattle.sets.specs.Sets.{sum_over}
use Rattle.sets.proofs.Answering.{sum_is}
use Rattle.task.specs.Filing.{filed_task}
use Rattle.task.proofs.Filed.{filed_lawful}
use Rattle.numerator.proofs.Adding.{time, volume_over, over_small}
use Rattle.numerator.proofs.totals.work.Goals as goal

summed : (c : goal.After-sum_over) → c.sum_over.result ≡ sum_over c.args.set (time (filed_task c.args.task.now))
summed c = sum_is c.args.set c.sum_over.result (time (filed_task c.args.task.now)) c.sum_over.ensures (λ k r h said. search rules)

pub returns : goal.returns
returns c =
    let law = filed_lawful c.args.task.now in
    record { value = summed c ∙ volume_over law c.args.set; small = omega (arith, summed c, over_small law c.args.set) }
