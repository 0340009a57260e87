-- One piece adds at most 65,535, and fewer pieces than 64 lie behind it.
use Rattle.std.proofs.Common.{arith}
use Rattle.theory.proofs.Ancestors.{below_few}
use Rattle.task.proofs.Filed.{filed_lawful}
use Rattle.walk.proofs.walking.Path.starting.Goals as goal

pub invariant_of-result : goal.invariant_of-result
invariant_of-result c =
    let law = filed_lawful c.args.task.now in
    record { room = omega (arith, c.worst.ensures.small, below_few law c.args.v c.requires, law.few) }
