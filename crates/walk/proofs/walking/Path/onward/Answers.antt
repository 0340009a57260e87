-- Along an edge fewer pieces lie behind, and the path grows by at most 65,535.
use Rattle.std.proofs.Common.{arith}
use Rattle.theory.proofs.Ancestors.{fewer_below}
use Rattle.task.proofs.Filed.{filed_lawful}
use Rattle.walk.proofs.walking.Path.onward.Goals as goal

pub invariant_of-result : goal.invariant_of-result
invariant_of-result c =
    let path = c.args.self in
    let f = path.task.now in
    record {
      room = omega (arith, c.worst.ensures.small, fewer_below (filed_lawful f) path.last c.args.v c.requires, path.room);
    }

pub returns-clause-fewer : goal.returns-clause-fewer
returns-clause-fewer c = fewer_below (filed_lawful c.args.self.task.now) c.args.self.last c.args.v c.requires
