-- Each set is that of all pieces.
use Rattle.std.proofs.Common.{ltb, get_or, rules, arith}
use Rattle.sets.specs.Sets.{SetOf}
use Rattle.task.proofs.Tables.{all_below}
use Rattle.task.proofs.stages.pieces.all_equal.Goals as goal

pub returns-clause-sets : goal.returns-clause-sets
returns-clause-sets c y h =
    let said = c.table_of.ensures.pieces y (omega (arith, c.requires)) h in
    let all : SetOf 64 (λ k. ltb k c.args.n) (get_or c.table_of.result y 0) = search rules in
    all_below c.args.n (get_or c.table_of.result y 0) c.requires all
