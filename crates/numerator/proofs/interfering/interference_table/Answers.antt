-- Each turn writes the set of one more piece.
use Rattle.std.proofs.Common.{arith}
use Rattle.sets.specs.Sets.{SetOf}
use Rattle.sets.proofs.Tables.{set_below}
use Rattle.theory.specs.Paths.{interferes}
use Rattle.task.specs.Filing.{filed_task}
use Rattle.numerator.proofs.interfering.interference_table.Goals as goal

pub loop-v-preserved : goal.loop-v-preserved
loop-v-preserved c =
    let t = filed_task c.args.task.now in
    set_below (λ v s. SetOf t.pieces (interferes t v) s) c.loop-v.set-items c.loop-v.v c.interference.result (omega arith) c.loop-v.invariant c.interference.ensures
