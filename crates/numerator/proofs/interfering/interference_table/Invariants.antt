-- The sets of the pieces passed stand in the table.
use Rattle.std.proofs.Common.{ℕ, ◌<◌, get_or}
use Rattle.sets.specs.Sets.{SetOf}
use Rattle.theory.specs.Paths.{interferes}
use Rattle.task.specs.Filing.{filed_task}
use Rattle.numerator.proofs.interfering.interference_table.Given as goal

abbrev pub invariant-loop-v : goal.invariant-loop-v
invariant-loop-v l =
    let t = filed_task l.task in
    (k : ℕ) → k < l.v → SetOf t.pieces (interferes t k) (get_or l.set-items k 0)
