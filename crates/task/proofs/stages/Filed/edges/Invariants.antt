-- The edges counted are those to the pieces passed.
use Rattle.std.proofs.Common.{◌≡◌}
use Rattle.task.proofs.Filed.{edges_below}
use Rattle.task.proofs.stages.Filed.edges.Given as goal

abbrev pub invariant-loop-predecessors : goal.invariant-loop-predecessors
invariant-loop-predecessors l = l.edges ≡ edges_below l.self l.predecessors-index
