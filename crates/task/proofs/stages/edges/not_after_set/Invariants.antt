-- The set holds the pieces passed whose priorities are not after that of piece k.
use Rattle.std.proofs.Common.{get_or}
use Rattle.sets.specs.Sets.{SetOf}
use Rattle.task.proofs.stages.edges.not_after_set.Given as goal

abbrev pub invariant-loop-x : goal.invariant-loop-x
invariant-loop-x g l = (p : g.row.P.Denot) → SetOf l.x (λ x. g.P.Priority.not_after (get_or l.priorities x p) (get_or l.priorities l.k p)) l.set
