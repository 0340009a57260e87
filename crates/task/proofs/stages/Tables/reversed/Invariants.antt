-- The set has those of the pieces passed whose sets have piece k.
use Rattle.sets.specs.Sets.{member, SetOf}
use Rattle.std.proofs.Common.{get_or}
use Rattle.task.proofs.stages.Tables.reversed.Given as goal

abbrev pub invariant-loop-x : goal.invariant-loop-x
invariant-loop-x l = SetOf l.x (λ x. member (get_or l.sets x 0) l.k) l.having
