-- The set so far has those of the pieces passed of which true was answered.
use Rattle.sets.specs.Over.{FilterAnswer}
use Rattle.sets.proofs.Iterating.{passed, Within}
use Rattle.sets.proofs.over.filtered.Given as goal

abbrev pub invariant-loop-k : goal.invariant-loop-k
invariant-loop-k g l = Within l.k-iterator.rest l.set × FilterAnswer (passed l.set l.k-iterator.rest) (goal.F-post g l.test) l.passing
