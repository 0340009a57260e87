-- The largest so far is the largest over the pieces passed.
use Rattle.sets.specs.Over.{LargestAnswer}
use Rattle.sets.proofs.Iterating.{passed, Within}
use Rattle.sets.proofs.over.largest_over.Given as goal

abbrev pub invariant-loop-k : goal.invariant-loop-k
invariant-loop-k g l = Within l.k-iterator.rest l.set × LargestAnswer (passed l.set l.k-iterator.rest) (goal.F-post g l.value) l.largest
