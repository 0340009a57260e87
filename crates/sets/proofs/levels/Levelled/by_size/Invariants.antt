-- The pieces passed stand at their levels, and no other piece anywhere.
use Rattle.sets.specs.Levels.{BySize}
use Rattle.sets.proofs.Iterating.{passed, Within}
use Rattle.sets.proofs.levels.Levelled.by_size.Given as goal

abbrev pub invariant-loop-k : goal.invariant-loop-k
invariant-loop-k g l = Within l.k-iterator.rest l.pieces × BySize (passed l.pieces l.k-iterator.rest) (goal.F-post g l.sets) l.levels
