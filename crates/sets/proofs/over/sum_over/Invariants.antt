-- The sum so far is that of the pieces passed; and there is room for what is to come, since no value is above the largest `u32`.
use Rattle.std.proofs.Common.{◌+◌, ◌*◌, ◌^◌, ◌≤◌}
use Rattle.sets.specs.Sets.{size_of}
use Rattle.sets.proofs.Iterating.{passed, Within}
use Rattle.sets.proofs.Answering.{SumSoFar}
use Rattle.sets.proofs.over.sum_over.Given as goal

abbrev pub invariant-loop-k : goal.invariant-loop-k
invariant-loop-k g l =
    Within l.k-iterator.rest l.set
    × (l.sum + size_of l.k-iterator.rest * 2 ^ 32 ≤ 2 ^ 38)
    × SumSoFar (passed l.set l.k-iterator.rest) (goal.F-post g l.value) l.sum
