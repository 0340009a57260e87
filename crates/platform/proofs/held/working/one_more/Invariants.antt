-- The pieces passed have run one tick more.
use Rattle.std.proofs.Common.{◌≡◌, length}
use Rattle.sets.proofs.Iterating.{Within}
use Rattle.platform.proofs.Ticking.{Ticked}
use Rattle.platform.proofs.held.working.one_more.Given as goal

abbrev pub invariant-loop-k : goal.invariant-loop-k
invariant-loop-k l = Within l.k-iterator.rest l.set × (length l.more ≡ 64) × Ticked l.initial.more l.set l.k-iterator.rest l.more
