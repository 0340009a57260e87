-- The numbers stay, in another order.
use Rattle.std.proofs.Common.{IsPermutation}
use Rattle.walk.proofs.drawing.shuffle.Given as goal

abbrev pub invariant-loop-k : goal.invariant-loop-k
invariant-loop-k l = IsPermutation l.initial.order l.order
