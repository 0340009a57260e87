-- Each exchange goes on from the order before it.
use Rattle.std.proofs.lemmas.List.Sorted.{IsPermutation-trans}
use Rattle.walk.proofs.drawing.shuffle.Goals as goal

pub loop-k-preserved : goal.loop-k-preserved
loop-k-preserved c = IsPermutation-trans _ _ _ c.loop-k.invariant c.swap.ensures.permutation
