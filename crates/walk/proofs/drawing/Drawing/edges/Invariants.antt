-- The pieces stay.
use Rattle.std.proofs.Common.{◌≡◌}
use Rattle.walk.proofs.drawing.Drawing.edges.Given as goal

abbrev pub invariant-loop-before : goal.invariant-loop-before
invariant-loop-before l = l.self.pieces ≡ l.fn.self.pieces

abbrev pub invariant-loop-k : goal.invariant-loop-k
invariant-loop-k l = l.self.pieces ≡ l.fn.self.pieces
