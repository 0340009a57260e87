-- The pieces stay.
use Rattle.std.proofs.Common.{◌≡◌}
use denote.Param.Always.{always_mut}
use Rattle.walk.proofs.drawing.Drawing.rank.Given as goal

abbrev pub invariant-loop-p : goal.invariant-loop-p
invariant-loop-p g l = (always_mut g.F.FnMut l.initial.drawn → always_mut g.F.FnMut l.drawn) × (l.self.pieces ≡ l.fn.self.pieces)
