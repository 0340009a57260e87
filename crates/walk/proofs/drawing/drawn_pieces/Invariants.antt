-- A piece for each turn.
use Rattle.std.proofs.Common.{◌≡◌, length}
use Rattle.task.specs.Filing.{entered}
use Rattle.walk.proofs.drawing.drawn_pieces.Given as goal

abbrev pub invariant-loop : goal.invariant-loop
invariant-loop l = length (entered l.entering) ≡ l.counter
