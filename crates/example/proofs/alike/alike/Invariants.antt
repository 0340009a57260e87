-- The pieces entered are as many as the turns taken.
use Rattle.std.proofs.Common.{◌≡◌, replicate}
use Rattle.task.specs.Filing.{entered}
use Rattle.example.proofs.alike.alike.Given as goal

abbrev pub invariant-loop : goal.invariant-loop
invariant-loop l = entered l.entering ≡ replicate l.counter l.worst
