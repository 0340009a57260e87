-- The pieces entered are those in front of the next.
use Rattle.std.proofs.Common.{◌≡◌, take}
use Rattle.task.specs.Filing.{entered}
use Rattle.example.proofs.lists.enter_all.Given as goal

abbrev pub invariant-loop-w : goal.invariant-loop-w
invariant-loop-w l = entered l.entering ≡ take l.w-index l.worst
