-- The edges entered are those in front of the next.
use Rattle.std.proofs.Common.{take}
use Rattle.task.specs.Filing.{linking_task}
use Rattle.example.specs.Lists.{Joined}
use Rattle.example.proofs.lists.link_all.Given as goal

abbrev pub invariant-loop-before : goal.invariant-loop-before
invariant-loop-before l = Joined (linking_task l.initial.linking) (take l.before-index l.edges) (linking_task l.linking)
