-- How deadlines compare. Assumes nothing.
use Rattle.std.specs.Prelude.{Bool, nat_le}
use Rattle.task_tests.specs.declared.deadlines.Deadline.{Deadline}

-- the sooner deadline is ahead
abbrev pub sooner_or_same : Deadline → Deadline → Bool
sooner_or_same a b = nat_le a.tick b.tick
