-- The last piece is no predecessor of those asked.
use Rattle.std.proofs.Common.{◌≡◌, ℕ, ◌<◌, false}
use Rattle.task.specs.Filing.{filed_task}
use Rattle.walk.proofs.walking.Path.is_complete.Given as goal

abbrev pub invariant-loop-v : goal.invariant-loop-v
invariant-loop-v l = (x : ℕ) → x < l.v → (filed_task l.self.task.now).edge l.self.last x ≡ false
