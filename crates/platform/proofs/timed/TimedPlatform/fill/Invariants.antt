-- The rows below k fit, and stand in both tables.
use Rattle.std.proofs.Common.{ℕ, ◌<◌, Ok}
use Rattle.platform.specs.Timed.{row_at, RowSays}
use Rattle.platform.proofs.Copying.{Copied}
use Rattle.platform.proofs.timed.TimedPlatform.fill.Given as goal

abbrev pub invariant-loop-k : goal.invariant-loop-k
invariant-loop-k l =
    ((j : ℕ) → j < l.k → RowSays (row_at l.rows j) (Ok tt))
    × Copied (λ j. (row_at l.rows j).worst) l.k l.worst × Copied (λ j. (row_at l.rows j).time) l.k l.times
