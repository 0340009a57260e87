-- The sets of the pieces passed are written, and the others are empty.
use Rattle.std.proofs.Common.{◌≡◌, length, get_or}
use Rattle.task.specs.Tables.{Columns, EmptyFrom}
use Rattle.task.proofs.stages.edges.ranking.Given as goal

abbrev pub invariant-loop-k : goal.invariant-loop-k
invariant-loop-k g l =
    (length l.table ≡ 64)
    × ((p : g.row.P.Denot) → Columns (length l.priorities) (λ x y. g.P.Priority.not_after (get_or l.priorities x p) (get_or l.priorities y p)) l.k l.table)
    × EmptyFrom l.k l.table
