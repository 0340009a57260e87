-- A setting's task, what its table holds while pieces are taken, and the order in which they are. Assumes nothing.
use Rattle.std.specs.Prelude.{ℕ, ◌<◌, ◌&&◌, ◌==◌}
use Rattle.sets.specs.Sets.{count}
use Rattle.theory.specs.Tasks.{Task}
use Rattle.theory.specs.Inner.{straight, Best}
use Rattle.task.specs.Filing.{filed_task}
use Rattle.numerator.specs.Cells.{Wrote, entry}
use Rattle.numerator.specs.declared.setting.Setting.{Setting}
use Rattle.numerator.specs.declared.table.Table.{Table}

abbrev pub task_in : Setting → Task
task_in s = filed_task s.task

-- v is a piece of the task
abbrev pub Piece : Setting → ℕ → Type 0
Piece s v = v < (task_in s).pieces

-- ---- the table

-- the edges to w are written, and the edges to all pieces
abbrev pub EdgesTo : Setting → ℕ → Table → Table → Type 0
EdgesTo s w = Wrote (λ a b. (w == b) && (task_in s).ancestor a b) (straight (task_in s) s.cores)

abbrev pub Edges : Setting → Table → Table → Type 0
Edges s = Wrote (task_in s).ancestor (straight (task_in s) s.cores)

-- the table has the largest numerators of walks through allowed pieces
abbrev pub HasBest : Setting → (ℕ → Type 0) → Table → Type 0
HasBest s E m = Best (task_in s) s.cores E (entry (task_in s) m)

-- ---- the order

-- how many pieces are not after a piece in priority, itself included; shut, so that no goal spells out its terms
unfoldable pub rank : Task → ℕ → ℕ
rank t v = count 64 (λ a. t.not_after a v)

-- a piece of smaller rank than so much: those are taken first
abbrev pub Ahead : Task → ℕ → ℕ → Type 0
Ahead t level x = (x < t.pieces) × (rank t x < level)
