-- Interference sets as a table, one for each piece. Assumes nothing.
use Rattle.std.specs.Prelude.{ℕ, ◌<◌, List, slice_index}
use Rattle.sets.specs.Sets.{SetOf}
use Rattle.theory.specs.Tasks.{Task}
use Rattle.theory.specs.Paths.{interferes}

-- the table has the interference set of every piece of the task
abbrev pub Tabled : Task → List ℕ → Type 0
Tabled t table = (v : ℕ) → v < t.pieces → SetOf t.pieces (interferes t v) (slice_index table v)
