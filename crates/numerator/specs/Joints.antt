-- What a table becomes once walks may go through the piece of a joint. Assumes nothing.
use Rattle.std.specs.Prelude.{ℕ, ◌&&◌, ◌==◌}
use Rattle.theory.specs.Tasks.{Task}
use Rattle.theory.specs.Inner.{stepped}
use Rattle.numerator.specs.Cells.{Wrote, entry}
use Rattle.numerator.specs.Settings.{task_in}
use Rattle.numerator.specs.declared.setting.joining.Joint.{Joint}
use Rattle.numerator.specs.declared.table.Table.{Table}

abbrev pub task_at : Joint → Task
task_at j = task_in j.setting.now

-- what the entry of a pair becomes
abbrev pub through : Joint → Table → ℕ → ℕ → ℕ
through j m = stepped (task_at j) j.setting.now.cores (entry (task_at j) m) j.v

-- that is written for u with all that the piece leads to, and for all that leads to it with all that it leads to
abbrev pub RowThrough : Joint → ℕ → Table → Table → Type 0
RowThrough j u old = Wrote (λ a b. (u == a) && (task_at j).ancestor j.v b) (through j old) old

abbrev pub AllThrough : Joint → Table → Table → Type 0
AllThrough j old = Wrote (λ a b. (task_at j).ancestor a j.v && (task_at j).ancestor j.v b) (through j old) old
