-- The table has the largest numerators of walks through the pieces of smaller rank.
use Rattle.theory.specs.Inner.{Best}
use Rattle.numerator.specs.Cells.{entry}
use Rattle.numerator.specs.Settings.{task_in, Ahead}
use Rattle.numerator.proofs.setting.Setting.eliminate_all.Given as goal

abbrev pub invariant-loop-level : goal.invariant-loop-level
invariant-loop-level l = Best (task_in l.self) l.self.cores (Ahead (task_in l.self) l.level) (entry (task_in l.self) l.table)
