-- The table has the largest numerators of walks through the pieces taken.
use Rattle.sets.proofs.Iterating.{Within}
use Rattle.theory.specs.Inner.{Best}
use Rattle.numerator.specs.Cells.{entry}
use Rattle.numerator.specs.Settings.{task_in}
use Rattle.numerator.proofs.Taking.{Taken}
use Rattle.numerator.proofs.setting.Setting.eliminate_level.Given as goal

abbrev pub invariant-loop-v : goal.invariant-loop-v
invariant-loop-v l = record {
  inside : Within l.v-iterator.rest l.set;
  best : Best (task_in l.self) l.self.cores (Taken (task_in l.self) l.level l.v-iterator.rest) (entry (task_in l.self) l.table);
}
