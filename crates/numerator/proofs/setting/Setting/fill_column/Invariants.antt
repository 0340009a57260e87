-- The cells of the ancestors passed are written.
use Rattle.std.proofs.Common.{◌&&◌, eqb}
use Rattle.sets.proofs.Iterating.{passed, Within}
use Rattle.theory.specs.Inner.{straight}
use Rattle.numerator.specs.Cells.{Wrote}
use Rattle.numerator.specs.Settings.{task_in}
use Rattle.numerator.proofs.setting.Setting.fill_column.Given as goal

abbrev pub invariant-loop-u : goal.invariant-loop-u
invariant-loop-u l = record {
  inside : Within l.u-iterator.rest l.before;
  wrote : Wrote (λ a b. eqb l.w b && passed l.before l.u-iterator.rest a) (straight (task_in l.self) l.self.cores) l.initial.table l.table;
}
