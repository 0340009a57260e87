-- The rows of the pieces passed are written.
use Rattle.std.proofs.Common.{◌&&◌}
use Rattle.sets.proofs.Iterating.{passed, Within}
use Rattle.numerator.specs.Cells.{Wrote}
use Rattle.numerator.specs.Joints.{task_at, through}
use Rattle.numerator.proofs.setting.joining.Joint.all.Given as goal

abbrev pub invariant-loop-u : goal.invariant-loop-u
invariant-loop-u l = record {
  inside : Within l.u-iterator.rest l.self.before;
  wrote : Wrote (λ a b. passed l.self.before l.u-iterator.rest a && (task_at l.self).ancestor l.self.v b) (through l.self l.initial.table) l.initial.table l.table;
}
