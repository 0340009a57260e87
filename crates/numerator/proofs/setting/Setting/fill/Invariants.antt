-- The columns of the pieces passed are written.
use Rattle.std.proofs.Common.{◌&&◌, ltb}
use Rattle.theory.specs.Inner.{straight}
use Rattle.numerator.specs.Cells.{Wrote}
use Rattle.numerator.specs.Settings.{task_in}
use Rattle.numerator.proofs.setting.Setting.fill.Given as goal

abbrev pub invariant-loop-w : goal.invariant-loop-w
invariant-loop-w l = Wrote (λ a b. ltb b l.w && (task_in l.self).ancestor a b) (straight (task_in l.self) l.self.cores) l.initial.table l.table
