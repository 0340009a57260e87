-- The cells of u with the pieces passed are written.
use Rattle.std.proofs.Common.{◌&&◌, eqb}
use Rattle.sets.proofs.Iterating.{passed, Within}
use Rattle.numerator.specs.Cells.{Wrote}
use Rattle.numerator.specs.Joints.{through}
use Rattle.numerator.proofs.setting.joining.Joint.row.Given as goal

abbrev pub invariant-loop-w : goal.invariant-loop-w
invariant-loop-w l = record {
  inside : Within l.w-iterator.rest l.self.behind;
  wrote : Wrote (λ a b. eqb l.u a && passed l.self.behind l.w-iterator.rest b) (through l.self l.initial.table) l.initial.table l.table;
}
