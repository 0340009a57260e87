-- Each piece of the task is asked.
use Rattle.std.proofs.Common.{ℕ, ltb, subst, rules}
use Rattle.sets.specs.Sets.{SetOf}
use Rattle.task.proofs.Filed.{filed_lawful}
use Rattle.numerator.specs.Cells.{entry}
use Rattle.numerator.specs.Settings.{task_in}
use Rattle.numerator.proofs.Stepping.{entry_none}
use Rattle.numerator.proofs.Peaks.{greatest_of}
use Rattle.numerator.proofs.setting.Setting.greatest.Goals as goal

pub returns : goal.returns
returns c =
    let s = c.args.self.now in
    let t = task_in s in
    let m = c.args.table.now in
    let all = subst (λ (n : ℕ). SetOf 64 (λ k. ltb k n) c.first.result) c.pieces.ensures c.first.ensures in
    greatest_of (filed_lawful s.task) s.cores s.some (entry t m) (entry_none t m) c.first.result c.largest_over.result all
    (λ w r on_task said. search rules) c.largest_over.ensures
