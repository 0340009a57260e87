-- The ancestors of w are asked, whose cells with w are entries.
use Rattle.std.proofs.Common.{◌≡◌, sym, ◌∙◌, rules}
use Rattle.sets.specs.Sets.{member}
use Rattle.sets.proofs.Bests.{largest_same}
use Rattle.sets.proofs.Answering.{largest_is}
use Rattle.task.proofs.Filed.{filed_lawful}
use Rattle.numerator.specs.Cells.{cell, entry}
use Rattle.numerator.specs.Settings.{task_in}
use Rattle.numerator.proofs.Relatives.{ancestors_are}
use Rattle.numerator.proofs.Stepping.{entry_read}
use Rattle.numerator.proofs.setting.Setting.arriving.Goals as goal

pub returns : goal.returns
returns c =
    let t = task_in c.args.self.now in
    let m = c.args.table.now in
    let w = c.args.w in
    let before = c.ancestors.result in
    let are = ancestors_are (filed_lawful c.args.self.now.task) w before c.ancestors.ensures.set in
    largest_same (member before) (λ u. t.ancestor u w) (λ u. entry t m u w) c.largest_over.result (λ u. sym (are u))
    (largest_is (λ u. entry t m u w) c.largest_over.result c.largest_over.ensures
    (λ u r h said. let read : r ≡ cell m u w = search rules in read ∙ sym (entry_read t m u w (sym (are u) ∙ h))))
