-- Its numerator alone, and its relatives as the task answers.
use Rattle.task.proofs.Filed.{filed_lawful}
use Rattle.numerator.proofs.Relatives.{ancestors_are, descendants_are}
use Rattle.numerator.proofs.setting.joining.Joint.new.Goals as goal

pub invariant_of-result : goal.invariant_of-result
invariant_of-result c =
    let law = filed_lawful c.args.setting.now.task in
    record {
      piece = c.requires;
      alone = c.alone.ensures.value;
      small = c.alone.ensures.small;
      leading = ancestors_are law c.args.v c.ancestors.result c.ancestors.ensures.set;
      led = descendants_are law c.args.v c.descendants.result c.descendants.ensures;
    }
