-- The pieces below the number of pieces are all there are.
use Rattle.std.proofs.Common.{◌∙◌}
use Rattle.task.proofs.Filed.{filed_lawful}
use Rattle.numerator.proofs.Adding.{volume_whole}
use Rattle.numerator.proofs.totals.volume.Goals as goal

pub returns : goal.returns
returns c =
    record {
      value = c.work.ensures.value ∙ volume_whole (filed_lawful c.args.task.now) c.pieces.result c.first.result c.pieces.ensures c.first.ensures;
      small = c.work.ensures.small;
    }
