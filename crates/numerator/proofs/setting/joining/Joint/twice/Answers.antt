-- What meets v is counted by own, and what meets both ends but not v is added to it.
use Rattle.std.proofs.Common.{◌^◌, ◌<◌, get_or, arith}
use Rattle.theory.proofs.Ancestors.{ancestor_ends}
use Rattle.task.proofs.Filed.{filed_lawful}
use Rattle.numerator.specs.Joints.{task_at}
use Rattle.numerator.proofs.Relatives.{ancestor_low}
use Rattle.numerator.proofs.Weighing.{volume_shared}
use Rattle.numerator.proofs.setting.joining.Joint.twice.Goals as goal

pub offset_bounds-meets-u : goal.offset_bounds-meets-u
offset_bounds-meets-u c = omega (arith, (ancestor_low (filed_lawful c.args.self.now.setting.now.task) c.args.u c.args.self.now.v c.requires.to).0)

pub bounds-meets-u : goal.bounds-meets-u
bounds-meets-u c = (ancestor_low (filed_lawful c.args.self.now.setting.now.task) c.args.u c.args.self.now.v c.requires.to).0

pub offset_bounds-meets-w : goal.offset_bounds-meets-w
offset_bounds-meets-w c = omega (arith, (ancestor_low (filed_lawful c.args.self.now.setting.now.task) c.args.self.now.v c.args.w c.requires.on).1)

pub bounds-meets-w : goal.bounds-meets-w
bounds-meets-w c = (ancestor_low (filed_lawful c.args.self.now.setting.now.task) c.args.self.now.v c.args.w c.requires.on).1

pub returns : goal.returns
returns c =
    let j = c.args.self.now in
    let s = j.setting.now in
    let law = filed_lawful s.task in
    let fits_u : get_or s.interference c.args.u 0 < 2 ^ 64 = omega arith in
    let fits_v : get_or s.interference j.v 0 < 2 ^ 64 = omega arith in
    omega (
      arith,
      j.alone,
      c.work.ensures.value,
      volume_shared (task_at j) s.interference s.tabled c.args.u j.v c.args.w (ancestor_ends law c.args.u j.v c.requires.to).0 j.piece
          (ancestor_ends law j.v c.args.w c.requires.on).1 fits_u fits_v,
    )
