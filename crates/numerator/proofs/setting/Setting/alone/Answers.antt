-- The cores times its worst time, and the volume of its interference set.
use Rattle.std.proofs.Common.{ℕ, ◌*◌, ap, arith}
use Rattle.theory.proofs.Sizes.{product_small}
use Rattle.task.proofs.Filed.{filed_lawful, worst_is}
use Rattle.numerator.specs.Settings.{task_in}
use Rattle.numerator.proofs.Weighing.{volume_alone}
use Rattle.numerator.proofs.setting.Setting.alone.Goals as goal

pub returns : goal.returns
returns c =
    let s = c.args.self.now in
    let t = task_in s in
    let v = c.args.v in
    let product = ap (λ (n : ℕ). s.cores * n) (worst_is s.task v c.worst.result c.requires c.worst.ensures.told) in
    record {
      value = omega (arith, c.work.ensures.value, volume_alone t s.interference s.tabled v c.requires);
      small = omega (arith, c.work.ensures.small, product_small (filed_lawful s.task) s.cores v s.most c.requires);
    }
