-- The numerator, chain and volume are those of the task; the rest follows, and so do the laws.
use Rattle.std.proofs.Common.{◌*◌, ◌/◌, refl, div-mul-le_self, arith}
use Rattle.theory.proofs.Sizes.{numerator_small}
use Rattle.task.specs.Filing.{filed_task}
use Rattle.task.proofs.Filed.{filed_lawful}
use Rattle.bound.specs.Bounds.{Bounded}
use Rattle.bound.proofs.Bounding.{bound_named, keeps_laws, percent_small}
use Rattle.bound.proofs.answers.Bound.of.Goals as goal

pub overflow_cast-result : goal.overflow_cast-result
overflow_cast-result c =
    let cores = c.args.cores in
    let said = c.in_ok-numerator.ensures in
    let n = c.in_ok-numerator.numerator in
    let small =
    percent_small c.volume-volume.result (cores * (n / cores)) c.percent.result c.volume-volume.ensures.small
    (omega (arith, numerator_small (filed_lawful c.args.task.now) cores n said.0.1 said.2, div-mul-le_self n cores)) c.percent.ensures in
    omega arith

-- the answer, and that it is what is meant
bounded : (c : goal.After-percent) → Bounded (filed_task c.args.task.now) c.args.cores (record {
  numerator = c.in_ok-numerator.numerator;
  ticks = c.in_ok-numerator.numerator / c.args.cores;
  chain = c.chain.result;
  volume = c.volume-volume.result;
  busy = c.percent.result;
})
bounded c =
    let said = c.in_ok-numerator.ensures in
    record {
      numerator = said.2;
      ticks = refl;
      named = bound_named (filed_lawful c.args.task.now) c.args.cores c.in_ok-numerator.numerator said.2;
      chain = c.chain.ensures;
      volume = c.volume-volume.ensures.value;
      busy = c.percent.ensures;
    }

pub returns : goal.returns
returns c =
    let said = c.in_ok-numerator.ensures in
    record {
      answer = (said.0, said.1, bounded c);
      laws = keeps_laws (filed_lawful c.args.task.now) c.args.cores said.0 _ (bounded c);
    }
