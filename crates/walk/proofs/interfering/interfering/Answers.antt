-- Each turn adds the next piece where it interferes.
use Rattle.std.proofs.Common.{ℕ, Bool, ◌&&◌, ltb, arith}
use Rattle.sets.proofs.Members.{set_more}
use Rattle.theory.specs.Paths.{interferes}
use Rattle.task.specs.Filing.{filed_task}
use Rattle.task.specs.declared.stages.Filed.{Filed}
use Rattle.task.proofs.Filed.{filed_lawful}
use Rattle.walk.proofs.interfering.interfering.Goals as goal

abbrev wanted : Filed → ℕ → ℕ → Bool
wanted f v x = ltb v (filed_task f).pieces && interferes (filed_task f) v x

pub loop-x-preserved : goal.loop-x-preserved
loop-x-preserved c =
    set_more c.loop-x.x c.loop-x.set c.with-set.result (wanted c.args.task.now c.args.v) c.interferes.result
    c.loop-x.invariant c.interferes.ensures (c.with-set.ensures.added (omega (arith, (filed_lawful c.args.task.now).few)))
