-- Each turn writes one more column.
use Rattle.std.proofs.Common.{◌<◌, ltb, refl, arith}
use Rattle.std.proofs.lemmas.Bool.{lt-ltb}
use Rattle.theory.proofs.Ancestors.{ancestor_ends}
use Rattle.task.proofs.Filed.{filed_lawful}
use Rattle.numerator.specs.Settings.{task_in}
use Rattle.numerator.proofs.Relatives.{implied}
use Rattle.numerator.proofs.Placing.{wrote_same, wrote_join}
use Rattle.numerator.proofs.Lines.{up_to}
use Rattle.numerator.proofs.setting.Setting.fill.Goals as goal

pub loop-w-preserved : goal.loop-w-preserved
loop-w-preserved c =
    let t = task_in c.args.self.now in
    wrote_join c.loop-w.invariant c.fill_column.ensures (λ a b _. refl) (λ a b. up_to b c.loop-w.w (t.ancestor a b))

pub returns : goal.returns
returns c =
    let s = c.args.self.now in
    let t = task_in s in
    wrote_same (λ a b. implied (ltb b c.loop-w.w) (t.ancestor a b)
    (λ h. let on : b < t.pieces = (ancestor_ends (filed_lawful s.task) a b h).1 in lt-ltb b c.loop-w.w (omega arith))) c.loop-w.invariant
