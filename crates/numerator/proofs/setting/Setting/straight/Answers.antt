-- The cores times both worst times, and the volume of both interference sets; nothing where there is no edge.
use Rattle.std.proofs.Common.{◌≡◌, ℕ, ◌*◌, true, [], sym, ap, ◌∙◌, arith}
use Rattle.std.proofs.lemmas.Bool.{cond-true}
use Rattle.theory.specs.Inner.{weight}
use Rattle.task.proofs.Filed.{filed_lawful, worst_is}
use Rattle.numerator.specs.Settings.{task_in}
use Rattle.numerator.proofs.Relatives.{predecessors_are}
use Rattle.numerator.proofs.Weighing.{volume_straight}
use Rattle.numerator.proofs.setting.Setting.straight.Goals as goal

pub returns : goal.returns
returns c =
    let s = c.args.self.now in
    let t = task_in s in
    let law = filed_lawful s.task in
    let u = c.args.u in
    let w = c.args.w in
    let edge : t.edge u w ≡ true = sym (c.has.ensures ∙ predecessors_are law w c.predecessors.result c.predecessors.ensures u) ∙ c.if-not-has.false in
    let on = law.ends u w edge in
    let first = ap (λ (n : ℕ). s.cores * n) (worst_is s.task u c.worst.result on.0 c.worst.ensures.told) in
    let second = ap (λ (n : ℕ). s.cores * n) (worst_is s.task w c.worst-2.result on.1 c.worst-2.ensures.told) in
    omega (arith, c.work.ensures.value, volume_straight t s.interference s.tabled u w on.0 on.1)
    ∙ sym (cond-true (t.edge u w) (weight t s.cores u [] w) 0 edge)
