-- Each turn writes the cell of one more ancestor of w.
use Rattle.std.proofs.Common.{◌&&◌, eqb, ap, ◌∙◌}
use mathlib.Core.Bool.{and_comm}
use Rattle.std.proofs.lemmas.Bool.{eqb-true}
use Rattle.sets.specs.Sets.{member}
use Rattle.sets.proofs.Iterating.{within_more}
use Rattle.task.proofs.Filed.{filed_lawful}
use Rattle.numerator.specs.Settings.{task_in}
use Rattle.numerator.proofs.Relatives.{ancestors_are}
use Rattle.numerator.proofs.Lines.{and_under, line_turn, line_end}
use Rattle.numerator.proofs.setting.Setting.fill_column.Goals as goal

pub loop-u-preserved : goal.loop-u-preserved
loop-u-preserved c =
    let taken = c.in-Some.ensures.steps in
    let before = c.ancestors-before.result in
    let rest = c.loop-u.u-iterator.rest in
    let next = c.next.new.self.rest in
    let w = c.args.w in
    let u = c.in-Some.u in
    record {
      inside = within_more before rest next u c.loop-u.invariant.inside taken.1.0 taken.2;
      wrote = line_turn (λ a b. eqb w b) (λ a b. a) before rest next u u w c.straight.result c.loop-u.invariant.inside taken.1.0 taken.2
          c.straight.ensures (λ a b. and_comm (eqb w b) (eqb u a)) c.loop-u.invariant.wrote c.set.ensures;
    }

pub returns : goal.returns
returns c =
    let s = c.args.self.now in
    let t = task_in s in
    let before = c.ancestors-before.result in
    let w = c.args.w in
    line_end (λ a b. eqb w b) (λ a b. a) before c.loop-u.u-iterator.rest
    (λ a b. eqb w b && t.ancestor a b) c.in-None.ensures.steps.0
    (λ a b. and_under (eqb w b) (member before a) (t.ancestor a b)
    (λ e. ancestors_are (filed_lawful s.task) w before c.ancestors-before.ensures.set a ∙ ap (t.ancestor a) (eqb-true w b e)))
    c.loop-u.invariant.wrote
