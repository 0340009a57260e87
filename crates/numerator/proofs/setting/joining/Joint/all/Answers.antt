-- Each turn writes the row of one more piece that leads to v.
use Rattle.std.proofs.Common.{◌&&◌, sym, ap, ◌∙◌}
use Rattle.sets.proofs.Iterating.{within_more, passed_all}
use Rattle.numerator.specs.Joints.{task_at}
use Rattle.numerator.proofs.Placing.{wrote_same}
use Rattle.numerator.proofs.Rows.{rows_ready, rows_turn}
use Rattle.numerator.proofs.setting.joining.Joint.all.Goals as goal

pub row-requires : goal.row-requires
row-requires c =
    let j = c.args.self.now in
    let u = c.in-Some.u in
    record {
      to = sym (j.leading u) ∙ c.loop-u.invariant.inside u c.in-Some.ensures.steps.1.0;
      ready = rows_ready j c.loop-u.u-iterator.rest c.loop-u.invariant.wrote c.requires;
    }

pub loop-u-preserved : goal.loop-u-preserved
loop-u-preserved c =
    let j = c.args.self.now in
    let rest = c.loop-u.u-iterator.rest in
    let next = c.next.new.self.rest in
    let taken = c.in-Some.ensures.steps in
    let u = c.in-Some.u in
    record {
      inside = within_more j.before rest next u c.loop-u.invariant.inside taken.1.0 taken.2;
      wrote = rows_turn j rest c.loop-u.invariant.wrote next u
          c.loop-u.invariant.inside taken.1.0 taken.2 c.row.ensures;
    }

pub returns : goal.returns
returns c =
    let j = c.args.self.now in
    wrote_same (λ a b. ap (λ x. x && (task_at j).ancestor j.v b) (passed_all j.before c.loop-u.u-iterator.rest c.in-None.ensures.steps.0 a ∙ j.leading a)) c.loop-u.invariant.wrote
