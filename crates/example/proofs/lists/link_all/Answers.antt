-- One more edge behind those entered, up to one that is refused.
use Rattle.std.proofs.Common.{◌+◌, get_or, take, drop, Err, sym, subst}
use Rattle.std.proofs.lemmas.Result.{err_from_is_err_and}
use Rattle.task.specs.Filing.{linking_task, LinkSays}
use Rattle.example.specs.Lists.{Joined}
use Rattle.example.proofs.Filing.{split_at, link_kept, joined_more}
use Rattle.example.proofs.lists.link_all.Goals as goal

pub loop-before-preserved : goal.loop-before-preserved
loop-before-preserved c =
    joined_more c.args.edges.now c.loop-before.before-index (0, 0) c.loop-before-test.true c.loop-before.invariant c.in_ok-link.ensures.3

pub returns-in_err-link : goal.returns-in_err-link
returns-in_err-link c =
    let edges = c.args.edges.now in
    let i = c.loop-before.before-index in
    let l = c.loop-before.linking in
    let m = c.link.new.self in
    let edge = get_or edges i (0, 0) in
    let e = c.in_err-link.field-0.0 in
    let said = c.in_err-link.ensures in
    let same = link_kept l m edge.0 edge.1 e said in
    let p = err_from_is_err_and c.from_residual.result c.from_residual.ensures.1 in
    rw (p.1, p.2) (
      take i edges,
      edge,
      drop (i + 1) edges,
      split_at edges i (0, 0) c.loop-before-test.true,
      subst (λ x. Joined (linking_task c.args.linking.now) (take i edges) (linking_task x)) (sym same) c.loop-before.invariant,
      subst (λ x. LinkSays x edge.0 edge.1 (Err e) m) (sym same) said,
    )
