-- The lists are entered in order, and the first refusal is passed on.
use Rattle.std.proofs.lemmas.Result.{err_from_is_err_and}
use Rattle.example.proofs.Filing.{filed_of, link_refused, rank_refused}
use Rattle.example.proofs.lists.file.Goals as goal

pub returns-in_err-link_all : goal.returns-in_err-link_all
returns-in_err-link_all g c =
    let p = err_from_is_err_and c.from_residual-in_err-link_all.result c.from_residual-in_err-link_all.ensures.1 in
    rw (p.1, p.2)
    (link_refused g.P.Priority.not_after c.args.worst.now c.args.edges.now c.args.priorities.now c.in_ok-enter_all.field-0 c.close-linking.result
    c.link_all.new.linking c.in_err-link_all.field-0.0 c.in_ok-enter_all.ensures c.close-linking.ensures c.in_err-link_all.ensures)

pub returns-in_err-rank : goal.returns-in_err-rank
returns-in_err-rank g c =
    let p = err_from_is_err_and c.from_residual-in_err-rank.result c.from_residual-in_err-rank.ensures.1 in
    rw (p.1, p.2)
    (rank_refused g.P.Priority.not_after c.args.worst.now c.args.edges.now c.args.priorities.now c.in_ok-enter_all.field-0 c.close-linking.result
    c.link_all.new.linking c.rank.new.self c.in_err-rank.field-0.0 c.in_ok-enter_all.ensures c.close-linking.ensures
    c.in_ok-link_all.ensures c.in_err-rank.ensures)

pub returns : goal.returns
returns g c =
    filed_of g.P.Priority.not_after c.args.worst.now c.args.edges.now c.args.priorities.now c.in_ok-enter_all.field-0 c.close-linking.result
    c.link_all.new.linking c.rank.new.self c.file.result c.in_ok-enter_all.ensures c.close-linking.ensures c.in_ok-link_all.ensures
    c.in_ok-rank.ensures c.file.ensures.same
