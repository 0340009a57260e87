-- Where a piece is refused, those in front of it in the list are entered.
use Rattle.std.proofs.Common.{get_or, refl}
use Rattle.std.proofs.lemmas.Result.{err_from_is_err_and}
use Rattle.example.proofs.Filing.{enter_refused}
use Rattle.example.proofs.lists.enter_all.Goals as goal

pub returns-in_err-enter : goal.returns-in_err-enter
returns-in_err-enter c =
    let ws = c.args.worst.now in
    let i = c.loop-w.w-index in
    let p = err_from_is_err_and c.from_residual.result c.from_residual.ensures.1 in
    rw (p.1, p.2)
    (enter_refused ws c.loop-w.entering c.enter.new.self i (get_or ws i 0) c.in_err-enter.field-0.0 c.loop-w-test.true refl c.loop-w.invariant
    c.in_err-enter.ensures)
