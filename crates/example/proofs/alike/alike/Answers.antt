-- Where a piece is refused, those entered are as many as the turns before.
use Rattle.std.proofs.Common.{replicate, sym, ◌∙◌, arith}
use Rattle.std.proofs.lemmas.List.{length-replicate, get_or-replicate, take-replicate}
use Rattle.std.proofs.lemmas.Result.{err_from_is_err_and}
use Rattle.example.proofs.Filing.{enter_refused}
use Rattle.example.proofs.alike.alike.Goals as goal

pub returns-in_err-enter : goal.returns-in_err-enter
returns-in_err-enter c =
    let n = c.args.pieces in
    let w = c.args.worst in
    let i = c.loop.counter in
    let p = err_from_is_err_and c.from_residual.result c.from_residual.ensures.1 in
    rw (p.1, p.2) (
    enter_refused (replicate n w) c.loop.entering c.enter.new.self i w c.in_err-enter.field-0.0 (omega (arith, length-replicate n w))
    (get_or-replicate n i w 0 (omega arith)) (c.loop.invariant ∙ sym (take-replicate i n w (omega arith))) c.in_err-enter.ensures
    )
