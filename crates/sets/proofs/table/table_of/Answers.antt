-- The closure is called once for each piece, and leaves all as it was.
use Rattle.std.proofs.Common.{◌≡◌, ◌<◌, ◌≤◌, rules, arith, ⊎_elim}
use Rattle.std.proofs.lemmas.List.{get_or_past}
use Rattle.std.proofs.lemmas.Bool.{cases_lt}
use borrow.Author.Tests.{tests}
use Rattle.sets.proofs.Made.{places}
use Rattle.sets.proofs.table.table_of.Goals as goal

pub returns-clause-pieces : goal.returns-clause-pieces
returns-clause-pieces g c k h l =
    places (λ j r. j < c.args.n → goal.F-post g c.args.set j r) c.from_fn.result 64 _ (λ j y q e. search (rules, tests)) c.from_fn.ensures.items.each k h l

pub returns-clause-others : goal.returns-clause-others
returns-clause-others g c k l =
    ⊎_elim (λ h. places (λ j r. c.args.n ≤ j → r ≡ 0) c.from_fn.result 64 _ (λ j y q e. search (rules, tests)) c.from_fn.ensures.items.each k h l)
    (λ h. get_or_past c.from_fn.result k 0 (omega (arith, c.from_fn.ensures.items.long)))
    (cases_lt k 64)
