-- The tables are those of a task of these pieces with no edge, all equal in priority, which is lawful.
use Rattle.std.proofs.Common.{sym, arith, length-take-le, get_or-take}
use Rattle.sets.proofs.Tables.{none_in_zeros}
use Rattle.task.proofs.Ranking.{all_equal_lem, closed_lawful}
use Rattle.task.proofs.stages.Entering.close.Goals as goal

pub invariant_of-tables : goal.invariant_of-tables
invariant_of-tables c =
    let e = c.args.self in
    let r = c.all_equal-not_after in
    record { few = e.few; lawful = ∣ closed_lawful e.count e.worst r.result e.few e.least e.most r.ensures.sets r.ensures.rest ∣₁ }

pub returns : goal.returns
returns c =
    let e = c.args.self in
    let r = c.all_equal-not_after in (
      sym (length-take-le e.count e.worst (omega arith)),
      λ k l. sym (get_or-take e.count e.worst k 0 l),
      λ a b. none_in_zeros 64 b a,
      all_equal_lem e.count e.worst r.result e.few e.least e.most r.ensures.sets r.ensures.rest,
    )
