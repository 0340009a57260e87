-- Each turn writes the next piece's set.
use Rattle.std.proofs.Common.{length, get_or, replicate, refl}
use Rattle.sets.proofs.Tables.{none_in_zeros}
use Rattle.task.proofs.Tables.{columns_none}
use Rattle.task.proofs.stages.edges.ranking.Goals as goal

pub loop-k-init : goal.loop-k-init
loop-k-init g c =
    let ps = c.args.priorities.now in
    (refl, λ p. columns_none (length ps) (λ x y. g.P.Priority.not_after (get_or ps x p) (get_or ps y p)) (replicate 64 0), λ y x h. none_in_zeros 64 y x)
