-- No rows at all.
use Rattle.std.proofs.Common.{get_or, ap, ◌∙◌, arith}
use Rattle.sets.proofs.Tables.{zeros}
use Rattle.platform.proofs.timed.TimedPlatform.new.Goals as goal

pub fresh-requires : goal.fresh-requires
fresh-requires c = record { few = omega arith; fit = λ k l. absurd (omega arith); no_other = λ k _. zeros 64 k }

pub returns : goal.returns
returns c = record { worst = λ k. ap (λ w. get_or w k 0) c.fresh.ensures.worst ∙ zeros 64 k; time = zeros 64; fresh = c.fresh.ensures.fresh }
