-- A piece's rank is the size of the set that it is put by.
use Rattle.std.proofs.Common.{rules}
use Rattle.sets.proofs.Levelling.{by_key_sized}
use Rattle.task.specs.Filing.{filed_task, Related}
use Rattle.task.proofs.Filed.{filed_lawful}
use Rattle.numerator.specs.Settings.{rank}
use Rattle.numerator.proofs.Ranks.{rank_size}
use Rattle.numerator.proofs.setting.eliminating.by_rank.Goals as goal

pub returns : goal.returns
returns c =
    let f = c.args.task.now in
    let t = filed_task f in
    by_key_sized (rank t) t.pieces c.pieces.result c.first.result c.by_size.result c.pieces.ensures (filed_lawful f).few c.first.ensures
    (λ v set on_task said. let related : Related t t.not_after v set = search rules in rank_size t v set on_task related) c.by_size.ensures
