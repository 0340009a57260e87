-- A piece has as many ancestors as the set that it is put by has pieces.
use Rattle.std.proofs.Common.{rules}
use Rattle.sets.proofs.Levelling.{by_key_sized}
use Rattle.task.specs.Filing.{filed_task, Related}
use Rattle.task.proofs.Filed.{filed_lawful}
use Rattle.theory.specs.Tasks.{above}
use Rattle.chains.proofs.Depths.{above_size}
use Rattle.chains.proofs.by_depth.Goals as goal

pub returns : goal.returns
returns c =
    let f = c.args.task.now in
    let t = filed_task f in
    by_key_sized (above t) t.pieces c.pieces.result c.first.result c.by_size.result c.pieces.ensures (filed_lawful f).few c.first.ensures
    (λ v set on_task said. let related : Related t t.ancestor v set = search rules in above_size (filed_lawful f) v set on_task related) c.by_size.ensures
