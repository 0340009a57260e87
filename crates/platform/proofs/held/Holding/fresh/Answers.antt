-- Pieces that have not run are sound.
use Rattle.std.proofs.Common.{refl}
use Rattle.sets.proofs.Tables.{zeros}
use Rattle.platform.proofs.Fresh.{fresh_most, fresh_holds, fresh_sound}
use Rattle.platform.proofs.held.Holding.fresh.Goals as goal

pub invariant_of-result : goal.invariant_of-result
invariant_of-result c =
    let worst = c.args.worst in
    let n = c.args.pieces in
    record {
      most = fresh_most worst n c.requires.few c.requires.fit c.requires.no_other;
      holds = fresh_holds worst n c.requires.few c.requires.fit c.requires.no_other c.first.result c.first.ensures;
      sound = ∣ fresh_sound worst n c.requires.few c.requires.fit c.requires.no_other ∣₁;
    }

pub returns : goal.returns
returns c = record { worst = refl; fresh = zeros 64; ended = refl }
