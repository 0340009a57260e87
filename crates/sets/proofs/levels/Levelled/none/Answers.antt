-- A new table has no piece in any of its sets.
use Rattle.sets.proofs.Tables.{none_in_zeros}
use Rattle.sets.proofs.levels.Levelled.none.Goals as goal

pub returns : goal.returns
returns c l j = none_in_zeros 65 l j
