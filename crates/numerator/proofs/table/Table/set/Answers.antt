-- One cell is written, and none past the table.
use Rattle.std.proofs.Common.{refl}
use Rattle.numerator.proofs.Placing.{wrote_one}
use Rattle.numerator.proofs.table.Table.set.Goals as goal

pub returns-in-Some : goal.returns-in-Some
returns-in-Some c = wrote_one c.args.self.now _ c.args.u c.args.w c.in-Some.place c.args.value c.in-Some.ensures.0 c.in-Some.ensures.1 refl refl
