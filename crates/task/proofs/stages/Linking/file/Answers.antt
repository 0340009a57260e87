-- The tables pass on as they are, with what holds of them.
use Rattle.std.proofs.Common.{refl}
use Rattle.theory.proofs.Lawfuls.{lawful_of}
use Rattle.task.proofs.stages.Linking.file.Goals as goal

pub returns : goal.returns
returns c = record { same = refl; lawful = lawful_of c.args.self.tables.lawful }
