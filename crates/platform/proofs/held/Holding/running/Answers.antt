-- What runs, as a mask.
use Rattle.std.proofs.Common.{arith}
use Rattle.platform.proofs.Holdings.{running_is}
use Rattle.platform.proofs.held.Holding.running.Goals as goal

pub returns : goal.returns
returns c = let h = c.args.self.now in running_is h.worst h.ran h.held h.ended c.args.set (omega arith) (omega arith) h.holds
