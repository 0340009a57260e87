-- Each turn judges one more row and copies it.
use Rattle.std.proofs.Common.{arith}
use Rattle.platform.proofs.Copying.{copied_none}
use Rattle.platform.proofs.timed.TimedPlatform.fill.Goals as goal

pub loop-k-init : goal.loop-k-init
loop-k-init c = (λ j l. absurd (omega arith), copied_none _, copied_none _)
