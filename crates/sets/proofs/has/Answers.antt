-- Bit k of the mask is membership, and a mask of 64 bits has no bit above 63.
use Rattle.std.proofs.Common.{◌^◌, ◌<◌, sym, arith}
use Rattle.sets.proofs.Members.{member_above}
use Rattle.sets.proofs.has.Goals as goal

pub returns-then-k-ge64 : goal.returns-then-k-ge64
returns-then-k-ge64 c = let h : c.args.set < 2 ^ 64 = omega arith in sym (member_above c.args.set 64 c.args.k h c.if-k-ge64.true)
