-- `count_ones` counts the members of a mask of 64 bits.
use Rattle.std.proofs.Common.{◌^◌, ◌<◌, arith}
use Rattle.sets.proofs.Counts.{ones_size}
use Rattle.sets.proofs.size.Goals as goal

pub returns : goal.returns
returns c = let h : c.args.set < 2 ^ 64 = omega arith in ones_size c.args.set h
