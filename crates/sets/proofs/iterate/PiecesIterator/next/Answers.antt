-- `trailing_zeros` is the lowest piece, and `rest & (rest - 1)` has the others.
use Rattle.std.proofs.Common.{◌-◌, ◌^◌, ◌<◌, arith, rules}
use lib.Bits.{bit_and}
use lib.Count.{count_trailing_zeros}
use Rattle.sets.proofs.Lowest.{lowest, member_drop_lowest}
use Rattle.sets.proofs.Counts.{size_without}
use Rattle.sets.proofs.iterate.PiecesIterator.next.Goals as goal
use Rattle.std.proofs.iter.Next.{firm}

pub returns : goal.returns
returns c =
    let s = c.args.self.now.rest in
    let k = count_trailing_zeros 64 s in
    let fits : s < 2 ^ 64 = omega arith in
    let some : 0 < s = omega arith in
    let low = lowest s 64 fits some in
    let without = member_drop_lowest s k low.1 in
    let fewer = size_without s (bit_and s (s - 1)) k low.0 low.1.0 without in
    record { steps = (low.0, low.1, without); goes = firm ((tt, tt, omega arith)) (λ h. search rules) }
