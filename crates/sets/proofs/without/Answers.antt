-- `set & !(1 << k)` has the members of the set but piece k.
use Rattle.std.proofs.Common.{ℕ, ◌-◌, ◌^◌, ◌<◌, ap, ◌∙◌, arith}
use lib.Bits.{bit_and}
use Rattle.std.proofs.lemmas.Nat.{one_shl}
use Rattle.sets.specs.Sets.{member}
use Rattle.sets.proofs.Members.{member_without}
use Rattle.sets.proofs.without.Goals as goal

pub returns : goal.returns
returns c =
    let set = c.args.set in
    let k = c.args.k in
    let fits : set < 2 ^ 64 = omega arith in
    record {
      removed = λ h j. ap (λ (n : ℕ). member (bit_and set (2 ^ 64 - 1 - n)) j) (one_shl k 64 h) ∙ member_without set k 64 j fits h;
      beyond = λ h. absurd (omega arith);
    }
