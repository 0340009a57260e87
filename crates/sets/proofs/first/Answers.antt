-- `(1 << n) - 1` has the pieces below n.
use Rattle.std.proofs.Common.{ℕ, ◌-◌, ap, ◌∙◌, arith}
use Rattle.std.proofs.lemmas.Nat.{one_shl}
use Rattle.sets.specs.Sets.{member}
use Rattle.sets.proofs.Members.{member_ones, below_both, below_first}
use Rattle.sets.proofs.first.Goals as goal

pub returns-then-n-ge64 : goal.returns-then-n-ge64
returns-then-n-ge64 c k = member_ones 64 k ∙ below_first k 64 c.args.n c.if-n-ge64.true

pub returns : goal.returns
returns c k =
    ap (λ (m : ℕ). member (m - 1) k) (one_shl c.args.n 64 c.if-n-ge64.false) ∙ member_ones c.args.n k
    ∙ below_both k 64 c.args.n (omega arith)
