-- `set | 1 << k` has the members of the set, and piece k.
use Rattle.std.proofs.Common.{ℕ, ◌&&◌, ◌||◌, eqb, sym, ap, ◌∙◌, arith}
use mathlib.Core.Bool.{and-true}
use lib.Bits.{bit_or}
use Rattle.std.proofs.lemmas.Nat.{one_shl}
use Rattle.sets.specs.Sets.{member}
use Rattle.sets.proofs.Members.{member_with}
use Rattle.sets.proofs.with.Goals as goal

pub returns-then-add : goal.returns-then-add
returns-then-add c =
    let set = c.args.set in
    let k = c.args.k in
    record {
      added = λ h j.
          ap (λ (n : ℕ). member (bit_or set n) j) (one_shl k 64 h) ∙ member_with set k j
          ∙ ap (λ b. member set j || b) (sym (and-true (eqb k j)) ∙ ap (λ b. eqb k j && b) (sym c.if-add.true));
      beyond = λ h. absurd (omega arith);
    }
